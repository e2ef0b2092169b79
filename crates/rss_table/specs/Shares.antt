-- Which queue owns an index of a chain.
use Rattle.std.specs.Prelude.{◌≡◌, ℕ, ◌<◌, IsTrue}
use Rattle.nf_base.specs.declared.share.Share.{Share}
use Rattle.nf_base.specs.Shares.{owns}

-- the queue whose share owns an index, of as many queues as there are workers
pub record IsOwner (workers index queue : ℕ) : Type 0 where
  pub below : queue < workers
  pub owns_it :
      (share : Share) → share.of ≡ workers → share.queue ≡ queue → IsTrue (owns share index)
  pub alone :
      (share : Share) → share.of ≡ workers → IsTrue (owns share index) → share.queue ≡ queue

-- each index has an owner, however many queues there are
abbrev pub SharesPartIndices : Type 0
SharesPartIndices = (workers index : ℕ) → 0 < workers → (queue : ℕ) × IsOwner workers index queue
