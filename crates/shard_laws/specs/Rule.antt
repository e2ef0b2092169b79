-- The share rule: what is asked of a packet's line where the indices of the chains are shared out.
use Rattle.std.specs.Prelude.{◌≡◌, ◌<◌, ℕ, ◌%◌, ◌==◌, IsTrue, List, [], ◌∷◌, All}
use Rattle.nf_base.specs.declared.packet.Packet.{Packet}
use Rattle.nf_base.specs.declared.share.Share.{Share}
use Rattle.nf_base.specs.declared.state.State.{State}
use Rattle.nf_base.specs.Text.{Function}
use Rattle.nf_base.specs.Runs.{Handling}
use Rattle.nf_base.specs.Shares.{AreOwn}
use Rattle.shard_laws.specs.Queues.{Throughout, MeetsNoFull}

-- of n queues, the one that owns an index of any chain
abbrev pub owner_of : ℕ → ℕ → ℕ → ℕ
owner_of n chain i = i % n

-- the shares of the queues 0 to below n
pub record AreShares (n : ℕ) (share : ℕ → Share) : Type 0 where
  pub queue : (w : ℕ) → w < n → (share w).queue ≡ w
  pub of : (w : ℕ) → w < n → (share w).of ≡ n

-- each packet's choices are of its queue's share
abbrev pub TakeOfShare : (ℕ → Share) → (Packet → ℕ) → List Handling → Type 0
TakeOfShare share queue [] = Unit {0}
TakeOfShare share queue (h ∷ hs) =
    AreOwn (share (queue h.packet)) h.choices × TakeOfShare share queue hs

-- A packet's line keeps the rule of a share at a state: its choices are of the share, and no `new`
-- of its step answers full.
pub record KeepsRule (share : Share) (f : Function) (s : State) (h : Handling) : Type 0 where
  pub own : AreOwn share h.choices
  pub granted : MeetsNoFull f s h

-- indices that this queue owns, of so many
abbrev pub AreOfQueue : ℕ → ℕ → List ℕ → Type 0
AreOfQueue count queue choices = All (λ i. IsTrue (i % count == queue)) choices

-- The rule of shares, of a packet of a queue with its choices at a state: the choices are the queue's
-- own, and no `new` answers that its chain is full.
pub record KeepsToQueue (count queue : ℕ) (f : Function) (s : State) (h : Handling) : Type 0 where
  pub own : AreOfQueue count queue h.choices
  pub granted : MeetsNoFull f s h

-- each line of a run keeps the rule of its queue's share
abbrev pub KeepShareRule :
    (ℕ → Share) → (Packet → ℕ) → Function → State → List Handling → Type 0
KeepShareRule share queue f s hs =
    Throughout (λ t h. KeepsRule (share (queue h.packet)) f t h) f s hs
