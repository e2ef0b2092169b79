-- Each value has a setup.
use Rattle.std.proofs.Common.{◌<◌, ◌≤◌, ◌%◌, ℕ, Option, Some, None, refl, sym, subst}
use Rattle.std.proofs.Math.Nat.{mod-eq_of_lt}
use Rattle.std.proofs.lemmas.Nat.{mod_below}
use Rattle.nf_base.specs.declared.share.Share.{Share}
use Rattle.nf_base.specs.Functions.{function_of}
use Rattle.nf_base.specs.declared.card.TableSize.{TableSize}
use Rattle.rss_table.specs.Tables.{even_table, table_index, queue_at}
use Rattle.rss_table.proofs.Entries.{entries_go_round}
use Rattle.toeplitz_hash.specs.Packets.{hash_of}
use Rattle.shard_core.specs.Sharded.{queue_in, SetupsExist}

below_all : (size : TableSize) (n : ℕ) (hash : Option ℕ) → 0 < n → queue_at (even_table size n) hash < n
below_all size n None some = some
below_all size n (Some hash) some = subst (λ (q : ℕ). q < n) (sym ((entries_go_round size n).of_hash hash)) (mod_below (table_index size hash) n some)

even_share : (n w : ℕ) → 0 < n → n ≤ 16 → Share
even_share n w some most = record { queue = w % n; of = n; within = (mod_below w n some, most) }

pub setups_exist : SetupsExist
unfolding even_share
setups_exist v some most = (
  record { function = function_of v.func; workers = v.count; share = λ w. even_share v.count w some most; queue = λ p. queue_in v p },
  record {
    is = record {
      some = some;
      shares = record { queue = λ w lt. mod-eq_of_lt lt; of = λ w lt. refl };
      below = λ p. below_all v.keys.table v.count (hash_of v.keys p) some;
    };
    function = refl;
    workers = refl;
    queue = λ p. refl;
  },
)
