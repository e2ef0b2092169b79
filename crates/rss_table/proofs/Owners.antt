-- The queue that owns an index.
use Rattle.std.proofs.Common.{ℕ, ◌%◌, ap, sym, ◌∙◌, eq-eqb}
use Rattle.std.proofs.lemmas.Bool.{eqb-true}
use Rattle.std.proofs.lemmas.Nat.{mod_below}
use Rattle.rss_table.specs.Shares.{SharesPartIndices}

pub shares_part_indices : SharesPartIndices
shares_part_indices workers index some = (
  index % workers,
  record {
    below = mod_below index workers some;
    owns_it = λ share of queue. eq-eqb (index % share.of) share.queue (ap (λ (w : ℕ). index % w) of ∙ sym queue);
    alone = λ share of own. sym (eqb-true (index % share.of) share.queue own) ∙ ap (λ (w : ℕ). index % w) of;
  },
)
