use Rattle.std.proofs.Common.{◌≡◌, ◌<◌, ◌≤◌, ◌%◌, ◌∙◌, ap, sym, subst, ℕ, List, take, length, get_or, arith}
use Rattle.std.proofs.Math.ListN.{length-set}
use Rattle.std.proofs.lemmas.List.{length-take-le, get_or-take}
use Rattle.std.proofs.lemmas.List.Edits.{fill_by_more}
use Rattle.nf_base.specs.Cards.{entries}
use Rattle.rss_table.specs.Tables.{AllBelow, even_table}
use Rattle.rss_table.proofs.Entries.{even_from_entries, even_below, few_entries}
use Rattle.rss_table.proofs.table.Table.even.Goals as goal

pub loop-i-preserved : goal.loop-i-preserved
loop-i-preserved c = record {
  entries =
      length-set c.loop-i.queues c.loop-i.i (c.loop-i.i % c.get-count.result)
      ∙ c.loop-i.invariant.entries;
  go_round = fill_by_more (λ i. i % c.get-count.result) c.loop-i.queues c.loop-i.i 0 (omega (arith, c.loop-i.invariant.entries)) c.loop-i.invariant.go_round;
}

-- those that count are an even table
is_even : (c : goal.After-loop-i) → take (entries c.args.size) c.loop-i.queues ≡ even_table c.args.size c.args.workers
is_even c =
    let n = entries c.args.size in
    let queues : List ℕ = c.loop-i.queues in
    let few : n ≤ 512 = few_entries c.args.size in
    even_from_entries c.args.size c.args.workers (take n queues) (length-take-le n queues (omega (arith, few, c.loop-i.invariant.entries)))
    (λ i within.
    get_or-take n queues i 0 within
    ∙ c.loop-i.invariant.go_round i (omega arith)
    ∙ ap (λ (w : ℕ). i % w) c.get-count.ensures.value)

pub returns-clause-value : goal.returns-clause-value
returns-clause-value c = is_even c

pub returns-clause-below : goal.returns-clause-below
returns-clause-below c =
    let some : 0 < c.args.workers = omega arith in
    subst (λ (table : List ℕ). AllBelow c.args.workers table) (sym (is_even c)) (even_below c.args.size c.args.workers some)
