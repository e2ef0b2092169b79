use Rattle.std.proofs.Common.{◌≡◌, ◌∙◌, ap, sym, arith, ℕ, ◌+◌, List, ◌++◌, ◌∷◌, [], map}
use Rattle.std.specs.List.{range_with_len}
use Rattle.std.proofs.lemmas.List.FromFn.{map-range_with_len_more}
use Rattle.vig_chain.specs.declared.heads.Head.{Head}
use Rattle.vig_chain.specs.Heads.{head_at_start, opened_heads}
use Rattle.vig_chain.proofs.HeadLemmas.{start_within, started_seen}
use Rattle.vig_chain.proofs.heads.Heads.new.Goals as goal

pub loop-cell-preserved : goal.loop-cell-preserved
loop-cell-preserved c =
    c.in_ok-push.ensures.items
    ∙ ap (λ (xs : List Head). xs ++ c.head_at_start.result ∷ []) c.loop-cell.invariant
    ∙ ap (λ (x : Head). map (head_at_start c.get-size.result c.args.share) (range_with_len 0 c.loop-cell.cell) ++ x ∷ []) c.head_at_start.ensures
    ∙ sym (map-range_with_len_more (head_at_start c.get-size.result c.args.share) 0 c.loop-cell.cell c.loop-cell.cell (omega arith))

pub invariant_of-result : goal.invariant_of-result
invariant_of-result c = rw (c.loop-cell.invariant, all) (start_within c.get-size.result c.args.share c.get-size.ensures.below)
  where
    all : c.loop-cell.cell ≡ c.get-size.result + 2
    all = omega (arith, c.loop-cell.auto, c.loop-cell-test.false)

pub returns-clause-value : goal.returns-clause-value
returns-clause-value c = rw (c.loop-cell.invariant, all) (started_seen c.get-size.result c.args.share ∙ ap (λ (n : ℕ). opened_heads n c.args.share) c.get-size.ensures.value)
  where
    all : c.loop-cell.cell ≡ c.get-size.result + 2
    all = omega (arith, c.loop-cell.auto, c.loop-cell-test.false)
