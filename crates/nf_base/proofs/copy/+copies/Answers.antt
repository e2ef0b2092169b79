use Rattle.std.proofs.Common.{◌∙◌, ◌≤◌, ◌-◌, Bor, List, sym, ap, subst, map, vec_len}
use Rattle.std.specs.List.{All}
use Rattle.std.proofs.lemmas.List.Elements.{All-take}
use Rattle.nf_base.specs.declared.block.Block.{Block, size-Block}
use Rattle.nf_base.specs.View.{block_of}
use Rattle.nf_base.specs.Laid.{laid}
use Rattle.nf_base.specs.Laid.{block_seen}
use Rattle.nf_base.proofs.Laid.{one_more}
use Rattle.nf_base.proofs.copy.+copies.Goals as goal

pub copied-loop-last-preserved : goal.copied-loop-last-preserved
copied-loop-last-preserved t c =
    let small : Bor Block → Type 0 = λ one. size-Block one.now ≤ size-Block c.args.block.now in
    let all : List (Bor Block) → Type 0 = λ xs. All small xs in
    record {
      whole = ap (λ rest. laid (map block_seen c.pop.new.self.items) rest) c.in_ok-copy.ensures
          ∙ sym (one_more c.pop.new.self.items c.in-Some.last (block_of c.loop-last.copy))
          ∙ ap (λ xs. laid (map block_seen xs) (block_of c.loop-last.copy)) (sym c.in-Some.ensures.items)
          ∙ c.loop-last.invariant.whole;
      smaller = subst all (sym c.in-Some.ensures.rest) (All-take small (vec_len c.loop-last.left - 1) c.loop-last.left.items c.loop-last.invariant.smaller);
    }
