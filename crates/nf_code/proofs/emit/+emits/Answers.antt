use Rattle.std.proofs.Common.{◌∙◌, ◌≤◌, ◌-◌, Bor, List, sym, ap, subst, map, vec_len}
use Rattle.std.specs.List.{All}
use Rattle.std.proofs.lemmas.List.Elements.{All-take}
use Rattle.nf_base.specs.declared.block.Block.{Block, size-Block}
use Rattle.nf_base.specs.Laid.{block_seen}
use Rattle.nf_code.specs.Code.{block_at}
use Rattle.nf_code.specs.Followed.{linked}
use Rattle.nf_code.proofs.Linked.{one_more}
use Rattle.nf_code.proofs.Kept.{kept_on}
use Rattle.nf_code.proofs.emit.+emits.Goals as goal

pub emit-loop-last-preserved : goal.emit-loop-last-preserved
emit-loop-last-preserved t c =
    let small : Bor Block → Type 0 = λ one. size-Block one.now ≤ size-Block c.args.block.now in
    let all : List (Bor Block) → Type 0 = λ xs. All small xs in
    record {
      keeps = kept_on c.args.code.now c.loop-last.code c.emit_first.new.code c.loop-last.invariant.keeps c.in_ok-at.ensures.keeps;
      within = c.in_ok-at.ensures.within;
      whole = ap (λ rest. linked (map block_seen c.pop.new.self.items) rest) c.in_ok-at.ensures.stands
          ∙ sym (one_more c.pop.new.self.items c.in-Some.last (block_at c.loop-last.code c.loop-last.at))
          ∙ ap (λ xs. linked (map block_seen xs) (block_at c.loop-last.code c.loop-last.at)) (sym c.in-Some.ensures.items)
          ∙ c.loop-last.invariant.whole;
      smaller = subst all (sym c.in-Some.ensures.rest) (All-take small (vec_len c.loop-last.left - 1) c.loop-last.left.items c.loop-last.invariant.smaller);
    }
