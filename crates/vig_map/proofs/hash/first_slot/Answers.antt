use Rattle.std.proofs.Common.{◌≡◌, ◌∙◌, ap, ℕ, ◌/◌, ◌%◌, ◌^◌}
use Rattle.std.specs.Prelude.{fold}
use Rattle.std.proofs.lemmas.List.{take_all}
use Rattle.vig_map.specs.Hashes.{mixed, hash_of, first_slot}
use Rattle.vig_map.proofs.hash.first_slot.Goals as goal

pub returns-clause-value : goal.returns-clause-value
unfolding first_slot
returns-clause-value c =
    let all : c.loop-part.hash ≡ hash_of c.args.key.now = c.loop-part.invariant ∙ ap (fold mixed 0) (take_all c.loop-part.part-index c.as_slice-part-items.result.now c.loop-part-test.false) ∙ ap (fold mixed 0) c.as_slice-part-items.ensures in
    ap (λ (h : ℕ). h / 2 ^ 32 % c.args.starts) all
