use Rattle.std.proofs.Common.{◌≡◌, ◌∙◌, subst, arith}
use Rattle.nf_syntax.specs.declared.fault.TokenFault.TheVariants as stops
use Rattle.nf_syntax.specs.Language.{IsFirstFault}
use Rattle.nf_syntax.proofs.Explained.{misplaced, passing, unfinished}
use Rattle.nf_syntax.proofs.Shallow.{shallow}
use Rattle.nf_syntax.proofs.text.parse.Goals as goal

pub returns-in-Err-Stuck-clause-first : goal.returns-in-Err-Stuck-clause-first
returns-in-Err-Stuck-clause-first c =
    let e : c.in-Err-Stuck.field-0 ≡ stops.Stuck c.in-Err-Stuck.kind c.in-Err-Stuck.place = grind (arith, c.in-Err-Stuck.field-0-is) in
    misplaced c.fault.result c.in-Err-Stuck.kind c.in-Err-Stuck.place c.args.text.now c.as_slice.result.now c.fault.ensures
    (omega (arith, c.if-text-gt-LONGEST.false)) (c.as_slice.ensures.value ∙ c.in-Ok.ensures) (subst (λ s. IsFirstFault s c.as_slice.result.now) e c.in-Err-Stuck.ensures.first)

pub returns-in-Err-Past-clause-first : goal.returns-in-Err-Past-clause-first
returns-in-Err-Past-clause-first c =
    let e : c.in-Err-Past.field-0 ≡ stops.Past c.in-Err-Past.place = grind (arith, c.in-Err-Past.field-0-is) in
    passing c.fault-in-Err-Past.result c.in-Err-Past.place c.args.text.now c.as_slice.result.now c.fault-in-Err-Past.ensures
    (omega (arith, c.if-text-gt-LONGEST.false)) (c.as_slice.ensures.value ∙ c.in-Ok.ensures) (subst (λ s. IsFirstFault s c.as_slice.result.now) e c.in-Err-Past.ensures.first)

pub returns-in-Err-Short-clause-first : goal.returns-in-Err-Short-clause-first
returns-in-Err-Short-clause-first c =
    let e : c.in-Err-Short.field-0 ≡ stops.Short = grind (arith, c.in-Err-Short.field-0-is) in
    unfinished c.fault-in-Err-Short.result c.end_of.result c.args.text.now c.as_slice.result.now c.fault-in-Err-Short.ensures
    (omega (arith, c.if-text-gt-LONGEST.false)) (c.as_slice.ensures.value ∙ c.in-Ok.ensures) c.end_of.ensures (subst (λ s. IsFirstFault s c.as_slice.result.now) e c.in-Err-Short.ensures.first)

pub returns-in-Ok-read-clause-shallow : goal.returns-in-Ok-read-clause-shallow
returns-in-Ok-read-clause-shallow c = shallow c.in-Ok-read.tree
