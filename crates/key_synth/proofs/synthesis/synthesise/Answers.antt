use Rattle.std.proofs.Common.{List, ap, ◌∙◌, subst}
use Rattle.nf_base.specs.Functions.{function_of}
use Rattle.nf_base.specs.declared.decl.ObjectId.{ObjectId}
use Rattle.nf_sites.proofs.Separate.{hash_alike}
use Rattle.shard_rules.specs.declared.plan.Plan.{Plan}
use Rattle.shard_rules.specs.declared.plan.ObjectVerdict.{ObjectVerdict}
use Rattle.toeplitz_hash.specs.Packets.{hash_by}
use Rattle.key_synth.specs.Keys.{AreGiven, NoneMayBeGiven, AreAnswer}
use Rattle.key_synth.specs.Verdicts.{IsCause}
use Rattle.key_synth.proofs.Tied.{answered}
use Rattle.key_synth.proofs.synthesis.synthesise.Goals as goal

pub returns-in-Some-clause-verdict : goal.returns-in-Some-clause-verdict
returns-in-Some-clause-verdict c =
    subst (AreAnswer (function_of c.args.func.now) c.args.card) c.in-Some.is
    (answered (function_of c.args.func.now) c.args.card c.args.plan.now c.as_slice.result.now c.as_slice-2.result.now c.in_ok-keys.field-0 c.requires
    (c.as_slice.ensures.value ∙ c.in_ok-six.ensures) c.as_slice-2.ensures c.in_ok-keys.ensures)

pub returns-in-Some-clause-separation : goal.returns-in-Some-clause-separation
returns-in-Some-clause-separation c = λ hs a b fits fits_too meet.
    let given : AreGiven (function_of c.args.func.now) c.args.card c.in-Some.keys =
    subst (AreAnswer (function_of c.args.func.now) c.args.card) c.in-Some.is
    (answered (function_of c.args.func.now) c.args.card c.args.plan.now c.as_slice.result.now c.as_slice-2.result.now c.in_ok-keys.field-0 c.requires
    (c.as_slice.ensures.value ∙ c.in_ok-six.ensures) c.as_slice-2.ensures c.in_ok-keys.ensures) in
    hash_alike (function_of c.args.func.now) (hash_by c.in-Some.keys) hs a b given.may.admissible fits fits_too meet

pub returns-clause-verdict : goal.returns-clause-verdict
returns-clause-verdict c =
    let none : NoneMayBeGiven (function_of c.args.func.now) c.args.card =
    subst (AreAnswer (function_of c.args.func.now) c.args.card) c.in-None.is
    (answered (function_of c.args.func.now) c.args.card c.args.plan.now c.as_slice.result.now c.as_slice-2.result.now c.in_ok-keys.field-0 c.requires
    (c.as_slice.ensures.value ∙ c.in_ok-six.ensures) c.as_slice-2.ensures c.in_ok-keys.ensures) in (
      none,
      subst (λ (all : List ObjectVerdict). IsCause c.args.func.now.objects all c.cause.result) (c.as_slice-in-None-2.ensures ∙ ap (λ (p : Plan). p.standings) c.requires)
          (subst (λ (all : List ObjectId). IsCause all c.as_slice-in-None-2.result.now c.cause.result) c.as_slice-in-None.ensures.value c.cause.ensures),
    )
