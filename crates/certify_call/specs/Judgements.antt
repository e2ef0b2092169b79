-- What a text comes to as a certificate of a function.
use Rattle.std.specs.Prelude.{◌≡◌, ℕ, List, Some}
use Rattle.nf_base.specs.Text.{Function}
use Rattle.key_synth.specs.declared.verdict.Verdict.{Verdict}
use Rattle.key_proof.specs.Faults.{first_wrong}
use Rattle.key_proof.specs.Shown.{IsCertified}
use Rattle.call_base.specs.declared.status.Status.{Status}
use Rattle.call_base.specs.declared.status.Status.TheVariants.{Done, ProofFails}
use Rattle.certify_call.specs.declared.judgement.Judgement.{Judgement}
use Rattle.certify_call.specs.declared.judgement.Judgement.TheVariants.{Right, Fails}

-- the status of a call that ends so
abbrev pub judged_status : Judgement → Status
judged_status Right = Done
judged_status (Fails line) = ProofFails line

-- No line of the text is wrong, and it shows a verdict on the function, for the network card that its
-- first line names; or this is its first wrong line.
abbrev pub IsJudgement : Function → List ℕ → Judgement → Type 0
IsJudgement f text Right = (verdict : Verdict) × IsCertified f text verdict
IsJudgement f text (Fails line) = first_wrong f text ≡ Some line

-- A text comes to one of these alone.
abbrev pub JudgementsAreOne : Type 0
JudgementsAreOne =
    (f : Function) (text : List ℕ) (judged other : Judgement) →
    IsJudgement f text judged → IsJudgement f text other → judged ≡ other
