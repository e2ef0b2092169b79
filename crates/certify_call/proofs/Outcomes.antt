-- What a certificate comes to, from what reading and printing came to.
use Rattle.std.proofs.Common.{◌≡◌, ◌⊎◌, inl, inr, ◌+◌, ℕ, List, [], ◌∷◌, Option, Some, None, Result, Ok, Err, refl, ap, sym, subst, ◌∙◌, arith}
use Rattle.std.proofs.lemmas.Option.{none-some, same_Some}
use Rattle.nf_base.specs.Text.{Function}
use Rattle.nf_files.specs.Told.{Told, IsToldAs}
use Rattle.nf_files.specs.Causes.{Counted, FaultedAsking, asking}
use Rattle.nf_files.specs.Pieces.{Gains}
use Rattle.key_proof.specs.Faults.{first_wrong}
use Rattle.command_words.specs.Commands.{Certify}
use Rattle.call_base.specs.declared.status.RunFile.{RunFile}
use Rattle.call_base.specs.declared.status.RunFile.TheVariants.{Proof, Stdout}
use Rattle.call_base.specs.declared.status.CallFault.{CallFault}
use Rattle.call_base.specs.declared.status.CallFault.TheVariants.{File, Memory}
use Rattle.call_base.specs.Names.{reading}
use Rattle.call_base.specs.Outside.{Outside, IsUntouched}
use Rattle.call_base.specs.Printed.{Printed, PrintedFront}
use Rattle.call_base.specs.PrintedOut.{IsPrintCause}
use Rattle.call_base.specs.Source.{IsFunctionUnder}
use Rattle.call_base.proofs.Asking.{asking_both}
use Rattle.certify_call.specs.declared.judgement.Judgement.{Judgement}
use Rattle.certify_call.specs.declared.judgement.Judgement.TheVariants.{Right, Fails}
use Rattle.certify_call.specs.Judgements.{IsJudgement, JudgementsAreOne}
use Rattle.certify_call.specs.Certifying.{certified_line, IsPrintedOf, asked_by, IsTold, IsHalfTold, TellsJudgement, IsJudgedUnder, IsProofCause, IsUnjudgedUnder, IsHalfJudgedUnder, JudgesUnder, IsJudged, IsUnread, IsProofUnread, IsHalfJudged, IsUnjudged}

pub judgements_are_one : JudgementsAreOne
judgements_are_one f text Right Right one two = refl
judgements_are_one f text Right (Fails line) one two = absurd (none-some line (sym one.1.none_wrong ∙ two))
judgements_are_one f text (Fails line) Right one two = absurd (none-some line (sym two.1.none_wrong ∙ one))
judgements_are_one f text (Fails line) (Fails other) one two = ap Fails (same_Some line other (sym one ∙ two))

-- ---- what was printed, from a moment before

printed_from : (a b c : Told) (bytes : List ℕ) → b.given 0 ≡ a.given 0 → Printed b c 0 bytes → Printed a c 0 bytes
printed_from a b c bytes same printed = subst (λ (o : Option (List ℕ)). Gains bytes o (c.given 0)) same printed

front_from : (a b c : Told) (bytes : List ℕ) → b.given 0 ≡ a.given 0 → PrintedFront b c 0 bytes → PrintedFront a c 0 bytes
front_from a b c bytes same h = record { front = h.front; is_front = h.is_front; part = h.part; printed = printed_from a b c h.front same h.printed }

judgement_from : (judged : Judgement) (a b c : Told) → b.given 0 ≡ a.given 0 → IsPrintedOf judged b c → IsPrintedOf judged a c
judgement_from Right a b c same printed = printed_from a b c certified_line same printed
judgement_from (Fails line) a b c same printed = printed ∙ same

print_cause : (old mid new : Counted) (stop : CallFault) → mid ≡ old → IsPrintCause mid new stop → IsPrintCause old new stop
print_cause old mid new stop same h = subst (λ (c : Counted). IsPrintCause c new stop) same h

-- ---- the certificate under a name

pub judged_under : (f : Function) (name : List ℕ) (a b c : Outside) (text : List ℕ) (judged : Judgement) (result : Result Judgement CallFault) → IsToldAs text (a.told.content name) → IsUntouched a.told b.told → b.counted ≡ asking (reading name ∷ []) a.counted
    → IsJudgement f text judged → TellsJudgement judged b c result → JudgesUnder f name a c result
judged_under f name a b c text judged (Ok told) text_told still counted is tells = subst (IsJudgedUnder f name a c) (sym tells.0) (record {
  text = text;
  text_told = text_told;
  is = is;
  contents = λ n. tells.1.contents n ∙ still.contents n;
  stdout = judgement_from judged a.told b.told c.told (still.standard 0 (omega arith)) tells.1.stdout;
  stderr = tells.1.stderr ∙ still.standard 1 (omega arith);
  counted = tells.1.counted ∙ counted;
})
judged_under f name a b c text judged (Err stop) text_told still counted is tells = inr (record {
  text = text;
  text_told = text_told;
  is = subst (IsJudgement f text) tells.0 is;
  contents = λ n. tells.1.contents n ∙ still.contents n;
  stdout = front_from a.told b.told c.told certified_line (still.standard 0 (omega arith)) tells.1.stdout;
  stderr = tells.1.stderr ∙ still.standard 1 (omega arith);
  cause = print_cause (asking (reading name ∷ []) a.counted) b.counted c.counted stop counted tells.1.cause;
})

-- ---- the call

both_asked : (c : Certify) (old mid new : Counted) → mid ≡ asking (reading c.function ∷ []) old → new ≡ asking (reading c.proof ∷ []) mid → new ≡ asking (asked_by c) old
both_asked c old mid new first second =
    second ∙ ap (asking (reading c.proof ∷ [])) first ∙ asking_both (reading c.function ∷ []) (reading c.proof ∷ []) old

content_from : (a b : Told) (name text : List ℕ) → IsUntouched a b → IsToldAs text (b.content name) → IsToldAs text (a.content name)
content_from a b name text still told = subst (IsToldAs text) (still.contents name) told

pub judged : (c : Certify) (a b d : Outside) (f : Function) (one : Judgement) → IsFunctionUnder a.told c.function f → IsUntouched a.told b.told → b.counted ≡ asking (reading c.function ∷ []) a.counted
    → IsJudgedUnder f c.proof b d one → IsJudged c a d one
judged c a b d f one is still counted h = record {
  function = f;
  is_function = is;
  text = h.text;
  text_told = content_from a.told b.told c.proof h.text still h.text_told;
  is = h.is;
  contents = λ n. h.contents n ∙ still.contents n;
  stdout = judgement_from one a.told b.told d.told (still.standard 0 (omega arith)) h.stdout;
  stderr = h.stderr ∙ still.standard 1 (omega arith);
  counted = both_asked c a.counted b.counted d.counted counted h.counted;
}

proof_cause : (name : List ℕ) (number next : ℕ) (old mid new : Counted) (stop : CallFault) → number ≡ next → mid ≡ old → IsProofCause name number mid new stop → IsProofCause name next old new stop
proof_cause name number next old mid new stop same counted h =
    subst (λ (n : ℕ). IsProofCause name n old new stop) same (subst (λ (c : Counted). IsProofCause name number c new stop) counted h)

pub unjudged : (c : Certify) (a b d : Outside) (f : Function) (stop : CallFault) → IsFunctionUnder a.told c.function f → IsUntouched a.told b.told → b.told.next ≡ a.told.next + 1 → b.counted ≡ asking (reading c.function ∷ []) a.counted
    → IsUnjudgedUnder c.proof b d stop ⊎ IsHalfJudgedUnder f c.proof b d stop → IsUnjudged c a d stop
unjudged c a b d f stop is still next counted (inl h) = inr (inl (record {
  function = f;
  is_function = is;
  untouched = record { contents = λ n. h.untouched.contents n ∙ still.contents n; standard = λ g low. h.untouched.standard g low ∙ still.standard g low };
  cause = proof_cause c.proof b.told.next (a.told.next + 1) (asking (reading c.function ∷ []) a.counted) b.counted d.counted stop next counted h.cause;
}))
unjudged c a b d f stop is still next counted (inr h) = inr (inr (record {
  function = f;
  is_function = is;
  text = h.text;
  text_told = content_from a.told b.told c.proof h.text still h.text_told;
  is = h.is;
  contents = λ n. h.contents n ∙ still.contents n;
  stdout = front_from a.told b.told d.told certified_line (still.standard 0 (omega arith)) h.stdout;
  stderr = h.stderr ∙ still.standard 1 (omega arith);
  cause = print_cause (asking (asked_by c) a.counted) (asking (reading c.proof ∷ []) b.counted) d.counted stop
      (both_asked c a.counted b.counted (asking (reading c.proof ∷ []) b.counted) counted refl) h.cause;
}))
