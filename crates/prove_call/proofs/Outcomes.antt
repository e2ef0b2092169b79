-- What keys with a certificate come to, from what reading, writing and printing came to.
use Rattle.std.proofs.Common.{◌≡◌, ◌⊎◌, inl, inr, ◌+◌, ◌<◌, ◌≤◌, ℕ, List, [], ◌∷◌, Option, Result, Ok, Err, refl, ap, subst, ◌∙◌, arith}
use Rattle.nf_base.specs.Text.{Function}
use Rattle.nf_base.specs.declared.card.Card.{Card}
use Rattle.nf_files.specs.Told.{Told, Same}
use Rattle.nf_files.specs.Causes.{Counted, Faulted, asking}
use Rattle.nf_files.specs.Pieces.{Gains}
use Rattle.nf_files.specs.Openings.{Creates}
use Rattle.nf_files.specs.Writes.{Writes, WritesFront}
use Rattle.stream_run.specs.declared.fault.RunFault.{RunFault}
use Rattle.stream_run.specs.declared.fault.RunFault.TheVariants as numbered
use Rattle.command_words.specs.Commands.{Prove}
use Rattle.call_base.specs.declared.status.CallFault.{CallFault}
use Rattle.call_base.specs.declared.status.CallFault.TheVariants.{Memory}
use Rattle.call_base.specs.Leaving.{IsOut, OutTo}
use Rattle.call_base.specs.Names.{reading, writing}
use Rattle.call_base.specs.Outside.{Outside, IsUntouched}
use Rattle.call_base.specs.Printed.{Printed, PrintedFront}
use Rattle.call_base.specs.PrintedOut.{IsPrintCause, stop_at_stdout}
use Rattle.call_base.specs.Source.{IsFunctionUnder}
use Rattle.call_base.proofs.Asking.{asking_both}
use Rattle.call_base.proofs.Creating.{untouched_same, untouched_both, untouched_none}
use Rattle.call_base.proofs.Printing.{printed_front}
use Rattle.prove_call.specs.Texts.{AreTexts}
use Rattle.prove_call.specs.Written.{HoldsWhole, HoldsFront}
use Rattle.prove_call.specs.Leaving.{IsCreateCause, IsWriteCause, AreLeft, IsHalfWritten, IsHalfPrinted, IsUncreated, IsWritten, WritesUnder, IsHalfOut, PrintsOut, Leaves}
use Rattle.prove_call.specs.Proving.{asked_by, IsProvedUnder, ProvesUnder, IsProved, IsUnproved}
use Rattle.prove_call.proofs.Files.{holds_written, holds_front, holds_printed, whole_from, front_from}

-- ---- the certificate

-- a file that is created is neither standard output
standard_made : (a b : Told) (name : List ℕ) (file g : ℕ) → Creates a b name file → g < 2 → b.given g ≡ a.given g
standard_made a b name file g h lt = h.givens g (λ e. omega (arith, e, lt, h.from_two))

standard_written : (a b c : Told) (name piece : List ℕ) (file g : ℕ) → Creates a b name file → Writes b c file piece → g < 2 → c.given g ≡ a.given g
standard_written a b c name piece file g h w lt =
    w.givens g (λ e. omega (arith, e, lt, h.from_two)) ∙ standard_made a b name file g h lt

pub written : (a b c : Outside) (name text : List ℕ) (file : ℕ) → Creates a.told b.told name file → b.counted ≡ asking (writing name ∷ []) a.counted → Writes b.told c.told file text → c.counted ≡ b.counted → IsWritten name text a c
written a b c name text file created asked wrote same = record {
  from_two = subst (λ (n : ℕ). 2 ≤ n) created.number created.from_two;
  holds = subst (λ (n : ℕ). HoldsWhole a.told c.told name n text) created.number (holds_written a.told b.told c.told name text file created wrote);
  standard = λ g lt. standard_written a.told b.told c.told name text file g created wrote lt;
  counted = same ∙ asked;
}

pub half_written : (a b c : Outside) (name called text : List ℕ) (file : ℕ) (stop : CallFault) → called ≡ name → Creates a.told b.told called file → b.counted ≡ asking (writing called ∷ []) a.counted → WritesFront b.told c.told file text
    → IsWriteCause file b.counted c.counted stop → IsHalfWritten name a.told.next (asking (writing name ∷ []) a.counted) text a c stop
half_written a b c name called text file stop same created asked wrote cause =
    subst (λ (n : List ℕ). IsHalfWritten n a.told.next (asking (writing n ∷ []) a.counted) text a c stop) same (record {
      holds = subst (λ (n : ℕ). HoldsFront a.told c.told called n text) created.number (holds_front a.told b.told c.told called text file created wrote);
      standard = λ g lt. standard_written a.told b.told c.told called _ file g created wrote.wrote lt;
      cause = subst (λ (n : ℕ). IsWriteCause n (asking (writing called ∷ []) a.counted) c.counted stop) created.number
          (subst (λ (o : Counted). IsWriteCause file o c.counted stop) asked cause);
    })

pub uncreated : (a b : Outside) (name : List ℕ) (stop : CallFault) → Same a.told b.told → IsCreateCause name a.told.next a.counted b.counted stop → IsUncreated name a.told.next a b a.counted stop
uncreated a b name stop same cause = record { untouched = untouched_same a.told b.told same; cause = cause }

-- ---- the verdict

pub half_out : (a b : Outside) (text : List ℕ) (stop : RunFault) → OutTo {T = Unit {0}} text a b (Err stop) → IsHalfOut text a b (stop_at_stdout stop)
half_out a b text (numbered.File number) h = record {
  unnamed = h.unnamed;
  wrote = h.wrote;
  cause = (refl, subst (λ (g : ℕ). Faulted a.counted b.counted g) h.at h.cause);
}
half_out a b text numbered.Memory h = record { unnamed = h.unnamed; wrote = h.wrote; cause = h.cause }

-- ---- both

printed_behind : (a b c : Told) (text : List ℕ) → b.given 0 ≡ a.given 0 → Printed b c 0 text → Printed a c 0 text
printed_behind a b c text same printed = subst (λ (o : Option (List ℕ)). Gains text o (c.given 0)) same printed

front_behind : (a b c : Told) (text : List ℕ) → b.given 0 ≡ a.given 0 → PrintedFront b c 0 text → PrintedFront a c 0 text
front_behind a b c text same h = record { front = h.front; is_front = h.is_front; part = h.part; printed = printed_behind a b c h.front same h.printed }

left : (a b c : Outside) (name certificate printed : List ℕ) → IsWritten name certificate a b → IsOut printed b c → AreLeft name a.told.next (asking (writing name ∷ []) a.counted) certificate printed a c
left a b c name certificate printed w out = record {
  holds = holds_printed a.told b.told c.told name certificate printed a.told.next w.from_two out.unnamed w.holds out.wrote;
  stdout = printed_behind a.told b.told c.told printed (w.standard 0 (omega arith)) out.wrote.gained;
  stderr = out.wrote.givens 1 (λ e. omega (arith, e)) ∙ w.standard 1 (omega arith);
  counted = out.counted ∙ w.counted;
}

half_printed : (a b c : Outside) (name certificate printed : List ℕ) (stop : CallFault) → IsWritten name certificate a b → IsHalfOut printed b c stop → IsHalfPrinted name a.told.next (asking (writing name ∷ []) a.counted) certificate printed a c stop
half_printed a b c name certificate printed stop w half = record {
  holds = holds_printed a.told b.told c.told name certificate _ a.told.next w.from_two half.unnamed w.holds half.wrote.wrote;
  stdout = front_behind a.told b.told c.told printed (w.standard 0 (omega arith)) (printed_front b.told c.told 0 printed half.wrote);
  stderr = half.wrote.wrote.givens 1 (λ e. omega (arith, e)) ∙ w.standard 1 (omega arith);
  cause = subst (λ (o : Counted). IsPrintCause o c.counted stop) w.counted half.cause;
}

pub unwritten : (T : Type 0) (a b : Outside) (name certificate printed : List ℕ) (stop : CallFault) → WritesUnder {T = T} name certificate a b (Err stop) → Leaves {T = T} name certificate printed a b (Err stop)
unwritten T a b name certificate printed stop (inl h) = inl h
unwritten T a b name certificate printed stop (inr h) = inr (inl h)

printed_too : (T : Type 0) (a b c : Outside) (name certificate printed : List ℕ) (result : Result T CallFault) → IsWritten name certificate a b → PrintsOut {T = T} printed b c result → Leaves {T = T} name certificate printed a c result
printed_too T a b c name certificate printed (Ok x) w h = left a b c name certificate printed w h
printed_too T a b c name certificate printed (Err stop) w h = inr (inr (half_printed a b c name certificate printed stop w h))

pub leaves_behind : (T : Type 0) (a b c : Outside) (name certificate printed text said : List ℕ) (result : Result T CallFault) → text ≡ certificate → said ≡ printed → IsWritten name text a b → PrintsOut {T = T} said b c result
    → Leaves {T = T} name certificate printed a c result
leaves_behind T a b c name certificate printed text said result same too w h =
    printed_too T a b c name certificate printed result
    (subst (λ (t : List ℕ). IsWritten name t a b) same w)
    (subst (λ (t : List ℕ). PrintsOut {T = T} t b c result) too h)

-- ---- the texts of a function

half_proved_under : (T : Type 0) (f : Function) (card : Card) (name certificate printed : List ℕ) (a b : Outside) (stop : CallFault) → AreTexts f card certificate printed → Leaves {T = T} name certificate printed a b (Err stop) → ProvesUnder {T = T} f card name a b (Err stop)
half_proved_under T f card name certificate printed a b stop texts (inl h) = inl h
half_proved_under T f card name certificate printed a b stop texts (inr h) = inr (record {
  certificate = certificate;
  printed = printed;
  are_texts = texts;
  far = h;
})

pub proves_behind : (T : Type 0) (f : Function) (card : Card) (name certificate printed : List ℕ) (a b : Outside) (result : Result T CallFault) → AreTexts f card certificate printed → Leaves {T = T} name certificate printed a b result → ProvesUnder {T = T} f card name a b result
proves_behind T f card name certificate printed a b (Ok x) texts h = record { certificate = certificate; printed = printed; are_texts = texts; left = h }
proves_behind T f card name certificate printed a b (Err stop) texts h = half_proved_under T f card name certificate printed a b stop texts h

-- memory ran out before there were any
pub unproved_yet : (name : List ℕ) (a : Outside) → IsUncreated name a.told.next a a a.counted Memory
unproved_yet name a = record { untouched = untouched_none a.told; cause = inl refl }

-- ---- the call

both_asked : (c : Prove) (old mid new : Counted) → mid ≡ asking (reading c.function ∷ []) old → new ≡ asking (writing c.proof ∷ []) mid → new ≡ asking (asked_by c) old
both_asked c old mid new first second =
    second ∙ ap (asking (writing c.proof ∷ [])) first ∙ asking_both (reading c.function ∷ []) (writing c.proof ∷ []) old

-- once the function's text is read, the certificate's name is asked for
asked_behind : (c : Prove) (old mid : Counted) → mid ≡ asking (reading c.function ∷ []) old → asking (writing c.proof ∷ []) mid ≡ asking (asked_by c) old
asked_behind c old mid first = both_asked c old mid (asking (writing c.proof ∷ []) mid) first refl

left_from : (a b d : Outside) (name certificate printed : List ℕ) (file number : ℕ) (asked all : Counted) → IsUntouched a.told b.told → file ≡ number → asked ≡ all → AreLeft name file asked certificate printed b d → AreLeft name number all certificate printed a d
left_from a b d name certificate printed file number asked all still at same h = record {
  holds = whole_from a.told b.told d.told name certificate file number still.contents at h.holds;
  stdout = printed_behind a.told b.told d.told printed (still.standard 0 (omega arith)) h.stdout;
  stderr = h.stderr ∙ still.standard 1 (omega arith);
  counted = h.counted ∙ same;
}

far_from : (a b d : Outside) (name certificate printed : List ℕ) (file number : ℕ) (asked all : Counted) (stop : CallFault) → IsUntouched a.told b.told → file ≡ number → asked ≡ all
    → IsHalfWritten name file asked certificate b d stop ⊎ IsHalfPrinted name file asked certificate printed b d stop → IsHalfWritten name number all certificate a d stop ⊎ IsHalfPrinted name number all certificate printed a d stop
far_from a b d name certificate printed file number asked all stop still at same (inl h) = inl (record {
  holds = front_from a.told b.told d.told name certificate file number still.contents at h.holds;
  standard = λ g lt. h.standard g lt ∙ still.standard g lt;
  cause = subst (λ (n : ℕ). IsWriteCause n all d.counted stop) at (subst (λ (o : Counted). IsWriteCause file o d.counted stop) same h.cause);
})
far_from a b d name certificate printed file number asked all stop still at same (inr h) = inr (record {
  holds = whole_from a.told b.told d.told name certificate file number still.contents at h.holds;
  stdout = front_behind a.told b.told d.told printed (still.standard 0 (omega arith)) h.stdout;
  stderr = h.stderr ∙ still.standard 1 (omega arith);
  cause = subst (λ (o : Counted). IsPrintCause o d.counted stop) same h.cause;
})

pub proved : (c : Prove) (a b d : Outside) (f : Function) → IsFunctionUnder a.told c.function f → IsUntouched a.told b.told → b.told.next ≡ a.told.next + 1 → b.counted ≡ asking (reading c.function ∷ []) a.counted
    → IsProvedUnder f c.card c.proof b.told.next (asking (writing c.proof ∷ []) b.counted) b d → IsProved c a d
proved c a b d f is still next counted h = record {
  function = f;
  is_function = is;
  proved = record {
    certificate = h.certificate;
    printed = h.printed;
    are_texts = h.are_texts;
    left = left_from a b d c.proof h.certificate h.printed b.told.next (a.told.next + 1) (asking (writing c.proof ∷ []) b.counted) (asking (asked_by c) a.counted)
        still next (asked_behind c a.counted b.counted counted) h.left;
  };
}

pub unproved : (T : Type 0) (c : Prove) (a b d : Outside) (f : Function) (stop : CallFault) → IsFunctionUnder a.told c.function f → IsUntouched a.told b.told → b.told.next ≡ a.told.next + 1 → b.counted ≡ asking (reading c.function ∷ []) a.counted
    → ProvesUnder {T = T} f c.card c.proof b d (Err stop) → IsUnproved c a d stop
unproved T c a b d f stop is still next counted (inl h) = inr (inl (record {
  function = f;
  is_function = is;
  uncreated = record {
    untouched = untouched_both a.told b.told d.told still h.untouched;
    cause = subst (λ (n : ℕ). IsCreateCause c.proof n (asking (reading c.function ∷ []) a.counted) d.counted stop) next
        (subst (λ (o : Counted). IsCreateCause c.proof b.told.next o d.counted stop) counted h.cause);
  };
}))
unproved T c a b d f stop is still next counted (inr h) = inr (inr (record {
  function = f;
  is_function = is;
  half = record {
    certificate = h.certificate;
    printed = h.printed;
    are_texts = h.are_texts;
    far = far_from a b d c.proof h.certificate h.printed b.told.next (a.told.next + 1) (asking (writing c.proof ∷ []) b.counted) (asking (asked_by c) a.counted) stop
        still next (asked_behind c a.counted b.counted counted) h.far;
  };
}))
