-- Chunks of two rounds.
use Rattle.std.proofs.Common.{◌≡◌, ◌+◌, ◌*◌, ◌≤◌, ◌++◌, ℕ, zero, suc, List, [], ◌∷◌, length, take, Result, Ok, Err, refl, ap, sym, ◌∙◌, subst, arith}
use Rattle.std.proofs.lemmas.List.{take_all}
use Rattle.nf_base.specs.declared.card.Card.{Card}
use Rattle.capture_format.specs.declared.format.CaptureFormat.{CaptureFormat}
use Rattle.nf_files.specs.Told.{Told}
use Rattle.nf_files.specs.Causes.{Counted}
use Rattle.run_history.specs.declared.line.Mode.{Mode}
use Rattle.stream_run.specs.declared.fault.RunFault.{RunFault}
use Rattle.stream_run.specs.Runs.{Handled}
use Rattle.locked_run.specs.declared.chunk.Chunk.{Chunk}
use Rattle.locked_run.specs.declared.rounds.Rounds.{Rounds}
use Rattle.locked_run.specs.Going.{AreWhole, Writes}
use Rattle.locked_run.specs.Chunks.{AreOf, AreIdle, AreFilled, HoldAll, GoOnTo, AreGiven}
use Rattle.locked_run.specs.Rounds.{step_of, AreRounds, AreAllIdle, AreReady, TurnsTo}
use Rattle.locked_run.proofs.Chunked.{filled_all, filled_of}

-- a whole list in front of another
pub all_of : (n : ℕ) (xs ys : List Chunk) → n ≡ length xs → take n (xs ++ ys) ≡ xs
all_of zero [] ys e = refl
all_of (suc n) [] ys e = absurd (omega (arith, e))
all_of zero (x ∷ xs) ys e = absurd (omega (arith, e))
all_of (suc n) (x ∷ xs) ys e = ap (λ (cs : List Chunk). x ∷ cs) (all_of n xs ys (omega (arith, e)))

-- chunks were given, by whichever name
pub given_as : {T : Type 0} (counted counts : Counted) (was now : Told) (files : List ℕ) (lent left before after : List Chunk) (result : Result T RunFault) → lent ≡ before → after ≡ left → AreGiven counted counts was now files lent left result → AreGiven counted counts was now files before after result
given_as counted counts was now files lent left before after result e f given =
    subst (λ (cs : List Chunk). AreGiven counted counts was now files before cs result) (sym f)
    (subst (λ (cs : List Chunk). AreGiven counted counts was now files cs left result) e given)

-- where the chunks were the last ones all is written
pub writes_last : (T E : Type 0) (mode : Mode) (workers : ℕ) (card : Card) (format : CaptureFormat) (ports : ℕ) (all : List Handled) (next : ℕ) (now : Told) (files : List ℕ) (chunks : List Chunk) (result : Result T E) → length all ≤ next → GoOnTo mode workers card format ports all next now files chunks result → Writes mode workers card format ports all now files result
writes_last T E mode workers card format ports all next now files chunks (Ok x) le on = subst (λ (hs : List Handled). AreWhole mode workers card format ports hs now files) (take_all next all le) on.0
writes_last T E mode workers card format ports all next now files chunks (Err e) le on = on

-- after a turn they are rounds still, whichever is next
pub rounds_turned : (targets : List ℕ) (old new : Rounds) → AreRounds targets (step_of old) old → new.size ≡ old.size → length new.made.items ≡ length old.made.items → length new.next.items ≡ length old.made.items → AreOf targets new.made.items → AreOf targets new.next.items → AreRounds targets (step_of old) new
rounds_turned targets old new h same made next made_of next_of = record {
  apart = h.apart;
  some = h.some;
  few = h.few;
  step_is = ap (λ (n : ℕ). n * new.size) made ∙ ap (λ (n : ℕ). length old.made.items * n) same;
  as_many = next ∙ sym made;
  made_files = made_of;
  next_files = next_of;
}

-- rounds of so many packets are of their own number of them
pub rounds_own : (targets : List ℕ) (step : ℕ) (r : Rounds) → AreRounds targets step r → AreRounds targets (step_of r) r
rounds_own targets step r h = subst (λ (n : ℕ). AreRounds targets n r) (sym h.step_is) h

pub rounds_then : (targets : List ℕ) (step was : ℕ) (r : Rounds) → was ≡ step → AreRounds targets was r → AreRounds targets step r
rounds_then targets step was r e h = subst (λ (n : ℕ). AreRounds targets n r) e h

-- what was made beside is what is to be written next
pub turned : (T E : Type 0) (mode : Mode) (workers : ℕ) (card : Card) (format : CaptureFormat) (ports : ℕ) (all : List Handled) (from : ℕ) (now : Told) (files : List ℕ) (old new : Rounds) (given made : List Chunk) (x : T) → AreFilled ports all (from + step_of old) old.size old.next.items made → new.made.items ≡ made → new.next.items ≡ given → new.size ≡ old.size → AreReady format ports all from old
    → GoOnTo {T = T} {E = E} mode workers card format ports all (from + step_of old) now files given (Ok x) → TurnsTo {T = T} {E = E} mode workers card format ports all (from + step_of old) now files new (Ok x)
turned T E mode workers card format ports all from now files old new given made x filled is left same ready on = (
  on.0,
  record {
    holds = subst (λ (n : ℕ). HoldAll format ports all (from + step_of old) n new.made.items) (sym same)
        (subst (λ (cs : List Chunk). HoldAll format ports all (from + step_of old) old.size cs) (sym is) (filled_all format ports all (from + step_of old) old.size old.next.items made filled ready.next_idle));
    next_idle = subst (λ (cs : List Chunk). AreIdle format cs) (sym left) on.1;
  },
)

-- the first chunks are made
pub begun : (format : CaptureFormat) (ports : ℕ) (all : List Handled) (old new : Rounds) → AreFilled ports all 0 old.size old.made.items new.made.items → new.next.items ≡ old.next.items → new.size ≡ old.size → AreAllIdle format old → AreReady format ports all 0 new
begun format ports all old new filled left same idle = record {
  holds = subst (λ (n : ℕ). HoldAll format ports all 0 n new.made.items) (sym same) (filled_all format ports all 0 old.size old.made.items new.made.items filled idle.made_idle);
  next_idle = subst (λ (cs : List Chunk). AreIdle format cs) (sym left) idle.next_idle;
}

pub rounds_begun : (targets : List ℕ) (ports : ℕ) (all : List Handled) (old new : Rounds) → AreRounds targets (step_of old) old → AreFilled ports all 0 old.size old.made.items new.made.items → new.next.items ≡ old.next.items → new.size ≡ old.size → AreRounds targets (step_of old) new
rounds_begun targets ports all old new h filled left same =
    rounds_turned targets old new h same filled.count (ap (λ (cs : List Chunk). length cs) left ∙ h.as_many) (filled_of ports all 0 old.size targets old.made.items new.made.items filled h.made_files)
    (subst (λ (cs : List Chunk). AreOf targets cs) (sym left) h.next_files)
