-- Why a call was stopped, and what it had asked for then.
use Rattle.std.proofs.Common.{◌≡◌, inl, inr, ℕ, ◌+◌, ◌≤◌, List, [], ◌∷◌, ◌++◌, length, map, Err, refl, ap, sym, subst, ◌∙◌, append_assoc, arith}
use Rattle.std.proofs.lemmas.List.{length-append}
use Rattle.capture_format.specs.declared.format.CaptureFormat.{CaptureFormat}
use Rattle.nf_files.specs.Causes.{Counted, Asked, HasCause, asking}
use Rattle.nf_files.specs.declared.fault.FilesFault.{FilesFault}
use Rattle.nf_files.specs.declared.fault.FilesFault.TheVariants as outside
use Rattle.stream_run.specs.declared.fault.RunFault.{RunFault}
use Rattle.stream_run.specs.declared.fault.RunFault.TheVariants as numbered
use Rattle.stream_run.specs.Stops.{stop_of}
use Rattle.stream_run.specs.Writing.{IsStopCause, StopsAt}
use Rattle.call_base.specs.declared.status.CallFault.TheVariants as stops
use Rattle.call_base.specs.Names.{writing, created_by, name_at}
use Rattle.call_base.specs.Numbers.{Numbering, IsCauseBy, IsFrontOf, StopsBy}
use Rattle.call_base.specs.Opened.{AsksNext, AsksSome, IsAskCause}
use Rattle.call_base.specs.Layout.{stop_named}
use Rattle.call_base.proofs.Asking.{asking_both, asks_next, front_behind, front_range}
use Rattle.call_base.proofs.Layouts.{IsNumbered}

pub cause_named : (n : Numbering) (old new : Counted) (stop : RunFault) → IsNumbered n stop → IsAskCause old new stop → IsCauseBy n old new (stop_named n stop)
cause_named n old new (numbered.File number) is h = record { number = number; faulted = h; file_is = refl; number_is = sym is }
cause_named n old new numbered.Memory is h = h

-- a cause of a call that asks for no name
pub ask_cause : (old new : Counted) (stop : RunFault) → IsStopCause {T = Unit {0}} old new (Err stop) → IsAskCause old new stop
ask_cause old new (numbered.File number) h = inl h
ask_cause old new numbered.Memory h = h

-- these names had been asked for, and then a call was stopped
unfoldable pub stopped_behind : (n : Numbering) (names front : List Asked) (start old new : Counted) (stop : RunFault) → IsNumbered n stop → IsFrontOf names front → old ≡ asking front start → IsStopCause {T = Unit {0}} old new (Err stop) → StopsBy n names start new (stop_named n stop)
stopped_behind n names front start old new stop is f so_far h = record {
  front = front;
  is_front = f;
  cause = cause_named n (asking front start) new stop is (ask_cause (asking front start) new stop (subst (λ (c : Counted). IsStopCause {T = Unit {0}} c new (Err stop)) so_far h));
}

-- the same, where memory ran out
unfoldable pub memory_behind : (n : Numbering) (names front : List Asked) (start now : Counted) → IsFrontOf names front → now ≡ asking front start → StopsBy n names start now stops.Memory
memory_behind n names front start now f so_far = record { front = front; is_front = f; cause = so_far }

-- these names had been asked for, and then some more, until a call was stopped
unfoldable pub stopped_asking : (n : Numbering) (names behind more : List Asked) (start old new : Counted) (stop : RunFault) → IsNumbered n stop → ((front : List Asked) → IsFrontOf more front → IsFrontOf names (behind ++ front)) → old ≡ asking behind start → AsksSome more old new stop → StopsBy n names start new (stop_named n stop)
stopped_asking n names behind more start old new stop is fronts so_far s = record {
  front = behind ++ s.front;
  is_front = fronts s.front s.is_front;
  cause = cause_named n (asking (behind ++ s.front) start) new stop is
      (subst (λ (c : Counted). IsAskCause c new stop) (ap (asking s.front) so_far ∙ asking_both behind s.front start) s.cause);
}

-- one name more was asked for, and that was stopped
pub stopped_next : (n : Numbering) (names behind : List Asked) (one : Asked) (number : ℕ) (start old new : Counted) (stop : RunFault) → IsNumbered n stop → IsFrontOf names behind → IsFrontOf names (behind ++ one ∷ []) → old ≡ asking behind start → AsksNext {T = ℕ} one number old new (Err stop) → StopsBy n names start new (stop_named n stop)
stopped_next n names behind one number start old new stop is f g so_far h =
    let s = asks_next names behind one number start old new stop f g so_far h in
    record { front = s.front; is_front = s.is_front; cause = cause_named n (asking s.front start) new stop is s.cause }

-- a fault of a call on the file of a number
pub fault_stops : (T : Type 0) (old new : Counted) (file : ℕ) (fault : FilesFault) (stop : RunFault) → stop ≡ stop_of file fault → HasCause {T = T} old new file (Err fault) → StopsAt {T = Unit {0}} file (Err stop) × IsStopCause {T = Unit {0}} old new (Err stop)
fault_stops T old new file outside.Failed stop e h = subst (λ (s : RunFault). StopsAt {T = Unit {0}} file (Err s) × IsStopCause {T = Unit {0}} old new (Err s)) (sym e) (refl, h)
fault_stops T old new file (outside.Memory m) stop e h = subst (λ (s : RunFault). StopsAt {T = Unit {0}} file (Err s) × IsStopCause {T = Unit {0}} old new (Err s)) (sym e) (tt, h)

-- ---- fronts of names

pub front_both : (xs ys zs : List Asked) → IsFrontOf ys zs → IsFrontOf xs ys → IsFrontOf xs zs
front_both xs ys zs h k = record { later = h.later ++ k.later; whole = sym (append_assoc zs h.later k.later) ∙ ap (λ (t : List Asked). t ++ k.later) h.whole ∙ k.whole }

-- some first names are no more than all
pub front_length : (all front : List Asked) → IsFrontOf all front → length front ≤ length all
front_length all front f = omega (arith, length-append front f.later, ap (λ (t : List Asked). length t) f.whole)

-- the first so many names that are created, behind others
pub created_front : (inputs : List Asked) (format : CaptureFormat) (out : List ℕ) (ports made all : ℕ) → made ≤ all → IsFrontOf (inputs ++ created_by format out ports all) (inputs ++ created_by format out ports made)
created_front inputs format out ports made all within =
    front_behind inputs (created_by format out ports all) (created_by format out ports made) (front_range (λ k. writing (name_at format out ports k)) 0 made all within)
