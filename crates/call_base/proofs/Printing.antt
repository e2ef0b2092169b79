-- What is printed.
use Rattle.std.proofs.Common.{◌≡◌, ◌≢◌, ℕ, ◌<◌, List, [], length, take, drop, Option, Some, None, Err, refl, sym, subst, ◌∙◌, arith}
use Rattle.std.proofs.lemmas.List.{append-nil, take-append-drop, length-take-le}
use Rattle.nf_files.specs.Told.{Told}
use Rattle.nf_files.specs.Pieces.{Gains}
use Rattle.nf_files.specs.Writes.{Writes, WritesFront}
use Rattle.call_base.specs.declared.status.Status.{Status}
use Rattle.call_base.specs.declared.status.Status.TheVariants.{Done, Usage, Refused, FileFault, NotCapture, Torn, ShareFull, TooMany, NoKeys, Memory, Differs, ProofFails}
use Rattle.nf_files.specs.Causes.{Faulted}
use Rattle.stream_run.specs.declared.fault.RunFault.{RunFault}
use Rattle.stream_run.specs.declared.fault.RunFault.TheVariants as numbered
use Rattle.stream_run.specs.Writing.{IsStopCause, StopsAt}
use Rattle.call_base.specs.declared.status.RunFile.TheVariants.{Stdout}
use Rattle.call_base.specs.declared.status.CallFault.{CallFault}
use Rattle.call_base.specs.declared.status.CallFault.TheVariants as stops
use Rattle.call_base.specs.Outside.{Outside}
use Rattle.call_base.specs.Printed.{Printed, PrintedFront}
use Rattle.call_base.specs.PrintedOut.{stop_at_stdout, IsPrintCause, IsPrinted, IsHalfPrinted}
use Rattle.call_base.specs.Texts.{error_line, said_of}

gains_nothing : (o : Option (List ℕ)) → Gains [] o o
gains_nothing None = tt
gains_nothing (Some bytes) = sym (append-nil bytes)

pub printed_front : (a b : Told) (g : ℕ) (piece : List ℕ) → WritesFront a b g piece → PrintedFront a b g piece
printed_front a b g piece h = record {
  front = take h.count piece;
  is_front = record { later = drop h.count piece; all = take-append-drop h.count piece };
  part = subst (λ (n : ℕ). n < length piece) (sym (length-take-le h.count piece (omega (arith, h.part)))) h.part;
  printed = h.wrote.gained;
}

-- printing changes no name
pub contents_printed : (a b : Told) (g : ℕ) (piece n : List ℕ) → a.name g ≡ None → Writes a b g piece → b.content n ≡ a.content n
contents_printed a b g piece n unnamed h = h.contents n (λ e. cc (unnamed, e))

pub is_printed : (a b : Outside) (piece : List ℕ) → a.told.name 0 ≡ None → Writes a.told b.told 0 piece → b.counted ≡ a.counted → IsPrinted a b piece
is_printed a b piece unnamed h counted = record {
  contents = λ n. contents_printed a.told b.told 0 piece n unnamed h;
  stdout = h.gained;
  stderr = h.givens 1 (λ e. omega (arith, e));
  counted = counted;
}

pub is_half_printed : (a b : Outside) (piece : List ℕ) (stop : CallFault) → a.told.name 0 ≡ None → WritesFront a.told b.told 0 piece → IsPrintCause a.counted b.counted stop → IsHalfPrinted a b piece stop
is_half_printed a b piece stop unnamed h cause = record {
  contents = λ n. contents_printed a.told b.told 0 _ n unnamed h.wrote;
  stdout = printed_front a.told b.told 0 piece h;
  stderr = h.wrote.givens 1 (λ e. omega (arith, e));
  cause = cause;
}

-- nothing was given to a file
pub writes_nothing : (t : Told) (file : ℕ) → Writes t t file []
writes_nothing t file = record {
  gained = gains_nothing (t.given file);
  current = λ n h. h;
  rests = λ g. refl;
  latest_same = λ n. refl;
  next_same = refl;
  givens = λ g other. refl;
  names = λ g. refl;
  kinds = λ g. refl;
  contents = λ n other. refl;
}

-- what is no success has a line
pub said_is : (due : Status) → due ≢ Done → said_of due ≡ error_line due
said_is Done some = absurd (some refl)
said_is Usage some = refl
said_is (Refused kind line column) some = refl
said_is (FileFault file) some = refl
said_is (NotCapture port) some = refl
said_is (Torn port offset) some = refl
said_is (ShareFull full) some = refl
said_is (TooMany most) some = refl
said_is (NoKeys why) some = refl
said_is Memory some = refl
said_is (Differs at) some = refl
said_is (ProofFails line) some = refl

-- standard output failed, or memory ran out there
pub half_printed : (a b : Outside) (piece : List ℕ) (stop : RunFault) → a.told.name 0 ≡ None → WritesFront a.told b.told 0 piece → StopsAt {T = Unit {0}} 0 (Err stop) → IsStopCause {T = Unit {0}} a.counted b.counted (Err stop) → IsHalfPrinted a b piece (stop_at_stdout stop)
half_printed a b piece (numbered.File number) unnamed h at cause =
    is_half_printed a b piece (stops.File Stdout) unnamed h (refl, subst (λ (g : ℕ). Faulted a.counted b.counted g) at cause)
half_printed a b piece numbered.Memory unnamed h at cause = is_half_printed a b piece stops.Memory unnamed h cause
