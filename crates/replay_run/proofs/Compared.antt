-- Outputs that are compared side by side.
use Rattle.std.proofs.Common.{◌≡◌, ◌≢◌, ℕ, zero, suc, ◌+◌, ◌<◌, ◌≤◌, List, [], ◌∷◌, ◌++◌, length, set, Bool, true, false, Option, Some, None, Ok, inl, inr, refl, sym, ap, ◌∙◌, subst, cond, arith}
use Rattle.std.specs.List.{slice_get}
use Rattle.std.specs.Option.{option_map}
use Rattle.std.proofs.lemmas.List.{length-map}
use Rattle.std.proofs.lemmas.Bool.{lt-ltb}
use Rattle.std.proofs.lemmas.Option.{slice_get-map, slice_get_within}
use Rattle.capture_format.specs.declared.format.CaptureFormat.{CaptureFormat}
use Rattle.nf_base.specs.declared.card.Card.{Card}
use Rattle.nf_base.proofs.Mixes.{got_set}
use Rattle.nf_files.specs.Told.{Told, IsToldAs}
use Rattle.nf_files.specs.Pieces.{Takes}
use Rattle.nf_files.specs.Reads.{Keeps}
use Rattle.packet_feed.specs.Told.{IsApart}
use Rattle.run_history.specs.declared.line.Mode.{Mode}
use Rattle.file_match.specs.Comparing.{Comparing, Found, FoundSo, IsWhole, IsOtherIfTold}
use Rattle.stream_run.specs.Runs.{Handled}
use Rattle.stream_run.specs.Texts.{piece, sent_bytes, line_of, bytes_of}
use Rattle.stream_run.proofs.Bytes.{bytes_more, bytes_none}
use Rattle.capture_format.specs.Written.{head_bytes}
use Rattle.run_history.specs.Line.{header_line}
use Rattle.replay_run.specs.Outputs.{files_of, AreFound, AreToldBelow, AreTold}

pub file_at : (all : List Comparing) (k : ℕ) (c : Comparing) → slice_get all k ≡ Some c → slice_get (files_of all) k ≡ Some c.file
file_at all k c e = slice_get-map (λ (x : Comparing). x.file) all k ∙ ap (option_map (λ (x : Comparing). x.file)) e

pub same_length : (xs ys : List Comparing) → files_of xs ≡ files_of ys → length xs ≡ length ys
same_length xs ys e = omega (arith, ap (λ (t : List ℕ). length t) e, length-map xs (λ (x : Comparing). x.file), length-map ys (λ (x : Comparing). x.file))

-- Of the outputs below a number one thing is known, of the others another.
abbrev pub IsPartly : (ℕ → Comparing → Told → Type 0) → (ℕ → Comparing → Told → Type 0) → ℕ → Told → List Comparing → Type 0
IsPartly After Before k told all =
    (j : ℕ) (c : Comparing) → slice_get all j ≡ Some c → (j < k → After j c told) × (k ≤ j → Before j c told)

-- what is known of an output, whose file's rest decides
abbrev pub RestDecides : (ℕ → Comparing → Told → Type 0) → Type 0
RestDecides P = (j : ℕ) (c : Comparing) (old new : Told) → new.rest c.file ≡ old.rest c.file → P j c old → P j c new

rest_other : (all : List Comparing) (k j : ℕ) (c x : Comparing) (old new : Told) → IsApart (files_of all) → slice_get all k ≡ Some c → slice_get all j ≡ Some x → j ≢ k → Keeps old new c.file → new.rest x.file ≡ old.rest x.file
rest_other all k j c x old new apart e p ne kept = kept.rests x.file (apart j k x.file c.file (file_at all j x p) (file_at all k c e) ne)

pub partly_more : (After Before : ℕ → Comparing → Told → Type 0) (all : List Comparing) (k : ℕ) (c new_c : Comparing) (old new : Told) → RestDecides After → RestDecides Before → IsApart (files_of all) → slice_get all k ≡ Some c → Keeps old new c.file
    → (Before k c old → After k new_c new) → IsPartly After Before k old all → IsPartly After Before (k + 1) new (set all k new_c)
partly_more After Before all k c new_c old new rest_after rest_before apart e kept step h j x q = elim (got_set all k j new_c x q) [
  | inl here ↦
      let put : After k new_c new = step ((h k c e).1 (omega arith)) in
      let of : After j x new = subst (λ (t : Comparing). After j t new) here.1 (subst (λ (n : ℕ). After n new_c new) (sym here.0) put) in
      (λ lt. of, λ le. absurd (omega (arith, here.0, le)))
  | inr there ↦
      let same = rest_other all k j c x old new apart e there.1 there.0 kept in
      let before_x = h j x there.1 in (
        λ lt. rest_after j x old new same (before_x.0 (omega (arith, lt, there.0))),
        λ le. rest_before j x old new same (before_x.1 (omega (arith, le))),
      )
]

pub all_partly : (After Before : ℕ → Comparing → Told → Type 0) (all : List Comparing) (k : ℕ) (told : Told) → length all ≤ k → IsPartly After Before k told all → (j : ℕ) (c : Comparing) → slice_get all j ≡ Some c → After j c told
all_partly After Before all k told past h j c e = let inside : j < length all = slice_get_within all j c e in (h j c e).0 (omega arith)

pub none_partly : (After Before : ℕ → Comparing → Told → Type 0) (all : List Comparing) (told : Told) → ((j : ℕ) (c : Comparing) → slice_get all j ≡ Some c → Before j c told) → IsPartly After Before 0 told all
none_partly After Before all told h j c e = (λ lt. absurd (omega arith), λ le. h j c e)

-- ---- what was found

abbrev pub FoundAt : (ℕ → List ℕ) → (ℕ → Option (List ℕ)) → ℕ → Comparing → Told → Type 0
FoundAt bytes start j c told = Found c (bytes j) (start c.file) (told.rest c.file)

pub found_decides : (bytes : ℕ → List ℕ) (start : ℕ → Option (List ℕ)) → RestDecides (FoundAt bytes start)
found_decides bytes start j c old new same h = subst (λ (o : Option (List ℕ)). Found c (bytes j) (start c.file) o) (sym same) h

-- more was found of one output
pub found_step : (bytes more : List ℕ) (start : ℕ → Option (List ℕ)) (c new_c : Comparing) (old new : Told) → new_c.file ≡ c.file
    → ((at : Option (List ℕ)) (before : List ℕ) → Found c before at (old.rest c.file) → Found new_c (before ++ more) at (new.rest c.file))
    → Found c bytes (start c.file) (old.rest c.file) → Found new_c (bytes ++ more) (start new_c.file) (new.rest new_c.file)
found_step bytes more start c new_c old new same step h = subst (λ (f : ℕ). Found new_c (bytes ++ more) (start f) (new.rest f)) (sym same) (step (start c.file) bytes h)

-- nothing was read of an output
pub found_none : (c : Comparing) (told : Told) → c.same ≡ true → Found c [] (told.rest c.file) (told.rest c.file)
found_none c told fresh = subst (λ (b : Bool). FoundSo b [] (told.rest c.file) (told.rest c.file)) (sym fresh) (none_taken (told.rest c.file))
  where
    none_taken : (o : Option (List ℕ)) → Takes [] o o
    none_taken None = tt
    none_taken (Some bytes) = refl

-- what stands in outputs alone
pub piece_sent : (format : CaptureFormat) (ports k : ℕ) (h : Handled) → k < ports → piece format ports k h ≡ sent_bytes format k h
piece_sent format ports k h lt = ap (λ (b : Bool). cond b (sent_bytes format k h) (line_of h)) (lt-ltb k ports lt)

pub sent_more : (mode : Mode) (workers : ℕ) (card : Card) (format : CaptureFormat) (ports k : ℕ) (hs : List Handled) (h : Handled) → k < ports → bytes_of mode workers card format ports k hs ++ sent_bytes format k h ≡ bytes_of mode workers card format ports k (hs ++ h ∷ [])
sent_more mode workers card format ports k hs h lt = ap (λ (t : List ℕ). bytes_of mode workers card format ports k hs ++ t) (sym (piece_sent format ports k h lt)) ∙ sym (bytes_more mode workers card format ports k hs h)

pub sent_none : (mode : Mode) (workers : ℕ) (card : Card) (format : CaptureFormat) (ports k : ℕ) → k < ports → head_bytes format ≡ bytes_of mode workers card format ports k []
sent_none mode workers card format ports k lt = ap (λ (b : Bool). cond b (head_bytes format) (header_line mode workers card)) (sym (lt-ltb k ports lt)) ∙ sym (bytes_none mode workers card format ports k)

-- other outputs stay as they were found
pub found_still : (bytes : ℕ → List ℕ) (start : ℕ → Option (List ℕ)) (all : List Comparing) (old new : Told) → ((k : ℕ) (c : Comparing) → slice_get all k ≡ Some c → new.rest c.file ≡ old.rest c.file) → AreFound bytes start all old → AreFound bytes start all new
found_still bytes start all old new same h k c e = found_decides bytes start k c old new (same k c e) (h k c e)

-- ---- whole outputs

abbrev pub WholeAt : (ℕ → List ℕ) → (ℕ → Option (List ℕ)) → ℕ → Comparing → Told → Type 0
WholeAt bytes start j c told = IsToldAs (bytes j) (start c.file)

pub whole_decides : (bytes : ℕ → List ℕ) (start : ℕ → Option (List ℕ)) → RestDecides (WholeAt bytes start)
whole_decides bytes start j c old new same h = h

pub told_whole : (E : Type 0) (bytes : List ℕ) (start : Option (List ℕ)) → IsWhole {E = E} bytes start (Ok true) → IsToldAs bytes start
told_whole E bytes None h = tt
told_whole E bytes (Some all) h = h

pub told_other : (E : Type 0) (bytes : List ℕ) (start : Option (List ℕ)) → IsWhole {E = E} bytes start (Ok false) → IsOtherIfTold bytes start
told_other E bytes None h = tt
told_other E bytes (Some all) h = h

pub stays_in : (all : List Comparing) (k file : ℕ) → slice_get (files_of all) k ≡ Some file → (c : Comparing) × (slice_get all k ≡ Some c) × (c.file ≡ file)
stays_in [] k file e = absurd cc
stays_in (c ∷ all) zero file e = (c, refl, cc)
stays_in (c ∷ all) (suc k) file e = stays_in all k file e

-- the outputs so far are told as they are to be
pub told_below : (bytes : ℕ → List ℕ) (start : ℕ → Option (List ℕ)) (all : List Comparing) (k : ℕ) (told : Told) → IsPartly (WholeAt bytes start) (FoundAt bytes start) k told all → AreToldBelow k bytes start (files_of all)
told_below bytes start all k told h j file lt e =
    let c = stays_in all j file e in
    subst (λ (n : ℕ). IsToldAs (bytes j) (start n)) c.2 ((h j c.0 c.1).0 lt)

pub told_all : (bytes : ℕ → List ℕ) (start : ℕ → Option (List ℕ)) (all : List Comparing) (k : ℕ) (told : Told) → length all ≤ k → IsPartly (WholeAt bytes start) (FoundAt bytes start) k told all → AreTold bytes start (files_of all)
told_all bytes start all k told past h j file e =
    let c = stays_in all j file e in
    let inside : j < length all = slice_get_within all j c.0 c.1 in
    told_below bytes start all k told h j file (omega arith) e
