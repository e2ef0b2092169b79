-- Bytes that a file begins with.
use Rattle.std.proofs.Common.{◌≡◌, ◌≢◌, ℕ, ◌<◌, ◌≤◌, Bool, true, false, List, [], ◌∷◌, ◌++◌, length, Option, Some, None, Ok, refl, sym, ap, ◌∙◌, subst, append_assoc, append-nil, length-append, arith}
use Rattle.std.specs.Prelude.{MatchOption}
use denote.Ref.{Bor}
use Rattle.std.proofs.lemmas.List.{append_cancel_left}
use Rattle.nf_files.specs.Told.{Told, IsEmptyIfTold}
use Rattle.nf_files.specs.Reads.{Keeps}
use Rattle.nf_files.specs.Pieces.{Takes}
use Rattle.file_match.specs.Comparing.{Comparing, Found, IsNoFront, IsNoFrontIfTold, IsBehind, AreNext, FoundSo, IsWhole}

-- where two lists begin alike, the shorter front is a front of the longer
pub front_of_front : (xs ys us vs : List ℕ) → length xs ≤ length ys → xs ++ us ≡ ys ++ vs → (more : List ℕ) × (xs ++ more ≡ ys)
front_of_front [] ys us vs le e = (ys, refl)
front_of_front (x ∷ xs) [] us vs le e = absurd (omega arith)
front_of_front (x ∷ xs) (y ∷ ys) us vs le e =
    let rest = front_of_front xs ys us vs (omega arith) cc in
    let head : x ≡ y = cc in
    (rest.0, ap (λ (t : List ℕ). x ∷ t) rest.1 ∙ ap (λ (n : ℕ). n ∷ ys) head)

-- what was read isn't what was to come
pub other_read : (bytes front : List ℕ) (old new : Option (List ℕ)) → length front ≤ length bytes → IsNoFront front bytes → Takes front old new → IsNoFrontIfTold bytes old
other_read bytes front None None le ne t = tt
other_read bytes front None (Some b) le ne t = absurd t
other_read bytes front (Some a) None le ne t = absurd t
other_read bytes front (Some a) (Some b) le ne t = λ later e.
    let is = front_of_front front bytes b later le (sym t ∙ sym e) in ne is.0 is.1

-- two fronts one behind the other
pub takes_both : (front more : List ℕ) (a b c : Option (List ℕ)) → Takes front a b → Takes more b c → Takes (front ++ more) a c
takes_both front more None None None s t = tt
takes_both front more None None (Some z) s t = absurd t
takes_both front more None (Some y) c s t = absurd s
takes_both front more (Some x) None c s t = absurd s
takes_both front more (Some x) (Some y) None s t = absurd t
takes_both front more (Some x) (Some y) (Some z) s t = s ∙ ap (λ (l : List ℕ). front ++ l) t ∙ sym (append_assoc front more z)

-- behind a front that is there, bytes are not: all of them are not
pub no_front_behind : (front bytes : List ℕ) (start now : Option (List ℕ)) → Takes front start now → IsNoFrontIfTold bytes now → IsNoFrontIfTold (front ++ bytes) start
no_front_behind front bytes None None s t = tt
no_front_behind front bytes None (Some b) s t = absurd s
no_front_behind front bytes (Some a) None s t = absurd s
no_front_behind front bytes (Some a) (Some b) s t = λ later e. t later (append_cancel_left front (bytes ++ later) b (sym (append_assoc front bytes later) ∙ e ∙ s))

-- bytes that don't begin so don't begin with more either
pub no_front_longer : (front bytes : List ℕ) (start : Option (List ℕ)) → IsNoFrontIfTold front start → IsNoFrontIfTold (front ++ bytes) start
no_front_longer front bytes None h = tt
no_front_longer front bytes (Some a) h = λ later e. h (bytes ++ later) (sym (append_assoc front bytes later) ∙ e)

-- what taking off a front comes to
pub behind_is : (bytes front : List ℕ) (r : Option (Bor (List ℕ))) → MatchOption r ((rest : List ℕ) → bytes ≢ front ++ rest) (λ x. bytes ≡ front ++ x.now) → IsBehind bytes front r
behind_is bytes front None h = λ later e. h later (sym e)
behind_is bytes front (Some rest) h = sym h

-- nothing was left where more was to come
pub none_left : (front rest bytes : List ℕ) (start now : Option (List ℕ)) → front ++ rest ≡ bytes → Takes front start now → 0 < length rest → IsEmptyIfTold now → IsNoFrontIfTold bytes start
none_left front rest bytes None now e t more none = tt
none_left front rest bytes (Some a) None e t more none = absurd t
none_left front rest bytes (Some a) (Some b) e t more none = λ later q.
    let all : rest ++ later ≡ b = append_cancel_left front (rest ++ later) b (sym (append_assoc front rest later) ∙ ap (λ (l : List ℕ). l ++ later) e ∙ q ∙ t) in
    absurd (omega (arith, ap (λ (l : List ℕ). length l) (all ∙ none), length-append rest later))

-- one piece more was taken
pub taken_more : (front rest piece more bytes : List ℕ) (start mid now : Option (List ℕ)) → front ++ rest ≡ bytes → piece ++ more ≡ rest → Takes front start mid → Takes piece mid now
    → (all : List ℕ) × (all ++ more ≡ bytes) × Takes all start now
taken_more front rest piece more bytes start mid now e q s t = (front ++ piece, append_assoc front piece more ∙ ap (λ (l : List ℕ). front ++ l) q ∙ e, takes_both front piece start mid now s t)

-- another piece was read
pub other_more : (front rest piece bytes : List ℕ) (start mid now : Option (List ℕ)) → front ++ rest ≡ bytes → length piece ≤ length rest → IsNoFront piece rest → Takes front start mid → Takes piece mid now → IsNoFrontIfTold bytes start
other_more front rest piece bytes start mid now e le ne s t =
    subst (λ (l : List ℕ). IsNoFrontIfTold l start) e (no_front_behind front rest start mid s (other_read rest piece mid now le ne t))

-- what was found of bytes, and of more behind them
pub found_more : (E : Type 0) (same : Bool) (before bytes : List ℕ) (start old new : Option (List ℕ)) → Takes before start old → AreNext {E = E} bytes old new (Ok same) → FoundSo same (before ++ bytes) start new
found_more E true before bytes start old new s t = takes_both before bytes start old new s t
found_more E false before bytes start old new s t = no_front_behind before bytes start old s t

-- nothing or something was left
pub whole_if : (E : Type 0) (same : Bool) (bytes : List ℕ) (start now later : Option (List ℕ)) (piece : List ℕ) → Takes bytes start now → Takes piece now later → (same ≡ true → IsEmptyIfTold now) → (same ≡ false → 0 < length piece)
    → IsWhole {E = E} bytes start (Ok same)
whole_if E same bytes None now later piece s t none some = tt
whole_if E same bytes (Some a) None later piece s t none some = absurd s
whole_if E same bytes (Some a) (Some b) None piece s t none some = absurd t
whole_if E true bytes (Some a) (Some b) (Some c) piece s t none some = s ∙ ap (λ (l : List ℕ). bytes ++ l) (none refl) ∙ append-nil bytes
whole_if E false bytes (Some a) (Some b) (Some c) piece s t none some = λ e.
    let lens = ap (λ (l : List ℕ). length l) (sym s ∙ e) in
    absurd (omega (arith, lens, length-append bytes b, ap (λ (l : List ℕ). length l) t, length-append piece c, some refl))

pub not_whole : (E : Type 0) (bytes : List ℕ) (start : Option (List ℕ)) → IsNoFrontIfTold bytes start → IsWhole {E = E} bytes start (Ok false)
not_whole E bytes None h = tt
not_whole E bytes (Some a) h = λ e. h [] (append-nil bytes ∙ sym e)

-- what was found, of the fields of a value
pub found_here : (file : ℕ) (same : Bool) (v : Comparing) (before : List ℕ) (start : Option (List ℕ)) (told : Told) → (let r : Comparing = record { file = file; same = same } in r) ≡ v → same ≡ true → Found v before start (told.rest v.file) → Takes before start (told.rest file)
found_here file true v before start told e is h = subst (λ (x : Comparing). Found x before start (told.rest x.file)) (sym e) h
found_here file false v before start told e is h = absurd cc

pub found_other : (file : ℕ) (same : Bool) (v : Comparing) (before : List ℕ) (start : Option (List ℕ)) (told : Told) → (let r : Comparing = record { file = file; same = same } in r) ≡ v → same ≡ false → Found v before start (told.rest v.file) → IsNoFrontIfTold before start
found_other file true v before start told e is h = absurd cc
found_other file false v before start told e is h = subst (λ (x : Comparing). Found x before start (told.rest x.file)) (sym e) h

pub keeps_both : (a b c : Told) (file : ℕ) → Keeps a b file → Keeps b c file → Keeps a c file
keeps_both a b c file h k = record {
  rests = λ g ne. k.rests g ne ∙ h.rests g ne;
  givens = λ g. k.givens g ∙ h.givens g;
  names = λ g. k.names g ∙ h.names g;
  kinds = λ g. k.kinds g ∙ h.kinds g;
  contents = λ n. k.contents n ∙ h.contents n;
  latest_same = λ n. k.latest_same n ∙ h.latest_same n;
  next_same = k.next_same ∙ h.next_same;
}

-- nor does a file begin with more that was found not to begin so
pub found_longer : (file : ℕ) (same : Bool) (v : Comparing) (before bytes : List ℕ) (start : Option (List ℕ)) (told : Told) → (let r : Comparing = record { file = file; same = same } in r) ≡ v → same ≡ false → Found v before start (told.rest v.file) → Found v (before ++ bytes) start (told.rest v.file)
found_longer file true v before bytes start told e is h = absurd cc
found_longer file false v before bytes start told e is h =
    subst (λ (x : Comparing). Found x (before ++ bytes) start (told.rest x.file)) e (no_front_longer before bytes start (subst (λ (x : Comparing). Found x before start (told.rest x.file)) (sym e) h))
