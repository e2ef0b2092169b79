-- Reads of made captures beside files.
use Rattle.std.proofs.Common.{◌≡◌, ◌≢◌, ℕ, zero, suc, ◌+◌, ◌-◌, ◌^◌, ◌<◌, ◌≤◌, ◌⊎◌, inl, inr, Bool, true, false, cond, leb, ltb, List, [], ◌++◌, length, take, refl, sym, ap, subst, ◌∙◌, arith}
use Rattle.std.specs.Prelude.{Option, Some, None, slice_get, slice_set, option_and_then}
use Rattle.std.proofs.lemmas.Bool.{cases_eq, leb-true, ltb-true, lt-ltb}
use Rattle.std.proofs.lemmas.List.{length-set}
use Rattle.nf_laws.proofs.Indexed.{set_here, set_other}
use Rattle.nf_files.specs.Told.{Told, IsToldAs, IsEmptyIfTold, Same}
use Rattle.nf_files.specs.Openings.{Creates}
use Rattle.nf_files.specs.Pieces.{Takes}
use Rattle.nf_files.specs.Reads.{Reads}
use Rattle.nf_files.specs.Writes.{Writes}
use Rattle.made_captures.specs.Captures.{first_number, port_of, left_at, IsMade, IsGiven}
use Rattle.made_captures.specs.Told.{first_of, names_beyond, names_of, with_made}

-- ---- what is left of each capture

-- one capture is another list, and all others are as they were
same_elsewhere : (captures : List (List ℕ)) (port place : ℕ) (later : List ℕ) → ((place ≡ port) ⊎ (place ≡ port → ⊥)) → (place ≡ port → ⊥) → slice_get (slice_set captures port later) place ≡ slice_get captures place
same_elsewhere captures port place later (inl e) ne = absurd (ne e)
same_elsewhere captures port place later (inr n) ne = set_other captures port place later ne

same_place : (file number first port : ℕ) (b : Bool) → leb first file ≡ b → cond b (Some (file - first)) None ≡ Some port → leb first number ≡ true → number - first ≡ port → number ≡ file
same_place file number first port true p e q f = omega (arith, leb-true first file p, leb-true first number q, f, of_some (file - first) port e)
  where
    of_some : (x y : ℕ) → Some x ≡ Some y → x ≡ y
    of_some x y e = cc
same_place file number first port false p e q f = absurd (no_some port e)
  where
    no_some : (y : ℕ) → None ≡ Some y → ⊥
    no_some y e = cc

other_left : (captures : List (List ℕ)) (later : List ℕ) (file port number first : ℕ) (b : Bool) → leb first number ≡ b → cond (leb first file) (Some (file - first)) None ≡ Some port → number ≢ file
    → option_and_then (λ (p : ℕ). slice_get (slice_set captures port later) p) (cond b (Some (number - first)) None) ≡ option_and_then (λ (p : ℕ). slice_get captures p) (cond b (Some (number - first)) None)
other_left captures later file port number first true q e ne =
    same_elsewhere captures port (number - first) later (cases_eq (number - first) port) (λ f. ne (same_place file number first port (leb first file) refl e q f))
other_left captures later file port number first false q e ne = refl

-- what is left of the captures of other numbers
pub left_other : (captures : List (List ℕ)) (later : List ℕ) (file port number : ℕ) → port_of (length captures) file ≡ Some port → number ≢ file → left_at (slice_set captures port later) number ≡ left_at captures number
left_other captures later file port number e ne =
    ap (λ (n : ℕ). option_and_then (λ (p : ℕ). slice_get (slice_set captures port later) p) (port_of n number)) (length-set captures port later)
    ∙ other_left captures later file port number (first_number (length captures)) (leb (first_number (length captures)) number) refl e ne

-- what is left of that of this number
pub left_this : (captures : List (List ℕ)) (file port : ℕ) → port_of (length captures) file ≡ Some port → left_at captures file ≡ slice_get captures port
left_this captures file port e = ap (option_and_then (λ (p : ℕ). slice_get captures p)) e

pub left_set : (captures : List (List ℕ)) (before later : List ℕ) (file port : ℕ) → port_of (length captures) file ≡ Some port → slice_get captures port ≡ Some before → left_at (slice_set captures port later) file ≡ Some later
left_set captures before later file port e at =
    ap (λ (n : ℕ). option_and_then (λ (p : ℕ). slice_get (slice_set captures port later) p) (port_of n file)) (length-set captures port later)
    ∙ left_this' (slice_set captures port later) (length captures) file port e
    ∙ set_here captures port before later at
  where
    left_this' : (captures : List (List ℕ)) (n file port : ℕ) → port_of n file ≡ Some port → option_and_then (λ (p : ℕ). slice_get captures p) (port_of n file) ≡ slice_get captures port
    left_this' captures n file port e = ap (option_and_then (λ (p : ℕ). slice_get captures p)) e

-- ---- names

beyond_on : (mark : List ℕ) (old new : ℕ → Option (List ℕ)) (k : ℕ) → ((n : ℕ) → 2 ^ 32 ≤ n → new n ≡ old n) → names_beyond mark new k ≡ names_beyond mark old k
beyond_on mark old new zero same = refl
beyond_on mark old new (suc k) same = same (2 ^ 32 + k) (omega arith)

either_on : (mark : List ℕ) (old new : ℕ → Option (List ℕ)) (g : ℕ) (b : Bool) → new g ≡ old g ⊎ (2 ^ 32 ≤ g) → ((n : ℕ) → 2 ^ 32 ≤ n → new n ≡ old n) → ltb g (2 ^ 32) ≡ b → cond b (new g) (names_beyond mark new (g - 2 ^ 32)) ≡ cond b (old g) (names_beyond mark old (g - 2 ^ 32))
either_on mark old new g true (inl e) same t = e
either_on mark old new g true (inr le) same t = absurd (omega (arith, le, ltb-true g (2 ^ 32) t))
either_on mark old new g false e same t = beyond_on mark old new (g - 2 ^ 32) same

pub names_on : (mark : List ℕ) (old new : ℕ → Option (List ℕ)) → ((g : ℕ) → new g ≡ old g) → (g : ℕ) → names_of mark new g ≡ names_of mark old g
names_on mark old new same g = either_on mark old new g (ltb g (2 ^ 32)) (inl (same g)) (λ n le. same n) refl

names_but : (mark : List ℕ) (file : ℕ) (old new : ℕ → Option (List ℕ)) → file < 2 ^ 32 → ((g : ℕ) → g ≢ file → new g ≡ old g) → (g : ℕ) → g ≢ file → names_of mark new g ≡ names_of mark old g
names_but mark file old new lt same g ne = either_on mark old new g (ltb g (2 ^ 32)) (inl (same g ne)) (λ n le. same n (λ e. omega (arith, lt, le, e))) refl

pub name_low : (mark : List ℕ) (name : ℕ → Option (List ℕ)) (g : ℕ) → g < 2 ^ 32 → names_of mark name g ≡ name g
name_low mark name g lt = ap (λ (b : Bool). cond b (name g) (names_beyond mark name (g - 2 ^ 32))) (lt-ltb g (2 ^ 32) lt)

-- ---- files that are created and written

pub creates_on : (captures : List (List ℕ)) (mark : List ℕ) (old new : Told) (created : List ℕ) (file : ℕ) → file < 2 ^ 32 → Creates old new created file → Creates (with_made captures mark old) (with_made captures mark new) created file
creates_on captures mark old new created file lt c = record {
  number = c.number;
  from_two = c.from_two;
  then = c.then;
  empty = c.empty;
  named = subst (IsToldAs created) (sym (name_low mark new.name file lt)) c.named;
  last = c.last;
  follows = c.follows;
  rests = λ g ne. ap (first_of (left_at captures g)) (c.rests g ne);
  givens = c.givens;
  names = names_but mark file old.name new.name lt c.names;
  written = c.written;
  kinds = c.kinds;
  contents = c.contents;
  latest_other = c.latest_other;
}

pub writes_on : (captures : List (List ℕ)) (mark : List ℕ) (old new : Told) (file : ℕ) (piece : List ℕ) → file < 2 ^ 32 → Writes old new file piece → Writes (with_made captures mark old) (with_made captures mark new) file piece
writes_on captures mark old new file piece lt w = record {
  gained = w.gained;
  current = λ n now. let later = w.current n (record { last = now.last; follows = now.follows }) in record { last = later.last; follows = later.follows };
  contents = λ n ne. w.contents n (λ e. ne (name_low mark old.name file lt ∙ e));
  rests = λ g. ap (first_of (left_at captures g)) (w.rests g);
  givens = w.givens;
  names = names_on mark old.name new.name w.names;
  kinds = w.kinds;
  latest_same = w.latest_same;
  next_same = w.next_same;
}

pub same_on : (captures : List (List ℕ)) (mark : List ℕ) (old new : Told) → Same old new → Same (with_made captures mark old) (with_made captures mark new)
same_on captures mark old new s = record {
  contents = s.contents;
  rests = λ g. ap (first_of (left_at captures g)) (s.rests g);
  givens = s.givens;
  names = names_on mark old.name new.name s.names;
  kinds = s.kinds;
  latest_same = s.latest_same;
  next_same = s.next_same;
}

-- ---- one read

taken_so : (front later : List ℕ) (x y o p : Option (List ℕ)) → x ≡ Some (front ++ later) → y ≡ Some later → Takes front (first_of x o) (first_of y p)
taken_so front later x y o p e f = rw (e, f) refl

ended_so : (front : List ℕ) (x o : Option (List ℕ)) → x ≡ Some front → front ≡ [] → IsEmptyIfTold (first_of x o)
ended_so front x o e f = rw e f

none_taken : (count : ℕ) (buffer later : List ℕ) → count ≡ 0 → later ≡ [] → take count buffer ++ later ≡ []
none_taken count buffer later e f = rw (e, f) refl

pub reads_made : (captures new : List (List ℕ)) (mark : List ℕ) (told : Told) (file port count : ℕ) (buffer : List ℕ) → port_of (length captures) file ≡ Some port → count ≤ length buffer → IsGiven port count buffer captures new
    → Reads (with_made captures mark told) (with_made new mark told) file count buffer
reads_made captures new mark told file port count buffer e le g =
    let before = left_this captures file port e ∙ g.given in
    let after : left_at new file ≡ Some g.later = ap (λ (all : List (List ℕ)). left_at all file) g.kept ∙ left_set captures (take count buffer ++ g.later) g.later file port e g.given in
    record {
      within = le;
      taken = taken_so (take count buffer) g.later (left_at captures file) (left_at new file) (told.rest file) (told.rest file) before after;
      at_end = λ none room. ended_so (take count buffer ++ g.later) (left_at captures file) (told.rest file) before (none_taken count buffer g.later none (g.at_end none room));
      kept = record {
        rests = λ n ne. ap (λ (left : Option (List ℕ)). first_of left (told.rest n)) (ap (λ (all : List (List ℕ)). left_at all n) g.kept ∙ left_other captures g.later file port n e ne);
        givens = λ n. refl;
        names = λ n. refl;
        kinds = λ n. refl;
        contents = λ n. refl;
        latest_same = λ n. refl;
        next_same = refl;
      };
    }
