-- A list of opened files of which one was changed.
use Rattle.std.proofs.Common.{◌≡◌, ◌≢◌, ℕ, zero, suc, ◌<◌, List, [], ◌∷◌, ◌++◌, length, take, drop, get_or, set, Option, Some, slice_get, refl, ap, sym, ◌∙◌, arith, true, false}
use Rattle.std.specs.Prelude.{unwrap_or}
use Rattle.std.proofs.lemmas.List.{length-set}
use Rattle.nf_files.specs.declared.memory.opened.OpenFile.{OpenFile}
use Rattle.nf_files.specs.declared.kind.Kind.{Kind}
use Rattle.nf_files.specs.declared.kind.Kind.TheVariants.{Input, Output}
use Rattle.nf_files.specs.Pieces.{Gains, Takes}
use Rattle.nf_files.specs.Told.{IsEmptyIfTold}
use Rattle.nf_files.specs.Opened.{rest_of, left_of, given_of, name_of, kind_of, if_input, if_output, stands_under, later, last_created, Changes}

-- the changed one
pub got_same : {A : Type 0} (xs : List A) (i : ℕ) (y : A) → i < length xs → slice_get (set xs i y) i ≡ Some y
got_same [] i y lt = absurd (omega arith)
got_same (x ∷ xs) zero y lt = refl
got_same (x ∷ xs) (suc i) y lt = got_same xs i y (omega arith)

-- each other
pub got_other : {A : Type 0} (xs : List A) (i g : ℕ) (y : A) → g ≢ i → slice_get (set xs i y) g ≡ slice_get xs g
got_other [] i g y other = refl
got_other (x ∷ xs) zero zero y other = absurd (other refl)
got_other (x ∷ xs) zero (suc g) y other = refl
got_other (x ∷ xs) (suc i) zero y other = refl
got_other (x ∷ xs) (suc i) (suc g) y other = got_other xs i g y (λ e. other (ap suc e))

-- what it was
pub got_was : {A : Type 0} (xs : List A) (i : ℕ) (x : A) → i < length xs → x ≡ get_or xs i x → slice_get xs i ≡ Some x
got_was [] i x lt at = absurd (omega arith)
got_was (z ∷ zs) zero x lt at = ap Some (sym at)
got_was (z ∷ zs) (suc i) x lt at = got_was zs i x (omega arith) at

-- what can't tell the changed one from what it was sees no change
pub same_seen : {A B : Type 0} (f : Option A → B) (xs : List A) (i g : ℕ) (x y : A) → i < length xs → x ≡ get_or xs i x → f (Some y) ≡ f (Some x) → f (slice_get (set xs i y) g) ≡ f (slice_get xs g)
same_seen f [] i g x y lt at same = refl
same_seen f (z ∷ zs) zero zero x y lt at same = same ∙ ap (λ w. f (Some w)) at
same_seen f (z ∷ zs) zero (suc g) x y lt at same = refl
same_seen f (z ∷ zs) (suc i) zero x y lt at same = refl
same_seen f (z ∷ zs) (suc i) (suc g) x y lt at same = same_seen f zs i g x y (omega arith) at same

-- a place that has a kind is in the list
pub within_kind : (xs : List OpenFile) (i : ℕ) (k : Kind) → kind_of (slice_get xs i) ≡ Some k → i < length xs
within_kind [] i k h = cc
within_kind (x ∷ xs) zero k h = omega arith
within_kind (x ∷ xs) (suc i) k h = let below : i < length xs = within_kind xs i k h in omega arith

pub lasts_same : (xs : List OpenFile) (i : ℕ) (x y : OpenFile) (n : List ℕ) → i < length xs → x ≡ get_or xs i x → y.kind ≡ x.kind → y.name ≡ x.name → y.stands ≡ x.stands → last_created (set xs i y) n ≡ last_created xs n
lasts_same [] i x y n lt at kind name stands = refl
lasts_same (z ∷ zs) zero x y n lt at kind name stands =
    ap (later (last_created zs n)) (rw (kind, name, stands) refl ∙ ap (λ (w : OpenFile). stands_under w n) at)
lasts_same (z ∷ zs) (suc i) x y n lt at kind name stands =
    ap (λ o. later o (stands_under z n)) (lasts_same zs i x y n (omega arith) at kind name stands)

name_alike : (x y : OpenFile) → y.kind ≡ x.kind → y.name ≡ x.name → name_of (Some y) ≡ name_of (Some x)
name_alike x y kind name = rw (kind, name) refl

pub changes : (xs : List OpenFile) (i : ℕ) (x y : OpenFile) → i < length xs → x ≡ get_or xs i x → y.kind ≡ x.kind → y.name ≡ x.name → y.stands ≡ x.stands → Changes xs (set xs i y) i
changes xs i x y lt at kind name stands = record {
  others = λ j other. got_other xs i j y other;
  kinds = λ j. same_seen kind_of xs i j x y lt at (ap Some kind);
  names = λ j. same_seen name_of xs i j x y lt at (name_alike x y kind name);
  lasts = λ n. lasts_same xs i x y n lt at kind name stands;
  count = length-set xs i y;
}

takes_kind : (k : Kind) (a b front : List ℕ) → a ≡ front ++ b → Takes front (if_input k a) (if_input k b)
takes_kind Input a b front e = e
takes_kind Output a b front e = tt

gains_kind : (k : Kind) (a b piece : List ℕ) → b ≡ a ++ piece → Gains piece (if_output k a) (if_output k b)
gains_kind Input a b piece e = tt
gains_kind Output a b piece e = e

empty_kind : (k : Kind) (a : List ℕ) → a ≡ [] → IsEmptyIfTold (if_input k a)
empty_kind Input a e = e
empty_kind Output a e = tt

pub takes_here : (xs : List OpenFile) (i : ℕ) (x y : OpenFile) (front : List ℕ) → i < length xs → x ≡ get_or xs i x → y.kind ≡ x.kind → drop x.at x.bytes.items ≡ front ++ drop y.at y.bytes.items → Takes front (rest_of (slice_get xs i)) (rest_of (slice_get (set xs i y) i))
takes_here xs i x y front lt at same taken =
    rw (got_was xs i x lt at, got_same xs i y lt, same) (takes_kind x.kind (drop x.at x.bytes.items) (drop y.at y.bytes.items) front taken)

pub gains_here : (xs : List OpenFile) (i : ℕ) (x y : OpenFile) (piece : List ℕ) → i < length xs → x ≡ get_or xs i x → y.kind ≡ x.kind → y.bytes.items ≡ x.bytes.items ++ piece → Gains piece (given_of (slice_get xs i)) (given_of (slice_get (set xs i y) i))
gains_here xs i x y piece lt at same more =
    rw (got_was xs i x lt at, got_same xs i y lt, same) (gains_kind x.kind x.bytes.items y.bytes.items piece more)

pub empty_here : (xs : List OpenFile) (i : ℕ) (x : OpenFile) → i < length xs → x ≡ get_or xs i x → drop x.at x.bytes.items ≡ [] → IsEmptyIfTold (rest_of (slice_get xs i))
empty_here xs i x lt at none = rw (got_was xs i x lt at) (empty_kind x.kind (drop x.at x.bytes.items) none)

given_alike : (x y : OpenFile) → y.kind ≡ x.kind → y.bytes.items ≡ x.bytes.items → given_of (Some y) ≡ given_of (Some x)
given_alike x y kind bytes = rw (kind, bytes) refl

pub given_same : (xs : List OpenFile) (i : ℕ) (x y : OpenFile) → i < length xs → x ≡ get_or xs i x → y.kind ≡ x.kind → y.bytes.items ≡ x.bytes.items → given_of (slice_get (set xs i y) i) ≡ given_of (slice_get xs i)
given_same xs i x y lt at kind bytes = same_seen given_of xs i i x y lt at (given_alike x y kind bytes)

no_rest : (k : Kind) (a b : List ℕ) → Some k ≡ Some Output → if_input k a ≡ if_input k b
no_rest Input a b h = cc
no_rest Output a b h = refl

-- an output has nothing to be read
pub rest_same : (xs : List OpenFile) (i : ℕ) (x y : OpenFile) → i < length xs → x ≡ get_or xs i x → y.kind ≡ x.kind → kind_of (slice_get xs i) ≡ Some Output → rest_of (slice_get (set xs i y) i) ≡ rest_of (slice_get xs i)
rest_same xs i x y lt at kind out =
    let of_x : Some x.kind ≡ Some Output = sym (ap kind_of (got_was xs i x lt at)) ∙ out in
    same_seen rest_of xs i i x y lt at (rw kind (no_rest x.kind (drop y.at y.bytes.items) (drop x.at x.bytes.items) of_x))

-- the last of the files up to one that was created under the name
pub last_here : (xs : List OpenFile) (k : ℕ) (x : OpenFile) (n : List ℕ) → k < length xs → x ≡ get_or xs k x → stands_under x n ≡ true → last_created (take (suc k) xs) n ≡ Some k
last_here [] k x n lt at named = absurd (omega arith)
last_here (z ∷ zs) zero x n lt at named = rw (sym at, named) refl
last_here (z ∷ zs) (suc k) x n lt at named = rw (last_here zs k x n (omega arith) at named) refl

-- and up to one that wasn't
pub last_before : (xs : List OpenFile) (k : ℕ) (x : OpenFile) (n : List ℕ) → k < length xs → x ≡ get_or xs k x → stands_under x n ≡ false → last_created (take (suc k) xs) n ≡ last_created (take k xs) n
last_before [] k x n lt at named = absurd (omega arith)
last_before (z ∷ zs) zero x n lt at named = rw (sym at, named) refl
last_before (z ∷ zs) (suc k) x n lt at named = ap (λ o. later o (stands_under z n)) (last_before zs k x n (omega arith) at named)

-- what is left of a file that is read
pub rest_here : (xs : List OpenFile) (k : ℕ) (x : OpenFile) → k < length xs → x ≡ get_or xs k x → kind_of (slice_get xs k) ≡ Some Input → rest_of (slice_get xs k) ≡ Some (drop x.at x.bytes.items)
rest_here xs k x lt at kind =
    let was = got_was xs k x lt at in
    let of_x : Some x.kind ≡ Some Input = sym (ap kind_of was) ∙ kind in
    let is : x.kind ≡ Input = cc in
    ap rest_of was ∙ rw is refl

pub left_here : (xs : List OpenFile) (k : ℕ) (x : OpenFile) → k < length xs → x ≡ get_or xs k x → kind_of (slice_get xs k) ≡ Some Input → left_of (slice_get xs k) ≡ drop x.at x.bytes.items
left_here xs k x lt at kind = ap (λ (o : Option (List ℕ)). unwrap_or o []) (rest_here xs k x lt at kind)
