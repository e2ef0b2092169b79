-- How far the files of a run come.
use Rattle.std.proofs.Common.{◌≡◌, ◌≢◌, inl, inr, ℕ, suc, ◌+◌, ◌<◌, ◌≤◌, List, [], ◌∷◌, ◌++◌, length, take, drop, Option, Some, None, slice_get, ◌⊎◌, refl, ap, sym, subst, ◌∙◌, arith}
use Rattle.std.specs.List.{All, AllByRecursion}
use Rattle.std.proofs.lemmas.List.{append-nil, take-append-drop}
use Rattle.std.proofs.lemmas.List.Elements.{All-from_recursion}
use Rattle.std.proofs.lemmas.Bool.{cases_eq}
use Rattle.std.proofs.lemmas.Option.{slice_get_within}
use Rattle.std.proofs.Math.Nat.{eq-or-lt_of_le}
use Rattle.nf_files.specs.Told.{Told, Same, IsToldAs, IsEmptyIfTold, IsCurrent}
use Rattle.nf_files.specs.Pieces.{Gains}
use Rattle.nf_files.specs.Openings.{Creates}
use Rattle.nf_files.specs.Writes.{Writes, WritesFront}
use Rattle.stream_run.specs.Texts.{IsFrontOf}
use Rattle.stream_run.specs.Writing.{IsFrontIfTold, IsSameOrOther, KeepsBut}
use Rattle.call_base.specs.Created.{IsStanding, Left}
use Rattle.call_base.specs.Opened.{AreCreated, AreAllCreated}
use Rattle.call_base.proofs.Creating.{told_some, named_other, standing_created, standing_new}

-- ---- what a file holds

pub front_whole : (bytes : List ℕ) (o : Option (List ℕ)) → IsToldAs bytes o → IsFrontIfTold bytes o
front_whole bytes None told = tt
front_whole bytes (Some given) told = record { later = []; all = append-nil given ∙ told }

pub front_empty : (bytes : List ℕ) (o : Option (List ℕ)) → IsEmptyIfTold o → IsFrontIfTold bytes o
front_empty bytes None empty = tt
front_empty bytes (Some given) empty = record { later = bytes; all = ap (λ (r : List ℕ). r ++ bytes) empty }

gained_whole : (piece : List ℕ) (old new : Option (List ℕ)) → IsEmptyIfTold old → Gains piece old new → IsToldAs piece new
gained_whole piece None None empty gained = tt
gained_whole piece None (Some new) empty gained = absurd gained
gained_whole piece (Some old) None empty gained = absurd gained
gained_whole piece (Some old) (Some new) empty gained = gained ∙ ap (λ (r : List ℕ). r ++ piece) empty

gained_front : (piece later bytes : List ℕ) (old new : Option (List ℕ)) → piece ++ later ≡ bytes → IsEmptyIfTold old → Gains piece old new → IsFrontIfTold bytes new
gained_front piece later bytes None None all empty gained = tt
gained_front piece later bytes None (Some new) all empty gained = absurd gained
gained_front piece later bytes (Some old) None all empty gained = absurd gained
gained_front piece later bytes (Some old) (Some new) all empty gained = record { later = later; all = ap (λ (r : List ℕ). r ++ later) (gained ∙ ap (λ (r : List ℕ). r ++ piece) empty) ∙ all }

-- ---- what stands under a name

standing_written : (b c : Told) (file : ℕ) (piece n : List ℕ) (g : ℕ) → Writes b c file piece → (g ≡ file) ⊎ ((g ≢ file) × (b.name file ≢ Some n)) → IsStanding b n g → IsStanding c n g
standing_written b c file piece n g h (inl same) stands = λ latest e.
    let was = stands latest (sym (h.latest_same n) ∙ e) in
    let last : b.latest n ≡ Some file = sym (h.latest_same n) ∙ e ∙ ap Some (was.0 ∙ same) in
    let now = h.current n (record { last = last; follows = was.1 ∙ ap b.given same }) in
    (was.0, now.follows ∙ ap c.given (sym same))
standing_written b c file piece n g h (inr other) stands = λ latest e.
    let was = stands latest (sym (h.latest_same n) ∙ e) in
    (was.0, h.contents n other.1 ∙ was.1 ∙ sym (h.givens g other.0))

all_in : {A : Type 0} (P : A → Type 0) (xs : List A) → ((k : ℕ) (x : A) → slice_get xs k ≡ Some x → P x) → AllByRecursion P xs
all_in P [] h = tt
all_in P (x ∷ xs) h = (h 0 x refl, all_in P xs (λ k y e. h (suc k) y e))

pub all_at : {A : Type 0} (P : A → Type 0) (xs : List A) → ((k : ℕ) (x : A) → slice_get xs k ≡ Some x → P x) → All P xs
all_at P xs h = All-from_recursion P xs (all_in P xs h)

-- ---- from the files that were created to those of a run

-- the outputs and the journal, of which fronts were given
pub left_run : (before mid ready now : Told) (base : ℕ) (name bytes : ℕ → List ℕ) (targets : List ℕ) (n full : ℕ)
    → ((x : List ℕ) → mid.content x ≡ before.content x) → mid.next ≡ base → AreAllCreated mid ready name targets n
    → ((i j : ℕ) → i < n → j < n → i ≢ j → name i ≢ name j) → KeepsBut targets ready now
    → ((k file : ℕ) → slice_get targets k ≡ Some file → IsFrontIfTold (bytes k) (now.given file))
    → ((k : ℕ) → k < full → IsToldAs (bytes k) (now.given (base + k))) → full ≤ n
    → ((k : ℕ) → k < n → slice_get targets k ≡ Some (base + k))
    → Left before now base name bytes n full
left_run before mid ready now base name bytes targets n full same at made apart kept fronts wholes within got =
    let s = made.created in
    let here : (k : ℕ) → mid.next + k ≡ base + k = λ k. ap (λ (m : ℕ). m + k) at in
    let named : (k : ℕ) → k < n → IsToldAs (name k) (ready.name (base + k)) = λ k lt. subst (λ (g : ℕ). IsToldAs (name k) (ready.name g)) (here k) (s.names k lt) in
    let number : (j g : ℕ) → slice_get targets j ≡ Some g → g ≡ base + j = λ j g e. made.numbers j g e ∙ here j in
    let inside : (j g : ℕ) → slice_get targets j ≡ Some g → j < n = λ j g e. omega (arith, slice_get_within targets j g e, made.all) in
    let name_of : (j g : ℕ) → slice_get targets j ≡ Some g → IsToldAs (name j) (ready.name g) = λ j g e.
    subst (λ (m : ℕ). IsToldAs (name j) (ready.name m)) (sym (number j g e)) (named j (inside j g e)) in
    record {
      next = kept.next_same ∙ s.next ∙ here n;
      names = λ k lt. subst (λ o. IsToldAs (name k) o) (sym (kept.names (base + k))) (named k lt);
      standing = λ k lt latest e.
          let stood = s.standing k lt latest (sym (kept.latest_same (name k)) ∙ e) in
          let is : latest ≡ base + k = stood.0 ∙ here k in
          let now_current = kept.current (name k) (base + k)
          (all_at (IsSameOrOther ready (name k) (base + k)) targets (λ j g q. elim (cases_eq j k) [
            | inl one ↦ inl (number j g q ∙ ap (λ (m : ℕ). base + m) one)
            | inr ne ↦ inr (
              λ z. omega (arith, z, number j g q, ne),
              named_other (name j) (name k) (ready.name g) (name_of j g q) (apart j k (inside j g q) lt ne),
            )
          ]))
          (record {
            last = sym (kept.latest_same (name k)) ∙ e ∙ ap Some is;
            follows = stood.1 ∙ ap ready.given (here k);
          }) in
          (is, now_current.follows);
      fronts = λ k lt. fronts k (base + k) (got k lt);
      wholes = wholes;
      within = within;
      contents = λ x others.
          kept.contents x (all_at (λ (g : ℕ). ready.name g ≢ Some x) targets (λ j g q. named_other (name j) x (ready.name g) (name_of j g q) (others j (inside j g q))))
          ∙ s.contents x others ∙ same x;
    }

-- some of them, to which nothing was given
pub left_begun : (before mid now : Told) (base : ℕ) (name bytes : ℕ → List ℕ) (made : ℕ) → ((x : List ℕ) → mid.content x ≡ before.content x) → mid.next ≡ base → AreCreated mid now name made → Left before now base name bytes made 0
left_begun before mid now base name bytes made same at s =
    let here : (k : ℕ) → mid.next + k ≡ base + k = λ k. ap (λ (m : ℕ). m + k) at in
    record {
      next = s.next ∙ here made;
      names = λ k lt. subst (λ (g : ℕ). IsToldAs (name k) (now.name g)) (here k) (s.names k lt);
      standing = λ k lt. subst (λ (g : ℕ). IsStanding now (name k) g) (here k) (s.standing k lt);
      fronts = λ k lt. front_empty (bytes k) (now.given (base + k)) (subst (λ (g : ℕ). IsEmptyIfTold (now.given g)) (here k) (s.empties k lt));
      wholes = λ k lt. absurd (omega (arith, lt));
      within = omega arith;
      contents = λ x others. s.contents x others ∙ same x;
    }

-- ---- one file more

pub left_created : (before b c : Told) (base : ℕ) (name bytes : ℕ → List ℕ) (made full file : ℕ) → Left before b base name bytes made full → Creates b c (name made) file → ((k : ℕ) → k < made → name k ≢ name made) → Left before c base name bytes (made + 1) full
left_created before b c base name bytes made full file s h apart =
    let at : file ≡ base + made = h.number ∙ s.next in
    let other : (k : ℕ) → k < made → base + k ≢ file = λ k lt e. omega (arith, e, at, lt) in
    record {
      next = omega (arith, h.then, s.next);
      names = λ k lt. elim (eq-or-lt_of_le {n = k} {m = made} (omega (arith, lt))) [
        | inl new ↦ subst (λ (j : ℕ). IsToldAs (name j) (c.name (base + j))) (sym new) (subst (λ (g : ℕ). IsToldAs (name made) (c.name g)) at h.named)
        | inr was ↦ subst (λ o. IsToldAs (name k) o) (sym (h.names (base + k) (other k was))) (s.names k was)
      ];
      standing = λ k lt. elim (eq-or-lt_of_le {n = k} {m = made} (omega (arith, lt))) [
        | inl new ↦ subst (λ (j : ℕ). IsStanding c (name j) (base + j)) (sym new) (subst (λ (g : ℕ). IsStanding c (name made) g) at (standing_new b c (name made) file h))
        | inr was ↦ standing_created b c (name made) file (name k) (base + k) h (apart k was) (other k was) (s.standing k was)
      ];
      fronts = λ k lt. elim (eq-or-lt_of_le {n = k} {m = made} (omega (arith, lt))) [
        | inl new ↦ subst (λ (j : ℕ). IsFrontIfTold (bytes j) (c.given (base + j))) (sym new) (subst (λ (g : ℕ). IsFrontIfTold (bytes made) (c.given g)) at (front_empty (bytes made) (c.given file) h.empty))
        | inr was ↦ subst (λ o. IsFrontIfTold (bytes k) o) (sym (h.givens (base + k) (other k was))) (s.fronts k was)
      ];
      wholes = λ k lt. subst (λ o. IsToldAs (bytes k) o) (sym (h.givens (base + k) (other k (omega (arith, lt, s.within))))) (s.wholes k lt);
      within = omega (arith, s.within);
      contents = λ n others. h.contents n (λ e. others made (omega arith) (sym e)) ∙ s.contents n (λ k lt. others k (omega (arith, lt)));
    }

-- a call that changed nothing
pub left_same : (before b c : Told) (base : ℕ) (name bytes : ℕ → List ℕ) (made full : ℕ) → Left before b base name bytes made full → Same b c → Left before c base name bytes made full
left_same before b c base name bytes made full s h = record {
  next = h.next_same ∙ s.next;
  names = λ k lt. subst (λ o. IsToldAs (name k) o) (sym (h.names (base + k))) (s.names k lt);
  standing = λ k lt latest e.
      let was = s.standing k lt latest (sym (h.latest_same (name k)) ∙ e) in
      (was.0, h.contents (name k) ∙ was.1 ∙ sym (h.givens (base + k)));
  fronts = λ k lt. subst (λ o. IsFrontIfTold (bytes k) o) (sym (h.givens (base + k))) (s.fronts k lt);
  wholes = λ k lt. subst (λ o. IsToldAs (bytes k) o) (sym (h.givens (base + k))) (s.wholes k lt);
  within = s.within;
  contents = λ n others. h.contents n ∙ s.contents n others;
}

-- something was given to the file that was created last
written_last : (before b c : Told) (base : ℕ) (name bytes : ℕ → List ℕ) (n full file : ℕ) (piece : List ℕ) → Left before b base name bytes (n + 1) n → file ≡ base + n → ((k : ℕ) → k < n → name k ≢ name n) → Writes b c file piece
    → IsFrontIfTold (bytes n) (c.given file) → (full ≡ n) ⊎ ((full ≡ n + 1) × IsToldAs (bytes n) (c.given file)) → Left before c base name bytes (n + 1) full
written_last before b c base name bytes n full file piece s at apart h front how =
    let other : (k : ℕ) → k < n → base + k ≢ file = λ k lt e. omega (arith, e, at, lt) in
    let named : IsToldAs (name n) (b.name file) = subst (λ (g : ℕ). IsToldAs (name n) (b.name g)) (sym at) (s.names n (omega arith)) in
    let whole : (k : ℕ) → k < n → IsToldAs (bytes k) (c.given (base + k)) = λ k lt. subst (λ o. IsToldAs (bytes k) o) (sym (h.givens (base + k) (other k lt))) (s.wholes k lt) in
    record {
      next = h.next_same ∙ s.next;
      names = λ k lt. subst (λ o. IsToldAs (name k) o) (sym (h.names (base + k))) (s.names k lt);
      standing = λ k lt. elim (eq-or-lt_of_le {n = k} {m = n} (omega (arith, lt))) [
        | inl last ↦ standing_written b c file piece (name k) (base + k) h (inl (ap (λ (m : ℕ). base + m) last ∙ sym at)) (s.standing k lt)
        | inr was ↦ standing_written b c file piece (name k) (base + k) h (inr (other k was, named_other (name n) (name k) (b.name file) named (λ e. apart k was (sym e)))) (s.standing k lt)
      ];
      fronts = λ k lt. elim (eq-or-lt_of_le {n = k} {m = n} (omega (arith, lt))) [
        | inl last ↦ subst (λ (j : ℕ). IsFrontIfTold (bytes j) (c.given (base + j))) (sym last) (subst (λ (g : ℕ). IsFrontIfTold (bytes n) (c.given g)) at front)
        | inr was ↦ front_whole (bytes k) (c.given (base + k)) (whole k was)
      ];
      wholes = λ k lt. elim how [
        | inl none ↦ whole k (omega (arith, lt, none))
        | inr all ↦ elim (eq-or-lt_of_le {n = k} {m = n} (omega (arith, lt, all.0))) [
          | inl last ↦ subst (λ (j : ℕ). IsToldAs (bytes j) (c.given (base + j))) (sym last) (subst (λ (g : ℕ). IsToldAs (bytes n) (c.given g)) at all.1)
          | inr was ↦ whole k was
        ]
      ];
      within = elim how [ inl none ↦ omega (arith, none) | inr all ↦ omega (arith, all.0) ];
      contents = λ x others. h.contents x (named_other (name n) x (b.name file) named (others n (omega arith))) ∙ s.contents x others;
    }

-- Nothing was given to a file since it was created.
pub left_written : (before b c : Told) (base : ℕ) (name bytes : ℕ → List ℕ) (n file : ℕ) → Left before b base name bytes (n + 1) n → IsEmptyIfTold (b.given file) → file ≡ base + n → ((k : ℕ) → k < n → name k ≢ name n) → Writes b c file (bytes n) → Left before c base name bytes (n + 1) (n + 1)
left_written before b c base name bytes n file s empty at apart h =
    let whole = gained_whole (bytes n) (b.given file) (c.given file) empty h.gained in
    written_last before b c base name bytes n (n + 1) file (bytes n) s at apart h (front_whole (bytes n) (c.given file) whole) (inr (refl, whole))

pub left_half : (before b c : Told) (base : ℕ) (name bytes : ℕ → List ℕ) (n file : ℕ) → Left before b base name bytes (n + 1) n → IsEmptyIfTold (b.given file) → file ≡ base + n → ((k : ℕ) → k < n → name k ≢ name n) → WritesFront b c file (bytes n) → Left before c base name bytes (n + 1) n
left_half before b c base name bytes n file s empty at apart h =
    written_last before b c base name bytes n n file (take h.count (bytes n)) s at apart h.wrote
    (gained_front (take h.count (bytes n)) (drop h.count (bytes n)) (bytes n) (b.given file) (c.given file) (take-append-drop h.count (bytes n)) empty h.wrote.gained) (inl refl)

-- what is printed changes nothing of that
pub left_printed : (before b c : Told) (base : ℕ) (name bytes : ℕ → List ℕ) (made full g : ℕ) (piece : List ℕ) → Left before b base name bytes made full → g < 2 → 2 ≤ base → b.name g ≡ None → Writes b c g piece → Left before c base name bytes made full
left_printed before b c base name bytes made full g piece s lt two unnamed h =
    let other : (k : ℕ) → base + k ≢ g = λ k e. omega (arith, e, lt, two) in
    let nameless : (n : List ℕ) → b.name g ≢ Some n = λ n e. cc (unnamed, e) in
    record {
      next = h.next_same ∙ s.next;
      names = λ k within. subst (λ o. IsToldAs (name k) o) (sym (h.names (base + k))) (s.names k within);
      standing = λ k within. standing_written b c g piece (name k) (base + k) h (inr (other k, nameless (name k))) (s.standing k within);
      fronts = λ k within. subst (λ o. IsFrontIfTold (bytes k) o) (sym (h.givens (base + k) (other k))) (s.fronts k within);
      wholes = λ k within. subst (λ o. IsToldAs (bytes k) o) (sym (h.givens (base + k) (other k))) (s.wholes k within);
      within = s.within;
      contents = λ n others. h.contents n (nameless n) ∙ s.contents n others;
    }
