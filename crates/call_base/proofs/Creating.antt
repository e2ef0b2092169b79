-- Files that are created one after another.
use Rattle.std.proofs.Common.{◌≡◌, ◌≢◌, inl, inr, ℕ, ◌+◌, ◌<◌, ◌≤◌, List, [], ◌∷◌, ◌++◌, length, length-append, slice_get, Option, Some, None, refl, ap, sym, subst, ◌∙◌, arith}
use Rattle.std.proofs.lemmas.Option.{slice_get_within}
use Rattle.std.proofs.Math.Nat.{eq-or-lt_of_le}
use Rattle.nf_files.specs.Told.{Told, Same, IsToldAs, IsEmptyIfTold}
use Rattle.nf_files.specs.Openings.{Opens, Creates}
use Rattle.call_base.specs.Outside.{IsUntouched}
use Rattle.call_base.specs.Created.{IsStanding}
use Rattle.call_base.specs.Opened.{AreOpened, AreCreated}
use Rattle.call_base.proofs.Got.{got_either, got_unique}

pub told_some : {A : Type 0} (o : Option A) (x y : A) → IsToldAs x o → o ≡ Some y → y ≡ x
told_some None x y told e = cc
told_some (Some z) x y told e = cc (told, e)

-- a name that is told as one is no other
pub named_other : (x n : List ℕ) (o : Option (List ℕ)) → IsToldAs x o → x ≢ n → o ≢ Some n
named_other x n o told other e = other (sym (told_some o x n told e))

pub created_none : (t : Told) (name : ℕ → List ℕ) → AreCreated t t name 0
created_none t name = record {
  next = omega arith;
  names = λ k lt. absurd (omega (arith, lt));
  standing = λ k lt. absurd (omega (arith, lt));
  empties = λ k lt. absurd (omega (arith, lt));
  contents = λ n others. refl;
  rests = λ g lt. refl;
  givens = λ g lt. refl;
  kinds = λ g k was. was;
}

-- what stands under a name, where another one is created
pub standing_created : (b c : Told) (made : List ℕ) (file : ℕ) (n : List ℕ) (g : ℕ) → Creates b c made file → n ≢ made → g ≢ file → IsStanding b n g → IsStanding c n g
standing_created b c made file n g h other ne stands = λ latest e.
    let was = stands latest (sym (h.latest_other n other) ∙ e) in
    (was.0, h.contents n other ∙ was.1 ∙ sym (h.givens g ne))

-- what stands under a name that is created
pub standing_new : (b c : Told) (made : List ℕ) (file : ℕ) → Creates b c made file → IsStanding c made file
standing_new b c made file h = λ latest e. (told_some (c.latest made) file latest h.last e, h.follows)

-- one file more was created
pub created_more : (a b c : Told) (name : ℕ → List ℕ) (made file : ℕ) → AreCreated a b name made → Creates b c (name made) file → ((k : ℕ) → k < made → name k ≢ name made) → AreCreated a c name (made + 1)
created_more a b c name made file s h apart =
    let at : file ≡ a.next + made = h.number ∙ s.next in
    let other : (k : ℕ) → k < made → a.next + k ≢ file = λ k lt e. omega (arith, e, at, lt) in
    record {
      next = omega (arith, h.then, s.next);
      names = λ k lt. elim (eq-or-lt_of_le {n = k} {m = made} (omega (arith, lt))) [
        | inl new ↦ subst (λ (j : ℕ). IsToldAs (name j) (c.name (a.next + j))) (sym new) (subst (λ (g : ℕ). IsToldAs (name made) (c.name g)) at h.named)
        | inr before ↦ subst (λ o. IsToldAs (name k) o) (sym (h.names (a.next + k) (other k before))) (s.names k before)
      ];
      standing = λ k lt. elim (eq-or-lt_of_le {n = k} {m = made} (omega (arith, lt))) [
        | inl new ↦ subst (λ (j : ℕ). IsStanding c (name j) (a.next + j)) (sym new) (subst (λ (g : ℕ). IsStanding c (name made) g) at (standing_new b c (name made) file h))
        | inr before ↦ standing_created b c (name made) file (name k) (a.next + k) h (apart k before) (other k before) (s.standing k before)
      ];
      empties = λ k lt. elim (eq-or-lt_of_le {n = k} {m = made} (omega (arith, lt))) [
        | inl new ↦ subst (λ (j : ℕ). IsEmptyIfTold (c.given (a.next + j))) (sym new) (subst (λ (g : ℕ). IsEmptyIfTold (c.given g)) at h.empty)
        | inr before ↦ subst IsEmptyIfTold (sym (h.givens (a.next + k) (other k before))) (s.empties k before)
      ];
      contents = λ n others. h.contents n (λ e. others made (omega arith) (sym e)) ∙ s.contents n (λ k lt. others k (omega (arith, lt)));
      rests = λ g lt. h.rests g (λ e. omega (arith, e, at, lt)) ∙ s.rests g lt;
      givens = λ g lt. h.givens g (λ e. omega (arith, e, at, lt)) ∙ s.givens g lt;
      kinds = λ g k was. h.kinds g k (s.kinds g k was);
    }

standing_same : (b c : Told) (n : List ℕ) (g : ℕ) → Same b c → IsStanding b n g → IsStanding c n g
standing_same b c n g h stands = λ latest e.
    let was = stands latest (sym (h.latest_same n) ∙ e) in
    (was.0, h.contents n ∙ was.1 ∙ sym (h.givens g))

-- a call that changed nothing
pub created_same : (a b c : Told) (name : ℕ → List ℕ) (made : ℕ) → AreCreated a b name made → Same b c → AreCreated a c name made
created_same a b c name made s h = record {
  next = h.next_same ∙ s.next;
  names = λ k lt. subst (λ o. IsToldAs (name k) o) (sym (h.names (a.next + k))) (s.names k lt);
  standing = λ k lt. standing_same b c (name k) (a.next + k) h (s.standing k lt);
  empties = λ k lt. subst IsEmptyIfTold (sym (h.givens (a.next + k))) (s.empties k lt);
  contents = λ n others. h.contents n ∙ s.contents n others;
  rests = λ g lt. h.rests g ∙ s.rests g lt;
  givens = λ g lt. h.givens g ∙ s.givens g lt;
  kinds = λ g k was. h.kinds g ∙ s.kinds g k was;
}

-- ---- names that are opened one after another

pub opened_none : (t : Told) (names : List (List ℕ)) → AreOpened t t names []
opened_none t names = record { next = omega arith; numbers = λ i f got. cc; rests = λ i f n got name. cc }

-- one name more was opened
pub opened_more : (a b c : Told) (names : List (List ℕ)) (opened : List ℕ) (n : List ℕ) (file : ℕ) → AreOpened a b names opened → ((m : List ℕ) → b.content m ≡ a.content m) → slice_get names (length opened) ≡ Some n → Opens b c n file → AreOpened a c names (opened ++ file ∷ [])
opened_more a b c names opened n file h same name k = record {
  next = k.then ∙ omega (arith, h.next, length-append opened (file ∷ []));
  numbers = λ i f got. elim (got_either opened file i f got) [
    | inl was ↦ h.numbers i f was
    | inr new ↦ new.1 ∙ k.number ∙ h.next ∙ ap (λ (j : ℕ). a.next + j) (sym new.0)
  ];
  rests = λ i f m got named. elim (got_either opened file i f got) [
    | inl was ↦ k.rests f (λ e. omega (arith, e, h.numbers i f was, slice_get_within opened i f was, h.next, k.number)) ∙ h.rests i f m was named
    | inr new ↦ ap c.rest new.1 ∙ k.left ∙ same n ∙ ap a.content (sym (got_unique (slice_get names i) n m (ap (slice_get names) new.0 ∙ name) named))
  ];
}

-- ---- nothing is changed by what is opened

pub untouched_none : (t : Told) → IsUntouched t t
untouched_none t = record { contents = λ n. refl; standard = λ g lt. refl }

pub untouched_both : (a b c : Told) → IsUntouched a b → IsUntouched b c → IsUntouched a c
untouched_both a b c h k = record {
  contents = λ n. k.contents n ∙ h.contents n;
  standard = λ g lt. k.standard g lt ∙ h.standard g lt;
}

pub untouched_same : (a b : Told) → Same a b → IsUntouched a b
untouched_same a b h = record { contents = h.contents; standard = λ g lt. h.givens g }

pub untouched_opened : (a b : Told) (n : List ℕ) (file : ℕ) → Opens a b n file → IsUntouched a b
untouched_opened a b n file h = record {
  contents = h.contents;
  standard = λ g lt. h.givens g (λ e. omega (arith, e, lt, h.from_two));
}
