-- Places gathered one after another.
use Rattle.std.proofs.Common.{◌≡◌, ℕ, ◌+◌, ◌<◌, ◌≤◌, ◌==◌, Bool, true, false, ◌||◌, ◌&&◌, List, [], ◌∷◌, ◌++◌, length, get_or, map, take, refl, sym, ap, ◌∙◌, subst, arith, append_assoc}
use Rattle.std.specs.List.{flat_map, list_any}
use Rattle.std.proofs.lemmas.List.{append-nil, map-append, take_all, take_more, length-take-le, length-map}
use Rattle.std.proofs.lemmas.List.Concat.{flat_map-append}
use Rattle.std.proofs.lemmas.List.Folds.{flat_map-map, list_any-append}
use Rattle.nf_base.specs.Statements.{Statement}
use Rattle.nf_base.specs.TextPlaces.{places_in}
use Rattle.access_keys.specs.declared.places.Places.{Places}
use Rattle.access_keys.specs.Reached.{has, HasMore, places_if, places_marked, AreMarked}
use Rattle.access_keys.proofs.Reach.{marked, or_assoc, or_false}
use Rattle.access_keys.proofs.Putting.{taken_more}

-- whether a place is among some
abbrev pub is_among : ℕ → List ℕ → Bool
is_among place xs = list_any (λ n. n == place) xs

pub more_none : (a : Places) → HasMore a a []
more_none a = record { both = λ place. sym (or_false (has a place)) }

pub more_both :
    (a b c : Places) (xs ys : List ℕ) → HasMore a b xs → HasMore b c ys → HasMore a c (xs ++ ys)
more_both a b c xs ys p q = record {
  both = λ place.
      q.both place ∙ ap (λ r. r || is_among place ys) (p.both place)
      ∙ or_assoc (has a place) (is_among place xs) (is_among place ys)
      ∙ ap (λ r. has a place || r) (sym (list_any-append (λ n. n == place) xs ys));
}

-- the places of one item more
pub more_item :
    {A : Type 0} (a b c : Places) (f : A → List ℕ) (xs : List A) (i : ℕ) (x : A) → i < length xs → x ≡ get_or xs i x →
    HasMore a b (flat_map f (take i xs)) → HasMore b c (f x) → HasMore a c (flat_map f (take (i + 1) xs))
more_item a b c f xs i x l e p q =
    let same : flat_map f (take i xs) ++ f x ≡ flat_map f (take (i + 1) xs) =
    sym (ap (flat_map f) (taken_more xs i x l e) ∙ flat_map-append f (take i xs) (x ∷ []) ∙ ap (λ r. flat_map f (take i xs) ++ r) (append-nil (f x))) in
    subst (λ r. HasMore a c r) same (more_both a b c (flat_map f (take i xs)) (f x) p q)

-- the places of all items
pub more_all :
    {A B : Type 0} (a b : Places) (f : B → List ℕ) (v : A → B) (xs : List A) (i : ℕ) → length xs ≤ i →
    HasMore a b (flat_map (λ x. f (v x)) (take i xs)) → HasMore a b (flat_map f (map v xs))
more_all a b f v xs i l p =
    subst (λ r. HasMore a b r) (ap (flat_map (λ x. f (v x))) (take_all i xs l) ∙ sym (flat_map-map f v xs)) p

places_marked-append :
    (ms : List Bool) (ss : List Statement) (m : Bool) (s : Statement) → length ms ≡ length ss →
    places_marked (ms ++ m ∷ []) (ss ++ s ∷ []) ≡ places_marked ms ss ++ places_if m s
places_marked-append [] [] m s e = append-nil (places_if m s)
places_marked-append [] (s' ∷ ss) m s e = absurd (omega arith)
places_marked-append (m' ∷ ms) [] m s e = absurd (omega arith)
places_marked-append (m' ∷ ms) (s' ∷ ss) m s e =
    ap (λ r. places_if m' s' ++ r) (places_marked-append ms ss m s (omega arith))
    ∙ sym (append_assoc (places_if m' s') (places_marked ms ss) (places_if m s))

pub marked_none : (p : Places) → ((place : ℕ) → has p place ≡ false) → AreMarked [] [] p
marked_none p e = record { same = e }

-- the places of one statement more
pub marked_more :
    {A : Type 0} (p q : Places) (v : A → Statement) (ms : List Bool) (ss : List A) (i : ℕ) (m : Bool) (s : A) →
    length ms ≡ length ss → i < length ss → s ≡ get_or ss i s →
    AreMarked (take i ms) (map v (take i ss)) p → HasMore p q (places_if (get_or ms i m) (v s)) →
    AreMarked (take (i + 1) ms) (map v (take (i + 1) ss)) q
marked_more p q v ms ss i m one n l d a b =
    let mark = get_or ms i m in
    let both : length (take i ms) ≡ length (map v (take i ss)) =
    length-take-le i ms (omega arith) ∙ sym (length-map (take i ss) v ∙ length-take-le i ss (omega arith)) in
    let same : places_marked (take i ms) (map v (take i ss)) ++ places_if mark (v one) ≡ places_marked (take (i + 1) ms) (map v (take (i + 1) ss)) =
    sym
    (ap (λ r. places_marked r (map v (take (i + 1) ss))) (take_more ms i m (omega arith))
    ∙ ap (λ r. places_marked (take i ms ++ mark ∷ []) (map v r)) (taken_more ss i one l d)
    ∙ ap (λ r. places_marked (take i ms ++ mark ∷ []) r) (map-append v (take i ss) (one ∷ []))
    ∙ places_marked-append (take i ms) (map v (take i ss)) mark (v one) both) in
    record {
      same = λ place.
          b.both place ∙ ap (λ r. r || is_among place (places_if mark (v one))) (a.same place)
          ∙ sym (list_any-append (λ n. n == place) (places_marked (take i ms) (map v (take i ss))) (places_if mark (v one)))
          ∙ ap (is_among place) same;
    }

-- the places of all statements
pub marked_all :
    {A : Type 0} (p : Places) (v : A → Statement) (ms : List Bool) (ss : List A) (i : ℕ) → length ms ≡ length ss →
    length ss ≤ i → AreMarked (take i ms) (map v (take i ss)) p → AreMarked ms (map v ss) p
marked_all p v ms ss i n l a =
    subst (λ r. AreMarked r (map v ss) p) (take_all i ms (omega arith))
    (subst (λ r. AreMarked (take i ms) (map v r) p) (take_all i ss l) a)

one_marked : (m : Bool) (s : Statement) (place : ℕ) → (m && is_among place (places_in s)) ≡ is_among place (places_if m s)
one_marked true s place = refl
one_marked false s place = refl

-- a place is one of a marked statement where a marked statement has it
pub marked_has :
    (place : ℕ) (ss : List Statement) (ms : List Bool) →
    marked (λ s. is_among place (places_in s)) ss ms ≡ is_among place (places_marked ms ss)
marked_has place [] [] = refl
marked_has place [] (m ∷ ms) = refl
marked_has place (s ∷ ss) [] = refl
marked_has place (s ∷ ss) (m ∷ ms) =
    ap (λ r. (m && is_among place (places_in s)) || r) (marked_has place ss ms)
    ∙ ap (λ r. r || is_among place (places_marked ms ss)) (one_marked m s place)
    ∙ sym (list_any-append (λ n. n == place) (places_if m s) (places_marked ms ss))
