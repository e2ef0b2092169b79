-- The places of packets, as there are more.
use Rattle.std.proofs.Common.{◌≡◌, ◌≢◌, ⊎_elim, ℕ, zero, suc, ◌+◌, ◌<◌, ◌==◌, Bool, true, false, List, [], ◌∷◌, ◌++◌, length, replicate, take, Some, slice_get, slice_index_or, if◌then◌else◌, refl, ap, sym, ◌∙◌, subst, arith, append-nil, zero-add, length-set, eq-eqb, ne_eqb}
use Rattle.std.specs.Prelude.{slice_set}
use Rattle.std.proofs.lemmas.List.{length-replicate}
use Rattle.std.proofs.lemmas.Option.{get_or_from_slice_get}
use Rattle.nf_base.proofs.Mixes.{got_set}
use Rattle.nf_base.specs.declared.packet.Packet.{Packet}
use Rattle.lock_workers.specs.Dealing.{worker_of, places_from, own_places, AreDealt}

-- a place in front of others, where it is the worker's
abbrev pub own_if : Bool → ℕ → List ℕ → List ℕ
own_if own place rest = if own then place ∷ rest else rest

front_more : (own : Bool) (place : ℕ) (rest more : List ℕ) → own_if own place (rest ++ more) ≡ own_if own place rest ++ more
front_more true place rest more = refl
front_more false place rest more = refl

pub places_more : (workers w place : ℕ) (ps : List Packet) (p : Packet) → places_from workers w place (ps ++ p ∷ []) ≡ places_from workers w place ps ++ own_if (worker_of workers p == w) (place + length ps) []
places_more workers w place [] p = ap (λ (k : ℕ). own_if (worker_of workers p == w) k []) (omega arith)
places_more workers w place (q ∷ qs) p =
    ap (own_if (worker_of workers q == w) place) (places_more workers w (place + 1) qs p)
    ∙ front_more (worker_of workers q == w) place (places_from workers w (place + 1) qs) (own_if (worker_of workers p == w) (place + 1 + length qs) [])
    ∙ ap (λ (k : ℕ). own_if (worker_of workers q == w) place (places_from workers w (place + 1) qs) ++ own_if (worker_of workers p == w) k []) (omega arith)

own_more : (workers w : ℕ) (ps : List Packet) (p : Packet) → worker_of workers p ≡ w → own_places workers w (ps ++ p ∷ []) ≡ own_places workers w ps ++ length ps ∷ []
own_more workers w ps p is =
    places_more workers w 0 ps p
    ∙ ap (λ (own : Bool). places_from workers w 0 ps ++ own_if own (0 + length ps) []) (eq-eqb (worker_of workers p) w is)
    ∙ ap (λ (k : ℕ). places_from workers w 0 ps ++ k ∷ []) (zero-add (length ps))

other_more : (workers w : ℕ) (ps : List Packet) (p : Packet) → worker_of workers p ≢ w → own_places workers w (ps ++ p ∷ []) ≡ own_places workers w ps
other_more workers w ps p ne =
    places_more workers w 0 ps p
    ∙ ap (λ (own : Bool). places_from workers w 0 ps ++ own_if own (0 + length ps) []) (ne_eqb (worker_of workers p) w ne)
    ∙ append-nil (places_from workers w 0 ps)

-- a packet more is dealt
pub dealt_more : (workers : ℕ) (ps : List Packet) (p : Packet) (own new : List (List ℕ)) (w n : ℕ) → AreDealt workers ps own → w ≡ worker_of workers p → w < length own → n ≡ length ps → new ≡ slice_set own w (slice_index_or own w [] ++ n ∷ []) → AreDealt workers (ps ++ p ∷ []) new
dealt_more workers ps p own new w n dealt is lt long e = record {
  many = ap length e ∙ length-set own w (slice_index_or own w [] ++ n ∷ []) ∙ dealt.many;
  each = λ v places at.
      let here = some_of own w lt in
      ⊎_elim
      (λ (x : (v ≡ w) × (slice_index_or own w [] ++ n ∷ [] ≡ places)).
      sym x.1 ∙ ap (λ (qs : List ℕ). qs ++ n ∷ []) (get_or_from_slice_get own w here.0 [] here.1 ∙ dealt.each w here.0 here.1)
      ∙ ap (λ (k : ℕ). own_places workers w ps ++ k ∷ []) long
      ∙ sym (own_more workers w ps p (sym is))
      ∙ ap (λ (k : ℕ). own_places workers k (ps ++ p ∷ [])) (sym x.0))
      (λ (x : (v ≢ w) × (slice_get own v ≡ Some places)). dealt.each v places x.1 ∙ sym (other_more workers v ps p (λ q. x.0 (sym q ∙ sym is))))
      (got_set own w v (slice_index_or own w [] ++ n ∷ []) places (subst (λ (z : List (List ℕ)). slice_get z v ≡ Some places) e at));
}
  where
    some_of : (xs : List (List ℕ)) (k : ℕ) → k < length xs → (x : List ℕ) × (slice_get xs k ≡ Some x)
    some_of [] k lt = absurd (omega (arith, lt))
    some_of (x ∷ xs) zero lt = (x, refl)
    some_of (x ∷ xs) (suc k) lt = some_of xs k (omega (arith, lt))

-- nothing is dealt
pub dealt_none : (workers : ℕ) (own : List (List ℕ)) → own ≡ replicate workers [] → AreDealt workers [] own
dealt_none workers own e = record {
  many = ap (λ (z : List (List ℕ)). length z) e ∙ length-replicate workers nothing;
  each = λ w places at. empty workers w places (subst (λ (z : List (List ℕ)). slice_get z w ≡ Some places) e at);
}
  where
    nothing : List ℕ
    nothing = []

    empty : (n w : ℕ) (places : List ℕ) → slice_get (replicate n []) w ≡ Some places → places ≡ []
    empty zero w places at = absurd cc
    empty (suc n) zero places at = cc at
    empty (suc n) (suc w) places at = empty n w places at

pub long_take : {A : Type 0} (i : ℕ) (xs : List A) → i < length xs → length (take i xs) ≡ i
long_take zero xs lt = refl
long_take (suc i) [] lt = absurd (omega (arith, lt))
long_take (suc i) (x ∷ xs) lt = ap suc (long_take i xs (omega (arith, lt)))
