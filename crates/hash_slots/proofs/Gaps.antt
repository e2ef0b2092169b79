-- A gap that is closed from behind.
use Rattle.std.proofs.Common.{◌≡◌, ◌≢◌, ◌∙◌, ap, sym, refl, subst, arith, ℕ, ◌+◌, ◌<◌, ◌≤◌, List, length, inl, inr, ◌⊎◌}
use Rattle.std.specs.Prelude.{Option, Some, None, slice_set, IsSome}
use Rattle.std.proofs.Math.ListN.{length-set}
use Rattle.std.proofs.lemmas.Option.{none-some, same_Some}
use Rattle.std.proofs.lemmas.Bool.{cases_eq}
use Rattle.hash_slots.specs.declared.cells.Pair.{Pair}
use Rattle.hash_slots.specs.Places.{home, slot_at, pairs_of, AreMet, AreMetButOver, AreSamePairs}
use Rattle.hash_slots.proofs.SlotLemmas.{slot-set_same, slot-set_other, slot_within, some_from, no_none, count-set, weight}

-- a slot made empty is a gap
pub gapped :
    (mask : ℕ) (slots : List (Option Pair)) (i : ℕ) → AreMet mask slots → i < length slots
    → AreMetButOver mask i (i + 1) (slice_set slots i None)
gapped mask slots i met lt = record {
  order = omega arith;
  empty = slot-set_same slots i None lt;
  after = λ j p at. met.after j p (old j p at);
  reached = λ j p at x ge x_lt ne. subst (λ (o : Option Pair). IsSome o) (sym (slot-set_other slots i x None ne)) (met.reached j p (old j p at) x ge x_lt);
  over = λ j p at ge lt'. omega arith;
  apart = λ j k p q at_j at_k same. met.apart j k p q (old j p at_j) (old k q at_k) same;
}
  where
    old :
        (j : ℕ) (p : Pair) → slot_at (slice_set slots i None) j ≡ Some p → slot_at slots j ≡ Some p
    old j p at = elim (cases_eq j i) [
      | inl e ↦ absurd (none-some p (sym (slot-set_same slots i None lt) ∙ ap (slot_at (slice_set slots i None)) (sym e) ∙ at))
      | inr ne ↦ sym (slot-set_other slots i j None ne) ∙ at
    ]

-- a pair whose home is behind the gap stays
pub stayed :
    (mask gap at : ℕ) (slots : List (Option Pair)) → AreMetButOver mask gap at slots
    → ((p : Pair) → slot_at slots at ≡ Some p → gap < home mask p.tag)
    → AreMetButOver mask gap (at + 1) slots
stayed mask gap at slots g behind = record {
  order = omega (arith, g.order);
  empty = g.empty;
  after = g.after;
  reached = g.reached;
  over = λ j p there low gap_lt. elim (cases_eq j at) [
    | inl e ↦ absurd (omega (arith, behind p (ap (slot_at slots) (sym e) ∙ there)))
    | inr ne ↦ omega (arith, g.over j p there low gap_lt)
  ];
  apart = g.apart;
}

-- at an empty slot the gap is closed
pub closed :
    (mask gap at : ℕ) (slots : List (Option Pair)) → AreMetButOver mask gap at slots
    → slot_at slots at ≡ None → AreMet mask slots
closed mask gap at slots g none = record {
  after = g.after;
  reached = λ j p there x ge lt. elim (cases_eq x gap) [
    | inl e ↦
        let far = g.over j p there (omega arith) (omega arith) in
        elim (cases_eq j at) [
          | inl f ↦ absurd (none-some p (sym none ∙ ap (slot_at slots) (sym f) ∙ there))
          | inr nf ↦ absurd (no_none (slot_at slots at) none (g.reached j p there at (omega (arith, g.order)) (omega arith) (omega (arith, g.order))))
        ]
    | inr ne ↦ g.reached j p there x ge lt ne
  ];
  apart = g.apart;
}

-- what stands where after the move
record IsMoved (slots new : List (Option Pair)) (gap at : ℕ) (p : Pair) : Type 0 where
  pub here : slot_at new gap ≡ Some p
  pub gone : slot_at new at ≡ None
  pub there : (x : ℕ) → x ≢ gap → x ≢ at → slot_at new x ≡ slot_at slots x

is_moved :
    (slots : List (Option Pair)) (gap at : ℕ) (p : Pair) → gap < at → at < length slots
    → IsMoved slots (slice_set (slice_set slots at None) gap (Some p)) gap at p
is_moved slots gap at p order lt = record {
  here = slot-set_same (slice_set slots at None) gap (Some p) (omega (arith, length-set slots at None));
  gone =
      slot-set_other (slice_set slots at None) gap at (Some p) (omega arith)
      ∙ slot-set_same slots at None lt;
  there = λ x ng na. slot-set_other (slice_set slots at None) gap x (Some p) ng ∙ slot-set_other slots at x None na;
}

-- where a pair stood before the move
record CameFrom (slots : List (Option Pair)) (gap at x : ℕ) (q : Pair) : Type 0 where
  pub from : ℕ
  pub stood : slot_at slots from ≡ Some q
  pub either : ((x ≡ gap) × (from ≡ at)) ⊎ ((x ≢ gap) × ((x ≢ at) × (from ≡ x)))

came_from :
    (slots new : List (Option Pair)) (gap at : ℕ) (p : Pair) (m : IsMoved slots new gap at p)
    → slot_at slots at ≡ Some p → (x : ℕ) (q : Pair) → slot_at new x ≡ Some q
    → CameFrom slots gap at x q
came_from slots new gap at p m stood x q now = elim (cases_eq x gap) [
  | inl e ↦ record { from = at; stood = stood ∙ sym m.here ∙ ap (slot_at new) (sym e) ∙ now; either = inl (e, refl) }
  | inr ng ↦ elim (cases_eq x at) [
    | inl f ↦ absurd (none-some q (sym m.gone ∙ ap (slot_at new) (sym f) ∙ now))
    | inr na ↦ record { from = x; stood = sym (m.there x ng na) ∙ now; either = inr (ng, (na, refl)) }
  ]
]

-- a pair whose home is not behind the gap is moved into it
pub shifted :
    (mask gap at : ℕ) (slots : List (Option Pair)) (p : Pair) → AreMetButOver mask gap at slots
    → slot_at slots at ≡ Some p → home mask p.tag ≤ gap
    → AreMetButOver mask at (at + 1) (slice_set (slice_set slots at None) gap (Some p))
shifted mask gap at slots p g stood low = record {
  order = omega arith;
  empty = m.gone;
  after = λ x q now. let f = came x q now in elim f.either [
    | inl here ↦ omega (arith, ap (λ (y : Pair). home mask y.tag) (the_same x q now here.0))
    | inr other ↦ omega (arith, g.after f.from q f.stood)
  ];
  reached = λ x q now y ge lt ne. elim (cases_eq y gap) [
    | inl e ↦ some_from (slot_at new y) p (ap (slot_at new) e ∙ m.here)
    | inr ng ↦
        let f = came x q now in
        subst (λ (o : Option Pair). IsSome o) (sym (m.there y ng ne)) (g.reached f.from q f.stood y ge (below x y f.from f.either lt) ng)
  ];
  over = λ x q now ge lt. omega arith;
  apart = λ x y q r at_x at_y same.
      let f = came x q at_x in
      let h = came y r at_y in
      alike x y f.from h.from f.either h.either (g.apart f.from h.from q r f.stood h.stood same);
}
  where
    within : at < length slots
    within = slot_within slots at p stood

    new : List (Option Pair)
    new = slice_set (slice_set slots at None) gap (Some p)

    m : IsMoved slots (slice_set (slice_set slots at None) gap (Some p)) gap at p
    m = is_moved slots gap at p g.order within

    came :
        (x : ℕ) (q : Pair) → slot_at (slice_set (slice_set slots at None) gap (Some p)) x ≡ Some q
        → CameFrom slots gap at x q
    came x q now = came_from slots (slice_set (slice_set slots at None) gap (Some p)) gap at p m stood x q now

    the_same :
        (x : ℕ) (q : Pair) → slot_at (slice_set (slice_set slots at None) gap (Some p)) x ≡ Some q
        → x ≡ gap → p ≡ q
    the_same x q now e = same_Some p q (sym m.here ∙ ap (slot_at (slice_set (slice_set slots at None) gap (Some p))) (sym e) ∙ now)

    below :
        (x y from : ℕ) → ((x ≡ gap) × (from ≡ at)) ⊎ ((x ≢ gap) × ((x ≢ at) × (from ≡ x))) → y < x
        → y < from
    below x y from (inl e) lt = omega (arith, e.0, e.1, g.order)
    below x y from (inr e) lt = omega (arith, e.1.1)

    alike :
        (x y from from' : ℕ) → ((x ≡ gap) × (from ≡ at)) ⊎ ((x ≢ gap) × ((x ≢ at) × (from ≡ x)))
        → ((y ≡ gap) × (from' ≡ at)) ⊎ ((y ≢ gap) × ((y ≢ at) × (from' ≡ y))) → from ≡ from' → x ≡ y
    alike x y from from' (inl e) (inl f) same = e.0 ∙ sym f.0
    alike x y from from' (inl e) (inr f) same = absurd (f.1.0 (sym f.1.1 ∙ sym same ∙ e.1))
    alike x y from from' (inr e) (inl f) same = absurd (e.1.0 (sym e.1.1 ∙ same ∙ f.1))
    alike x y from from' (inr e) (inr f) same = sym e.1.1 ∙ same ∙ f.1.1

-- the move leaves each pair somewhere
pub shifted_same :
    (gap at : ℕ) (slots : List (Option Pair)) (p : Pair) → slot_at slots gap ≡ None → gap < at
    → slot_at slots at ≡ Some p
    → AreSamePairs slots (slice_set (slice_set slots at None) gap (Some p))
shifted_same gap at slots p none order stood = record {
  carried = λ x q old. elim (cases_eq x at) [
    | inl e ↦ (gap, m.here ∙ sym stood ∙ ap (slot_at slots) (sym e) ∙ old)
    | inr na ↦ (x, m.there x (λ e. none-some q (sym none ∙ ap (slot_at slots) (sym e) ∙ old)) na ∙ old)
  ];
  brought = λ x q now. let f = came_from slots _ gap at p m stood x q now in (f.from, f.stood);
  count = omega (arith, first, second, ap weight stood, ap weight (slot-set_other slots at gap None (omega arith) ∙ none));
  size = length-set (slice_set slots at None) gap (Some p) ∙ length-set slots at None;
}
  where
    within : at < length slots
    within = slot_within slots at p stood

    m : IsMoved slots (slice_set (slice_set slots at None) gap (Some p)) gap at p
    m = is_moved slots gap at p order within

    first :
        length (pairs_of (slice_set slots at None)) + weight (slot_at slots at) ≡ length (pairs_of slots) + weight None
    first = count-set slots at None within

    second :
        length (pairs_of (slice_set (slice_set slots at None) gap (Some p))) + weight (slot_at (slice_set slots at None) gap) ≡ length (pairs_of (slice_set slots at None)) + weight (Some p)
    second = count-set (slice_set slots at None) gap (Some p) (omega (arith, length-set slots at None, within))

pub same_again : (slots : List (Option Pair)) → AreSamePairs slots slots
same_again slots = record { carried = λ i p at. (i, at); brought = λ i p at. (i, at); count = refl; size = refl }

pub same_along :
    (a b c : List (Option Pair)) → AreSamePairs a b → AreSamePairs b c → AreSamePairs a c
same_along a b c s t = record {
  carried = λ i p at. let h = s.carried i p at in t.carried h.0 p h.1;
  brought = λ i p at. let h = t.brought i p at in s.brought h.0 p h.1;
  count = t.count ∙ s.count;
  size = t.size ∙ s.size;
}
