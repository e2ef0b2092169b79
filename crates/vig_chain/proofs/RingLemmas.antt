-- A ring keeps its shape where a cell is taken out of it, or put last in it.
use Rattle.std.proofs.Common.{◌≡◌, ◌≢◌, ◌∙◌, ap, sym, refl, arith, ℕ, zero, suc, ◌+◌, ◌<◌, ◌≤◌, inl, inr, cond, ne_eqb, eq-eqb}
use Rattle.std.specs.Prelude.{◌==◌}
use Rattle.std.proofs.lemmas.Bool.{cases_eq, cases_lt, cond-true, cond-false}
use Rattle.vig_chain.specs.Rings.{IsLinked}

-- a function changed at one place
pub record IsAt (f g : ℕ → ℕ) (i v : ℕ) : Type 0 where
  pub here : g i ≡ v
  pub there : (j : ℕ) → j ≢ i → g j ≡ f j

-- a cell of a ring that is no beginning is not next to itself
pub apart_prev :
    (size i : ℕ) (next prev ring_of : ℕ → ℕ) (k : IsLinked size next prev ring_of)
    → size ≤ ring_of i → i < size → prev i ≢ i
apart_prev size i next prev ring_of k on below same =
    let up : k.rank (prev i) < k.rank i = k.rising i on below (omega arith) in
    let e : k.rank (prev i) ≡ k.rank i = ap k.rank same in
    omega arith

pub apart_next :
    (size i : ℕ) (next prev ring_of : ℕ → ℕ) (k : IsLinked size next prev ring_of)
    → size ≤ ring_of i → i < size → next i ≢ i
apart_next size i next prev ring_of k on below same = apart_prev size i next prev ring_of k on below (sym (ap prev same) ∙ k.back i on)

-- what stays of a cell's place where a cell `i` is taken out
pub record Stays (size i : ℕ) (next prev ring_of ring_of' : ℕ → ℕ) (j : ℕ) : Type 0 where
  pub other : j ≢ i
  pub on : size ≤ ring_of j
  pub ring_is : ring_of' j ≡ ring_of j
  pub next_ring : next j ≢ i → ring_of' (next j) ≡ ring_of j
  pub prev_ring : prev j ≢ i → ring_of' (prev j) ≡ ring_of j
  pub from_prev : next j ≡ i → j ≡ prev i
  pub from_next : prev j ≡ i → j ≡ next i

pub stays :
    (size i : ℕ) (next prev ring_of ring_of' : ℕ → ℕ) (k : IsLinked size next prev ring_of)
    → IsAt ring_of ring_of' i 0 → (j : ℕ) → size ≤ ring_of' j
    → Stays size i next prev ring_of ring_of' j
stays size i next prev ring_of ring_of' k h j at =
    let some = k.some in
    let other : j ≢ i = λ same. let e : ring_of' j ≡ 0 = ap ring_of' same ∙ h.here in omega arith in
    let is : ring_of' j ≡ ring_of j = h.there j other in
    let on : size ≤ ring_of j = omega arith in
    record {
      other = other;
      on = on;
      ring_is = is;
      next_ring = λ ne. h.there (next j) ne ∙ k.next_ring j on;
      prev_ring = λ ne. h.there (prev j) ne ∙ k.prev_ring j on;
      from_prev = λ e. sym (k.back j on) ∙ ap prev e;
      from_next = λ e. sym (k.forth j on) ∙ ap next e;
    }

unfoldable pub taken_out : (size i : ℕ) (next prev ring_of next' prev' ring_of' : ℕ → ℕ) (k : IsLinked size next prev ring_of) → size ≤ ring_of i → i < size → IsAt next next' (prev i) (next i) → IsAt prev prev' (next i) (prev i) → IsAt ring_of ring_of' i 0 → IsLinked size next' prev' ring_of'
taken_out size i next prev ring_of next' prev' ring_of' k on below n p h = record {
  rank = k.rank;
  rank_bound = k.rank_bound;
  some = k.some;
  begins = h.there size (omega arith) ∙ k.begins;
  begins_free = h.there (size + 1) (omega arith) ∙ k.begins_free;
  at_begin = λ j above at. let ne : j ≢ i = omega arith in h.there j ne ∙ k.at_begin j above (rw (h.there j ne) at at);
  next_ring = λ j at.
      let s = stays size i next prev ring_of ring_of' k h j at in
      elim (cases_eq j (prev i)) [
        | inl e ↦ ap ring_of' (ap next' e ∙ n.here) ∙ h.there (next i) not_next ∙ k.next_ring i on ∙ sym (k.prev_ring i on) ∙ ap ring_of (sym e) ∙ sym s.ring_is
        | inr ne ↦ ap ring_of' (n.there j ne) ∙ s.next_ring (λ e. ne (s.from_prev e)) ∙ sym s.ring_is
      ];
  prev_ring = λ j at.
      let s = stays size i next prev ring_of ring_of' k h j at in
      elim (cases_eq j (next i)) [
        | inl e ↦ ap ring_of' (ap prev' e ∙ p.here) ∙ h.there (prev i) not_prev ∙ k.prev_ring i on ∙ sym (k.next_ring i on) ∙ ap ring_of (sym e) ∙ sym s.ring_is
        | inr ne ↦ ap ring_of' (p.there j ne) ∙ s.prev_ring (λ e. ne (s.from_next e)) ∙ sym s.ring_is
      ];
  back = λ j at.
      let s = stays size i next prev ring_of ring_of' k h j at in
      elim (cases_eq j (prev i)) [
        | inl e ↦ ap prev' (ap next' e ∙ n.here) ∙ p.here ∙ sym e
        | inr ne ↦ ap prev' (n.there j ne) ∙ p.there (next j) (λ e. s.other (sym (k.back j s.on) ∙ ap prev e ∙ k.back i on)) ∙ k.back j s.on
      ];
  forth = λ j at.
      let s = stays size i next prev ring_of ring_of' k h j at in
      elim (cases_eq j (next i)) [
        | inl e ↦ ap next' (ap prev' e ∙ p.here) ∙ n.here ∙ sym e
        | inr ne ↦ ap next' (p.there j ne) ∙ n.there (prev j) (λ e. s.other (sym (k.forth j s.on) ∙ ap next e ∙ k.forth i on)) ∙ k.forth j s.on
      ];
  rising = λ j at j_below prev_below.
      let s = stays size i next prev ring_of ring_of' k h j at in
      elim (cases_eq j (next i)) [
        | inl e ↦ skips j e j_below prev_below
        | inr ne ↦ let same = p.there j ne in rw same (k.rising j s.on j_below (rw same at prev_below))
      ];
  under = k.under;
}
  where
    not_prev : prev i ≢ i
    not_prev = apart_prev size i next prev ring_of k on below

    not_next : next i ≢ i
    not_next = apart_next size i next prev ring_of k on below

    skips : (j : ℕ) → j ≡ next i → j < size → prev' j < size → k.rank (prev' j) < k.rank j
    skips j e j_below prev_below =
        let before : prev' j ≡ prev i = ap prev' e ∙ p.here in
        let back : prev j ≡ i = ap prev e ∙ k.back i on in
        let ring_j : ring_of j ≡ ring_of i = ap ring_of e ∙ k.next_ring i on in
        let first : k.rank (prev i) < k.rank i = k.rising i on below (omega arith) in
        let second : k.rank (prev j) < k.rank j = k.rising j (omega arith) j_below (omega arith) in
        let r : k.rank (prev j) ≡ k.rank i = ap k.rank back in
        let q : k.rank (prev' j) ≡ k.rank (prev i) = ap k.rank before in
        omega arith

-- the ranks with one cell's above all
pub ranked : (ℕ → ℕ) → ℕ → ℕ → ℕ → ℕ
ranked rank i rank_bound j = cond (j == i) rank_bound (rank j)

pub ranked-here : (rank : ℕ → ℕ) (i rank_bound : ℕ) → ranked rank i rank_bound i ≡ rank_bound
unfolding ranked
ranked-here rank i rank_bound = cond-true (i == i) rank_bound (rank i) (eq-eqb i i refl)

pub ranked-there : (rank : ℕ → ℕ) (i rank_bound j : ℕ) → j ≢ i → ranked rank i rank_bound j ≡ rank j
unfolding ranked
ranked-there rank i rank_bound j ne = cond-false (j == i) rank_bound (rank j) (ne_eqb j i ne)

-- the links with a cell `i`, in no ring, put before the beginning `ring` of one
pub record ArePutLast (next prev ring_of next' prev' ring_of' : ℕ → ℕ) (i ring : ℕ) : Type 0 where
  pub next_here : next' i ≡ ring
  pub next_last : next' (prev ring) ≡ i
  pub next_there : (j : ℕ) → j ≢ i → j ≢ prev ring → next' j ≡ next j
  pub prev_here : prev' i ≡ prev ring
  pub prev_first : prev' ring ≡ i
  pub prev_there : (j : ℕ) → j ≢ i → j ≢ ring → prev' j ≡ prev j
  pub ring_here : ring_of' i ≡ ring
  pub ring_there : (j : ℕ) → j ≢ i → ring_of' j ≡ ring_of j

unfoldable pub put_last : (size i ring : ℕ) (next prev ring_of next' prev' ring_of' : ℕ → ℕ) (k : IsLinked size next prev ring_of) → ring_of i ≡ 0 → i < size → size ≤ ring → ring_of ring ≡ ring → ArePutLast next prev ring_of next' prev' ring_of' i ring → IsLinked size next' prev' ring_of'
put_last size i ring next prev ring_of next' prev' ring_of' k off below above begins a = record {
  rank = ranked k.rank i k.rank_bound;
  rank_bound = k.rank_bound + 1;
  some = k.some;
  begins = a.ring_there size (omega arith) ∙ k.begins;
  begins_free = a.ring_there (size + 1) (omega arith) ∙ k.begins_free;
  at_begin = λ j j_above at. let ne : j ≢ i = omega arith in a.ring_there j ne ∙ k.at_begin j j_above (rw (a.ring_there j ne) at at);
  next_ring = λ j at. elim (cases_eq j i) [
    | inl e ↦ ap ring_of' (ap next' e ∙ a.next_here) ∙ a.ring_there ring ring_other ∙ begins ∙ sym (ap ring_of' e ∙ a.ring_here)
    | inr ne ↦ let is = a.ring_there j ne in let on : size ≤ ring_of j = rw is at at in elim (cases_eq j (prev ring)) [
      | inl e ↦ ap ring_of' (ap next' e ∙ a.next_last) ∙ a.ring_here ∙ sym (ap ring_of e ∙ last_ring) ∙ sym is
      | inr nl ↦ ap ring_of' (a.next_there j ne nl) ∙ a.ring_there (next j) (off_ring (next j) (ring_of j) (k.next_ring j on) on) ∙ k.next_ring j on ∙ sym is
    ]
  ];
  prev_ring = λ j at. elim (cases_eq j i) [
    | inl e ↦ ap ring_of' (ap prev' e ∙ a.prev_here) ∙ a.ring_there (prev ring) last_other ∙ last_ring ∙ sym (ap ring_of' e ∙ a.ring_here)
    | inr ne ↦ let is = a.ring_there j ne in let on : size ≤ ring_of j = rw is at at in elim (cases_eq j ring) [
      | inl e ↦ ap ring_of' (ap prev' e ∙ a.prev_first) ∙ a.ring_here ∙ sym (ap ring_of e ∙ begins) ∙ sym is
      | inr nl ↦ ap ring_of' (a.prev_there j ne nl) ∙ a.ring_there (prev j) (off_ring (prev j) (ring_of j) (k.prev_ring j on) on) ∙ k.prev_ring j on ∙ sym is
    ]
  ];
  back = λ j at. elim (cases_eq j i) [
    | inl e ↦ ap prev' (ap next' e ∙ a.next_here) ∙ a.prev_first ∙ sym e
    | inr ne ↦ let is = a.ring_there j ne in let on : size ≤ ring_of j = rw is at at in elim (cases_eq j (prev ring)) [
      | inl e ↦ ap prev' (ap next' e ∙ a.next_last) ∙ a.prev_here ∙ sym e
      | inr nl ↦ ap prev' (a.next_there j ne nl) ∙ a.prev_there (next j) (off_ring (next j) (ring_of j) (k.next_ring j on) on) (λ e. nl (sym (k.back j on) ∙ ap prev e)) ∙ k.back j on
    ]
  ];
  forth = λ j at. elim (cases_eq j i) [
    | inl e ↦ ap next' (ap prev' e ∙ a.prev_here) ∙ a.next_last ∙ sym e
    | inr ne ↦ let is = a.ring_there j ne in let on : size ≤ ring_of j = rw is at at in elim (cases_eq j ring) [
      | inl e ↦ ap next' (ap prev' e ∙ a.prev_first) ∙ a.next_here ∙ sym e
      | inr nl ↦ ap next' (a.prev_there j ne nl) ∙ a.next_there (prev j) (off_ring (prev j) (ring_of j) (k.prev_ring j on) on) (λ e. nl (sym (k.forth j on) ∙ ap next e ∙ k.forth ring ring_on)) ∙ k.forth j on
    ]
  ];
  rising = λ j at j_below prev_below. elim (cases_eq j i) [
    | inl e ↦ after_last j e prev_below
    | inr ne ↦
        let is = a.ring_there j ne in
        let on : size ≤ ring_of j = rw is at at in
        let before : prev' j ≡ prev j = a.prev_there j ne (omega arith) in
        let other : prev j ≢ i = off_ring (prev j) (ring_of j) (k.prev_ring j on) on in
        rw (before, ranked-there k.rank i k.rank_bound (prev j) other, ranked-there k.rank i k.rank_bound j ne) (k.rising j on j_below (rw before at prev_below))
  ];
  under = λ j j_below. elim (cases_eq j i) [
    | inl e ↦ rw (e, ranked-here k.rank i k.rank_bound) (omega arith)
    | inr ne ↦ let u = k.under j j_below in rw (ranked-there k.rank i k.rank_bound j ne) (omega arith)
  ];
}
  where
    ring_on : size ≤ ring_of ring
    ring_on = omega arith

    ring_other : ring ≢ i
    ring_other = omega arith

    last_ring : ring_of (prev ring) ≡ ring
    last_ring = k.prev_ring ring ring_on ∙ begins

    off_ring : (j h : ℕ) → ring_of j ≡ h → size ≤ h → j ≢ i
    off_ring j h is on same =
        let some = k.some in
        let e : ring_of j ≡ 0 = ap ring_of same ∙ off in
        omega arith

    last_other : prev ring ≢ i
    last_other = off_ring (prev ring) ring last_ring above

    after_last :
        (j : ℕ) → j ≡ i → prev' j < size
        → ranked k.rank i k.rank_bound (prev' j) < ranked k.rank i k.rank_bound j
    after_last j e prev_below =
        let before : prev' j ≡ prev ring = ap prev' e ∙ a.prev_here in
        let low : prev ring < size = omega arith in
        let u = k.under (prev ring) low in
        rw (before, e, ranked-there k.rank i k.rank_bound (prev ring) last_other, ranked-here k.rank i k.rank_bound) u

-- What the first cell of a ring is: an index whose rank is at most that of each index in the ring.
pub record IsFirst (size ring : ℕ) (next ring_of : ℕ → ℕ) (rank : ℕ → ℕ) (j : ℕ) : Type 0 where
  pub below : next ring < size
  pub at_ring : ring_of (next ring) ≡ ring
  pub least : rank (next ring) ≤ rank j

first_within :
    (n size ring j : ℕ) (next prev ring_of : ℕ → ℕ) (k : IsLinked size next prev ring_of)
    → size ≤ ring → ring_of j ≡ ring → j < size → k.rank j < n
    → IsFirst size ring next ring_of k.rank j
first_within zero size ring j next prev ring_of k above is j_below low = absurd (omega arith)
first_within (suc n) size ring j next prev ring_of k above is j_below low = elim (cases_lt (prev j) size) [
  | inl lt ↦
      let rise = k.rising j on j_below lt in
      let first = first_within n size ring (prev j) next prev ring_of k above (k.prev_ring j on ∙ is) lt (omega arith) in
      record { below = first.below; at_ring = first.at_ring; least = omega (arith, first.least, rise) }
  | inr ge ↦
      let at : ring_of (prev j) ≡ ring = k.prev_ring j on ∙ is in
      let on_prev : size ≤ ring_of (prev j) = omega arith in
      let begin : prev j ≡ ring = sym (k.at_begin (prev j) ge on_prev) ∙ at in
      let e : next ring ≡ j = ap next (sym begin) ∙ k.forth j on in
      first_is e
]
  where
    on : size ≤ ring_of j
    on = omega arith

    first_is : next ring ≡ j → IsFirst size ring next ring_of k.rank j
    first_is e = record { below = omega arith; at_ring = ap ring_of e ∙ is; least = omega (arith, ap k.rank e) }

pub first :
    (size ring j : ℕ) (next prev ring_of : ℕ → ℕ) (k : IsLinked size next prev ring_of)
    → size ≤ ring → ring_of j ≡ ring → j < size → IsFirst size ring next ring_of k.rank j
first size ring j next prev ring_of k above is j_below = first_within (k.rank j + 1) size ring j next prev ring_of k above is j_below (omega arith)

-- a ring that goes on beyond its beginning goes on to an index
pub goes_on :
    (size ring : ℕ) (next prev ring_of : ℕ → ℕ) (k : IsLinked size next prev ring_of) → size ≤ ring
    → ring_of ring ≡ ring → next ring ≢ ring → next ring < size
goes_on size ring next prev ring_of k above begins ne = elim (cases_lt (next ring) size) [
  | inl lt ↦ lt
  | inr ge ↦
      let at : ring_of (next ring) ≡ ring = k.next_ring ring (omega arith) ∙ begins in
      absurd (ne (sym (k.at_begin (next ring) ge (omega arith)) ∙ at))
]
