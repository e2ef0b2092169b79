-- The links of a chain with which nothing was done yet: the own indices in the ring of the
-- available ones, the lesser first.
use Rattle.std.proofs.Common.{◌≡◌, ◌≢◌, ◌∙◌, ap, sym, refl, arith, ℕ, ◌+◌, ◌-◌, ◌*◌, ◌/◌, ◌%◌, ◌<◌, ◌≤◌, inl, inr, eq-eqb, ne_eqb}
use Rattle.std.specs.Prelude.{None, replicate}
use Rattle.std.proofs.Math.Nat.{add-mod_right, add-mul-mod_self_left, mod-add-div, mod-eq_of_lt, mod-lt}
use Rattle.std.proofs.lemmas.Bool.{cases_eq, cases_lt, lt-ltb, le-ltb}
use Rattle.nf_base.specs.declared.share.Share.{Share}
use Rattle.nf_base.specs.Shares.{owns}
use Rattle.vig_chain.specs.Cells.{last_own, next_at_start, prev_at_start}
use Rattle.vig_chain.specs.Rings.{IsLinked, ring_of}
use Rattle.vig_chain.proofs.Slots.{stamp_replicate, ring_within_size, ring_begins, ring_past}

-- where the cells' rings begin, of a share's own indices, of so many
ring : ℕ → Share → ℕ → ℕ
ring size share = ring_of size (owns share) (replicate size None)

-- a cell that stands in a ring
data Standing (size : ℕ) (share : Share) (j : ℕ) : Type 0 where
  index : j < size → j % share.of ≡ share.queue → Standing size share j
  entries : j ≡ size → Standing size share j
  available : j ≡ size + 1 → Standing size share j

ring_own :
    (size : ℕ) (share : Share) (j : ℕ) → j < size → j % share.of ≡ share.queue
    → ring size share j ≡ size + 1
unfolding ring
ring_own size share j lt own =
    ring_within_size size (owns share) (replicate size None) j lt
    ∙ rw (stamp_replicate size j, eq-eqb (j % share.of) share.queue own) refl

ring_other :
    (size : ℕ) (share : Share) (j : ℕ) → j < size → j % share.of ≢ share.queue
    → ring size share j ≡ 0
unfolding ring
ring_other size share j lt other =
    ring_within_size size (owns share) (replicate size None) j lt
    ∙ rw (stamp_replicate size j, ne_eqb (j % share.of) share.queue other) refl

ring_entries : (size : ℕ) (share : Share) → ring size share size ≡ size
unfolding ring
ring_entries size share = ring_begins size (owns share) (replicate size None) size (omega arith) (omega arith)

ring_available : (size : ℕ) (share : Share) → ring size share (size + 1) ≡ size + 1
unfolding ring
ring_available size share = ring_begins size (owns share) (replicate size None) (size + 1) (omega arith) (omega arith)

standing :
    (size : ℕ) (share : Share) (j : ℕ) → 1 ≤ size → size ≤ ring size share j
    → Standing size share j
unfolding ring
standing size share j some on = elim (cases_lt j size) [
  | inl lt ↦ elim (cases_eq (j % share.of) share.queue) [
    | inl own ↦ index lt own
    | inr other ↦ absurd (omega (arith, ring_other size share j lt other))
  ]
  | inr ge ↦ elim (cases_eq j size) [
    | inl e ↦ entries e
    | inr ne ↦ elim (cases_eq j (size + 1)) [
      | inl e ↦ available e
      | inr more ↦ absurd (omega (arith, ring_past size (owns share) (replicate size None) j (omega arith)))
    ]
  ]
]

-- the links by the cells
next_on :
    (size : ℕ) (share : Share) (j : ℕ) → j + share.of < size
    → next_at_start size share j ≡ j + share.of
next_on size share j more =
    let lt : j < size = omega arith in
    rw (lt-ltb j size lt, lt-ltb (j + share.of) size more) refl

next_last :
    (size : ℕ) (share : Share) (j : ℕ) → j < size → size ≤ j + share.of
    → next_at_start size share j ≡ size + 1
next_last size share j lt last = rw (lt-ltb j size lt, le-ltb (j + share.of) size last) refl

next_entries : (size : ℕ) (share : Share) → next_at_start size share size ≡ size
next_entries size share = rw (le-ltb size size (omega arith), eq-eqb size size refl) refl

next_some :
    (size : ℕ) (share : Share) → share.queue < size
    → next_at_start size share (size + 1) ≡ share.queue
next_some size share some =
    let ge : size ≤ size + 1 = omega arith in
    let ne : size + 1 ≢ size = λ e. omega (arith, e) in
    rw (le-ltb (size + 1) size ge, ne_eqb (size + 1) size ne, lt-ltb share.queue size some) refl

next_none :
    (size : ℕ) (share : Share) → size ≤ share.queue
    → next_at_start size share (size + 1) ≡ size + 1
next_none size share none =
    let ge : size ≤ size + 1 = omega arith in
    let ne : size + 1 ≢ size = λ e. omega (arith, e) in
    rw (le-ltb (size + 1) size ge, ne_eqb (size + 1) size ne, le-ltb share.queue size none) refl

prev_on :
    (size : ℕ) (share : Share) (j : ℕ) → j < size → share.of ≤ j
    → prev_at_start size share j ≡ j - share.of
prev_on size share j lt more = rw (lt-ltb j size lt, le-ltb j share.of more) refl

prev_first :
    (size : ℕ) (share : Share) (j : ℕ) → j < size → j < share.of
    → prev_at_start size share j ≡ size + 1
prev_first size share j lt first = rw (lt-ltb j size lt, lt-ltb j share.of first) refl

prev_entries : (size : ℕ) (share : Share) → prev_at_start size share size ≡ size
prev_entries size share = rw (le-ltb size size (omega arith), eq-eqb size size refl) refl

prev_available :
    (size : ℕ) (share : Share) → prev_at_start size share (size + 1) ≡ last_own size share
prev_available size share =
    let ge : size ≤ size + 1 = omega arith in
    let ne : size + 1 ≢ size = λ e. omega (arith, e) in
    rw (le-ltb (size + 1) size ge, ne_eqb (size + 1) size ne) refl

-- What the last own index is, where there is one.
record IsLast (size : ℕ) (share : Share) : Type 0 where
  within : last_own size share < size
  own : last_own size share % share.of ≡ share.queue
  last : size ≤ last_own size share + share.of

last_is : (size : ℕ) (share : Share) → share.queue < size → IsLast size share
last_is size share some = record {
  within = omega (arith, is, parts);
  own = ap (λ (n : ℕ). n % share.of) (is ∙ round) ∙ add-mul-mod_self_left share.queue share.of ((size - 1 - share.queue) / share.of) ∙ mod-eq_of_lt share.within.0;
  last = omega (arith, is, parts, mod-lt (size - 1 - share.queue) {m = share.of} (omega (arith, share.within.0)));
}
  where
    is : last_own size share ≡ size - 1 - (size - 1 - share.queue) % share.of
    is = rw (lt-ltb share.queue size some) refl

    parts :
        (size - 1 - share.queue) % share.of + share.of * ((size - 1 - share.queue) / share.of) ≡ size - 1 - share.queue
    parts = mod-add-div (size - 1 - share.queue) share.of

    round :
        size - 1 - (size - 1 - share.queue) % share.of ≡ share.queue + share.of * ((size - 1 - share.queue) / share.of)
    round = omega (arith, parts)

no_last :
    (size : ℕ) (share : Share) → size ≤ share.queue → last_own size share ≡ size + 1
no_last size share none = rw (le-ltb share.queue size none) refl

-- an own index is no less than the queue
no_less : (share : Share) (j : ℕ) → j % share.of ≡ share.queue → share.queue ≤ j
no_less share j own = omega (arith, own, mod-add-div j share.of)

-- the last own index is the one behind which there is none
the_last :
    (size : ℕ) (share : Share) (j : ℕ) → j < size → j % share.of ≡ share.queue
    → size ≤ j + share.of → last_own size share ≡ j
the_last size share j lt own last =
    let some : share.queue < size = omega (arith, no_less share j own) in
    rw (lt-ltb share.queue size some) (omega (arith, rest))
  where
    is : size - 1 - share.queue ≡ (size - 1 - j) + share.of * (j / share.of)
    is = omega (arith, own, mod-add-div j share.of)

    rest : (size - 1 - share.queue) % share.of ≡ size - 1 - j
    rest = ap (λ (n : ℕ). n % share.of) is
        ∙ add-mul-mod_self_left (size - 1 - j) share.of (j / share.of)
        ∙ mod-eq_of_lt (omega (arith, last))

pub started :
    (size : ℕ) (share : Share) → 1 ≤ size
    → IsLinked size (next_at_start size share) (prev_at_start size share) (ring_of size (owns share) (replicate size None))
unfolding ring
started size share some = record {
  rank = λ j. j;
  rank_bound = size;
  some = some;
  begins = ring_entries size share;
  begins_free = ring_available size share;
  at_begin = λ j above on. elim (standing size share j some on) [
    | index lt own ↦ absurd (omega (arith, lt, above))
    | entries e ↦ rw e (ring_entries size share)
    | available e ↦ rw e (ring_available size share)
  ];
  next_ring = λ j on. elim (standing size share j some on) [
    | index lt own ↦ elim (cases_lt (j + share.of) size) [
      | inl more ↦ ap (ring size share) (next_on size share j more) ∙ ring_own size share (j + share.of) more (add-mod_right j share.of ∙ own) ∙ sym (ring_own size share j lt own)
      | inr last ↦ ap (ring size share) (next_last size share j lt last) ∙ ring_available size share ∙ sym (ring_own size share j lt own)
    ]
    | entries e ↦ rw e (ap (ring size share) (next_entries size share))
    | available e ↦ rw e (elim (cases_lt share.queue size) [
      | inl first ↦ ap (ring size share) (next_some size share first) ∙ ring_own size share share.queue first (mod-eq_of_lt share.within.0) ∙ sym (ring_available size share)
      | inr none ↦ ap (ring size share) (next_none size share none)
    ])
  ];
  prev_ring = λ j on. elim (standing size share j some on) [
    | index lt own ↦ elim (cases_lt j share.of) [
      | inl first ↦ ap (ring size share) (prev_first size share j lt first) ∙ ring_available size share ∙ sym (ring_own size share j lt own)
      | inr more ↦ ap (ring size share) (prev_on size share j lt more) ∙ ring_own size share (j - share.of) (omega (arith, lt)) (before j more ∙ own) ∙ sym (ring_own size share j lt own)
    ]
    | entries e ↦ rw e (ap (ring size share) (prev_entries size share))
    | available e ↦ rw e (ap (ring size share) (prev_available size share) ∙ elim (cases_lt share.queue size) [
      | inl first ↦ let l = last_is size share first in ring_own size share (last_own size share) l.within l.own ∙ sym (ring_available size share)
      | inr none ↦ ap (ring size share) (no_last size share none)
    ])
  ];
  back = λ j on. elim (standing size share j some on) [
    | index lt own ↦ elim (cases_lt (j + share.of) size) [
      | inl more ↦ ap (prev_at_start size share) (next_on size share j more) ∙ prev_on size share (j + share.of) more (omega arith) ∙ omega arith
      | inr last ↦ ap (prev_at_start size share) (next_last size share j lt last) ∙ prev_available size share ∙ the_last size share j lt own last
    ]
    | entries e ↦ rw e (ap (prev_at_start size share) (next_entries size share) ∙ prev_entries size share)
    | available e ↦ rw e (elim (cases_lt share.queue size) [
      | inl first ↦ ap (prev_at_start size share) (next_some size share first) ∙ prev_first size share share.queue first share.within.0
      | inr none ↦ ap (prev_at_start size share) (next_none size share none) ∙ prev_available size share ∙ no_last size share none
    ])
  ];
  forth = λ j on. elim (standing size share j some on) [
    | index lt own ↦ elim (cases_lt j share.of) [
      | inl first ↦
          let is : j ≡ share.queue = sym (mod-eq_of_lt first) ∙ own in
          ap (next_at_start size share) (prev_first size share j lt first) ∙ next_some size share (omega (arith, is, lt)) ∙ sym is
      | inr more ↦ ap (next_at_start size share) (prev_on size share j lt more) ∙ next_on size share (j - share.of) (omega (arith, lt, more)) ∙ omega (arith, more)
    ]
    | entries e ↦ rw e (ap (next_at_start size share) (prev_entries size share) ∙ next_entries size share)
    | available e ↦ rw e (ap (next_at_start size share) (prev_available size share) ∙ elim (cases_lt share.queue size) [
      | inl first ↦ let l = last_is size share first in next_last size share (last_own size share) l.within l.last
      | inr none ↦ ap (next_at_start size share) (no_last size share none) ∙ next_none size share none
    ])
  ];
  rising = λ j on lt prev_lt. elim (cases_lt j share.of) [
    | inl first ↦ absurd (omega (arith, prev_first size share j lt first, prev_lt))
    | inr more ↦ omega (arith, prev_on size share j lt more, share.within.0, more)
  ];
  under = λ j lt. lt;
}
  where
    before : (j : ℕ) → share.of ≤ j → (j - share.of) % share.of ≡ j % share.of
    before j more = sym (add-mod_right (j - share.of) share.of) ∙ ap (λ (n : ℕ). n % share.of) (omega (arith, more))

-- each cell's links lead to cells
pub next_started :
    (size : ℕ) (share : Share) (j : ℕ) → j < size + 2 → next_at_start size share j < size + 2
next_started size share j within = elim (cases_lt j size) [
  | inl lt ↦ elim (cases_lt (j + share.of) size) [
    | inl more ↦ omega (arith, next_on size share j more)
    | inr last ↦ omega (arith, next_last size share j lt last)
  ]
  | inr ge ↦ elim (cases_eq j size) [
    | inl e ↦ rw e (omega (arith, next_entries size share))
    | inr ne ↦
        let e : j ≡ size + 1 = omega arith in
        rw e (elim (cases_lt share.queue size) [
          | inl first ↦ omega (arith, next_some size share first)
          | inr none ↦ omega (arith, next_none size share none)
        ])
  ]
]

pub prev_started :
    (size : ℕ) (share : Share) (j : ℕ) → j < size + 2 → prev_at_start size share j < size + 2
prev_started size share j within = elim (cases_lt j size) [
  | inl lt ↦ elim (cases_lt j share.of) [
    | inl first ↦ omega (arith, prev_first size share j lt first)
    | inr more ↦ omega (arith, prev_on size share j lt more)
  ]
  | inr ge ↦ elim (cases_eq j size) [
    | inl e ↦ rw e (omega (arith, prev_entries size share))
    | inr ne ↦
        let e : j ≡ size + 1 = omega arith in
        rw e (elim (cases_lt share.queue size) [
          | inl first ↦ omega (arith, prev_available size share, (last_is size share first).within)
          | inr none ↦ omega (arith, prev_available size share, no_last size share none)
        ])
  ]
]
