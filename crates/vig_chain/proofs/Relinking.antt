-- A cell moved from its ring to the end of one, in the lists that hold the links.
use Rattle.std.proofs.Common.{◌≡◌, ◌≢◌, ◌∙◌, ap, sym, refl, arith, ℕ, ◌+◌, ◌<◌, ◌≤◌, List, length, inl, inr, cond, ne_eqb, eq-eqb, get_or-set_same, get_or-set_other}
use Rattle.std.specs.Prelude.{◌==◌, slice_index, slice_set}
use Rattle.std.proofs.Math.ListN.{length-set}
use Rattle.std.proofs.lemmas.Bool.{cond-true, cond-false, cases_eq, cases_lt}
use Rattle.std.proofs.lemmas.List.{set_past}
use Rattle.vig_chain.specs.Rings.{Rings, IsLinked, unlinked, appended}
use Rattle.vig_chain.specs.Sound.{LinksInRange}
use Rattle.vig_chain.proofs.RingLemmas.{IsAt, ArePutLast, taken_out, put_last, ranked-here, ranked-there}

changed :
    (xs : List ℕ) (i v : ℕ) → i < length xs
    → IsAt (slice_index xs) (slice_index (slice_set xs i v)) i v
changed xs i v lt = record { here = get_or-set_same xs i v 0 lt; there = λ j ne. get_or-set_other xs i j v 0 ne }

-- what two writes leave, the second elsewhere
changed_twice :
    (xs : List ℕ) (a b v w : ℕ) → a < length xs → a ≢ b
    → slice_index (slice_set (slice_set xs a v) b w) a ≡ v
changed_twice xs a b v w lt ne =
    get_or-set_other (slice_set xs a v) b a w 0 ne
    ∙ get_or-set_same xs a v 0 lt

changed_last :
    (xs : List ℕ) (a b v w : ℕ) → b < length xs
    → slice_index (slice_set (slice_set xs a v) b w) b ≡ w
changed_last xs a b v w lt = get_or-set_same (slice_set xs a v) b w 0 (rw (length-set xs a v) lt)

unchanged :
    (xs : List ℕ) (a b v w j : ℕ) → j ≢ a → j ≢ b
    → slice_index (slice_set (slice_set xs a v) b w) j ≡ slice_index xs j
unchanged xs a b v w j na nb =
    get_or-set_other (slice_set xs a v) b j w 0 nb
    ∙ get_or-set_other xs a j v 0 na

-- the cells that begin as they did, with one in no ring
without : (ℕ → ℕ) → ℕ → ℕ → ℕ
without ring_of i j = cond (j == i) 0 (ring_of j)

without_it : (ring_of : ℕ → ℕ) (i : ℕ) → IsAt ring_of (without ring_of i) i 0
unfolding without
without_it ring_of i = record { here = cond-true (i == i) 0 (ring_of i) (eq-eqb i i refl); there = λ j ne. cond-false (j == i) 0 (ring_of j) (ne_eqb j i ne) }

-- the links after a cell is put last in a ring, with its rank above all
pub record IsPutLast (size i ring : ℕ) (rings : Rings) (ring_of' : ℕ → ℕ) (rank : ℕ → ℕ) (rank_bound : ℕ) : Type 0 where
  pub linked :
      IsLinked size (slice_index (appended i ring rings).next) (slice_index (appended i ring rings).prev) ring_of'
  pub rank_here : linked.rank i ≡ rank_bound
  pub rank_there : (j : ℕ) → j ≢ i → linked.rank j ≡ rank j

pub put_last_in :
    (size i ring : ℕ) (rings : Rings) (ring_of ring_of' : ℕ → ℕ)
    (k : IsLinked size (slice_index rings.next) (slice_index rings.prev) ring_of)
    → LinksInRange rings → length rings.next ≡ size + 2 → ring_of i ≡ 0 → i < size → size ≤ ring
    → ring < size + 2 → ring_of ring ≡ ring → IsAt ring_of ring_of' i ring
    → IsPutLast size i ring rings ring_of' k.rank k.rank_bound
unfolding put_last
put_last_in size i ring rings ring_of ring_of' k w cells off below above ring_within begins h = record {
  linked = put_last size i ring (slice_index rings.next) (slice_index rings.prev) ring_of (slice_index (appended i ring rings).next) (slice_index (appended i ring rings).prev) ring_of' k off below above begins are;
  rank_here = ranked-here k.rank i k.rank_bound;
  rank_there = λ j ne. ranked-there k.rank i k.rank_bound j ne;
}
  where
    last : ℕ
    last = slice_index rings.prev ring

    last_within : slice_index rings.prev ring < length rings.next
    last_within = w.prev_within ring (omega arith)

    last_other : slice_index rings.prev ring ≢ i
    last_other same =
        let e = ap ring_of same in
        let f = k.prev_ring ring (omega arith) in
        let some = k.some in
        omega arith

    are :
        ArePutLast (slice_index rings.next) (slice_index rings.prev) ring_of (slice_index (appended i ring rings).next) (slice_index (appended i ring rings).prev) ring_of' i ring
    are = record {
      next_here = changed_last rings.next (slice_index rings.prev ring) i i ring (omega arith);
      next_last = changed_twice rings.next (slice_index rings.prev ring) i i ring last_within last_other;
      next_there = λ j ne nl. unchanged rings.next (slice_index rings.prev ring) i i ring j nl ne;
      prev_here = changed_twice rings.prev i ring (slice_index rings.prev ring) i (omega (arith, w.same)) (omega arith);
      prev_first = changed_last rings.prev i ring (slice_index rings.prev ring) i (omega (arith, w.same));
      prev_there = λ j ne nr. unchanged rings.prev i ring (slice_index rings.prev ring) i j ne nr;
      ring_here = h.here;
      ring_there = h.there;
    }

-- numbers all below a bound stay so where one below it is written
pub written :
    (xs : List ℕ) (a v n j : ℕ) → v < n → ((k : ℕ) → k < n → slice_index xs k < n) → j < n
    → slice_index (slice_set xs a v) j < n
written xs a v n j small all lt = elim (cases_eq j a) [
  | inl e ↦ rw e (elim (cases_lt a (length xs)) [
    | inl within ↦ rw (get_or-set_same xs a v 0 within) small
    | inr past ↦ rw (set_past xs a v past) (all a (rw e at lt))
  ])
  | inr ne ↦ rw (get_or-set_other xs a j v 0 ne) (all j lt)
]

unlinked_within :
    (size i : ℕ) (rings : Rings) → LinksInRange rings → length rings.next ≡ size + 2 → i < size
    → LinksInRange (unlinked i rings)
unlinked_within size i rings w cells below = record {
  same = length-set rings.prev n p ∙ w.same ∙ sym (length-set rings.next p n);
  next_within = λ j lt. rw (length-set rings.next p n) (written rings.next p n (length rings.next) j (w.next_within i at) w.next_within (rw (length-set rings.next p n) at lt));
  prev_within = λ j lt. rw (length-set rings.next p n) (written rings.prev n p (length rings.next) j (w.prev_within i at) w.prev_within (rw (length-set rings.next p n) at lt));
}
  where
    p : ℕ
    p = slice_index rings.prev i

    n : ℕ
    n = slice_index rings.next i

    at : i < length rings.next
    at = omega arith

pub moved :
    (size i ring : ℕ) (rings : Rings) (ring_of ring_of' : ℕ → ℕ)
    (k : IsLinked size (slice_index rings.next) (slice_index rings.prev) ring_of)
    → LinksInRange rings → length rings.next ≡ size + 2 → size ≤ ring_of i → i < size → size ≤ ring
    → ring < size + 2 → ring_of ring ≡ ring → IsAt ring_of ring_of' i ring
    → IsPutLast size i ring (unlinked i rings) ring_of' k.rank k.rank_bound
unfolding taken_out
moved size i ring rings ring_of ring_of' k w cells on below above ring_within begins h =
    put_last_in size i ring (unlinked i rings) (without ring_of i) ring_of' out (unlinked_within size i rings w cells below) (length-set rings.next (slice_index rings.prev i) (slice_index rings.next i) ∙ cells) (without_it ring_of i).here below above ring_within ((without_it ring_of i).there ring (omega arith) ∙ begins) (record {
      here =
          h.here;
      there = λ j ne. h.there j ne
          ∙ sym ((without_it ring_of i).there j ne);
    })
  where
    out :
        IsLinked size (slice_index (unlinked i rings).next) (slice_index (unlinked i rings).prev) (without ring_of i)
    out = taken_out size i (slice_index rings.next) (slice_index rings.prev) ring_of (slice_index (unlinked i rings).next) (slice_index (unlinked i rings).prev) (without ring_of i) k on below (changed rings.next (slice_index rings.prev i) (slice_index rings.next i) (w.prev_within i (omega arith))) (changed rings.prev (slice_index rings.next i) (slice_index rings.prev i) (omega (arith, w.same, w.next_within i))) (without_it ring_of i)
