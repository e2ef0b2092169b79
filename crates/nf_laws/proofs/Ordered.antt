-- Capture order is an order of all packets.
use Rattle.std.proofs.Common.{◌≡◌, ◌<◌, ℕ, Bool, true, false, ◌==◌, ◌||◌, ◌&&◌, nat_lt, Contains, refl, sym, subst, arith, ◌⊎◌, inl, inr, eqb-true, eq-eqb}
use Rattle.std.proofs.lemmas.Bool.{cases_Bool, and_parts, ltb-true, ltb-false}
use Rattle.std.specs.Cmp.{IsStrictWeakOrder}
use Rattle.std.proofs.lemmas.List.Sorted.{sorted_far, Contains-permutation, IsPermutation-sym}
use Rattle.std.proofs.lemmas.List.Kept.{IsSortedBy-filter}
use Rattle.nf_base.specs.declared.packet.Packet.{Packet}
use Rattle.nf_base.specs.Orders.{comes_before, port_of, came_at}
use Rattle.nf_laws.proofs.Listed.{kept, was}
use Rattle.nf_laws.specs.Orders.{ComesBefore, by_time, by_port, by_number, PacketsComeInOrder, NoneComesLate, EachPacketIsOrdered, NoPacketIsLost, PortsRise}

abbrev before : ℕ → ℕ → ℕ → ℕ → ℕ → ℕ → Bool
before t p s u q r = nat_lt t u || (t == u && (nat_lt p q || (p == q && nat_lt s r)))

one_way : (t p s u q r : ℕ) → before t p s u q r ≡ true → before u q r t p s ≡ false
one_way t p s u q r e = grind arith

inner : (p s q r w x : ℕ) → (nat_lt p q || (p == q && nat_lt s r)) ≡ false → (nat_lt q w || (q == w && nat_lt r x)) ≡ false → (nat_lt p w || (p == w && nat_lt s x)) ≡ false
inner p s q r w x e f = grind arith

outer : (t u v : ℕ) (a b c : Bool) → (a ≡ false → b ≡ false → c ≡ false) → (nat_lt t u || (t == u && a)) ≡ false → (nat_lt u v || (u == v && b)) ≡ false → (nat_lt t v || (t == v && c)) ≡ false
outer t u v a b false h e f = grind arith
outer t u v true b true h e f = grind arith
outer t u v false true true h e f = grind arith
outer t u v false false true h e f = let bad : true ≡ false = h refl refl in cc

chain : (t p s u q r v w x : ℕ) → before t p s u q r ≡ false → before u q r v w x ≡ false → before t p s v w x ≡ false
chain t p s u q r v w x e f = outer t u v (nat_lt p q || (p == q && nat_lt s r)) (nat_lt q w || (q == w && nat_lt r x)) (nat_lt p w || (p == w && nat_lt s x)) (inner p s q r w x) e f

order : IsStrictWeakOrder comes_before
order = record {
  one_way = λ a b. one_way a.time a.id.port a.id.seq b.time b.id.port b.id.seq;
  chain = λ a b c. chain a.time a.id.port a.id.seq b.time b.id.port b.id.seq c.time c.id.port c.id.seq;
}

pub none_late : NoneComesLate
none_late packets ordered i j d h le lt = sorted_far comes_before order ordered h.in_order i j d le lt

pub ports_rise : PortsRise
ports_rise packets ordered listed port h k = rw (k port) (IsSortedBy-filter comes_before order (came_at port_of port) ordered h.in_order)

pub none_lost : NoPacketIsLost
none_lost ordered listed packet k =
    let port = packet.id.port in
    let is_there = eq-eqb port port refl in (
      λ h. was (came_at port_of port) listed packet (subst (λ xs. Contains xs packet) (sym (k port)) (kept (came_at port_of port) ordered packet h is_there)),
      λ h. was (came_at port_of port) ordered packet (subst (λ xs. Contains xs packet) (k port) (kept (came_at port_of port) listed packet h is_there)),
    )

pub each_ordered : EachPacketIsOrdered
each_ordered packets ordered packet h = (
  Contains-permutation packets ordered packet h.each_once,
  Contains-permutation ordered packets packet (IsPermutation-sym packets ordered h.each_once),
)

-- what the test of two packets says
or_cases : (a b : Bool) → (a || b) ≡ true → (a ≡ true) ⊎ (b ≡ true)
or_cases true b e = inl refl
or_cases false b e = inr e

or_left : (a b : Bool) → a ≡ true → (a || b) ≡ true
or_left true b e = refl
or_left false b e = cc

or_right : (a b : Bool) → b ≡ true → (a || b) ≡ true
or_right true b e = refl
or_right false b e = e

both_true : (a b : Bool) → a ≡ true → b ≡ true → (a && b) ≡ true
both_true true b e q = q
both_true false b e q = cc

less_true : (a b : ℕ) → a < b → nat_lt a b ≡ true
less_true a b lt = elim (cases_Bool (nat_lt a b)) [ inl t ↦ t | inr f ↦ let le = ltb-false a b f in absurd (omega (arith, le, lt)) ]

before_is : (a b : Packet) → comes_before a b ≡ true → ComesBefore a b
before_is a b e =
    let by_ports = nat_lt a.id.port b.id.port || (a.id.port == b.id.port && nat_lt a.id.seq b.id.seq) in
    elim (or_cases (nat_lt a.time b.time) (a.time == b.time && by_ports) e) [
      | inl t ↦ by_time (ltb-true a.time b.time t)
      | inr r ↦
          let w = and_parts (a.time == b.time) by_ports r in
          elim (or_cases (nat_lt a.id.port b.id.port) (a.id.port == b.id.port && nat_lt a.id.seq b.id.seq) w.1) [
            | inl p ↦ by_port (eqb-true a.time b.time w.0) (ltb-true a.id.port b.id.port p)
            | inr q ↦ let v = and_parts (a.id.port == b.id.port) (nat_lt a.id.seq b.id.seq) q in by_number (eqb-true a.time b.time w.0) (eqb-true a.id.port b.id.port v.0) (ltb-true a.id.seq b.id.seq v.1)
          ]
    ]

is_before : (a b : Packet) → ComesBefore a b → comes_before a b ≡ true
is_before a b (by_time lt) = or_left (nat_lt a.time b.time) _ (less_true a.time b.time lt)
is_before a b (by_port e lt) = or_right (nat_lt a.time b.time) _ (both_true (a.time == b.time) _ (eq-eqb a.time b.time e) (or_left (nat_lt a.id.port b.id.port) _ (less_true a.id.port b.id.port lt)))
is_before a b (by_number e q lt) =
    or_right (nat_lt a.time b.time) _ (both_true (a.time == b.time) _ (eq-eqb a.time b.time e) (or_right (nat_lt a.id.port b.id.port) _ (both_true (a.id.port == b.id.port) _ (eq-eqb a.id.port b.id.port q) (less_true a.id.seq b.id.seq lt))))

pub in_order : PacketsComeInOrder
in_order a b = (before_is a b, is_before a b)
