-- Packets dispatched one after another.
use Rattle.std.proofs.Common.{◌≡◌, ◌<◌, ◌≤◌, ◌+◌, ℕ, zero, suc, ◌==◌, Bool, eq-eqb, ne_eqb, List, [], ◌∷◌, ◌++◌, length, get_or, map, take, if◌then◌else◌, refl, ap, sym, ◌∙◌, arith, inl, inr}
use Rattle.std.proofs.Math.Seq.{take-suc}
use Rattle.std.proofs.lemmas.Bool.{cases_eq}
use Rattle.nf_base.specs.declared.packet.Packet.{Packet}
use Rattle.shard_machine.specs.declared.event.Answer.{Answer}
use Rattle.shard_machine.specs.declared.event.Event.{Event}
use Rattle.shard_machine.specs.declared.event.Event.TheVariants.{Dispatch}
use Rattle.shard_machine.specs.Machine.{Setup, Worker, Machine, packets_at}
use Rattle.shard_machine.specs.Events.{Plays, dispatched, given}
use Rattle.shard_machine.specs.Events as event
use Rattle.shard_machine.proofs.Sent.{append_nil, append_twice, length_append, one_at, none_at}
use Rattle.shard_core.specs.Sharded.{Sharded, HasRoom}
use Rattle.shard_rounds.specs.Rounds.{all_dispatched, waits_at}

-- one more
pub one_more_given : (x : Setup) (ps : List Packet) (p : Packet) (m : Machine) → all_dispatched x (ps ++ p ∷ []) m ≡ dispatched x p (all_dispatched x ps m)
one_more_given x [] p m = refl
one_more_given x (q ∷ ps) p m = one_more_given x ps p (dispatched x q m)

-- the first ones, and the next
pub next_given : (x : Setup) (all : List Packet) (i : ℕ) (p : Packet) (m : Machine) → i < length all → p ≡ get_or all i p → all_dispatched x (take (i + 1) all) m ≡ dispatched x p (all_dispatched x (take i all) m)
next_given x all i p m lt at =
    let one : take (i + 1) all ≡ take i all ++ p ∷ [] = ap (λ (k : ℕ). take k all) (plus_one i) ∙ take-suc all i p lt ∙ ap (λ (z : Packet). take i all ++ z ∷ []) (sym at) in
    ap (λ (ps : List Packet). all_dispatched x ps m) one ∙ one_more_given x (take i all) p m
  where
    plus_one : (i : ℕ) → i + 1 ≡ suc i
    plus_one i = omega arith

-- they are events
pub plays_given : (x : Setup) (ps : List Packet) (events : List Event) (m n : Machine) (got : List Answer) → Plays x events (all_dispatched x ps m) n got → Plays x (map (λ (p : Packet). Dispatch p) ps ++ events) m n got
plays_given x [] events m n got go = go
plays_given x (p ∷ ps) events m n got go = event.dispatches p (map (λ (q : Packet). Dispatch q) ps ++ events) m n got (plays_given x ps events (dispatched x p m) n got go)

-- what was dispatched, and what was collected
pub sent_given : (x : Setup) (ps : List Packet) (m : Machine) → (all_dispatched x ps m).dispatched ≡ m.dispatched ++ ps
sent_given x [] m = sym (append_nil m.dispatched)
sent_given x (p ∷ ps) m = sent_given x ps (dispatched x p m) ∙ append_twice m.dispatched (p ∷ []) ps

pub got_given : (x : Setup) (ps : List Packet) (m : Machine) → (all_dispatched x ps m).collected ≡ m.collected
got_given x [] m = refl
got_given x (p ∷ ps) m = got_given x ps (dispatched x p m)

-- how many wait then
one_waits : (x : Setup) (m : Machine) (p : Packet) (w : ℕ) → length ((dispatched x p m).worker w).waiting ≡ length (m.worker w).waiting + length (packets_at x.queue w (p ∷ []))
one_waits x m p w = elim (cases_eq (x.queue p) w) [
  | inl same ↦
      let here : (if x.queue p == w then given p (m.worker (x.queue p)) else m.worker w) ≡ given p (m.worker w) = ap (λ (b : Bool). if b then given p (m.worker (x.queue p)) else m.worker w) (eq-eqb _ _ same) ∙ ap (λ (v : ℕ). given p (m.worker v)) same in
      let one : length ((m.worker w).waiting ++ p ∷ []) ≡ length (m.worker w).waiting + 1 = length_append (m.worker w).waiting (p ∷ []) in
      ap (λ (z : Worker). length z.waiting) here ∙ one ∙ ap (λ (ps : List Packet). length (m.worker w).waiting + length ps) (sym (one_at x.queue w p [] same))
  | inr other ↦
      let here : (if x.queue p == w then given p (m.worker (x.queue p)) else m.worker w) ≡ m.worker w = ap (λ (b : Bool). if b then given p (m.worker (x.queue p)) else m.worker w) (ne_eqb _ _ other) in
      ap (λ (z : Worker). length z.waiting) here ∙ plus_none (length (m.worker w).waiting) ∙ ap (λ (ps : List Packet). length (m.worker w).waiting + length ps) (sym (none_at x.queue w p [] other))
]
  where
    plus_none : (n : ℕ) → n ≡ n + 0
    plus_none n = omega arith

at_append : (queue : Packet → ℕ) (w : ℕ) (p : Packet) (ps : List Packet) → length (packets_at queue w (p ∷ ps)) ≡ length (packets_at queue w (p ∷ [])) + length (packets_at queue w ps)
at_append queue w p ps = elim (cases_eq (queue p) w) [
  | inl same ↦
      let a = ap length (one_at queue w p ps same) in
      let b = ap length (one_at queue w p [] same) in
      omega (arith, a, b)
  | inr other ↦
      let a = ap length (none_at queue w p ps other) in
      let b = ap length (none_at queue w p [] other) in
      omega (arith, a, b)
]

pub waits_given : (x : Setup) (ps : List Packet) (m : Machine) (w : ℕ) → length ((all_dispatched x ps m).worker w).waiting ≡ waits_at x m ps w
waits_given x [] m w = omega arith
waits_given x (p ∷ ps) m w =
    let a = waits_given x ps (dispatched x p m) w in
    let b = one_waits x m p w in
    let c = at_append x.queue w p ps in
    omega (arith, a, b, c)

-- room for some is room for fewer
pub less_room : (n k : ℕ) (v : Sharded) → k ≤ n → HasRoom n v → HasRoom k v
less_room n k v le r = record {
  queues = let q = r.queues in omega (arith, q, le);
  workers = λ w held at. let q = r.workers w held at in omega (arith, q, le);
}

pub all_given : {A : Type 0} (xs : List A) (n : ℕ) → length xs ≤ n → take n xs ≡ xs
all_given [] zero le = refl
all_given [] (suc n) le = refl
all_given (x ∷ xs) zero le = absurd (omega (arith, le))
all_given (x ∷ xs) (suc n) le = ap (λ zs. x ∷ zs) (all_given xs n (omega (arith, le)))
