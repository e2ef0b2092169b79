-- A walk through traffic, packet by packet.
use Rattle.std.proofs.Common.{◌≡◌, ℕ, suc, ◌+◌, ◌-◌, ◌<◌, ◌≤◌, ◌⊎◌, inl, inr, Bool, true, false, cond, List, [], ◌∷◌, sym, ap, ◌∙◌, arith}
use Rattle.std.specs.Prelude.{Some, None, slice_get, min, ◌==◌}
use Rattle.std.proofs.lemmas.Bool.{cases_lt, eq-eqb, ne_eqb}
use Rattle.nf_base.specs.declared.packet.Packet.{Packet}
use Rattle.gen_traffic.specs.Traffic.{Recipe, Giving, after, sent_at, sent_from, traffic}
use Rattle.gen_traffic.proofs.Streams.{none_left}
use Rattle.made_captures.specs.Records.{at_port, sent_left}

differ : (sent : Packet × List ℕ) → Some sent ≡ None → ⊥
differ sent e = cc

some_left : (r : Recipe) (k : ℕ) (sent : Packet × List ℕ) → Some sent ≡ slice_get (traffic r) k → (k < r.count) ⊎ (r.count ≤ k) → k < r.count
some_left r k sent e (inl lt) = lt
some_left r k sent e (inr le) = absurd (differ sent (e ∙ none_left r k le))

-- where a packet is given, one was left
pub was_left : (g : Giving) (sent : Packet × List ℕ) → Some sent ≡ slice_get (traffic g.recipe) g.given → g.given < g.recipe.count
was_left g sent e = some_left g.recipe g.given sent e (cases_lt g.given g.recipe.count)

-- what is left is that packet, and what is left behind it
pub left_more : (g : Giving) → g.given < g.recipe.count → sent_left g ≡ sent_at g.recipe g.given ∷ sent_left (after g)
left_more g lt =
    let next : min (g.given + 1) g.recipe.count ≡ suc g.given = omega arith in
    let some : g.recipe.count - g.given ≡ suc (g.recipe.count - suc g.given) = omega arith in
    ap (sent_from g.recipe g.given) some
    ∙ ap (λ (k : ℕ). sent_at g.recipe g.given ∷ sent_from g.recipe k (g.recipe.count - k)) (sym next)

pub left_none : (g : Giving) → g.given ≡ g.recipe.count → sent_left g ≡ []
left_none g e =
    let none : g.recipe.count - g.given ≡ 0 = omega arith in
    ap (sent_from g.recipe g.given) none

pub left_after : (g : Giving) → g.given ≡ g.recipe.count → sent_left (after g) ≡ []
left_after g e =
    let none : g.recipe.count - min (g.given + 1) g.recipe.count ≡ 0 = omega arith in
    ap (sent_from g.recipe (min (g.given + 1) g.recipe.count)) none

-- a packet in front comes in at the port, or at another one
pub here : (port : ℕ) (s : Packet × List ℕ) (later : List (Packet × List ℕ)) → (s.0.id.port == port) ≡ true → at_port port (s ∷ later) ≡ s ∷ at_port port later
here port s later e = ap (λ (b : Bool). cond b (s ∷ at_port port later) (at_port port later)) e

pub elsewhere : (port : ℕ) (s : Packet × List ℕ) (later : List (Packet × List ℕ)) → (s.0.id.port == port) ≡ false → at_port port (s ∷ later) ≡ at_port port later
elsewhere port s later e = ap (λ (b : Bool). cond b (s ∷ at_port port later) (at_port port later)) e

-- ---- one packet

port_of_sent : (port : ℕ) (s t : Packet × List ℕ) → s ≡ t → s.0.id.port ≡ port → t.0.id.port ≡ port
port_of_sent port s t is e = ap (λ (x : Packet × List ℕ). x.0.id.port) (sym is) ∙ e

pub next_here : (port : ℕ) (first g new : Giving) (sent : Packet × List ℕ) → at_port port (sent_left first) ≡ at_port port (sent_left g) → g.given < g.recipe.count → sent ≡ sent_at g.recipe g.given → new ≡ after g → sent.0.id.port ≡ port
    → at_port port (sent_left first) ≡ sent ∷ at_port port (sent_left new)
next_here port first g new sent left lt is goes e =
    let s = sent_at g.recipe g.given in
    left
    ∙ ap (at_port port) (left_more g lt)
    ∙ here port s (sent_left (after g)) (eq-eqb s.0.id.port port (port_of_sent port sent s is e))
    ∙ ap (λ (x : Packet × List ℕ). x ∷ at_port port (sent_left (after g))) (sym is)
    ∙ ap (λ (h : Giving). sent ∷ at_port port (sent_left h)) (sym goes)

pub next_elsewhere : (port : ℕ) (first g new : Giving) (sent : Packet × List ℕ) → at_port port (sent_left first) ≡ at_port port (sent_left g) → g.given < g.recipe.count → sent ≡ sent_at g.recipe g.given → new ≡ after g → (sent.0.id.port ≡ port → ⊥)
    → at_port port (sent_left first) ≡ at_port port (sent_left new)
next_elsewhere port first g new sent left lt is goes ne =
    let s = sent_at g.recipe g.given in
    left
    ∙ ap (at_port port) (left_more g lt)
    ∙ elsewhere port s (sent_left (after g)) (ne_eqb s.0.id.port port (λ e. ne (port_of_sent port s sent (sym is) e)))
    ∙ ap (λ (h : Giving). at_port port (sent_left h)) (sym goes)

pub early : (g new : Giving) (sent : Packet × List ℕ) (r : Recipe) → g.given < g.recipe.count → sent ≡ sent_at g.recipe g.given → g.recipe ≡ r → r.count < 4294967296 → sent.0.time < 4294967296000
early g new sent r lt is same few = omega (arith, ap (λ (x : Packet × List ℕ). x.0.time) is, lt, ap (λ (x : Recipe). x.count) same, few)

pub fewer_left : (g new : Giving) → g.given < g.recipe.count → new ≡ after g → new.recipe.count - new.given < g.recipe.count - g.given
fewer_left g new lt goes = omega (arith, lt, ap (λ (x : Giving). x.given) goes, ap (λ (x : Giving). x.recipe.count) goes)
