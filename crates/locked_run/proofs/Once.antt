-- Orders that keep each port's.
use Rattle.std.proofs.Common.{◌≡◌, ◌≢◌, ⊎_elim, ℕ, Bool, true, false, List, [], ◌∷◌, ◌++◌, length, filter, cond, refl, ap, sym, ◌∙◌, subst, arith, length-append, eqb-true, eq-eqb, ne_eqb}
use Rattle.std.proofs.lemmas.Bool.{cases_eq}
use Rattle.std.proofs.lemmas.List.Elements.{filter-append}
use Rattle.packet_feed.specs.Arrivals.{Arrival}
use Rattle.nf_base.specs.Orders.{KeepsPortOrder}
use Rattle.packet_feed.specs.Ports.{is_of}
use Rattle.stream_run.specs.Orders.{port_of}
use Rattle.stream_run.proofs.Ordered.{ports_kept}
use Rattle.locked_run.specs.Laws.{EachStandsOnce, OthersGoBetween, NoneGoesBefore}

-- where the first packet of a port stands
record Parted (port : ℕ) (handled : List Arrival) (a : Arrival) (rest : List Arrival) : Type 0 where
  before : List Arrival
  after : List Arrival
  is : handled ≡ before ++ a ∷ after
  none : filter (is_of port) before ≡ []
  later : filter (is_of port) after ≡ rest

parted : (port : ℕ) (handled : List Arrival) (a : Arrival) (rest : List Arrival) → filter (is_of port) handled ≡ a ∷ rest → Parted port handled a rest
parted port [] a rest e = absurd (cc e)
parted port (h ∷ hs) a rest e = one (is_of port h) refl (λ q. parted port hs a rest q) e
  where
    one : (b : Bool) → is_of port h ≡ b → (filter (is_of port) hs ≡ a ∷ rest → Parted port hs a rest) → cond b (h ∷ filter (is_of port) hs) (filter (is_of port) hs) ≡ a ∷ rest → Parted port (h ∷ hs) a rest
    one true own behind e = record { before = []; after = hs; is = let same : h ≡ a = cc e in ap (λ (x : Arrival). x ∷ hs) same; none = refl; later = cc e }
    one false own behind e =
        let r = behind e in
        record {
          before = h ∷ r.before;
          after = r.after;
          is = ap (λ (xs : List Arrival). h ∷ xs) r.is;
          none = ap (λ (b : Bool). cond b (h ∷ filter (is_of port) r.before) (filter (is_of port) r.before)) own ∙ r.none;
          later = r.later;
        }

-- the first packet aside, the others keep the order
keeps_rest : (a : Arrival) (rest before after : List Arrival) → KeepsPortOrder port_of (a ∷ rest) (before ++ a ∷ after) → filter (is_of a.packet.id.port) before ≡ [] → filter (is_of a.packet.id.port) after ≡ filter (is_of a.packet.id.port) rest → KeepsPortOrder port_of rest (before ++ after)
keeps_rest a rest before after keeps none later port =
    ⊎_elim
    (λ (same : port ≡ a.packet.id.port).
    subst (λ (q : ℕ). filter (is_of q) (before ++ after) ≡ filter (is_of q) rest) (sym same)
    (filter-append (is_of a.packet.id.port) before after ∙ ap (λ (xs : List Arrival). xs ++ filter (is_of a.packet.id.port) after) none ∙ later))
    (λ (other : port ≢ a.packet.id.port).
    let no : is_of port a ≡ false = ne_eqb a.packet.id.port port (λ e. other (sym e)) in
    filter-append (is_of port) before after
    ∙ ap (λ (b : Bool). filter (is_of port) before ++ cond b (a ∷ filter (is_of port) after) (filter (is_of port) after)) (sym no)
    ∙ sym (filter-append (is_of port) before (a ∷ after))
    ∙ keeps port
    ∙ ap (λ (b : Bool). cond b (a ∷ filter (is_of port) rest) (filter (is_of port) rest)) no)
    (cases_eq port a.packet.id.port)

-- a packet passes a test wherever it stands
count_front : (test : Arrival → Bool) (a : Arrival) (before after : List Arrival) → length (filter test (before ++ a ∷ after)) ≡ length (filter test (a ∷ (before ++ after)))
count_front test a before after = ap length (filter-append test before (a ∷ after)) ∙ one (test a) ∙ ap (λ (xs : List Arrival). length (cond (test a) (a ∷ xs) xs)) (sym (filter-append test before after))
  where
    one : (b : Bool) → length (filter test before ++ cond b (a ∷ filter test after) (filter test after)) ≡ length (cond b (a ∷ (filter test before ++ filter test after)) (filter test before ++ filter test after))
    one true =
        let x = length-append (filter test before) (a ∷ filter test after) in
        let y = length-append (filter test before) (filter test after) in
        omega (arith, x, y)
    one false = refl

cond_length : (b : Bool) (a : Arrival) (xs ys : List Arrival) → length xs ≡ length ys → length (cond b (a ∷ xs) xs) ≡ length (cond b (a ∷ ys) ys)
cond_length true a xs ys e = omega (arith, e)
cond_length false a xs ys e = e

nothing_left : (handled : List Arrival) → KeepsPortOrder port_of [] handled → handled ≡ []
nothing_left [] keeps = refl
nothing_left (h ∷ hs) keeps =
    let e : h ∷ filter (is_of h.packet.id.port) hs ≡ [] = ap (λ (b : Bool). cond b (h ∷ filter (is_of h.packet.id.port) hs) (filter (is_of h.packet.id.port) hs)) (sym (eq-eqb h.packet.id.port h.packet.id.port refl)) ∙ keeps h.packet.id.port in
    absurd (cc e)

stands_by_port : (given handled : List Arrival) (test : Arrival → Bool) → KeepsPortOrder port_of given handled → length (filter test handled) ≡ length (filter test given)
stands_by_port [] handled test keeps = ap (λ (xs : List Arrival). length (filter test xs)) (nothing_left handled keeps)
stands_by_port (a ∷ rest) handled test keeps =
    let port = a.packet.id.port in
    let p = parted port handled a (filter (is_of port) rest) (keeps port ∙ ap (λ (b : Bool). cond b (a ∷ filter (is_of port) rest) (filter (is_of port) rest)) (eq-eqb port port refl)) in
    let less = keeps_rest a rest p.before p.after (subst (KeepsPortOrder port_of (a ∷ rest)) p.is keeps) p.none p.later in
    ap (λ (xs : List Arrival). length (filter test xs)) p.is
    ∙ count_front test a p.before p.after
    ∙ cond_length (test a) a (filter test (p.before ++ p.after)) (filter test rest) (stands_by_port rest (p.before ++ p.after) test less)

pub stands_once : EachStandsOnce
stands_once order given handled test keeps = stands_by_port given handled test (ports_kept order given handled keeps)

-- ---- two packets

pub others_between : OthersGoBetween
others_between a b other port = four (is_of port a) (is_of port b) (λ p q. other (eqb-true a.packet.id.port port p ∙ sym (eqb-true b.packet.id.port port q)))
  where
    four : (p q : Bool) → (p ≡ true → q ≡ true → ⊥) → cond q (b ∷ cond p (a ∷ []) []) (cond p (a ∷ []) []) ≡ cond p (a ∷ cond q (b ∷ []) []) (cond q (b ∷ []) [])
    four true true never = absurd (never refl refl)
    four true false never = refl
    four false true never = refl
    four false false never = refl

pub none_before : NoneGoesBefore
none_before a b same keeps =
    let e = keeps a.packet.id.port in
    first (is_of a.packet.id.port a) (is_of a.packet.id.port b) (eq-eqb a.packet.id.port a.packet.id.port refl) (eq-eqb b.packet.id.port a.packet.id.port (sym same)) e
  where
    first : (p q : Bool) → p ≡ true → q ≡ true → cond q (b ∷ cond p (a ∷ []) []) (cond p (a ∷ []) []) ≡ cond p (a ∷ cond q (b ∷ []) []) (cond q (b ∷ []) []) → a ≡ b
    first true true x y e = cc e
    first true false x y e = absurd (cc y)
    first false q x y e = absurd (cc x)
