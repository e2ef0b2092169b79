-- The packet that comes first, and the first capture that is torn.
use Rattle.std.proofs.Common.{◌≡◌, ℕ, ◌+◌, ◌≤◌, ◌<◌, leb, List, ◌∷◌, length, get_or, drop, Option, Some, None, inl, inr, sym, ap, ◌∙◌, subst, arith}
use Rattle.std.specs.List.{slice_get}
use Rattle.std.specs.Option.{option_and_then}
use Rattle.std.proofs.lemmas.Bool.{cond_both, leb-true, leb-false, cases_eq}
use Rattle.std.proofs.lemmas.List.{length-map, get_or-map, drop_more, drop_all}
use Rattle.packet_feed.specs.declared.first.First.{First}
use Rattle.packet_feed.specs.Streams.{Stream, time_in, tear_in}
use Rattle.packet_feed.specs.Sources.{IsFirst, time_at, sooner}
use Rattle.packet_feed.specs.Feeding.{first_tear, tears_in}

one_is : {A : Type 0} (x y : A) → Some x ≡ Some y → x ≡ y
one_is x y e = cc

pub time_of : (sources : List Stream) (port : ℕ) (s : Stream) → slice_get sources port ≡ Some s → time_at sources port ≡ time_in s.ahead s.latest
time_of sources port s e = ap (λ (o : Option Stream). option_and_then (λ (y : Stream). time_in y.ahead y.latest) o) e

-- one more port, of which the time is known
first_from : (sources : List Stream) (port : ℕ) (first : Option First) (time : Option ℕ) → time_at sources port ≡ time → IsFirst sources port first → IsFirst sources (port + 1) (sooner first port time)
first_from sources port None None at h = λ p lt. elim (cases_eq p port) [
  | inl same ↦ ap (time_at sources) same ∙ at
  | inr other ↦ h p (omega arith)
]
first_from sources port (Some f) None at h = (
  omega (arith, h.0),
  h.1,
  λ p t lt e. elim (cases_eq p port) [
    | inl same ↦ absurd (none_some t (sym at ∙ ap (time_at sources) (sym same) ∙ e))
    | inr other ↦ h.2 p t (omega arith) e
  ],
)
  where
    none_some : (t : ℕ) → None ≡ Some t → ⊥
    none_some t e = cc
first_from sources port None (Some time) at h = (
  omega arith,
  at,
  λ p t lt e. elim (cases_eq p port) [
    | inl same ↦ let is : time ≡ t = one_is time t (sym at ∙ ap (time_at sources) (sym same) ∙ e) in (omega arith, λ le. omega arith)
    | inr other ↦ absurd (none_some t (sym (h p (omega arith)) ∙ e))
  ],
)
  where
    none_some : (t : ℕ) → None ≡ Some t → ⊥
    none_some t e = cc
first_from sources port (Some f) (Some time) at h = cond_both (leb f.time time) (Some f) (Some (record { port = port; time = time })) (IsFirst sources (port + 1))
    (λ yes.
    let le = leb-true f.time time yes in (
      omega (arith, h.0),
      h.1,
      λ p t lt e. elim (cases_eq p port) [
        | inl same ↦ let is : time ≡ t = one_is time t (sym at ∙ ap (time_at sources) (sym same) ∙ e) in (omega arith, λ down. omega (arith, h.0))
        | inr other ↦ h.2 p t (omega arith) e
      ],
    ))
    (λ no.
    let less = leb-false f.time time no in (
      omega arith,
      at,
      λ p t lt e. elim (cases_eq p port) [
        | inl same ↦ let is : time ≡ t = one_is time t (sym at ∙ ap (time_at sources) (sym same) ∙ e) in (omega arith, λ down. omega arith)
        | inr other ↦ let old = (h.2 p t (omega arith) e).0 in (omega (arith, old), λ down. absurd (omega (arith, old)))
      ],
    ))

pub first_more : (sources : List Stream) (port : ℕ) (first : Option First) (s : Stream) (time : Option ℕ) (next : Option First) → slice_get sources port ≡ Some s → time ≡ time_in s.ahead s.latest → next ≡ sooner first port time
    → IsFirst sources port first → IsFirst sources (port + 1) next
first_more sources port first s time next e at is h =
    subst (IsFirst sources (port + 1)) (sym is) (first_from sources port first time (time_of sources port s e ∙ sym at) h)

-- ---- the first capture that is torn

-- the captures from a port on, the first of which is known
tears_from : (sources : List Stream) (port : ℕ) (s : Stream) → port < length sources → s ≡ get_or sources port s → drop port (tears_in sources) ≡ tear_in s.ahead ∷ drop (port + 1) (tears_in sources)
tears_from sources port s lt at =
    let inside : port < length (tears_in sources) = omega (arith, length-map sources (λ (x : Stream). tear_in x.ahead)) in
    let here : get_or (tears_in sources) port (tear_in s.ahead) ≡ tear_in s.ahead = get_or-map (λ (x : Stream). tear_in x.ahead) sources port s (tear_in s.ahead) lt ∙ ap (λ (x : Stream). tear_in x.ahead) (sym at) in
    drop_more (tears_in sources) port (tear_in s.ahead) inside ∙ ap (λ (t : Option ℕ). t ∷ drop (port + 1) (tears_in sources)) here

pub torn_here : (sources : List Stream) (port : ℕ) (s : Stream) (offset : ℕ) → port < length sources → s ≡ get_or sources port s → Some offset ≡ tear_in s.ahead
    → first_tear port (drop port (tears_in sources)) ≡ first_tear 0 (tears_in sources) → Some (port, offset) ≡ first_tear 0 (tears_in sources)
torn_here sources port s offset lt at is h =
    sym (ap (first_tear port) (tears_from sources port s lt at) ∙ ap (λ (t : Option ℕ). first_tear port (t ∷ drop (port + 1) (tears_in sources))) (sym is)) ∙ h

pub torn_later : (sources : List Stream) (port : ℕ) (s : Stream) → port < length sources → s ≡ get_or sources port s → None ≡ tear_in s.ahead
    → first_tear port (drop port (tears_in sources)) ≡ first_tear 0 (tears_in sources) → first_tear (port + 1) (drop (port + 1) (tears_in sources)) ≡ first_tear 0 (tears_in sources)
torn_later sources port s lt at is h =
    sym (ap (first_tear port) (tears_from sources port s lt at) ∙ ap (λ (t : Option ℕ). first_tear port (t ∷ drop (port + 1) (tears_in sources))) (sym is)) ∙ h

pub torn_nowhere : (sources : List Stream) (port : ℕ) → length sources ≤ port → first_tear port (drop port (tears_in sources)) ≡ first_tear 0 (tears_in sources) → None ≡ first_tear 0 (tears_in sources)
torn_nowhere sources port past h = sym (ap (first_tear port) (drop_all port (tears_in sources) (omega (arith, length-map sources (λ (x : Stream). tear_in x.ahead))))) ∙ h
