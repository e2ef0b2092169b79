-- The spans of ports.
use Rattle.std.proofs.Common.{◌≡◌, ℕ, zero, suc, ◌+◌, ◌*◌, ◌<◌, ◌≤◌, refl, sym, ap, ◌∙◌, subst, true, false, Bool, List, [], ◌∷◌, ◌++◌, All, length, if◌then◌else◌, arith, add-one}
use Rattle.std.proofs.lemmas.List.Elements.{All-nil, All-cons}
use Rattle.nf_base.specs.declared.card.TableSize.{TableSize}
use Rattle.nf_base.specs.declared.card.TableSize.TheVariants.{Entries128, Entries512}
use Rattle.nf_base.specs.declared.packet.Family.{Family}
use Rattle.nf_base.specs.declared.packet.Family.TheVariants.{Four, Six}
use Rattle.key_rows.specs.declared.place.Object.{Object}
use Rattle.key_rows.specs.Keyed.{is_keyed_for}
use Rattle.key_rows.specs.Systems.{group_from, group_long}
use Rattle.certificate_laws.specs.declared.line.Span.{Span}
use Rattle.certificate_laws.specs.Certificates.{span_of, span_if, spans_of}

append_assoc : (xs ys zs : List Span) → (xs ++ ys) ++ zs ≡ xs ++ (ys ++ zs)
append_assoc [] ys zs = refl
append_assoc (x ∷ xs) ys zs = ap (λ l. x ∷ l) (append_assoc xs ys zs)

pub spans_more : (objects : List Object) (table : TableSize) (port : ℕ) (old mid new : List Span) → old ≡ spans_of objects table port → mid ≡ old ++ span_if objects table Four port → new ≡ mid ++ span_if objects table Six port
    → new ≡ spans_of objects table (port + 1)
spans_more objects table port old mid new before four six =
    six ∙ ap (λ (l : List Span). l ++ span_if objects table Six port) (four ∙ ap (λ (l : List Span). l ++ span_if objects table Four port) before)
    ∙ append_assoc (spans_of objects table port) (span_if objects table Four port) (span_if objects table Six port)
    ∙ ap (spans_of objects table) (sym (add-one port))

ends : (table : TableSize) (f : Family) → group_from table + group_long table f ≤ 319
ends Entries128 Four = omega arith
ends Entries128 Six = omega arith
ends Entries512 Four = omega arith
ends Entries512 Six = omega arith

append_all : (P : Span → Type 0) (xs ys : List Span) → All P xs → All P ys → All P (xs ++ ys)
append_all P [] ys first second = second
append_all P (x ∷ xs) ys first second = All-cons P x (xs ++ ys) (first 0 x (omega arith)) (append_all P xs ys (λ i d below. first (suc i) d (omega (arith, below))) second)

all_within : (objects : List Object) (table : TableSize) (ports n : ℕ) → n ≤ ports → All (λ (s : Span). s.first + s.count ≤ 319 * ports) (spans_of objects table n)
all_within objects table ports zero low = All-nil (λ (s : Span). s.first + s.count ≤ 319 * ports)
all_within objects table ports (suc n) low =
    append_all (λ (s : Span). s.first + s.count ≤ 319 * ports) (spans_of objects table n) (span_if objects table Four n ++ span_if objects table Six n) (all_within objects table ports n (omega (arith, low)))
    (append_all (λ (s : Span). s.first + s.count ≤ 319 * ports) (span_if objects table Four n) (span_if objects table Six n) (of_family Four (is_keyed_for objects Four n)) (of_family Six (is_keyed_for objects Six n)))
  where
    of_family : (f : Family) (b : Bool) → All (λ (s : Span). s.first + s.count ≤ 319 * ports) (if b then span_of table f n ∷ [] else [])
    of_family f true =
        All-cons (λ (s : Span). s.first + s.count ≤ 319 * ports) (span_of table f n) [] (let end = ends table f in omega (arith, end, low)) (All-nil (λ (s : Span). s.first + s.count ≤ 319 * ports))
    of_family f false = All-nil (λ (s : Span). s.first + s.count ≤ 319 * ports)

pub spans_within : (objects : List Object) (table : TableSize) (ports : ℕ) (spans : List Span) → spans ≡ spans_of objects table ports → All (λ (s : Span). s.first + s.count ≤ 319 * ports) spans
spans_within objects table ports spans is = subst (All (λ (s : Span). s.first + s.count ≤ 319 * ports)) (sym is) (all_within objects table ports ports (omega arith))
