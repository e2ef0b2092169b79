-- Places that are one.
use Rattle.std.proofs.Common.{◌≡◌, ℕ, suc, length, List, [], ◌∷◌, Bool, true, false, ◌&&◌, ◌==◌, refl, ◌∙◌, ap}
use Rattle.std.proofs.lemmas.Bool.{eqb-true, eq-eqb}
use Rattle.nf_base.specs.declared.hash_fields.Hashable.{Hashable}
use Rattle.nf_base.specs.declared.hash_fields.Hashable.TheVariants.{SrcIp, DstIp, SrcPort, DstPort}
use Rattle.nf_base.specs.Hashed.{number}
use Rattle.nf_base.specs.declared.packet.Family.{Family}
use Rattle.nf_base.specs.declared.packet.Family.TheVariants.{Four, Six}
use Rattle.key_rows.specs.Keyed.{version}
use Rattle.key_rows.specs.declared.place.Place.{Place}
use Rattle.shard_rules.specs.Places.{same_fields, same_place}

field_same : (f g : Hashable) → (number f == number g) ≡ true → f ≡ g
field_same SrcIp SrcIp h = refl
field_same SrcIp DstIp h = cc
field_same SrcIp SrcPort h = cc
field_same SrcIp DstPort h = cc
field_same DstIp SrcIp h = cc
field_same DstIp DstIp h = refl
field_same DstIp SrcPort h = cc
field_same DstIp DstPort h = cc
field_same SrcPort SrcIp h = cc
field_same SrcPort DstIp h = cc
field_same SrcPort SrcPort h = refl
field_same SrcPort DstPort h = cc
field_same DstPort SrcIp h = cc
field_same DstPort DstIp h = cc
field_same DstPort SrcPort h = cc
field_same DstPort DstPort h = refl

both : (a b : Bool) → (a && b) ≡ true → (a ≡ true) × (b ≡ true)
both true true h = (refl, refl)
both true false h = cc
both false b h = cc

pub fields_same : (fs gs : List Hashable) → same_fields fs gs ≡ true → fs ≡ gs
fields_same [] [] h = refl
fields_same [] (g ∷ gs) h = cc
fields_same (f ∷ fs) [] h = cc
fields_same (f ∷ fs) (g ∷ gs) h =
    let parts = both (number f == number g) (same_fields fs gs) h in
    let first = field_same f g parts.0 in
    let rest = fields_same fs gs parts.1 in
    cc

family_same : (f g : Family) → (version f == version g) ≡ true → f ≡ g
family_same Four Four h = refl
family_same Four Six h = cc
family_same Six Four h = cc
family_same Six Six h = refl

-- a place of a port, a family and fields
abbrev place : ℕ → Family → List Hashable → Place
place port family known = record { port = port; family = family; known = known }

parts_same : (a b : ℕ) (f g : Family) (k m : List Hashable) → a ≡ b → f ≡ g → k ≡ m → place a f k ≡ place b g m
parts_same a b f g k m e h i =
    ap (λ (x : ℕ). place x f k) e ∙ ap (λ (x : Family). place b x k) h ∙ ap (λ (y : List Hashable). place b g y) i

pub places_same : (p q : Place) → same_place p q ≡ true → p ≡ q
places_same p q h =
    let parts = both (p.port == q.port) ((version p.family == version q.family) && same_fields p.known q.known) h in
    let rest = both (version p.family == version q.family) (same_fields p.known q.known) parts.1 in
    parts_same p.port q.port p.family q.family p.known q.known (eqb-true p.port q.port parts.0) (family_same p.family q.family rest.0) (fields_same p.known q.known rest.1)

field_itself : (f : Hashable) → (number f == number f) ≡ true
field_itself SrcIp = refl
field_itself DstIp = refl
field_itself SrcPort = refl
field_itself DstPort = refl

fields_themselves : (fs : List Hashable) → same_fields fs fs ≡ true
fields_themselves [] = refl
fields_themselves (f ∷ fs) = rw (field_itself f) (fields_themselves fs)

pub place_itself : (p : Place) → same_place p p ≡ true
place_itself p = rw (eq-eqb p.port p.port refl, eq-eqb (version p.family) (version p.family) refl) (fields_themselves p.known)

-- lists of two lengths are not one
pub unequal_lengths : (fs gs : List Hashable) → (length fs ≡ length gs → ⊥) → same_fields fs gs ≡ false
unequal_lengths [] [] h = absurd (h refl)
unequal_lengths [] (g ∷ gs) h = refl
unequal_lengths (f ∷ fs) [] h = refl
unequal_lengths (f ∷ fs) (g ∷ gs) h = rw (unequal_lengths fs gs (λ e. h (ap (λ n. suc n) e))) (never (number f == number g))
  where
    never : (b : Bool) → (b && false) ≡ false
    never true = refl
    never false = refl
