-- The value of what is known by a hashed field.
use Rattle.std.proofs.Common.{◌≡◌, ℕ, zero, suc, ◌^◌, ◌%◌, Bool, true, false, ◌&&◌, ◌<◌, subst, ◌==◌, eqb-true, Option, Some, None, if◌then◌else◌, refl, ap, ap₂, sym, ◌∙◌}
use Rattle.std.proofs.lemmas.Option.{same_Some}
use Rattle.std.proofs.Math.Nat.{mod-eq_of_lt}
use Rattle.nf_base.specs.Families.{family_of}
use Rattle.nf_base.specs.declared.packet.Family.TheVariants.{Four, Six}
use Rattle.nf_base.specs.declared.packet.Family.{Family}
use Rattle.nf_base.specs.declared.packet.Field.{Field}
use Rattle.nf_base.specs.declared.packet.Field.TheVariants.{Time, Length, SrcMac, DstMac, SrcIp, DstIp, SrcIp6, DstIp6, Proto, Ttl, SrcPort, DstPort}
use Rattle.nf_base.specs.declared.packet.Fields.{Fields}
use Rattle.nf_base.specs.Text.{Expression, Number, Read, Index, Label, Column, Cell, Both, Given}
use Rattle.nf_base.specs.Values.{field_of, field_width, is_hashable, bits}
use Rattle.nf_base.specs.Context.{Context, Input, value, given}
use Rattle.std.specs.Option.{option_and_then}
use Rattle.path_walk.specs.Tests.{field_number}
use Rattle.path_walk.proofs.Texts.{one_field as same_number}
use Rattle.nf_base.specs.declared.hash_fields.Hashable.{Hashable}
use Rattle.nf_base.specs.Hashed as hash
use Rattle.nf_base.specs.Hashed.{hashable, IsInput}
use Rattle.nf_sites.specs.Known.{of_width, plain_field, field_given, hashed_of, field_set, same_field}

-- a field's value
field_is : (time : ℕ) (fields : Fields) (family : Family) (field : Field) (h : Hashable) → hashable family field ≡ Some h → field_of time fields field ≡ hash.value fields h
field_is time fields family Time h e = cc
field_is time fields family Length h e = cc
field_is time fields family SrcMac h e = cc
field_is time fields family DstMac h e = cc
field_is time fields Four SrcIp h e = ap (hash.value fields) (same_Some _ _ e)
field_is time fields Six SrcIp h e = cc
field_is time fields Four DstIp h e = ap (hash.value fields) (same_Some _ _ e)
field_is time fields Six DstIp h e = cc
field_is time fields Four SrcIp6 h e = cc
field_is time fields Six SrcIp6 h e = ap (hash.value fields) (same_Some _ _ e)
field_is time fields Four DstIp6 h e = cc
field_is time fields Six DstIp6 h e = ap (hash.value fields) (same_Some _ _ e)
field_is time fields family Proto h e = cc
field_is time fields family Ttl h e = cc
field_is time fields family SrcPort h e = ap (hash.value fields) (same_Some _ _ e)
field_is time fields family DstPort h e = ap (hash.value fields) (same_Some _ _ e)

pub plain_is : (p : Input) (c : Context) (family : Family) (e : Expression) (h : Hashable) → option_and_then (hashable family) (plain_field e) ≡ Some h → value p c e ≡ hash.value p.fields h
plain_is p c family (Read field) h e = field_is p.time p.fields family field h e
plain_is p c family (Number n) h e = cc
plain_is p c family (Index var) h e = cc
plain_is p c family (Label var label) h e = cc
plain_is p c family (Column var column) h e = cc
plain_is p c family (Cell place array at) h e = cc
plain_is p c family (Both operator a b) h e = cc

width_if : (family : Family) (w : ℕ) (g h : Hashable) (b : Bool) → w == hash.width family g ≡ b → (if b then Some g else None) ≡ Some h → (Some g ≡ Some h) × (w ≡ hash.width family h)
width_if family w g h true t e = (e, eqb-true w (hash.width family g) t ∙ ap (hash.width family) (same_Some g h e))
width_if family w g h false t e = cc

pub width_is : (family : Family) (w : ℕ) (o : Option Hashable) (h : Hashable) → of_width family w o ≡ Some h → (o ≡ Some h) × (w ≡ hash.width family h)
width_is family w None h e = cc
width_is family w (Some g) h e = width_if family w g h (w == hash.width family g) refl e

-- a value is its field's, modulo the field's width
pub field_value : (p : Input) (c : Context) (family : Family) (g : Given) (h : Hashable) → field_given family g ≡ Some h → given p c g ≡ hash.value p.fields h % 2 ^ hash.width family h
field_value p c family g h e =
    let q = width_is family (bits g.width) (option_and_then (hashable family) (plain_field g.value)) h e in
    ap₂ (λ x w. x % 2 ^ w) (plain_is p c family g.value h q.0) q.1

pub known_value : (p : Input) (c : Context) (family : Family) (g : Given) (h : Hashable) → family_of p.fields ≡ family → IsInput p.fields → field_given family g ≡ Some h → given p c g ≡ hash.value p.fields h
known_value p c family g h of ok e =
    field_value p c family g h e ∙ mod-eq_of_lt (subst (λ (f : Family). hash.value p.fields h < 2 ^ hash.width f h) of (ok.within h))

and_right : (a b : Bool) → (a && b) ≡ true → b ≡ true
and_right true b e = e
and_right false b e = cc

-- a field that a value is, whatever the family
hashed_if : (w : ℕ) (field g : Field) (b : Bool) → (is_hashable field && (w == bits (field_width field))) ≡ b → (if b then Some field else None) ≡ Some g → (field ≡ g) × (w ≡ bits (field_width g))
hashed_if w field g true t e =
    let same : field ≡ g = same_Some field g e in
    (same, eqb-true w (bits (field_width field)) (and_right (is_hashable field) (w == bits (field_width field)) t) ∙ ap (λ (x : Field). bits (field_width x)) same)
hashed_if w field g false t e = cc

hashed_is : (w : ℕ) (o : Option Field) (g : Field) → hashed_of w o ≡ Some g → (o ≡ Some g) × (w ≡ bits (field_width g))
hashed_is w None g e = cc
hashed_is w (Some field) g e =
    let h = hashed_if w field g (is_hashable field && (w == bits (field_width field))) refl e in
    (ap Some h.0, h.1)

read_is : (p : Input) (c : Context) (e : Expression) (g : Field) → plain_field e ≡ Some g → value p c e ≡ field_of p.time p.fields g
read_is p c (Read field) g e = ap (field_of p.time p.fields) (same_Some field g e)
read_is p c (Number n) g e = cc
read_is p c (Index var) g e = cc
read_is p c (Label var label) g e = cc
read_is p c (Column var column) g e = cc
read_is p c (Cell place array at) g e = cc
read_is p c (Both operator a b) g e = cc

pub set_value : (p : Input) (c : Context) (x : Given) (g : Field) → field_set x ≡ Some g → given p c x ≡ field_of p.time p.fields g % 2 ^ bits (field_width g)
set_value p c x g e =
    let q = hashed_is (bits x.width) (plain_field x.value) g e in
    ap₂ (λ v w. v % 2 ^ w) (read_is p c x.value g q.0) q.1

pub one_field : (a b : Option Field) → same_field a b ≡ true → (h : Field) × (a ≡ Some h) × (b ≡ Some h)
one_field None b e = cc
one_field (Some g) None e = cc
one_field (Some g) (Some h) e = (g, refl, ap Some (sym (same_number g h (eqb-true (field_number g) (field_number h) e))))
