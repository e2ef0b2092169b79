-- Two packets that touch one location of a written object have one hash.
use Rattle.std.proofs.Common.{◌≡◌, ℕ, List, IsTrue, Option, Some, None, refl, ap, sym, ◌∙◌, subst, inl, inr}
use Rattle.std.specs.Option.{option_map}
use Rattle.nf_base.specs.declared.packet.Family.{Family}
use Rattle.nf_base.specs.declared.packet.Door.{Door}
use Rattle.nf_base.specs.Families.{family_of}
use Rattle.nf_base.specs.Families.{door_of}
use Rattle.nf_base.specs.declared.decl.ObjectId.{ObjectId}
use Rattle.nf_base.specs.declared.decl.ObjectId.TheVariants as object
use Rattle.nf_base.specs.declared.packet.Packet.{Packet}
use Rattle.nf_base.specs.declared.packet.Fields.{Fields}
use Rattle.nf_base.specs.Text.{Given, Function}
use Rattle.nf_base.specs.Context.{Context, Input, given}
use Rattle.nf_base.specs.Objects.{is_written}
use Rattle.nf_base.specs.Locations.{Location, EntryNo, KeyOf, CellAt, object_of}
use Rattle.nf_base.specs.Step.{input}
use Rattle.nf_base.specs.declared.hash_fields.Hashable.{Hashable}
use Rattle.nf_base.specs.Hashed as hash
use Rattle.nf_base.specs.Hashed.{IsInput}
use Rattle.nf_sites.specs.Named.{Named, named_as, numbered, speaker}
use Rattle.nf_sites.specs.Sites.{Site, first_label}
use Rattle.nf_sites.specs.Known.{together, field_given, field_of_named, known}
use Rattle.nf_sites.specs.Admissible.{AreEqual, IsAdmissibleBySites}
use Rattle.nf_sites.specs.Covers.{label_value, Fits, TouchedAt}
use Rattle.nf_sites.specs.Labelled.{run_labels, told}
use Rattle.nf_sites.specs.CoverLaws.{IsOf}
use Rattle.nf_sites.specs.Separation.{MeetingPacketsHashAlike}
use Rattle.nf_sites.proofs.Givens.{speaker_given, map_speaker}
use Rattle.nf_sites.proofs.Fields.{known_value}
use Rattle.nf_sites.proofs.Runs.{runs_covered}

-- what a label's value is at a location
abbrev value_if : Option (Named ℕ) → ℕ
value_if None = 0
value_if (Some x) = x.given

abbrev tag : Function → ((chain k : ℕ) → List ℕ) → Location → ℕ → ℕ
tag f labels (EntryNo chain k) l = label_value (labels chain k) l
tag f labels (KeyOf chain m key) l = value_if (speaker (together f (object.Chain chain) l) l (numbered (first_label f.chains chain m) key))
tag f labels (CellAt array i) l = i

known_some : (family : Family) (o : Option (Named Given)) (h : Hashable) → field_of_named family o ≡ Some h → (y : Named Given) × (o ≡ Some y) × (field_given family y.given ≡ Some h)
known_some family None h e = cc
known_some family (Some y) h e = (y, refl, e)

-- a field by which a label is known at a site has the value that the label has at the location
fits_tag : (f : Function) (labels : (chain k : ℕ) → List ℕ) (p : Input) (c : Context) (site : Site) (x : Location) (l : ℕ) (y : Named Given) → Fits f (told labels) p c site x → speaker (together f (object_of x) l) l site.named ≡ Some y → given p c y.given ≡ tag f labels x l
fits_tag f labels p c site (EntryNo chain k) l y fits e =
    let w = speaker_given p c (label_value (labels chain k)) (together f (object.Chain chain) l) l site.named y fits.1.0 e in
    w.0 ∙ elim w.1 [ inl same ↦ ap (label_value (labels chain k)) same | inr both ↦ sym (fits.1.1 l y.label both) ]
fits_tag f labels p c site (KeyOf chain m key) l y fits e =
    let t = together f (object.Chain chain) l in
    sym (ap value_if (sym (ap (speaker t l) fits.1) ∙ map_speaker (given p c) t l site.named ∙ ap (option_map (named_as (given p c))) e))
fits_tag f labels p c site (CellAt array i) l y fits e = (speaker_given p c (λ _. i) (together f (object.Array array) l) l site.named y fits.1 e).0

covered_tag : (f : Function) (labels : (chain k : ℕ) → List ℕ) (p : Input) (of : Door) (x : Location) (q : TouchedAt (IsOf f) f (told labels) p of x) (l : ℕ) (h : Hashable) → family_of p.fields ≡ of.family → IsInput p.fields → known f q.site l ≡ Some h → hash.value p.fields h ≡ tag f labels x l
covered_tag f labels p of x q l h family ok e =
    let w = known_some q.site.door.family (speaker (together f (object_of x) l) l q.site.named) h (subst (λ (o : ObjectId). field_of_named q.site.door.family (speaker (together f o l) l q.site.named) ≡ Some h) q.object e) in
    sym (known_value p q.context q.site.door.family w.0.given h (family ∙ ap (λ (d : Door). d.family) (sym q.door)) ok w.2) ∙ fits_tag f labels p q.context q.site x l w.0 q.fits w.1

agree_some : (p q : Fields) (a b : Option Hashable) (t : ℕ) → ((h : Hashable) → a ≡ Some h → hash.value p h ≡ t) → ((h : Hashable) → b ≡ Some h → hash.value q h ≡ t) → AreEqual p q a b
agree_some p q (Some g) (Some h) t x y = x g refl ∙ sym (y h refl)
agree_some p q (Some g) None t x y = tt
agree_some p q None b t x y = tt

separated : (f : Function) (hash : Door → Fields → ℕ) (labels : (chain k : ℕ) → List ℕ) (a b : Packet) (p q : Fields) (x : Location) → IsAdmissibleBySites f hash → IsInput p → IsInput q → IsTrue (is_written f (object_of x)) →
    TouchedAt (IsOf f) f (told labels) (input f a.time p) (door_of a.id.port p) x → TouchedAt (IsOf f) f (told labels) (input f b.time q) (door_of b.id.port q) x → hash (door_of a.id.port p) p ≡ hash (door_of b.id.port q) q
separated f hash labels a b p q x good in_p in_q written s t =
    let same = good s.site t.site s.is_site t.is_site (s.object ∙ sym t.object) (subst (λ (o : ObjectId). IsTrue (is_written f o)) (sym s.object) written) p q (record { family = ap (λ (d : Door). d.family) (sym s.door); input = in_p }) (record { family = ap (λ (d : Door). d.family) (sym t.door); input = in_q })
    (λ l kept. agree_some p q (known f s.site l) (known f t.site l) (tag f labels x l) (λ h k. covered_tag f labels (input f a.time p) (door_of a.id.port p) x s l h refl in_p k) (λ h k. covered_tag f labels (input f b.time q) (door_of b.id.port q) x t l h refl in_q k)) in
    sym (ap (λ n. hash n p) s.door) ∙ same ∙ ap (λ n. hash n q) t.door

pub hash_alike : MeetingPacketsHashAlike
hash_alike f hash hs a b good in_a in_b meet =
    let i = runs_covered f hs a meet.location meet.first meet.by_first in
    let j = runs_covered f hs b meet.location meet.second meet.by_second in
    ap (λ (o : Option Fields). option_map (λ fields. hash (door_of a.packet.id.port fields) fields) o) i.handled
    ∙ ap Some (separated f hash (run_labels f hs) a.packet b.packet i.fields j.fields meet.location good (in_a i.fields i.handled) (in_b j.fields j.handled) meet.written i.touched j.touched)
    ∙ sym (ap (λ (o : Option Fields). option_map (λ fields. hash (door_of b.packet.id.port fields) fields) o) j.handled)
