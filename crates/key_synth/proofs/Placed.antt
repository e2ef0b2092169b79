-- The ports of a plan's places are those of the sites of written objects.
use Rattle.std.proofs.Common.{◌≡◌, ◌⊎◌, ◌==◌, Bool, ℕ, List, [], ◌∷◌, true, Option, Some, None, map, Contains, refl, ap, sym, ◌∙◌, subst, inl, inr}
use Rattle.std.specs.List.{filter_map, cons_option, list_any, Any}
use Rattle.std.proofs.lemmas.Bool.{cases_Bool, eq-eqb, eqb-true, and_parts}
use Rattle.std.proofs.lemmas.Option.{same_Some}
use Rattle.std.proofs.lemmas.List.Folds.{list_any_at, Any-from_list_any}
use Rattle.nf_base.specs.declared.packet.Family.{Family}
use Rattle.nf_base.specs.declared.packet.Family.TheVariants.{Four, Six}
use Rattle.nf_base.specs.declared.decl.ObjectId.{ObjectId}
use Rattle.nf_base.specs.Text.{Function}
use Rattle.nf_base.specs.Objects.{is_written}
use Rattle.nf_laws.proofs.Listed.{here, there, has, has_none, kept, was}
use Rattle.nf_sites.specs.Sites as text
use Rattle.nf_sites.specs.OnPaths.{sites_of}
use Rattle.nf_sites.specs.Known.{same_object, labels_of}
use Rattle.nf_sites.proofs.Lists.{passes, from_map, to_map}
use Rattle.nf_sites.proofs.KeptLabels.{itself, one_object}
use Rattle.access_keys.specs.declared.site.Site.{Site}
use Rattle.access_keys.specs.Told.{site_told}
use Rattle.key_rows.specs.declared.place.Place.{Place}
use Rattle.key_rows.specs.declared.place.Object.{Object}
use Rattle.key_rows.specs.Keyed.{is_at, is_keyed, version, is_for, is_keyed_for}
use Rattle.key_rows.proofs.Grouped.{both_true, keyed_some}
use Rattle.shard_rules.specs.Sites.{object_sites}
use Rattle.shard_rules.specs.Rules.{kept_labels}
use Rattle.shard_rules.specs.Places.{place_of, places_of}
use Rattle.shard_rules.specs.Plans.{objects_of, kept_places, written_places}
use Rattle.shard_rules.specs.Laws.{IsSiteAt}
use Rattle.shard_rules.specs.Served.{own_sites, own_plan}
use Rattle.shard_rules.proofs.Once.{once_to}
use Rattle.shard_rules.proofs.EachOnce.{those_of_sites}
use Rattle.key_synth.specs.Keys.{IsKeyed, IsKeyedFor}

from_option : {A B : Type 0} (h : A → Option B) (x : A) (o : Option B) (rest : List B) (y : B) → h x ≡ o → Contains (cons_option o rest) y → (h x ≡ Some y) ⊎ Contains rest y
from_option h x None rest y q i = inr i
from_option h x (Some z) rest y q i = elim (has z rest y i) [ inl e ↦ inl (q ∙ ap Some e) | inr j ↦ inr j ]

from_filter : {A B : Type 0} (h : A → Option B) (xs : List A) (y : B) → Contains (filter_map h xs) y → (x : A) × Contains xs x × (h x ≡ Some y)
from_filter h [] y i = absurd (has_none y i)
from_filter h (x ∷ xs) y i = elim (from_option h x (h x) (filter_map h xs) y refl i) [
  | inl e ↦ (x, here x xs, e)
  | inr j ↦ let w = from_filter h xs y j in (w.0, there x xs w.0 w.1, w.2)
]

in_option : {B : Type 0} (o : Option B) (rest : List B) (y : B) → o ≡ Some y → Contains (cons_option o rest) y
in_option o rest y e = rw e (here y rest)

behind_option : {B : Type 0} (o : Option B) (rest : List B) (y : B) → Contains rest y → Contains (cons_option o rest) y
behind_option None rest y i = i
behind_option (Some z) rest y i = there z rest y i

in_filter : {A B : Type 0} (h : A → Option B) (xs : List A) (x : A) (y : B) → Contains xs x → h x ≡ Some y → Contains (filter_map h xs) y
in_filter h [] x y i e = absurd (has_none x i)
in_filter h (z ∷ xs) x y i e = elim (has z xs x i) [
  | inl q ↦ in_option (h z) (filter_map h xs) y (ap h q ∙ e)
  | inr j ↦ behind_option (h z) (filter_map h xs) y (in_filter h xs x y j e)
]

written_is : (f : Function) (o : ObjectId) (object : Object) → written_places f (own_sites f) o ≡ Some object
    → (is_written f o ≡ true) × (kept_places (labels_of f o) (object_sites o (own_sites f)) ≡ object)
written_is f o object e = elim (cases_Bool (is_written f o)) [
  | inl w ↦ (w, same_Some _ _ (let it : Some (kept_places (labels_of f o) (object_sites o (own_sites f))) ≡ Some object = rw w at e in it))
  | inr w ↦ absurd (let bad : None ≡ Some object = rw w at e in cc)
]

-- the labels that an object's sites keep
abbrev keeps : Function → ObjectId → List ℕ
keeps f o = kept_labels (labels_of f o) (object_sites o (own_sites f))

family_same : (f g : Family) → (version f == version g) ≡ true → f ≡ g
family_same Four Four h = refl
family_same Four Six h = cc
family_same Six Four h = cc
family_same Six Six h = refl

-- a site at a port of one of an object's places
site_at : (f : Function) (o : ObjectId) (family : Family) (port : ℕ) (place : Place) → is_written f o ≡ true → Contains (places_of (keeps f o) (object_sites o (own_sites f))) place → place.family ≡ family → place.port ≡ port
    → IsKeyedFor f family port
site_at f o family port place written among of is =
    let at : IsSiteAt (keeps f o) (object_sites o (own_sites f)) place = (those_of_sites (keeps f o) (object_sites o (own_sites f)) place).0 among in
    let mine : Contains (own_sites f) at.site = was (λ (s : Site). same_object s.object o) (own_sites f) at.site at.among in
    let x = from_map (site_told f) (sites_of f) at.site mine in
    let of_o : at.site.object ≡ o = one_object at.site.object o (passes (λ (s : Site). same_object s.object o) (own_sites f) at.site at.among) in
    record {
      site = x.0;
      among = x.1;
      here = ap (λ (s : Site). s.door.port) x.2 ∙ ap (λ (p : Place). p.port) at.place ∙ is;
      of = ap (λ (s : Site). s.door.family) x.2 ∙ ap (λ (p : Place). p.family) at.place ∙ of;
      written = ap (λ (s : Site). is_written f s.object) x.2 ∙ ap (is_written f) of_o ∙ written;
    }

any_family : (f : Function) (family : Family) (port : ℕ) → IsKeyedFor f family port → IsKeyed f port
any_family f family port is = record { site = is.site; among = is.among; here = is.here; written = is.written }

pub keyed_for_to : (f : Function) (family : Family) (port : ℕ) → is_keyed_for (own_plan f).objects family port ≡ true → IsKeyedFor f family port
keyed_for_to f family port keyed =
    let objects = (own_plan f).objects in
    let one : Any (λ object. list_any (is_for family port) object.places ≡ true) objects = Any-from_list_any (λ object. list_any (is_for family port) object.places) objects keyed in
    let two : Any (λ place. is_for family port place ≡ true) one.1.places = Any-from_list_any (is_for family port) one.1.places one.4 in
    let both = and_parts (version two.1.family == version family) (two.1.port == port) two.4 in
    let from = from_filter (written_places f (own_sites f)) (objects_of (own_sites f)) one.1 (one.0, one.2, one.3) in
    let w = written_is f from.0 one.1 from.2 in
    let there_ : Contains one.1.places two.1 = (two.0, two.2, two.3) in
    site_at f from.0 family port two.1 w.0 (subst (λ (object : Object). Contains object.places two.1) (sym w.1) there_) (family_same two.1.family family both.0) (eqb-true two.1.port port both.1)

pub keyed_to : (f : Function) (port : ℕ) → is_keyed (own_plan f).objects port ≡ true → IsKeyed f port
keyed_to f port keyed =
    let some = keyed_some (own_plan f).objects port keyed in
    any_family f some.0 port (keyed_for_to f some.0 port some.1)

-- the place of a site of a written object is among the plan's
found_at :
    (f : Function) (x : text.Site) (test : Place → Bool) → Contains (sites_of f) x → is_written f x.object ≡ true → test (place_of (keeps f x.object) (site_told f x)) ≡ true
    → list_any (λ (one : Object). list_any test one.places) (own_plan f).objects ≡ true
found_at f x test x_among written at =
    let mine : Contains (own_sites f) (site_told f x) = to_map (site_told f) (sites_of f) x x_among in
    let on : Contains (object_sites x.object (own_sites f)) (site_told f x) =
    kept (λ (t : Site). same_object t.object x.object) (own_sites f) (site_told f x) mine (itself x.object) in
    let object : Object = kept_places (labels_of f x.object) (object_sites x.object (own_sites f)) in
    let among : Contains (own_plan f).objects (kept_places (labels_of f x.object) (object_sites x.object (own_sites f))) =
    in_filter (written_places f (own_sites f)) (objects_of (own_sites f)) x.object (kept_places (labels_of f x.object) (object_sites x.object (own_sites f)))
    (once_to same_object one_object (map (λ (t : Site). t.object) (own_sites f)) x.object (to_map (λ (t : Site). t.object) (own_sites f) (site_told f x) mine))
    (rw written refl) in
    let place : Place = place_of (keeps f x.object) (site_told f x) in
    let there_ : Contains object.places (place_of (keeps f x.object) (site_told f x)) =
    (those_of_sites (keeps f x.object) (object_sites x.object (own_sites f)) (place_of (keeps f x.object) (site_told f x))).1
    (record { site = site_told f x; among = on; place = refl }) in
    let in_object : list_any test object.places ≡ true =
    list_any_at test object.places there_.0 place there_.1 (ap test there_.2 ∙ at) in
    list_any_at (λ (one : Object). list_any test one.places) (own_plan f).objects among.0 object among.1
    (ap (λ (one : Object). list_any test one.places) among.2 ∙ in_object)

pub keyed_from : (f : Function) (port : ℕ) → IsKeyed f port → is_keyed (own_plan f).objects port ≡ true
keyed_from f port is = found_at f is.site (is_at port) is.among is.written (eq-eqb is.site.door.port port is.here)

pub keyed_for_from : (f : Function) (family : Family) (port : ℕ) → IsKeyedFor f family port → is_keyed_for (own_plan f).objects family port ≡ true
keyed_for_from f family port is =
    found_at f is.site (is_for family port) is.among is.written
    (both_true (version is.site.door.family == version family) (is.site.door.port == port) (eq-eqb (version is.site.door.family) (version family) (ap version is.of)) (eq-eqb is.site.door.port port is.here))
