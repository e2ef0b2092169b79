-- Keys that are admissible at the places, and by the sites.
use Rattle.std.proofs.Common.{◌≡◌, ◌⊎◌, ◌<◌, ◌^◌, ℕ, List, [], ◌∷◌, true, Option, Some, None, map, get_or, All, Contains, refl, ap, sym, ◌∙◌, subst, inl, inr}
use Rattle.std.specs.List.{filter_map, cons_option}
use Rattle.std.proofs.lemmas.Bool.{cases_Bool}
use Rattle.std.proofs.lemmas.Option.{same_Some}
use Rattle.std.proofs.lemmas.List.Elements.{All-contains, Contains-get_or}
use Rattle.nf_base.specs.declared.decl.ObjectId.{ObjectId}
use Rattle.nf_base.specs.declared.keys.Keys.{Keys}
use Rattle.nf_base.specs.declared.packet.Fields.{Fields}
use Rattle.nf_base.specs.Text.{Function}
use Rattle.nf_base.specs.Objects.{is_written}
use Rattle.nf_laws.proofs.Listed.{here, there, has, has_none, kept, was}
use Rattle.nf_sites.specs.Sites as text
use Rattle.nf_sites.specs.OnPaths as listed
use Rattle.nf_sites.specs.Known as sites
use Rattle.nf_sites.specs.Admissible.{AreEqual, Agree, IsAt, IsAdmissibleBySites}
use Rattle.nf_base.specs.declared.packet.Family.{Family}
use Rattle.nf_base.specs.Hashed.{value, width}
use Rattle.nf_sites.proofs.Lists.{passes, from_map, to_map, all_has}
use Rattle.nf_sites.proofs.KeptLabels.{itself, one_object}
use Rattle.access_keys.specs.declared.site.Site.{Site}
use Rattle.access_keys.specs.Told.{site_told}
use Rattle.key_rows.specs.declared.place.Place.{Place}
use Rattle.key_rows.specs.declared.place.Object.{Object}
use Rattle.key_rows.specs.Places as rows
use Rattle.shard_rules.specs.Sites.{object_sites, field_at, knows}
use Rattle.shard_rules.specs.Rules.{is_kept, kept_labels}
use Rattle.shard_rules.specs.Places.{place_of, same_place, places_of}
use Rattle.shard_rules.specs.Plans.{objects_of, kept_places, written_places}
use Rattle.toeplitz_hash.specs.Packets.{hash_by}
use Rattle.shard_rules.specs.Served.{own_sites, own_plan, PlacesSayWhatSitesSay}
use Rattle.shard_rules.proofs.Once.{once_from, once_to}
use Rattle.shard_rules.proofs.SamePlace.{places_same}
use Rattle.shard_rules.proofs.Own.{told, own_kept}
use Rattle.shard_rules.proofs.Ties.{BothKnow, both_know, tie, untie}

from_option : {A B : Type 0} (h : A → Option B) (x : A) (o : Option B) (rest : List B) (y : B) → h x ≡ o → Contains (cons_option o rest) y → (h x ≡ Some y) ⊎ Contains rest y
from_option h x None rest y q i = inr i
from_option h x (Some z) rest y q i = elim (has z rest y i) [ inl e ↦ inl (q ∙ ap Some e) | inr j ↦ inr j ]

from_filter : {A B : Type 0} (h : A → Option B) (xs : List A) (y : B) → Contains (filter_map h xs) y → (x : A) × Contains xs x × (h x ≡ Some y)
from_filter h [] y i = absurd (has_none y i)
from_filter h (x ∷ xs) y i = elim (from_option h x (h x) (filter_map h xs) y refl i) [
  | inl e ↦ (x, here x xs, e)
  | inr j ↦ let w = from_filter h xs y j in (w.0, there x xs w.0 w.1, w.2)
]

in_option : {B : Type 0} (o : Option B) (rest : List B) (y : B) → o ≡ Some y → Contains (cons_option o rest) y
in_option o rest y e = rw e (here y rest)

behind_option : {B : Type 0} (o : Option B) (rest : List B) (y : B) → Contains rest y → Contains (cons_option o rest) y
behind_option None rest y i = i
behind_option (Some z) rest y i = there z rest y i

in_filter : {A B : Type 0} (h : A → Option B) (xs : List A) (x : A) (y : B) → Contains xs x → h x ≡ Some y → Contains (filter_map h xs) y
in_filter h [] x y i e = absurd (has_none x i)
in_filter h (z ∷ xs) x y i e = elim (has z xs x i) [
  | inl q ↦ in_option (h z) (filter_map h xs) y (ap h q ∙ e)
  | inr j ↦ behind_option (h z) (filter_map h xs) y (in_filter h xs x y j e)
]

-- the sites of an object, and their kept labels
abbrev on : Function → ObjectId → List Site
on f o = object_sites o (own_sites f)

abbrev keeps : Function → ObjectId → List ℕ
keeps f o = kept_labels (sites.labels_of f o) (on f o)

-- a site is on its object
on_own : (f : Function) (x : text.Site) (o : ObjectId) → Contains (listed.sites_of f) x → x.object ≡ o → Contains (on f o) (site_told f x)
on_own f x o i e =
    kept (λ (s : Site). sites.same_object s.object o) (own_sites f) (site_told f x)
    (to_map (site_told f) (listed.sites_of f) x i)
    (subst (λ (p : ObjectId). sites.same_object x.object p ≡ true) e (itself x.object))

-- where it knows each kept label
own_knows : (f : Function) (o : ObjectId) (s : Site) → Contains (on f o) s → (l : ℕ) → Contains (keeps f o) l → knows l s ≡ true
own_knows f o s i l j = all_has (knows l) (on f o) s (passes (is_kept (on f o)) (sites.labels_of f o) l j) i

-- as the site itself
own_field : (f : Function) (o : ObjectId) (x : text.Site) → x.object ≡ o → (l : ℕ) → Contains (keeps f o) l → field_at (site_told f x) l ≡ sites.known f x l
own_field f o x e l j =
    told f x l (subst (λ (p : ObjectId). Contains (sites.labels_of f p) l) (sym e) (was (is_kept (on f o)) (sites.labels_of f o) l j))

in_kept : (f : Function) (o : ObjectId) (l : ℕ) → Contains (keeps f o) l → Contains (sites.kept f o) l
in_kept f o l j = subst (λ (ls : List ℕ). Contains ls l) (own_kept f o) j

from_kept : (f : Function) (o : ObjectId) (l : ℕ) → Contains (sites.kept f o) l → Contains (keeps f o) l
from_kept f o l j = subst (λ (ls : List ℕ). Contains ls l) (sym (own_kept f o)) j

both_own : (f : Function) (o : ObjectId) (x y : text.Site) → Contains (listed.sites_of f) x → Contains (listed.sites_of f) y → x.object ≡ o → y.object ≡ o → (l : ℕ) → Contains (keeps f o) l → BothKnow (site_told f x) (site_told f y) l
both_own f o x y i j e g l k =
    both_know (site_told f x) (site_told f y) l
    (own_knows f o (site_told f x) (on_own f x o i e) l k)
    (own_knows f o (site_told f y) (on_own f y o j g) l k)

-- agreeing inputs are tied
tied : (f : Function) (x y : text.Site) (p q : Fields) → Contains (listed.sites_of f) x → Contains (listed.sites_of f) y → x.object ≡ y.object → Agree f x y p q →
    rows.AreTied (place_of (keeps f x.object) (site_told f x)).known (place_of (keeps f x.object) (site_told f y)).known p q
tied f x y p q i j e agree =
    tie p q (site_told f x) (site_told f y) (keeps f x.object)
    (both_own f x.object x y i j refl (sym e))
    (λ l k. subst (λ (a : Option _). AreEqual p q a (field_at (site_told f y) l)) (sym (own_field f x.object x refl l k))
    (subst (λ (b : Option _). AreEqual p q (sites.known f x l) b) (sym (own_field f x.object y (sym e) l k))
    (agree l (in_kept f x.object l k))))

-- and tied ones agree
agreeing : (f : Function) (x y : text.Site) (o : ObjectId) (p q : Fields) → Contains (listed.sites_of f) x → Contains (listed.sites_of f) y → x.object ≡ o → y.object ≡ o →
    rows.AreTied (place_of (keeps f o) (site_told f x)).known (place_of (keeps f o) (site_told f y)).known p q → (l : ℕ) → Contains (sites.kept f o) l → AreEqual p q (sites.known f x l) (sites.known f y l)
agreeing f x y o p q i j e g ties l k =
    let c = from_kept f o l k in
    subst (λ (a : Option _). AreEqual p q a (sites.known f y l)) (own_field f o x e l c)
    (subst (λ (b : Option _). AreEqual p q (field_at (site_told f x) l) b) (own_field f o y g l c)
    (untie p q (site_told f x) (site_told f y) (keeps f o) (both_own f o x y i j e g) ties l c))

-- the places of a written object are in the plan
in_plan : (f : Function) (x : text.Site) → Contains (listed.sites_of f) x → is_written f x.object ≡ true → Contains (own_plan f).objects (kept_places (sites.labels_of f x.object) (on f x.object))
in_plan f x i w =
    in_filter (written_places f (own_sites f)) (objects_of (own_sites f)) x.object (kept_places (sites.labels_of f x.object) (on f x.object))
    (once_to sites.same_object one_object (map (λ (s : Site). s.object) (own_sites f)) x.object
    (to_map (λ (s : Site). s.object) (own_sites f) (site_told f x) (to_map (site_told f) (listed.sites_of f) x i)))
    (rw w refl)

-- the place of a site is among its object's
in_places : (f : Function) (o : ObjectId) (x : text.Site) → Contains (listed.sites_of f) x → x.object ≡ o → Contains (places_of (keeps f o) (on f o)) (place_of (keeps f o) (site_told f x))
in_places f o x i e =
    once_to same_place places_same (map (place_of (keeps f o)) (on f o)) (place_of (keeps f o) (site_told f x))
    (to_map (place_of (keeps f o)) (on f o) (site_told f x) (on_own f x o i e))

-- an input of a site's family, as it is at its place
to_rows : (x : text.Site) (p : Fields) → IsAt x p → rows.IsInputOf x.door.family p
to_rows x p at = record { of = at.family; within = λ h. subst (λ (g : Family). value p h < 2 ^ width g h) at.family (at.input.within h) }

from_rows : (x : text.Site) (p : Fields) → rows.IsInputOf x.door.family p → IsAt x p
from_rows x p fits = record { family = fits.of; input = record { within = λ h. subst (λ (g : Family). value p h < 2 ^ width g h) (sym fits.of) (fits.within h) } }

by_sites : (f : Function) (keys : Keys) → rows.AreAdmissibleForAll keys (own_plan f).objects → IsAdmissibleBySites f (hash_by keys)
by_sites f keys h x y i j e w p q ip iq agree =
    let o = x.object in
    let places = places_of (keeps f o) (on f o) in
    let first = place_of (keeps f o) (site_told f x) in
    let second = place_of (keeps f o) (site_told f y) in
    let all : rows.AreAdmissible keys places = All-contains (λ (object : Object). rows.AreAdmissible keys object.places) (own_plan f).objects (kept_places (sites.labels_of f o) (on f o)) h (in_plan f x i w) in
    let some : All (rows.AgreeAt keys first) places = All-contains (λ (one : Place). All (rows.AgreeAt keys one) places) places first all (in_places f o x i refl) in
    let both : rows.AgreeAt keys first second = All-contains (rows.AgreeAt keys first) places second some (in_places f o y j (sym e)) in
    both.hashes p q (to_rows x p ip) (to_rows y q iq) (tied f x y p q i j e agree)

-- a place is that of a site of the function
record PlaceOf (f : Function) (o : ObjectId) (place : Place) : Type 0 where
  site : text.Site
  of : Contains (listed.sites_of f) site
  on_it : site.object ≡ o
  is : place_of (keeps f o) (site_told f site) ≡ place

place_is : (f : Function) (o : ObjectId) (place : Place) → Contains (places_of (keeps f o) (on f o)) place → PlaceOf f o place
place_is f o place i =
    let a = from_map (place_of (keeps f o)) (on f o) place (once_from same_place (map (place_of (keeps f o)) (on f o)) place i) in
    let b = from_map (site_told f) (listed.sites_of f) a.0 (was (λ (s : Site). sites.same_object s.object o) (own_sites f) a.0 a.1) in
    let of_o : a.0.object ≡ o = one_object a.0.object o (passes (λ (s : Site). sites.same_object s.object o) (own_sites f) a.0 a.1) in
    record { site = b.0; of = b.1; on_it = ap (λ (s : Site). s.object) b.2 ∙ of_o; is = ap (place_of (keeps f o)) b.2 ∙ a.2 }

agree_at : (f : Function) (keys : Keys) → IsAdmissibleBySites f (hash_by keys) → (o : ObjectId) → is_written f o ≡ true → (first second : Place) → PlaceOf f o first → PlaceOf f o second → rows.AgreeAt keys first second
agree_at f keys ok o w first second a b =
    let x = a.site in
    let y = b.site in
    let one : rows.AgreeAt keys (place_of (keeps f o) (site_told f x)) (place_of (keeps f o) (site_told f y)) =
    record {
      hashes = λ p q ip iq ties.
          ok x y a.of b.of (a.on_it ∙ sym b.on_it)
          (subst (λ (n : ObjectId). is_written f n ≡ true) (sym a.on_it) w) p q (from_rows x p ip) (from_rows y q iq)
          (λ l k. agreeing f x y o p q a.of b.of a.on_it b.on_it ties l (subst (λ (n : ObjectId). Contains (sites.kept f n) l) a.on_it k));
    } in
    subst (λ (s : Place). rows.AgreeAt keys first s) b.is (subst (λ (s : Place). rows.AgreeAt keys s (place_of (keeps f o) (site_told f y))) a.is one)

each_of : {A : Type 0} (P : A → Type 0) (xs : List A) → ((x : A) → Contains xs x → P x) → All P xs
each_of P xs h = λ k d lt. h (get_or xs k d) (Contains-get_or xs k d lt)

written_is : (f : Function) (o : ObjectId) (object : Object) → written_places f (own_sites f) o ≡ Some object → (is_written f o ≡ true) × (kept_places (sites.labels_of f o) (on f o) ≡ object)
written_is f o object e = elim (cases_Bool (is_written f o)) [
  | inl w ↦ (w, same_Some _ _ (let it : Some (kept_places (sites.labels_of f o) (on f o)) ≡ Some object = rw w at e in it))
  | inr w ↦ absurd (let bad : None ≡ Some object = rw w at e in cc)
]

by_places : (f : Function) (keys : Keys) → IsAdmissibleBySites f (hash_by keys) → rows.AreAdmissibleForAll keys (own_plan f).objects
by_places f keys ok =
    each_of (λ (object : Object). rows.AreAdmissible keys object.places) (own_plan f).objects
    (λ object i.
    let a = from_filter (written_places f (own_sites f)) (objects_of (own_sites f)) object i in
    let w = written_is f a.0 object a.2 in
    subst (λ (it : Object). rows.AreAdmissible keys it.places) w.1
    (each_of (λ (first : Place). All (rows.AgreeAt keys first) (places_of (keeps f a.0) (on f a.0))) (places_of (keeps f a.0) (on f a.0))
    (λ first j. each_of (rows.AgreeAt keys first) (places_of (keeps f a.0) (on f a.0))
    (λ second k. agree_at f keys ok a.0 w.0 first second (place_is f a.0 first j) (place_is f a.0 second k)))))

pub say_the_same : PlacesSayWhatSitesSay
say_the_same f keys = (by_sites f keys, by_places f keys)
