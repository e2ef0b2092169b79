-- Each place of an object that is declared has a number.
use Rattle.std.proofs.Common.{◌≡◌, ℕ, zero, suc, ◌+◌, ◌<◌, refl, sym, ap, ◌∙◌, subst, inl, inr, true, false, Bool, List, [], ◌∷◌, All, Contains, length, map, get_or, Option, Some, None, slice_get, if◌then◌else◌, arith}
use Rattle.std.specs.List.{filter_map, cons_option}
use Rattle.std.proofs.lemmas.Option.{none-some, same_Some, slice_get-get_or}
use Rattle.std.proofs.lemmas.List.Elements.{Contains-append_left, Contains-append_right}
use Rattle.nf_base.specs.declared.decl.ObjectId.{ObjectId}
use Rattle.nf_base.specs.Text.{Function}
use Rattle.nf_base.specs.Objects.{is_written}
use Rattle.nf_laws.proofs.Listed.{here, there, has, has_none, was}
use Rattle.nf_sites.specs.Known.{same_object, labels_of}
use Rattle.nf_sites.proofs.Lists.{from_map, passes}
use Rattle.access_keys.specs.declared.site.Site.{Site}
use Rattle.key_rows.specs.declared.place.Place.{Place}
use Rattle.key_rows.specs.declared.place.Object.{Object}
use Rattle.shard_rules.specs.declared.plan.ObjectVerdict.{ObjectVerdict}
use Rattle.shard_rules.specs.declared.plan.ObjectVerdict.TheVariants.{ReadOnly, Unused}
use Rattle.shard_rules.specs.Sites.{object_sites}
use Rattle.shard_rules.specs.Rules.{kept_labels}
use Rattle.shard_rules.specs.Places.{place_of, places_of}
use Rattle.shard_rules.specs.Plans.{is_any, ruled, standing, objects_of, kept_places, written_places}
use Rattle.shard_rules.specs.Served.{own_sites, own_plan}
use Rattle.declared_laws.specs.Declares.{DeclaresObjects}
use Rattle.shard_rules.proofs.Once.{once_from}
use Rattle.shard_rules.proofs.EachOnce.{those_of_sites}
use Rattle.key_proof.specs.declared.numbered.Numbered.{Numbered}
use Rattle.key_proof.specs.Sites.{sites_at, standing_sites, objects_sites, numbered_sites}
use Rattle.key_certificate.specs.Rows.{IsPlaced, IsNumbered, AreNumbered}

pub item_there : {X : Type 0} (xs : List X) (i : ℕ) (d : X) → i < length xs → Contains xs (get_or xs i d)
item_there [] i d below = absurd (omega (arith, below))
item_there (x ∷ xs) zero d below = here x xs
item_there (x ∷ xs) (suc i) d below = there x xs (get_or xs i d) (item_there xs i d (omega (arith, below)))

-- where something of a list stands
pub record StandsAt {X : Type 0} (xs : List X) (x : X) : Type 0 where
  pub at : ℕ
  pub there : slice_get xs at ≡ Some x

stands_at : {X : Type 0} (xs : List X) (x : X) → Contains xs x → StandsAt xs x
stands_at xs x is = record { at = is.0; there = slice_get-get_or xs is.0 x is.1 ∙ ap Some is.2 }

-- what comes of a filter is something of the list
pub record IsOf {A B : Type 0} (h : A → Option B) (xs : List A) (y : B) : Type 0 where
  pub x : A
  pub among : Contains xs x
  pub gives : h x ≡ Some y

of_filter : {A B : Type 0} (h : A → Option B) (xs : List A) (y : B) → Contains (filter_map h xs) y → IsOf h xs y
of_filter h [] y is = absurd (has_none y is)
of_filter {A} {B} h (x ∷ xs) y is = go (h x) refl is (of_filter h xs y)
  where
    go : (o : Option B) → h x ≡ o → Contains (cons_option o (filter_map h xs)) y → (Contains (filter_map h xs) y → IsOf h xs y) → IsOf h (x ∷ xs) y
    go None at there_is rest = let more = rest there_is in record { x = more.x; among = there x xs more.x more.among; gives = more.gives }
    go (Some z) at there_is rest = elim (has z (filter_map h xs) y there_is) [
      | inl same ↦ record { x = x; among = here x xs; gives = at ∙ ap Some same }
      | inr behind ↦ (let more = rest behind in record { x = more.x; among = there x xs more.x more.among; gives = more.gives })
    ]

passed : {A : Type 0} (b : Bool) (x y : A) → (if b then Some x else None) ≡ Some y → (b ≡ true) × (x ≡ y)
passed true x y is = (refl, same_Some x y is)
passed false x y is = absurd (none-some y is)

-- a site at a place of the object of a number
abbrev numbered_at : ℕ → Place → Numbered
numbered_at k p = record { object = k; place = p }

-- a site among those of an object that have numbers
in_sites : (o : ObjectId) (kept : List ℕ) (k : ℕ) (sites : List Site) (s : Site) → Contains sites s → same_object s.object o ≡ true → Contains (sites_at o kept k sites) (numbered_at k (place_of kept s))
in_sites o kept k [] s mine same = absurd (has_none s mine)
in_sites o kept k (t ∷ sites) s mine same = elim (has t sites s mine) [
  | inl first ↦
      Contains-append_left (if same_object t.object o then numbered_at k (place_of kept t) ∷ [] else []) (sites_at o kept k sites) (numbered_at k (place_of kept s))
      (subst (λ (u : Site). Contains (if same_object u.object o then numbered_at k (place_of kept u) ∷ [] else []) (numbered_at k (place_of kept s))) (sym first)
      (subst (λ (b : Bool). Contains (if b then numbered_at k (place_of kept s) ∷ [] else []) (numbered_at k (place_of kept s))) (sym same) (here (numbered_at k (place_of kept s)) [])))
  | inr behind ↦
      Contains-append_right (if same_object t.object o then numbered_at k (place_of kept t) ∷ [] else []) (sites_at o kept k sites) (numbered_at k (place_of kept s))
      (in_sites o kept k sites s behind same)
]

-- what stands with an object stands with all
in_objects : (sites : List Site) (f : Function) (n j : ℕ) (os : List ObjectId) (o : ObjectId) (x : Numbered) → slice_get os j ≡ Some o → Contains (standing_sites (n + j) o sites (standing f sites o)) x
    → Contains (objects_sites n sites os (map (standing f sites) os)) x
in_objects sites f n j [] o x is stands = absurd (none-some o is)
in_objects sites f n zero (p ∷ os) o x is stands =
    let same : p ≡ o = same_Some p o is in
    let zero_more : n + 0 ≡ n = omega arith in
    Contains-append_left (standing_sites n p sites (standing f sites p)) (objects_sites (n + 1) sites os (map (standing f sites) os)) x
    (subst (λ (q : ObjectId). Contains (standing_sites n q sites (standing f sites q)) x) (sym same) (subst (λ (m : ℕ). Contains (standing_sites m o sites (standing f sites o)) x) zero_more stands))
in_objects sites f n (suc j) (p ∷ os) o x is stands =
    let one_more : n + suc j ≡ n + 1 + j = omega arith in
    Contains-append_right (standing_sites n p sites (standing f sites p)) (objects_sites (n + 1) sites os (map (standing f sites) os)) x
    (in_objects sites f (n + 1) j os o x is (subst (λ (m : ℕ). Contains (standing_sites m o sites (standing f sites o)) x) one_more stands))

any_there : (sites : List Site) (s : Site) → Contains sites s → is_any sites ≡ true
any_there [] s is = absurd (has_none s is)
any_there (t ∷ sites) s is = refl

module _ (f : Function) (o : ObjectId) (k : ℕ) (at : slice_get f.objects k ≡ Some o) (written : is_written f o ≡ true) where
  abbrev kept : List ℕ
  kept = kept_labels (labels_of f o) (object_sites o (own_sites f))

  site_numbered : (s : Site) → Contains (object_sites o (own_sites f)) s → Contains (numbered_sites f) (numbered_at k (place_of (kept_labels (labels_of f o) (object_sites o (own_sites f))) s))
  site_numbered s mine =
      let sites : List Site = object_sites o (own_sites f) in
      let zero_more : k ≡ 0 + k = omega arith in
      let stands : standing f (own_sites f) o ≡ ruled (labels_of f o) (object_sites o (own_sites f)) =
      ap (λ b. if b then (if is_any sites then ruled (labels_of f o) sites else Unused) else ReadOnly) written ∙ ap (λ b. if b then ruled (labels_of f o) sites else Unused) (any_there sites s mine) in
      in_objects (own_sites f) f 0 k f.objects o (numbered_at k (place_of kept s)) at
      (subst (λ (m : ℕ). Contains (standing_sites m o (own_sites f) (standing f (own_sites f) o)) (numbered_at k (place_of kept s))) zero_more
      (subst (λ (t : ObjectVerdict). Contains (standing_sites k o (own_sites f) t) (numbered_at k (place_of kept s))) (sym stands)
      (in_sites o kept k (own_sites f) s (was (λ (t : Site). same_object t.object o) (own_sites f) s mine) (passes (λ (t : Site). same_object t.object o) (own_sites f) s mine))))

  place_numbered : (p : Place) → Contains (places_of (kept_labels (labels_of f o) (object_sites o (own_sites f))) (object_sites o (own_sites f))) p → IsPlaced (numbered_sites f) k p
  place_numbered p is =
      let w = (those_of_sites kept (object_sites o (own_sites f)) p).0 is in
      let stands : StandsAt (numbered_sites f) (numbered_at k (place_of kept w.site)) = stands_at (numbered_sites f) (numbered_at k (place_of kept w.site)) (site_numbered w.site w.among) in
      record { at = stands.at; site = numbered_at k (place_of kept w.site); there = stands.there; object = refl; same = w.place }

-- so the place of each object of a plan, where the function declares it
object_numbered : (f : Function) (object : Object) → DeclaresObjects f → Contains (own_plan f).objects object → IsNumbered (numbered_sites f) object
object_numbered f object declares is =
    let one = of_filter (written_places f (own_sites f)) (objects_of (own_sites f)) object is in
    let o : ObjectId = one.x in
    let both = passed (is_written f o) (kept_places (labels_of f o) (object_sites o (own_sites f))) object one.gives in
    let w = from_map (λ (s : Site). s.object) (own_sites f) o (once_from same_object (map (λ (s : Site). s.object) (own_sites f)) o one.among) in
    let declared : Contains f.objects o = subst (λ (q : ObjectId). Contains f.objects q) w.2 (held (λ (s : Site). Contains f.objects s.object) (own_sites f) w.0 declares.each w.1) in
    let stands : StandsAt f.objects o = stands_at f.objects o declared in
    subst (IsNumbered (numbered_sites f)) both.1 (record {
      k = stands.at;
      each = λ j d below. place_numbered f o stands.at stands.there both.0
          (get_or (places_of (kept_labels (labels_of f o) (object_sites o (own_sites f))) (object_sites o (own_sites f))) j d)
          (item_there (places_of (kept_labels (labels_of f o) (object_sites o (own_sites f))) (object_sites o (own_sites f))) j d below);
    })
  where
    held : {X : Type 0} (P : X → Type 0) (xs : List X) (x : X) → All P xs → Contains xs x → P x
    held P xs x all mine = subst P mine.2 (all mine.0 x mine.1)

pub all_numbered : (f : Function) → DeclaresObjects f → AreNumbered f
all_numbered f declares = record {
  each = λ i d below. object_numbered f (get_or (own_plan f).objects i d) declares (item_there (own_plan f).objects i d below);
}
