-- A site that has a number comes to a place of its object.
use Rattle.std.proofs.Common.{◌≡◌, ◌⊎◌, ℕ, zero, suc, ◌+◌, ◌<◌, refl, sym, ap, ◌∙◌, subst, inl, inr, true, false, Bool, List, [], ◌∷◌, ◌++◌, All, Contains, length, map, Option, Some, None, slice_get, if◌then◌else◌, arith}
use Rattle.std.specs.List.{filter_map, cons_option}
use Rattle.std.proofs.lemmas.Bool.{cases_Bool}
use Rattle.std.proofs.lemmas.Option.{same_Some}
use Rattle.std.proofs.lemmas.List.Elements.{All-nil, All-cons}
use Rattle.nf_base.specs.declared.decl.ObjectId.{ObjectId}
use Rattle.nf_base.specs.Text.{Function}
use Rattle.nf_base.specs.Objects.{is_written}
use Rattle.nf_laws.proofs.Listed.{here, there, has, has_none, kept}
use Rattle.nf_sites.specs.Known.{same_object, labels_of}
use Rattle.nf_sites.proofs.Lists.{to_map}
use Rattle.nf_sites.proofs.KeptLabels.{one_object}
use Rattle.access_keys.specs.declared.site.Site.{Site}
use Rattle.key_rows.specs.declared.place.Place.{Place}
use Rattle.key_rows.specs.declared.place.Object.{Object}
use Rattle.shard_rules.specs.declared.plan.ObjectVerdict.{ObjectVerdict}
use Rattle.shard_rules.specs.declared.plan.ObjectVerdict.TheVariants.{ReadOnly, Unused, Ruled}
use Rattle.shard_rules.specs.Sites.{object_sites}
use Rattle.shard_rules.specs.Rules.{kept_labels, rule_of}
use Rattle.shard_rules.specs.Places.{place_of, places_of}
use Rattle.shard_rules.specs.Plans.{is_any, ruled, standing, objects_of, kept_places, written_places}
use Rattle.shard_rules.specs.Served.{own_sites, own_plan}
use Rattle.shard_rules.proofs.Once.{once_to}
use Rattle.shard_rules.proofs.EachOnce.{those_of_sites}
use Rattle.key_proof.specs.declared.numbered.Numbered.{Numbered}
use Rattle.key_proof.specs.Sites.{sites_at, standing_sites, objects_sites, numbered_sites}

-- the places of an object of a function
abbrev pub places_at : Function → ObjectId → Object
places_at f o = kept_places (labels_of f o) (object_sites o (own_sites f))

pub record IsNumbered (f : Function) (n : Numbered) : Type 0 where
  pub object : ObjectId
  pub at : slice_get f.objects n.object ≡ Some object
  pub among : Contains (own_plan f).objects (places_at f object)
  pub there : Contains (places_at f object).places n.place

in_option : {B : Type 0} (o : Option B) (rest : List B) (y : B) → o ≡ Some y → Contains (cons_option o rest) y
in_option o rest y e = rw e (here y rest)

behind_option : {B : Type 0} (o : Option B) (rest : List B) (y : B) → Contains rest y → Contains (cons_option o rest) y
behind_option None rest y i = i
behind_option (Some z) rest y i = there z rest y i

in_filter : {A B : Type 0} (h : A → Option B) (xs : List A) (x : A) (y : B) → Contains xs x → h x ≡ Some y → Contains (filter_map h xs) y
in_filter h [] x y i e = absurd (has_none x i)
in_filter h (z ∷ xs) x y i e = elim (has z xs x i) [
  | inl q ↦ in_option (h z) (filter_map h xs) y (ap h q ∙ e)
  | inr j ↦ behind_option (h z) (filter_map h xs) y (in_filter h xs x y j e)
]

module _ (f : Function) (k : ℕ) (o : ObjectId) (at : slice_get f.objects k ≡ Some o) (written : is_written f o ≡ true) where
  one_site : (s : Site) → Contains (own_sites f) s → same_object s.object o ≡ true → IsNumbered f (record { object = k; place = place_of (kept_labels (labels_of f o) (object_sites o (own_sites f))) s })
  one_site s mine same = record {
    object = o;
    at = at;
    among = in_filter (written_places f (own_sites f)) (objects_of (own_sites f)) o (places_at f o)
        (once_to same_object one_object (map (λ (t : Site). t.object) (own_sites f)) o
        (subst (λ (p : ObjectId). Contains (map (λ (t : Site). t.object) (own_sites f)) p) (one_object s.object o same) (to_map (λ (t : Site). t.object) (own_sites f) s mine)))
        (rw written refl);
    there = (those_of_sites (kept_labels (labels_of f o) (object_sites o (own_sites f))) (object_sites o (own_sites f)) (place_of (kept_labels (labels_of f o) (object_sites o (own_sites f))) s)).1
        (record { site = s; among = kept (λ (t : Site). same_object t.object o) (own_sites f) s mine same; place = refl });
  }

  one_if : (s : Site) (b : Bool) → Contains (own_sites f) s → same_object s.object o ≡ b
      → All (IsNumbered f) (if b then record { object = k; place = place_of (kept_labels (labels_of f o) (object_sites o (own_sites f))) s } ∷ [] else [])
  one_if s true mine same = All-cons (IsNumbered f) (record { object = k; place = place_of (kept_labels (labels_of f o) (object_sites o (own_sites f))) s }) [] (one_site s mine same) (All-nil (IsNumbered f))
  one_if s false mine same = All-nil (IsNumbered f)

append_all : {X : Type 0} (P : X → Type 0) (xs ys : List X) → All P xs → All P ys → All P (xs ++ ys)
append_all P [] ys first second = second
append_all P (x ∷ xs) ys first second = All-cons P x (xs ++ ys) (first 0 x (omega arith)) (append_all P xs ys (λ i d below. first (suc i) d (omega (arith, below))) second)

all_sites : (f : Function) (k : ℕ) (o : ObjectId) → slice_get f.objects k ≡ Some o → is_written f o ≡ true → (sites : List Site) → ((s : Site) → Contains sites s → Contains (own_sites f) s)
    → All (IsNumbered f) (sites_at o (kept_labels (labels_of f o) (object_sites o (own_sites f))) k sites)
all_sites f k o at written [] mine = All-nil (IsNumbered f)
all_sites f k o at written (s ∷ sites) mine =
    append_all (IsNumbered f) (if same_object s.object o then record { object = k; place = place_of (kept_labels (labels_of f o) (object_sites o (own_sites f))) s } ∷ [] else [])
    (sites_at o (kept_labels (labels_of f o) (object_sites o (own_sites f))) k sites)
    (one_if f k o at written s (same_object s.object o) (mine s (here s sites)) refl)
    (all_sites f k o at written sites (λ t i. mine t (there s sites t i)))

of_standing : (f : Function) (k : ℕ) (o : ObjectId) → slice_get f.objects k ≡ Some o → (w a : Bool) → is_written f o ≡ w
    → All (IsNumbered f) (standing_sites k o (own_sites f) (if w then (if a then ruled (labels_of f o) (object_sites o (own_sites f)) else Unused) else ReadOnly))
of_standing f k o at false a is = All-nil (IsNumbered f)
of_standing f k o at true false is = All-nil (IsNumbered f)
of_standing f k o at true true is = all_sites f k o at is (own_sites f) (λ s i. i)

of_objects : (f : Function) (k : ℕ) (os : List ObjectId) → ((j : ℕ) (o : ObjectId) → slice_get os j ≡ Some o → slice_get f.objects (k + j) ≡ Some o)
    → All (IsNumbered f) (objects_sites k (own_sites f) os (map (standing f (own_sites f)) os))
of_objects f k [] at = All-nil (IsNumbered f)
of_objects f k (o ∷ os) at =
    append_all (IsNumbered f) (standing_sites k o (own_sites f) (standing f (own_sites f) o)) (objects_sites (k + 1) (own_sites f) os (map (standing f (own_sites f)) os))
    (of_standing f k o (ap (slice_get f.objects) (let same : k ≡ k + 0 = omega arith in same) ∙ at 0 o refl) (is_written f o) (is_any (object_sites o (own_sites f))) refl)
    (of_objects f (k + 1) os (λ j p is. ap (slice_get f.objects) (let same : k + 1 + j ≡ k + suc j = omega arith in same) ∙ at (suc j) p is))

pub all_numbered : (f : Function) → All (IsNumbered f) (numbered_sites f)
all_numbered f = of_objects f 0 f.objects (λ j o is. ap (slice_get f.objects) (let same : 0 + j ≡ j = omega arith in same) ∙ is)
