-- The function's own sites, and what they know.
use Rattle.std.proofs.Common.{◌≡◌, ◌<◌, ◌+◌, ℕ, zero, suc, List, [], ◌∷◌, Bool, ◌&&◌, cond, Some, map, filter, Contains, slice_get, refl, ap, sym, ◌∙◌, subst, arith, inl, inr}
use Rattle.std.specs.List.{list_all, range_with_len}
use Rattle.std.specs.Option.{is_some}
use Rattle.std.proofs.lemmas.Bool.{cases_Bool}
use Rattle.std.proofs.lemmas.List.FromFn.{length-range_with_len, get_or-range_with_len}
use Rattle.nf_base.specs.declared.decl.ObjectId.{ObjectId}
use Rattle.nf_base.specs.declared.decl.ObjectId.TheVariants as object
use Rattle.nf_base.specs.Chains.{joined}
use Rattle.nf_base.specs.Text.{Function}
use Rattle.nf_laws.proofs.Listed.{here, there, has, has_none}
use Rattle.nf_sites.specs.Sites as text
use Rattle.nf_sites.specs.OnPaths as listed
use Rattle.nf_sites.specs.Known.{known, label_count, labels_of, same_object, is_known_at, is_kept}
use Rattle.nf_sites.proofs.KeptLabels.{one_object}
use Rattle.access_keys.specs.Told.{site_told, sites_told}
use Rattle.shard_rules.specs.Sites.{object_sites, field_at, knows}
use Rattle.shard_rules.specs.Served.{own_sites, KeptLabelsAreTheFunctions}

at_index : {A : Type 0} (g : ℕ → A) (a n k : ℕ) → k < n → slice_get (map g (range_with_len a n)) k ≡ Some (g (a + k))
at_index g a zero k lt = absurd (omega (arith, lt))
at_index g a (suc n) zero lt = let e : a ≡ a + 0 = omega arith in ap (λ m. Some (g m)) e
at_index g a (suc n) (suc k) lt =
    let e : a + 1 + k ≡ a + suc k = omega arith in
    at_index g (a + 1) n k (omega (arith, lt)) ∙ ap (λ m. Some (g m)) e

-- what is told of each label of an object stands at the label's number
at_label : {A : Type 0} (f : Function) (o : ObjectId) (g : ℕ → A) (l : ℕ) → Contains (labels_of f o) l → slice_get (map g (labels_of f o)) l ≡ Some (g l)
at_label f (object.Chain chain) g l h =
    let n = label_count f.chains chain in
    let short : h.0 < n = subst (λ m. h.0 < m) (length-range_with_len 0 n) h.1 in
    let it : l ≡ h.0 = sym h.2 ∙ get_or-range_with_len 0 n h.0 l short ∙ omega arith in
    let zeroth : 0 + h.0 ≡ h.0 = omega arith in
    ap (λ k. slice_get (map g (range_with_len 0 n)) k) it ∙ at_index g 0 n h.0 short ∙ ap (λ m. Some (g m)) (zeroth ∙ sym it)
at_label f (object.Array array) g l h = elim (has 0 [] l h) [
  | inl e ↦ ap (λ k. slice_get (g 0 ∷ []) k) (sym e) ∙ ap (λ k. Some (g k)) e
  | inr i ↦ absurd (has_none l i)
]

-- a site that is told knows what the site knows
pub told : (f : Function) (x : text.Site) (l : ℕ) → Contains (labels_of f x.object) l → field_at (site_told f x) l ≡ known f x l
told f x l h = ap joined (at_label f x.object (known f x) l h)

filter_same : {A : Type 0} (p q : A → Bool) (xs : List A) → ((x : A) → Contains xs x → p x ≡ q x) → filter p xs ≡ filter q xs
filter_same p q [] h = refl
filter_same p q (x ∷ xs) h =
    let rest = filter_same p q xs (λ y i. h y (there x xs y i)) in
    rw (h x (here x xs)) (ap (λ ys. cond (q x) (x ∷ ys) ys) rest)

-- where all sites know a label, and where all told ones do
known_alike : (f : Function) (o : ObjectId) (l : ℕ) → Contains (labels_of f o) l → (xs : List text.Site) → list_all (knows l) (object_sites o (sites_told f xs)) ≡ list_all (is_known_at f o l) xs
known_alike f o l h [] = refl
known_alike f o l h (x ∷ xs) = elim (cases_Bool (same_object x.object o)) [
  | inl e ↦
      let at : Contains (labels_of f x.object) l = subst (λ (p : ObjectId). Contains (labels_of f p) l) (sym (one_object x.object o e)) h in
      let first : knows l (site_told f x) ≡ is_some (known f x l) = ap is_some (told f x l at) in
      rw (e, first) (ap (λ b. is_some (known f x l) && b) (known_alike f o l h xs))
  | inr e ↦ rw e (known_alike f o l h xs)
]

pub own_kept : KeptLabelsAreTheFunctions
own_kept f o =
    filter_same (λ l. list_all (knows l) (object_sites o (own_sites f))) (is_kept f o) (labels_of f o)
    (λ l h. known_alike f o l h (listed.sites_of f))
