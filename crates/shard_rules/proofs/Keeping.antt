-- Kept labels, and what each place has of them.
use Rattle.std.proofs.Common.{◌≡◌, ◌<◌, ◌+◌, ℕ, List, [], ◌∷◌, Bool, true, false, Option, Some, None, map, Contains, refl, ap, subst, arith}
use Rattle.std.specs.List.{filter_map, range_with_len}
use Rattle.std.specs.List.Sorted.{IsStrictlyIncreasing}
use Rattle.std.specs.Option.{is_some}
use Rattle.std.proofs.lemmas.List.Kept.{IsStrictlyIncreasing-filter}
use Rattle.std.proofs.lemmas.List.FromFn.{length-range_with_len, get_or-range_with_len}
use Rattle.nf_base.specs.declared.decl.ObjectId.{ObjectId}
use Rattle.nf_base.specs.declared.decl.ObjectId.TheVariants as object
use Rattle.nf_base.specs.Text.{Function}
use Rattle.nf_laws.proofs.Listed.{here, there, kept, was}
use Rattle.nf_sites.specs.Known.{same_object, label_count, labels_of}
use Rattle.nf_sites.proofs.Lists.{passes, all_has, all_true}
use Rattle.nf_sites.proofs.KeptLabels.{itself, one_object}
use Rattle.nf_base.specs.declared.hash_fields.Hashable.{Hashable}
use Rattle.access_keys.specs.declared.site.Site.{Site}
use Rattle.shard_rules.specs.Sites.{field_at, knows}
use Rattle.shard_rules.specs.Rules.{is_kept, kept_labels}
use Rattle.shard_rules.specs.Laws.{SitesAreOfTheirObject, KeptLabelsAreKnown, KeptLabelsRise, PlacesHaveEachKeptLabel}

pub of_object : SitesAreOfTheirObject
of_object o sites s =
    let on : Site → Bool = λ t. same_object t.object o in (
      λ i. (was on sites s i, one_object s.object o (passes on sites s i)),
      λ h. kept on sites s h.0 (subst (λ (p : ObjectId). same_object s.object p ≡ true) h.1 (itself s.object)),
    )

pub kept_known : KeptLabelsAreKnown
kept_known labels sites l = (
  λ i. (was (is_kept sites) labels l i, λ s j. all_has (knows l) sites s (passes (is_kept sites) labels l i) j),
  λ h. kept (is_kept sites) labels l h.0 (all_true (knows l) sites h.1),
)

range_rises : (a n : ℕ) → IsStrictlyIncreasing (range_with_len a n)
range_rises a n k h =
    let short : k + 1 < n = subst (λ m. k + 1 < m) (length-range_with_len a n) h in
    let first = get_or-range_with_len a n k 0 (omega arith) in
    let second = get_or-range_with_len a n (k + 1) 0 short in
    omega (arith, first, second)

labels_rise : (f : Function) (o : ObjectId) → IsStrictlyIncreasing (labels_of f o)
labels_rise f (object.Chain chain) = range_rises 0 (label_count f.chains chain)
labels_rise f (object.Array array) = λ k h. absurd (omega (arith, h))

pub kept_rise : KeptLabelsRise
kept_rise f o sites = IsStrictlyIncreasing-filter (is_kept sites) (labels_of f o) (labels_rise f o)

-- where each of some labels is known, there is a field for each
each_field : (s : Site) (labels : List ℕ) → ((l : ℕ) → Contains labels l → knows l s ≡ true) → map Some (filter_map (field_at s) labels) ≡ map (field_at s) labels
each_field s [] h = refl
each_field s (l ∷ labels) h = one (field_at s l) refl (h l (here l labels)) (each_field s labels (λ m i. h m (there l labels m i)))
  where
    one : (o : Option Hashable) → field_at s l ≡ o → is_some (field_at s l) ≡ true → map Some (filter_map (field_at s) labels) ≡ map (field_at s) labels → map Some (filter_map (field_at s) (l ∷ labels)) ≡ map (field_at s) (l ∷ labels)
    one None e k rest = absurd (let bad : false ≡ true = rw e at k in cc)
    one (Some field) e k rest = rw e (ap (λ fields. Some field ∷ fields) rest)

pub each_has : PlacesHaveEachKeptLabel
each_has labels sites s i = each_field s (kept_labels labels sites) (λ l j. all_has (knows l) sites s (passes (is_kept sites) labels l j) i)
