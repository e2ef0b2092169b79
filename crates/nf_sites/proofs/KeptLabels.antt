-- Labels that are kept are known at each site of their object.
use Rattle.std.proofs.Common.{◌≡◌, eq-eqb, eqb-true, Bool, true, false, if◌then◌else◌, refl, ap, subst}
use Rattle.std.specs.Option.{is_some}
use Rattle.nf_base.specs.declared.decl.ObjectId.{ObjectId}
use Rattle.nf_base.specs.declared.decl.ObjectId.TheVariants as object
use Rattle.nf_sites.specs.OnPaths.{sites_of}
use Rattle.nf_sites.specs.Known.{known, labels_of, same_object, is_known_at, is_kept}
use Rattle.nf_sites.specs.Laws.{KeptLabelsAreKnown, LabelsKnownAreKept, ListsSayWhatIsAdmissible}
use Rattle.nf_laws.proofs.Listed.{was}
use Rattle.nf_laws.proofs.Listed as listed
use Rattle.nf_sites.proofs.Lists.{passes, all_has, all_true}
use Rattle.nf_sites.proofs.Listing.{on_paths_listed, listed_on_paths}

pub itself : (o : ObjectId) → same_object o o ≡ true
itself (object.Chain a) = eq-eqb a a refl
itself (object.Array a) = eq-eqb a a refl

pub one_object : (a b : ObjectId) → same_object a b ≡ true → a ≡ b
one_object (object.Chain a) (object.Chain b) e = ap object.Chain (eqb-true a b e)
one_object (object.Chain a) (object.Array b) e = cc
one_object (object.Array a) (object.Chain b) e = cc
one_object (object.Array a) (object.Array b) e = ap object.Array (eqb-true a b e)

when_so : (b x : Bool) → b ≡ true → (if b then x else true) ≡ true → x ≡ true
when_so true x t e = e
when_so false x t e = cc

if_so : (b x : Bool) → (b ≡ true → x ≡ true) → (if b then x else true) ≡ true
if_so true x h = h refl
if_so false x h = refl

pub kept_known : KeptLabelsAreKnown
kept_known f o l e x s same =
    when_so (same_object x.object o) (is_some (known f x l)) (subst (λ (p : ObjectId). same_object x.object p ≡ true) same (itself x.object)) (all_has (is_known_at f o l) (sites_of f) x e (on_paths_listed f x s))

pub known_kept : LabelsKnownAreKept
known_kept f o l h k =
    all_true (is_known_at f o l) (sites_of f) (λ x i. if_so (same_object x.object o) (is_some (known f x l)) (λ e. k x (listed_on_paths f x h i) (one_object x.object o e)))

-- admissible by lists, and as it stands
pub lists_say : ListsSayWhatIsAdmissible
lists_say f hash h = (
  λ good x y i j same written p q in_p in_q agree.
      good x y (on_paths_listed f x i) (on_paths_listed f y j) same written p q in_p in_q
      (λ l k. agree l (was (is_kept f x.object) (labels_of f x.object) l k) (kept_known f x.object l (passes (is_kept f x.object) (labels_of f x.object) l k))),
  λ good x y i j same written p q in_p in_q agree.
      good x y (listed_on_paths f x h i) (listed_on_paths f y h j) same written p q in_p in_q
      (λ l within k. agree l (listed.kept (is_kept f x.object) (labels_of f x.object) l within (known_kept f x.object l h k))),
)
