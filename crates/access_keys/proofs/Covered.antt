-- What is touched at the sites of a function is touched at those that are told.
use Rattle.std.proofs.Common.{◌≡◌, ◌∙◌, List, map, sym, ap, subst, arith}
use Rattle.std.specs.List.{Contains}
use Rattle.std.proofs.lemmas.List.{length-map}
use Rattle.nf_base.specs.Text.{Function}
use Rattle.nf_sites.specs.Sites as text
use Rattle.nf_sites.specs.OnPaths.{sites_of}
use Rattle.nf_sites.specs.CoverLaws.{IsOf, Covers}
use Rattle.nf_sites.proofs.Covering.{sites_cover, cover_more}
use Rattle.access_keys.specs.declared.site.Site.{Site}
use Rattle.access_keys.specs.Told.{IsTold, site_told, sites_told}
use Rattle.access_keys.proofs.Steps.{get_or-map}

contains-map : {A B : Type 0} (v : A → B) (xs : List A) (x : A) → Contains xs x → Contains (map v xs) (v x)
contains-map v xs x h =
    let n = length-map xs v in
    (h.0, omega (arith, h.1), get_or-map v xs h.0 x ∙ ap v h.2)

pub told_cover : (f : Function) (all : List Site) → all ≡ sites_told f (sites_of f) → Covers f (IsTold f all)
told_cover f all e =
    let told : (x : text.Site) → IsOf f x → IsTold f all x =
    λ x h. subst (λ (ys : List Site). Contains ys (site_told f x)) (sym e) (contains-map (site_told f) (sites_of f) x h) in
    cover_more f (IsOf f) (IsTold f all) told (sites_cover f)
