-- One more site of a list.
use Rattle.std.proofs.Common.{◌≡◌, ℕ, ◌+◌, ◌<◌, length, get_or, take, ◌++◌, List, [], ◌∷◌, true, false, refl, map, append-nil}
use Rattle.std.proofs.lemmas.List.{map-append, take_more}
use Rattle.std.proofs.lemmas.List.Elements.{filter_more}
use Rattle.nf_base.specs.declared.decl.ObjectId.{ObjectId}
use Rattle.nf_sites.specs.Known.{same_object}
use Rattle.nf_sites.proofs.KeptLabels.{one_object}
use Rattle.access_keys.specs.declared.site.Site.{Site}
use Rattle.shard_rules.specs.Sites.{object_sites}
use Rattle.shard_rules.specs.Once.{with_one}
use Rattle.shard_rules.specs.Places.{place_of, same_place, places_of}
use Rattle.shard_rules.specs.Plans.{objects_of}
use Rattle.shard_rules.proofs.Once.{one_more}
use Rattle.shard_rules.proofs.SamePlace.{places_same}

-- its place
pub one_site : (kept : List ℕ) (sites : List Site) (s : Site) → places_of kept (sites ++ s ∷ []) ≡ with_one same_place (place_of kept s) (places_of kept sites)
one_site kept sites s =
    rw (map-append (place_of kept) sites (s ∷ [])) (one_more same_place places_same (map (place_of kept) sites) (place_of kept s))

-- the same along the sites of an object, where it is one of these
pub site_more : (o : ObjectId) (kept : List ℕ) (sites : List Site) (i : ℕ) (s : Site) → i < length sites → s ≡ get_or sites i s → same_object s.object o ≡ true → places_of kept (object_sites o (take (i + 1) sites)) ≡ with_one same_place (place_of kept s) (places_of kept (object_sites o (take i sites)))
site_more o kept sites i s h e on =
    rw (filter_more (λ (t : Site). same_object t.object o) sites i s h, ← e, on) (one_site kept (object_sites o (take i sites)) s)

-- and where it isn't
pub site_other : (o : ObjectId) (kept : List ℕ) (sites : List Site) (i : ℕ) (s : Site) → i < length sites → s ≡ get_or sites i s → same_object s.object o ≡ false → places_of kept (object_sites o (take (i + 1) sites)) ≡ places_of kept (object_sites o (take i sites))
site_other o kept sites i s h e off =
    rw (filter_more (λ (t : Site). same_object t.object o) sites i s h, ← e, off, append-nil (object_sites o (take i sites))) refl

-- its object
pub object_more : (sites : List Site) (i : ℕ) (s : Site) → i < length sites → s ≡ get_or sites i s → objects_of (take (i + 1) sites) ≡ with_one same_object s.object (objects_of (take i sites))
object_more sites i s h e =
    rw (take_more sites i s h, ← e, map-append (λ (t : Site). t.object) (take i sites) (s ∷ []))
    (one_more same_object one_object (map (λ (t : Site). t.object) (take i sites)) s.object)
