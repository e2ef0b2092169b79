-- The places of an object: what tells its sites apart, for keys.
use Rattle.std.specs.Prelude.{ℕ, ◌==◌, ◌&&◌, Bool, true, false, List, [], ◌∷◌, map}
use Rattle.std.specs.List.{filter_map}
use Rattle.nf_base.specs.declared.hash_fields.Hashable.{Hashable}
use Rattle.nf_base.specs.Hashed.{number}
use Rattle.access_keys.specs.declared.site.Site.{Site}
use Rattle.key_rows.specs.Keyed.{version}
use Rattle.key_rows.specs.declared.place.Place.{Place}
use Rattle.shard_rules.specs.Once.{each_once}
use Rattle.shard_rules.specs.Sites.{field_at}

-- a site's port and family, and the field by which it knows each kept label, in text order
abbrev pub place_of : List ℕ → Site → Place
place_of kept s = record { port = s.door.port; family = s.door.family; known = filter_map (field_at s) kept }

-- whether two lists of fields are one
abbrev pub same_fields : List Hashable → List Hashable → Bool
same_fields [] [] = true
same_fields [] (g ∷ gs) = false
same_fields (f ∷ fs) [] = false
same_fields (f ∷ fs) (g ∷ gs) = (number f == number g) && same_fields fs gs

-- whether two places are one
abbrev pub same_place : Place → Place → Bool
same_place p q =
    (p.port == q.port) && ((version p.family == version q.family) && same_fields p.known q.known)

-- the places of some sites, each once, in the order in which they first appear
abbrev pub places_of : List ℕ → List Site → List Place
places_of kept sites = each_once same_place (map (place_of kept) sites)
