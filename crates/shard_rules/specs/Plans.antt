-- What a function's sites come to, object by object.
use Rattle.std.specs.Prelude.{ℕ, Bool, true, false, List, [], ◌∷◌, map, Option, Some, None, if◌then◌else◌}
use Rattle.std.specs.List.{filter_map}
use Rattle.nf_base.specs.declared.decl.ObjectId.{ObjectId}
use Rattle.nf_base.specs.Text.{Function}
use Rattle.nf_base.specs.Objects.{is_written}
use Rattle.access_keys.specs.declared.site.Site.{Site}
use Rattle.key_rows.specs.declared.place.Object.{Object}
use Rattle.shard_rules.specs.declared.plan.ObjectVerdict.{ObjectVerdict}
use Rattle.shard_rules.specs.declared.plan.ObjectVerdict.TheVariants.{ReadOnly, Unused, Ruled}
use Rattle.shard_rules.specs.declared.plan.Plan.{Plan}
use Rattle.nf_sites.specs.Known.{same_object, labels_of}
use Rattle.shard_rules.specs.Once.{each_once}
use Rattle.shard_rules.specs.Sites.{object_sites}
use Rattle.shard_rules.specs.Rules.{kept_labels, rule_of}
use Rattle.shard_rules.specs.Places.{places_of}

-- whether there is one
abbrev pub is_any : List Site → Bool
is_any [] = false
is_any (s ∷ ss) = true

-- what the sites of an object with some labels come to
abbrev pub ruled : List ℕ → List Site → ObjectVerdict
ruled labels sites =
    Ruled (rule_of labels sites (kept_labels labels sites)) (kept_labels labels sites)

-- what an object of a function comes to, by the function's sites
abbrev pub standing : Function → List Site → ObjectId → ObjectVerdict
standing f sites o =
    if is_written f o
    then (if is_any (object_sites o sites)
    then ruled (labels_of f o) (object_sites o sites) else Unused)
    else ReadOnly

-- the objects of some sites, each once, in the order in which the sites come to them
abbrev pub objects_of : List Site → List ObjectId
objects_of sites = each_once same_object (map (λ (s : Site). s.object) sites)

-- the places of the sites of an object with some labels
abbrev pub kept_places : List ℕ → List Site → Object
kept_places labels sites = record { places = places_of (kept_labels labels sites) sites }

-- the places of an object that the text writes
abbrev pub written_places : Function → List Site → ObjectId → Option Object
written_places f sites o =
    if is_written f o
    then Some (kept_places (labels_of f o) (object_sites o sites)) else None

-- what a function's sites come to
abbrev pub plan_of : Function → List Site → Plan
plan_of f sites = record {
  standings = map (standing f sites) f.objects;
  objects = filter_map (written_places f sites) (objects_of sites);
}
