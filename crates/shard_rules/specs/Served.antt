-- What the places of a plan say of keys: no more and no less than the function's sites.
use Rattle.std.specs.Prelude.{◌≡◌, ◌↔◌, List}
use Rattle.nf_base.specs.declared.decl.ObjectId.{ObjectId}
use Rattle.nf_base.specs.declared.keys.Keys.{Keys}
use Rattle.nf_base.specs.Text.{Function}
use Rattle.toeplitz_hash.specs.Packets.{hash_by}
use Rattle.nf_sites.specs.OnPaths as text
use Rattle.nf_sites.specs.Known.{labels_of, kept}
use Rattle.nf_sites.specs.Admissible.{IsAdmissibleBySites}
use Rattle.access_keys.specs.declared.site.Site.{Site}
use Rattle.access_keys.specs.Told.{sites_told}
use Rattle.key_rows.specs.Places.{AreAdmissibleForAll}
use Rattle.shard_rules.specs.declared.plan.Plan.{Plan}
use Rattle.shard_rules.specs.Sites.{object_sites}
use Rattle.shard_rules.specs.Rules.{kept_labels}
use Rattle.shard_rules.specs.Plans.{plan_of}

-- a function's own sites
abbrev pub own_sites : Function → List Site
own_sites f = sites_told f (text.sites_of f)

-- what they come to
abbrev pub own_plan : Function → Plan
own_plan f = plan_of f (own_sites f)

-- the kept labels of an object are those of the function
abbrev pub KeptLabelsAreTheFunctions : Type 0
KeptLabelsAreTheFunctions = (f : Function) (o : ObjectId) →
    kept_labels (labels_of f o) (object_sites o (own_sites f)) ≡ kept f o

-- keys are admissible at the places exactly where their hash is by the sites
abbrev pub PlacesSayWhatSitesSay : Type 0
PlacesSayWhatSitesSay = (f : Function) (keys : Keys) →
    AreAdmissibleForAll keys (own_plan f).objects ↔ IsAdmissibleBySites f (hash_by keys)
