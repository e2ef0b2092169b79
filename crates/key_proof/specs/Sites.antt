-- The numbers of sites: sites of written objects, object by object in text order, and of each object
-- by port, those of its handler for IPv4 first, and in text order.
use Rattle.std.specs.Prelude.{ℕ, ◌+◌, List, [], ◌∷◌, ◌++◌, if◌then◌else◌}
use Rattle.nf_base.specs.declared.decl.ObjectId.{ObjectId}
use Rattle.nf_base.specs.Text.{Function}
use Rattle.nf_sites.specs.Known.{same_object}
use Rattle.access_keys.specs.declared.site.Site.{Site}
use Rattle.shard_rules.specs.declared.plan.ObjectVerdict.{ObjectVerdict}
use Rattle.shard_rules.specs.declared.plan.ObjectVerdict.TheVariants.{ReadOnly, Unused, Ruled}
use Rattle.shard_rules.specs.Places.{place_of}
use Rattle.shard_rules.specs.Served.{own_sites, own_plan}
use Rattle.key_proof.specs.declared.numbered.Numbered.{Numbered}

-- those of an object of this number that keeps some labels, of some sites
abbrev pub sites_at : ObjectId → List ℕ → ℕ → List Site → List Numbered
sites_at o kept k [] = []
sites_at o kept k (s ∷ sites) =
    (if same_object s.object o then record { object = k; place = place_of kept s } ∷ [] else [])
    ++ sites_at o kept k sites

-- those of an object, by what it comes to
abbrev pub standing_sites : ℕ → ObjectId → List Site → ObjectVerdict → List Numbered
standing_sites k o sites ReadOnly = []
standing_sites k o sites Unused = []
standing_sites k o sites (Ruled rule kept) = sites_at o kept k sites

-- those of objects that are numbered from one on
abbrev pub objects_sites : ℕ → List Site → List ObjectId → List ObjectVerdict → List Numbered
objects_sites k sites [] standings = []
objects_sites k sites (o ∷ objects) [] = []
objects_sites k sites (o ∷ objects) (standing ∷ standings) =
    standing_sites k o sites standing ++ objects_sites (k + 1) sites objects standings

-- those of a function
abbrev pub numbered_sites : Function → List Numbered
numbered_sites f = objects_sites 0 (own_sites f) f.objects (own_plan f).standings
