-- The text of `explain` up to the verdict: the function's name, and its objects with their sites.
use Rattle.std.specs.Prelude.{ℕ, List, [], ◌∷◌, ◌++◌, Option, Some, None, if◌then◌else◌, codes, decimal}
use Rattle.nf_base.specs.declared.decl.ObjectId.{ObjectId}
use Rattle.nf_base.specs.declared.packet.Family.{Family}
use Rattle.nf_base.specs.declared.packet.Family.TheVariants.{Four, Six}
use Rattle.nf_base.specs.declared.packet.Door.{Door}
use Rattle.nf_base.specs.Text.{Function}
use Rattle.nf_base.specs.declared.hash_fields.Hashable.{Hashable}
use Rattle.nf_sites.specs.declared.sort.Sort.{Sort}
use Rattle.nf_sites.specs.declared.sort.Sort.TheVariants.{Get, Find, New, Name, Load, Store}
use Rattle.access_keys.specs.declared.site.Site.{Site}
use Rattle.shard_rules.specs.declared.plan.ObjectVerdict.{ObjectVerdict}
use Rattle.shard_rules.specs.declared.plan.ObjectVerdict.TheVariants.{ReadOnly, Unused, Ruled}
use Rattle.shard_rules.specs.declared.plan.Plan.{Plan}
use Rattle.shard_rules.specs.Rules.{rule_word}
use Rattle.nf_sites.specs.Known.{same_object, labels_of}
use Rattle.shard_rules.specs.Sites.{field_at, knows_one}
use Rattle.nf_base.specs.Names.{object_name}
use Rattle.verdict_text.specs.Names.{map_name, label_name, field_word}

-- how a site uses its object
abbrev pub sort_text : Function → ObjectId → Sort → List ℕ
sort_text f o (Get m) = codes "get " ++ map_name f o m
sort_text f o Find = codes "find"
sort_text f o New = codes "new"
sort_text f o (Name m) = codes "name " ++ map_name f o m
sort_text f o Load = codes "load"
sort_text f o Store = codes "store"

-- a label with the field by which it is known: nothing where it isn't
abbrev pub known_text : Family → List ℕ → Option Hashable → List ℕ
known_text family name None = []
known_text family name (Some field) = codes " " ++ name ++ codes "=" ++ field_word family field

-- the known ones of some labels
abbrev pub knowns_text : Function → Site → List ℕ → List ℕ
knowns_text f s [] = []
knowns_text f s (l ∷ ls) =
    known_text s.door.family (label_name f s.object l) (field_at s l) ++ knowns_text f s ls

-- those of all labels, or a dash where none is known
abbrev pub site_knows : Function → Site → List ℕ → List ℕ
site_knows f s labels = if knows_one labels s then knowns_text f s labels else codes " -"

-- nothing for IPv4, and a word for IPv6
abbrev pub family_text : Family → List ℕ
family_text Four = []
family_text Six = codes " six"

-- the port and the family of a handler
abbrev pub port_text : Door → List ℕ
port_text door = decimal door.port ++ family_text door.family

-- the line of a site
abbrev pub site_text : Function → Site → List ℕ
site_text f s =
    codes "site " ++ port_text s.door ++ codes " " ++ sort_text f s.object s.sort
    ++ site_knows f s (labels_of f s.object) ++ codes "\n"

-- the lines of an object's sites
abbrev pub sites_text : Function → ObjectId → List Site → List ℕ
sites_text f o [] = []
sites_text f o (s ∷ ss) =
    (if same_object s.object o then site_text f s else []) ++ sites_text f o ss

-- the names of some labels
abbrev pub labels_text : Function → ObjectId → List ℕ → List ℕ
labels_text f o [] = []
labels_text f o (l ∷ ls) = codes " " ++ label_name f o l ++ labels_text f o ls

-- those of the kept labels, or a dash where none is kept
abbrev pub kept_text : Function → ObjectId → List ℕ → List ℕ
kept_text f o [] = codes " -"
kept_text f o (l ∷ ls) = labels_text f o (l ∷ ls)

-- what an object's sites came to, and the sites
abbrev pub standing_text : Function → List Site → ObjectId → ObjectVerdict → List ℕ
standing_text f sites o ReadOnly = codes " read only\n"
standing_text f sites o Unused = codes " unused\n"
standing_text f sites o (Ruled rule kept) =
    codes " rule " ++ rule_word rule ++ codes " keeps" ++ kept_text f o kept ++ codes "\n"
    ++ sites_text f o sites

-- the lines of an object
abbrev pub object_text : Function → List Site → ObjectId → ObjectVerdict → List ℕ
object_text f sites o standing =
    codes "object " ++ object_name f o ++ standing_text f sites o standing

-- those of some objects, each with what its sites came to
abbrev pub objects_text : Function → List Site → List ObjectId → List ObjectVerdict → List ℕ
objects_text f sites [] standings = []
objects_text f sites (o ∷ os) [] = []
objects_text f sites (o ∷ os) (standing ∷ standings) =
    object_text f sites o standing ++ objects_text f sites os standings

-- the whole text
abbrev pub explained : Function → List Site → Plan → List ℕ
explained f sites plan =
    codes "nf " ++ f.name ++ codes "\n" ++ objects_text f sites f.objects plan.standings
