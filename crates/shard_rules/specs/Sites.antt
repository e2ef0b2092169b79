-- The sites of an object, and the labels that they know.
use Rattle.std.specs.Prelude.{ℕ, Bool, true, false, not, List, filter, Option, if◌then◌else◌, is_some, slice_get}
use Rattle.std.specs.List.{list_any, list_all}
use Rattle.nf_base.specs.declared.decl.ObjectId.{ObjectId}
use Rattle.nf_base.specs.Chains.{joined}
use Rattle.nf_base.specs.declared.hash_fields.Hashable.{Hashable}
use Rattle.nf_sites.specs.declared.sort.Sort.{Sort}
use Rattle.nf_sites.specs.declared.sort.Sort.TheVariants.{Get, Find, New, Name, Load, Store}
use Rattle.nf_sites.specs.Known.{same_object}
use Rattle.access_keys.specs.declared.site.Site.{Site}

-- the sites of an object, in their order
abbrev pub object_sites : ObjectId → List Site → List Site
object_sites o sites = filter (λ (s : Site). same_object s.object o) sites

-- the field by which a site knows a label
abbrev pub field_at : Site → ℕ → Option Hashable
field_at s l = joined (slice_get s.known l)

-- whether a site knows a label
abbrev pub knows : ℕ → Site → Bool
knows l s = is_some (field_at s l)

-- whether it knows one of some labels
abbrev pub knows_one : List ℕ → Site → Bool
knows_one labels s = list_any (λ l. knows l s) labels

-- whether two sites both know a label, or neither does
abbrev pub know_alike : Site → Site → ℕ → Bool
know_alike a b l = if knows l a then knows l b else not (knows l b)

-- whether they know the same ones of some labels
abbrev pub know_same : List ℕ → Site → Site → Bool
know_same labels a b = list_all (know_alike a b) labels

-- whether any two of some sites do
abbrev pub all_know_same : List ℕ → List Site → Bool
all_know_same labels sites = list_all (λ a. list_all (know_same labels a) sites) sites

-- whether a site's sort is a `find`
abbrev pub is_find_sort : Sort → Bool
is_find_sort (Get m) = false
is_find_sort Find = true
is_find_sort New = false
is_find_sort (Name m) = false
is_find_sort Load = false
is_find_sort Store = false

-- whether a site is a `find`
abbrev pub is_find : Site → Bool
is_find s = is_find_sort s.sort
