-- Worked rows: the sites of some functions, and what they come to.
use Rattle.std.specs.Prelude.{◌≡◌, ℕ, List, [], ◌∷◌, Option, Some, None}
use Rattle.nf_base.specs.declared.decl.ObjectId.TheVariants as object
use Rattle.nf_base.specs.declared.packet.Family.TheVariants.{Four}
use Rattle.nf_base.specs.declared.hash_fields.Hashable.{Hashable}
use Rattle.nf_base.specs.declared.hash_fields.Hashable.TheVariants.{SrcIp, DstIp, SrcPort, DstPort}
use Rattle.nf_sites.specs.declared.sort.Sort.{Sort}
use Rattle.nf_sites.specs.declared.sort.Sort.TheVariants.{Get, Find, New, Name, Load, Store}
use Rattle.access_keys.specs.declared.site.Site.{Site}
use Rattle.key_rows.specs.declared.place.Place.{Place}
use Rattle.shard_rules.specs.declared.rule.Rule.{Rule}
use Rattle.shard_rules.specs.declared.rule.Rule.TheVariants.{SameKey, Subset, DisjointKeys, Unhashable, Interchangeable}
use Rattle.shard_rules.specs.Sites.{object_sites}
use Rattle.shard_rules.specs.Rules.{kept_labels, rule_of}
use Rattle.shard_rules.specs.Places.{places_of}

-- a site of chain 0
abbrev pub at_chain : ℕ → ℕ → Sort → List (Option Hashable) → Site
at_chain port place sort known = record {
  object = object.Chain 0;
  door = record { port = port; family = Four };
  place = place;
  sort = sort;
  known = known;
}

-- a site of array 0
abbrev pub at_array : ℕ → ℕ → Sort → List (Option Hashable) → Site
at_array port place sort known = record {
  object = object.Array 0;
  door = record { port = port; family = Four };
  place = place;
  sort = sort;
  known = known;
}

-- a place of a port
abbrev pub place_at : ℕ → List Hashable → Place
place_at port known = record { port = port; family = Four; known = known }

-- what sites of an object with some labels come to
pub record ComeTo (labels : List ℕ) (sites : List Site) (rule : Rule) (kept : List ℕ)
    (places : List Place) : Type 0 where
  pub rule_is : rule_of labels sites kept ≡ rule
  pub kept_are : kept_labels labels sites ≡ kept
  pub places_are : places_of kept sites ≡ places

-- a firewall: at port 1 the flow is turned round
abbrev pub flow : List (Option Hashable)
flow = Some SrcIp ∷ Some DstIp ∷ Some SrcPort ∷ Some DstPort ∷ []

-- the flow of an answer
abbrev pub turned : List (Option Hashable)
turned = Some DstIp ∷ Some SrcIp ∷ Some DstPort ∷ Some SrcPort ∷ []

-- its sites
abbrev pub firewall : List Site
firewall =
    at_chain 0 0 (Get 0) flow ∷ at_chain 0 1 New flow ∷ at_chain 0 1 (Name 0) flow
    ∷ at_chain 1 2 (Get 0) turned ∷ []

-- a policer, by destination
abbrev pub by_destination : List (Option Hashable)
by_destination = Some DstIp ∷ []

-- its sites
abbrev pub policer : List Site
policer =
    at_chain 1 0 (Get 0) by_destination ∷ at_chain 1 2 New by_destination
    ∷ at_chain 1 2 (Name 0) by_destination ∷ []

-- a translator: a new entry's far end is two labels more
abbrev pub conn : List (Option Hashable)
conn =
    Some SrcIp ∷ Some SrcPort ∷ Some DstIp ∷ Some DstPort ∷ Some DstIp ∷ Some DstPort ∷ []

-- what is known of a packet that comes back
abbrev pub far_end : List (Option Hashable)
far_end = None ∷ None ∷ Some SrcIp ∷ Some SrcPort ∷ Some SrcIp ∷ Some SrcPort ∷ []

-- its sites
abbrev pub translator : List Site
translator =
    at_chain 0 0 (Get 0) conn ∷ at_chain 0 1 New conn ∷ at_chain 0 1 (Name 0) conn
    ∷ at_chain 1 3 Find far_end ∷ []

-- the same without a check where a packet comes back: it knows no label
abbrev pub unchecked : List Site
unchecked =
    at_chain 0 0 (Get 0) conn ∷ at_chain 0 1 New conn ∷ at_chain 0 1 (Name 0) conn
    ∷ at_chain 1 3 Find (None ∷ None ∷ None ∷ None ∷ None ∷ None ∷ []) ∷ []

-- two maps, by source and by destination, of which one is looked up
abbrev pub hidden : List Site
hidden =
    at_chain 0 0 (Get 1) (None ∷ Some DstIp ∷ []) ∷ at_chain 0 1 New (Some SrcIp ∷ Some DstIp ∷ [])
    ∷ at_chain 0 1 (Name 0) (Some SrcIp ∷ None ∷ [])
    ∷ at_chain 0 1 (Name 1) (None ∷ Some DstIp ∷ []) ∷ []

-- an address, and a port that a look-up doesn't know
abbrev pub narrowed : List Site
narrowed =
    at_chain 0 0 (Get 0) (Some SrcIp ∷ None ∷ [])
    ∷ at_chain 0 1 New (Some SrcIp ∷ Some SrcPort ∷ [])
    ∷ at_chain 0 1 (Name 0) (Some SrcIp ∷ None ∷ []) ∷ []

-- a counter by destination port, beside a site of something else
abbrev pub counter : List Site
counter =
    at_array 0 0 Store (Some DstPort ∷ []) ∷ at_chain 0 2 (Get 0) (None ∷ [])
    ∷ at_array 0 1 Load (Some DstPort ∷ []) ∷ []

-- what each comes to
pub record RulesComeOutSo : Type 0 where
  pub firewall_has_one_key : ComeTo (0 ∷ 1 ∷ 2 ∷ 3 ∷ []) firewall SameKey (0 ∷ 1 ∷ 2 ∷ 3 ∷ [])
      (place_at 0 (SrcIp ∷ DstIp ∷ SrcPort ∷ DstPort ∷ [])
      ∷ place_at 1 (DstIp ∷ SrcIp ∷ DstPort ∷ SrcPort ∷ []) ∷ [])
  pub policer_has_one_key : ComeTo (0 ∷ []) policer SameKey (0 ∷ []) (place_at 1 (DstIp ∷ []) ∷ [])
  pub translator_checks : ComeTo (0 ∷ 1 ∷ 2 ∷ 3 ∷ 4 ∷ 5 ∷ []) translator Interchangeable
      (2 ∷ 3 ∷ 4 ∷ 5 ∷ [])
      (place_at 0 (DstIp ∷ DstPort ∷ DstIp ∷ DstPort ∷ [])
      ∷ place_at 1 (SrcIp ∷ SrcPort ∷ SrcIp ∷ SrcPort ∷ []) ∷ [])
  pub unchecked_has_none : ComeTo (0 ∷ 1 ∷ 2 ∷ 3 ∷ 4 ∷ 5 ∷ []) unchecked Unhashable []
      (place_at 0 [] ∷ place_at 1 [] ∷ [])
  pub hidden_keys_are_disjoint : ComeTo (0 ∷ 1 ∷ []) hidden DisjointKeys [] (place_at 0 [] ∷ [])
  pub narrowed_is_a_subset : ComeTo (0 ∷ 1 ∷ []) narrowed Subset (0 ∷ [])
      (place_at 0 (SrcIp ∷ []) ∷ [])
  pub counter_has_one_key : ComeTo (0 ∷ []) (object_sites (object.Array 0) counter) SameKey (0 ∷ [])
      (place_at 0 (DstPort ∷ []) ∷ [])
