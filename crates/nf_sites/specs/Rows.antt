-- Worked rows: the sites of some functions, which labels are known at them, and which are kept.
use Rattle.std.specs.Prelude.{◌≡◌, ℕ, zero, suc, Bool, true, false, List, [], ◌∷◌, map, Option, Some, None}
use Rattle.nf_base.specs.Families.{source, destination}
use Rattle.nf_base.specs.declared.packet.Door.{Door}
use Rattle.nf_base.specs.declared.decl.ObjectId.{ObjectId}
use Rattle.nf_base.specs.declared.decl.ObjectId.TheVariants as object
use Rattle.nf_base.specs.declared.packet.Field.TheVariants.{SrcIp, DstIp, SrcPort, DstPort}
use Rattle.nf_base.specs.declared.packet.Fields.{Fields}
use Rattle.nf_base.specs.declared.width.Width.TheVariants.{W16, W32}
use Rattle.nf_base.specs.declared.expr.Operator.TheVariants.{Plus}
use Rattle.nf_base.specs.Text.{Expression, Number, Read, Label, Cell, Both, Given, Block, Function}
use Rattle.nf_base.specs.declared.hash_fields.Hashable.{Hashable}
use Rattle.nf_base.specs.declared.hash_fields.Hashable.TheVariants as hashed
use Rattle.nf_laws.specs.Samples.{column, map_of, valued, read, nothing}
use Rattle.nf_laws.specs.Nat.{nat}
use Rattle.nf_laws.specs.Bridge.{bridge}
use Rattle.nf_laws.specs.Policer.{policer}
use Rattle.nf_laws.specs.Sums.{counters}
use Rattle.nf_sites.specs.declared.sort.Sort.{Sort}
use Rattle.nf_sites.specs.declared.sort.Sort.TheVariants as sort
use Rattle.nf_sites.specs.Named.{Named}
use Rattle.nf_sites.specs.Sites.{Site}
use Rattle.nf_sites.specs.OnPaths.{text_sites, sites_of}
use Rattle.nf_sites.specs.Known.{together, known_labels, kept}
use Rattle.nf_sites.specs.Admissible.{IsAdmissibleBySites}
use Rattle.nf_sites.specs.Samples.{over, two_maps, hidden, makes, looks, guard_on, unreached, every_kind, every_chain, read_only, two_chains, four_at}

-- a site of a function, and by which field each label of its object is known there
pub record Row : Type 0 where
  pub object : ObjectId
  pub door : Door
  pub place : ℕ
  pub sort : Sort
  pub known : List (Option Hashable)

-- the row of a site
abbrev pub row_of : Function → Site → Row
row_of f x = record {
  object = x.object;
  door = x.door;
  place = x.place;
  sort = x.sort;
  known = known_labels f x;
}

-- all of them
abbrev pub rows_of : Function → List Row
rows_of f = map (row_of f) (sites_of f)

-- a row at a port and a place, of the one chain
abbrev pub chain_row : ℕ → ℕ → Sort → List (Option Hashable) → Row
chain_row port place way known = record {
  object = object.Chain 0;
  door = four_at port;
  place = place;
  sort = way;
  known = known;
}

-- a row of port 0 and the one array
abbrev pub array_row : ℕ → Sort → Option Hashable → Row
array_row place way index = record {
  object = object.Array 0;
  door = four_at 0;
  place = place;
  sort = way;
  known = index ∷ [];
}

-- the six labels of a NAT's entry: both ends, and the far end again
abbrev pub outward : List (Option Hashable)
outward =
    Some hashed.SrcIp ∷ Some hashed.SrcPort ∷ Some hashed.DstIp ∷ Some hashed.DstPort
    ∷ Some hashed.DstIp ∷ Some hashed.DstPort ∷ []

-- a packet from the far end names that end's two labels, and knows the two that are together with
-- them
abbrev pub inward : List (Option Hashable)
inward =
    None ∷ None ∷ Some hashed.SrcIp ∷ Some hashed.SrcPort
    ∷ Some hashed.SrcIp ∷ Some hashed.SrcPort ∷ []

-- the labels that are known at the sites of some functions, and those that are kept
pub record SitesKnow : Type 0 where
  -- the sites of a policer are all by the destination
  pub policer_by_destination :
      rows_of policer
      ≡ chain_row 1 0 (sort.Get 0) (Some hashed.DstIp ∷ [])
      ∷ chain_row 1 2 sort.New (Some hashed.DstIp ∷ [])
      ∷ chain_row 1 2 (sort.Name 0) (Some hashed.DstIp ∷ [])
      ∷ []
  pub policer_keeps : kept policer (object.Chain 0) ≡ 0 ∷ []
  -- a NAT keeps the far end: a packet from there names it, and it is together with two parts of the
  -- key
  pub nat_by_both_ends :
      rows_of nat
      ≡ chain_row 0 0 (sort.Get 0) outward
      ∷ chain_row 0 1 sort.New outward
      ∷ chain_row 0 1 (sort.Name 0) outward
      ∷ chain_row 1 3 sort.Find inward
      ∷ []
  pub nat_keeps : kept nat (object.Chain 0) ≡ 2 ∷ 3 ∷ 4 ∷ 5 ∷ []
  -- a bridge looks up what is not hashed
  pub bridge_keeps : kept bridge (object.Chain 0) ≡ []
  -- each map is looked up by a `new`, also one that no `get` looks up
  pub hidden_look_up :
      rows_of hidden
      ≡ chain_row 0 0 (sort.Get 1) (None ∷ Some hashed.DstIp ∷ [])
      ∷ chain_row 0 1 sort.New (Some hashed.SrcIp ∷ Some hashed.DstIp ∷ [])
      ∷ chain_row 0 1 (sort.Name 0) (Some hashed.SrcIp ∷ None ∷ [])
      ∷ chain_row 0 1 (sort.Name 1) (None ∷ Some hashed.DstIp ∷ [])
      ∷ []
  pub hidden_keeps_none : kept hidden (object.Chain 0) ≡ []
  -- an array is known by the index of each access
  pub array_by_index :
      rows_of counters
      ≡ array_row 0 sort.Store (Some hashed.SrcPort)
      ∷ array_row 1 sort.Load (Some hashed.SrcPort)
      ∷ array_row 2 sort.Load (Some hashed.DstPort)
      ∷ []
  pub array_keeps : kept counters (object.Array 0) ≡ 0 ∷ []

-- a chain of two labels with a map of each
abbrev pub pairs : Block → Function
pairs block = over (column W32 ∷ column W32 ∷ []) two_maps (block ∷ [])

-- whether its labels are together
abbrev pub pair_together : Block → Bool
pair_together block = together (pairs block) (object.Chain 0) 0 1

-- the source address
abbrev pub src : Given
src = read W32 SrcIp

-- the destination address
abbrev pub dst : Given
dst = read W32 DstIp

-- three labels, of which a `find` names the first two, and which each `new` gives one field
abbrev pub triple : Given → Given → Function
triple a b =
    over (column W32 ∷ column W32 ∷ column W32 ∷ []) (map_of 0 3 ∷ [])
    (makes 0 (src ∷ src ∷ src ∷ []) (looks 1 (guard_on 1 b ∷ guard_on 0 a ∷ []) nothing) ∷ [])

-- the last of its sites is the `find`
abbrev pub last_known : List Row → List (Option Hashable)
last_known [] = []
last_known (r ∷ []) = r.known
last_known (r ∷ s ∷ rs) = last_known (s ∷ rs)

-- which labels are together, and what they are known by
pub record LabelsAreTogether : Type 0 where
  -- one `new` may set both from the source, another both from the destination
  pub each_new_by_itself :
      pair_together (makes 0 (src ∷ src ∷ []) (makes 1 (dst ∷ dst ∷ []) nothing)) ≡ true
  -- but each has to set both from one field
  pub every_new :
      pair_together (makes 0 (src ∷ src ∷ []) (makes 1 (src ∷ dst ∷ []) nothing)) ≡ false
  -- a field of the label's width
  pub of_the_width :
      pair_together (makes 0 (read W16 SrcIp ∷ read W16 SrcIp ∷ []) nothing) ≡ false
  -- that is hashed, and plain
  pub of_a_field : pair_together
      (makes 0 (valued W32 (Number 7) ∷ valued W32 (Number 7) ∷ []) nothing) ≡ false
  -- an array's index is together with nothing
  pub array_alone : together counters (object.Array 0) 0 0 ≡ false
  -- a label that is not named is known by one that is together with it
  pub last_by_first : last_known (rows_of (triple dst dst))
      ≡ Some hashed.DstIp ∷ Some hashed.DstIp ∷ Some hashed.DstIp ∷ []
  -- by the first one in text order, however the guards stand
  pub first_decides : last_known (rows_of (triple dst src))
      ≡ Some hashed.DstIp ∷ Some hashed.SrcIp ∷ Some hashed.DstIp ∷ []
  -- also where that one is not known; and a named label follows its own value alone
  pub named_alone : last_known (rows_of (triple (valued W32 (Number 7)) src))
      ≡ None ∷ Some hashed.SrcIp ∷ None ∷ []
  -- a sum is no plain field
  pub no_sum : last_known (rows_of (triple (valued W32 (Both Plus (Read SrcIp) (Number 0))) src))
      ≡ None ∷ Some hashed.SrcIp ∷ None ∷ []

-- a function over one chain of one label and one map
abbrev pub single : Block → Function
single block = over (column W32 ∷ []) (map_of 0 1 ∷ []) (block ∷ [])

-- a value that a label is given
abbrev pub gives : ℕ → Given → Named Given
gives l g = record { label = l; given = g }

-- a site of port 0
abbrev pub port_0 : ObjectId → ℕ → Sort → List (Named Given) → Site
port_0 o place way named =
    record { object = o; door = four_at 0; place = place; sort = way; named = named }

-- an access to a cell of an array
abbrev pub access : ℕ → Sort → ℕ → Expression → Site
access place way array at = port_0 (object.Array array) place way (gives 0 (valued W16 at) ∷ [])

-- which sites a text has, and where
pub record TextsHaveSites : Type 0 where
  -- a site is a place on some feasible path: the first `get` stands on none
  pub feasible_only :
      sites_of (single unreached)
      ≡ port_0 (object.Chain 0) 3 (sort.Get 0) (gives 0 dst ∷ []) ∷ []
  -- every kind of site, in text order
  pub every_kind_in_order :
      text_sites (every_chain ∷ []) (four_at 0) every_kind
      ≡ port_0 (object.Chain 0) 0 (sort.Get 1)
      (gives 1 (valued W32 (Cell 1 0 (Read DstPort))) ∷ gives 2 (read W16 SrcPort) ∷ [])
      ∷ access 1 sort.Load 0 (Read DstPort)
      ∷ access 2 sort.Load 1 (Number 3)
      ∷ access 3 sort.Load 0 (Number 0)
      ∷ port_0 (object.Chain 0) 4 sort.New
      (gives 0 src ∷ gives 1 dst ∷ gives 2 (read W16 SrcPort)
      ∷ gives 3 (valued W32 (Cell 5 0 (Number 4))) ∷ [])
      ∷ port_0 (object.Chain 0) 4 (sort.Name 0) (gives 0 src ∷ [])
      ∷ port_0 (object.Chain 0) 4 (sort.Name 1) (gives 1 dst ∷ gives 2 (read W16 SrcPort) ∷ [])
      ∷ access 5 sort.Load 0 (Number 4)
      ∷ port_0 (object.Chain 0) 6 sort.Find
      (gives 3 (valued W32 (Cell 8 1 (Number 2))) ∷ gives 0 dst ∷ [])
      ∷ access 7 sort.Load 0 (Number 1)
      ∷ access 8 sort.Load 1 (Number 2)
      ∷ access 10 sort.Load 0 (Cell 11 1 (Number 0))
      ∷ access 11 sort.Load 1 (Number 0)
      ∷ access 12 sort.Load 0 (Label 0 0)
      ∷ access 13 sort.Store 1 (Cell 14 0 (Number 1))
      ∷ access 14 sort.Load 0 (Number 1)
      ∷ access 15 sort.Load 0 (Number 6)
      ∷ access 16 sort.Load 1 (Number 7)
      ∷ access 17 sort.Load 1 (Read SrcPort)
      ∷ []

-- a hash of the source at port 0, and another one of the destination at other ports
abbrev pub two_by : ℕ → Fields → ℕ
two_by zero p = source p
two_by (suc port) p = suc (destination p)

abbrev pub two_hashes : Door → Fields → ℕ
two_hashes door p = two_by door.port p

-- a hash of the destination at port 0, and of the source at other ports: of the far end
abbrev pub far_by : ℕ → Fields → ℕ
far_by zero p = destination p
far_by (suc port) p = source p

abbrev pub far_hash : Door → Fields → ℕ
far_hash door p = far_by door.port p

-- which hashes are admissible
pub record HashesAreAdmissible : Type 0 where
  -- a policer's port may hash the destination, and not the source
  pub by_destination : IsAdmissibleBySites policer (λ door (p : Fields). destination p)
  pub not_by_source : IsAdmissibleBySites policer (λ door (p : Fields). source p) → ⊥
  -- a NAT's two ports may hash the far end's address
  pub by_far_end : IsAdmissibleBySites nat far_hash
  -- what is never written asks for nothing
  pub read_only_is_free : IsAdmissibleBySites read_only (λ door (p : Fields). destination p)
  -- and the sites of one chain for nothing at those of another
  pub each_object_alone : IsAdmissibleBySites two_chains two_hashes
