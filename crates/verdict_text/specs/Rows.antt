-- Worked rows: the texts of some functions, with their sites and what these come to.
use Rattle.std.specs.Prelude.{◌≡◌, ℕ, List, [], ◌∷◌, ◌++◌, map, replicate, Some, codes}
use Rattle.nf_base.specs.declared.decl.ObjectId.{ObjectId}
use Rattle.nf_base.specs.declared.decl.ObjectId.TheVariants as object
use Rattle.nf_base.specs.declared.decl.ChainDecl.{ChainDecl}
use Rattle.nf_base.specs.declared.decl.ArrayDecl.{ArrayDecl}
use Rattle.nf_base.specs.declared.decl.ColumnDecl.{ColumnDecl}
use Rattle.nf_base.specs.declared.decl.MapDecl.{MapDecl}
use Rattle.nf_base.specs.declared.width.Width.TheVariants.{W16, W32, W64}
use Rattle.nf_base.specs.declared.packet.Family.TheVariants.{Six}
use Rattle.nf_base.specs.Text.{Function}
use Rattle.nf_base.specs.declared.hash_fields.Hashable.TheVariants.{SrcIp, DstPort}
use Rattle.nf_sites.specs.declared.sort.Sort.TheVariants.{Get, New, Name, Load, Store}
use Rattle.access_keys.specs.declared.site.Site.{Site}
use Rattle.shard_rules.specs.declared.rule.Rule.TheVariants.{SameKey, Subset, DisjointKeys, Unhashable, Interchangeable}
use Rattle.shard_rules.specs.declared.plan.ObjectVerdict.{ObjectVerdict}
use Rattle.shard_rules.specs.declared.plan.ObjectVerdict.TheVariants.{ReadOnly, Unused, Ruled}
use Rattle.shard_rules.specs.declared.plan.Plan.{Plan}
use Rattle.shard_rules.specs.Rows.{at_chain, at_array, policer, translator, hidden, narrowed, counter}
use Rattle.nf_base.specs.declared.card.TableSize.TheVariants.{Entries128, Entries512}
use Rattle.nf_base.specs.declared.card.KeySize.TheVariants.{Bytes52}
use Rattle.toeplitz_hash.specs.declared.key.TheConstants.{DEFAULT_KEY}
use Rattle.toeplitz_hash.specs.DefaultKey.{default_key}
use Rattle.key_synth.specs.declared.verdict.Cause.TheVariants as cause
use Rattle.key_synth.specs.declared.verdict.Verdict.{Verdict}
use Rattle.key_synth.specs.declared.verdict.Verdict.TheVariants.{Sharded, Locked}
use Rattle.verdict_text.specs.Objects.{explained}
use Rattle.verdict_text.specs.Verdict.{verdict_text}

-- a label of a name, whatever its width
abbrev pub named : List ℕ → ColumnDecl
named name = record { name = name; width = W32 }

-- a map of a name over so many labels from one on
abbrev pub map_named : List ℕ → ℕ → ℕ → MapDecl
map_named name first parts = record { name = name; first = first; parts = parts }

-- a chain of a name with labels and maps
abbrev pub chain_named : List ℕ → List ColumnDecl → List MapDecl → ChainDecl
chain_named name labels maps = record {
  name = name;
  size = 5;
  lifetime = 10;
  labels = labels;
  columns = named (codes "used") ∷ [];
  maps = maps;
  order = [];
}

-- a function of a name with chains and arrays
abbrev pub function_named : List ℕ → List ChainDecl → List ArrayDecl → List ObjectId → Function
function_named name chains arrays objects = record {
  name = name;
  chains = chains;
  arrays = arrays;
  objects = objects;
  handlers = [];
}

-- what each object comes to
abbrev pub plan_with : List ObjectVerdict → Plan
plan_with standings = record { standings = standings; objects = [] }

-- a policer by destination
abbrev pub policer_text : List ℕ
policer_text = explained
    (function_named (codes "policer")
    (chain_named (codes "hosts") (named (codes "d") ∷ [])
    (map_named (codes "by_dst") 0 1 ∷ []) ∷ [])
    [] (object.Chain 0 ∷ []))
    policer (plan_with (Ruled SameKey (0 ∷ []) ∷ []))

-- the labels of a translator
abbrev pub conn_labels : List ColumnDecl
conn_labels =
    named (codes "sip") ∷ named (codes "sp") ∷ named (codes "dip") ∷ named (codes "dp")
    ∷ named (codes "rip") ∷ named (codes "rp") ∷ []

-- a translator
abbrev pub translator_text : List ℕ
translator_text = explained
    (function_named (codes "nat")
    (chain_named (codes "conns") conn_labels (map_named (codes "by_in") 0 4 ∷ []) ∷ [])
    [] (object.Chain 0 ∷ []))
    translator (plan_with (Ruled Interchangeable (2 ∷ 3 ∷ 4 ∷ 5 ∷ []) ∷ []))

-- a chain with two maps, of which one is looked up
abbrev pub hidden_text : List ℕ
hidden_text = explained
    (function_named (codes "hidden")
    (chain_named (codes "c") (named (codes "x") ∷ named (codes "y") ∷ [])
    (map_named (codes "s") 0 1 ∷ map_named (codes "d") 1 1 ∷ []) ∷ [])
    [] (object.Chain 0 ∷ []))
    hidden (plan_with (Ruled DisjointKeys [] ∷ []))

-- a look-up that knows one label of two
abbrev pub narrowed_text : List ℕ
narrowed_text = explained
    (function_named (codes "narrowed")
    (chain_named (codes "c") (named (codes "x") ∷ named (codes "y") ∷ [])
    (map_named (codes "m") 0 1 ∷ []) ∷ [])
    [] (object.Chain 0 ∷ []))
    narrowed (plan_with (Ruled Subset (0 ∷ []) ∷ []))

-- an array that is never written, a chain with two maps, a counter, and an array of a port that no
-- packet comes to
abbrev pub many_text : List ℕ
many_text = explained
    (function_named (codes "many")
    (chain_named (codes "c") (named (codes "x") ∷ named (codes "y") ∷ [])
    (map_named (codes "s") 0 1 ∷ map_named (codes "d") 1 1 ∷ []) ∷ [])
    (record { name = codes "hits"; width = W64; cells = 0 ∷ [] }
    ∷ record { name = codes "given"; width = W16; cells = 7 ∷ [] }
    ∷ record { name = codes "never"; width = W16; cells = 7 ∷ [] } ∷ [])
    (object.Array 1 ∷ object.Chain 0 ∷ object.Array 0 ∷ object.Array 2 ∷ []))
    counter
    (plan_with
    (ReadOnly ∷ Ruled Unhashable [] ∷ Ruled SameKey (0 ∷ []) ∷ Unused ∷ []))

-- the same site of the port's handler for IPv6
abbrev pub of_six : Site → Site
of_six s = record {
  object = s.object;
  door = record { port = s.door.port; family = Six };
  place = s.place;
  sort = s.sort;
  known = s.known;
}

-- the sites of a chain by the source address
abbrev pub by_source : List Site
by_source =
    at_chain 0 0 (Get 0) (Some SrcIp ∷ []) ∷ at_chain 0 1 New (Some SrcIp ∷ [])
    ∷ at_chain 0 1 (Name 0) (Some SrcIp ∷ []) ∷ []

-- a chain by the source address that a handler for IPv6 alone uses
abbrev pub six_text : List ℕ
six_text = explained
    (function_named (codes "bysrc")
    (chain_named (codes "s") (named (codes "x") ∷ []) (map_named (codes "m") 0 1 ∷ []) ∷ [])
    [] (object.Chain 0 ∷ []))
    (map of_six by_source) (plan_with (Ruled SameKey (0 ∷ []) ∷ []))

-- the sites of a counter by the destination port
abbrev pub by_port : List Site
by_port = at_array 0 0 Store (Some DstPort ∷ []) ∷ at_array 0 0 Load (Some DstPort ∷ []) ∷ []

-- a counter that a port's handlers for IPv4 and for IPv6 use
abbrev pub both_text : List ℕ
both_text = explained
    (function_named (codes "count") []
    (record { name = codes "hits"; width = W64; cells = 0 ∷ [] } ∷ []) (object.Array 0 ∷ []))
    (by_port ++ map of_six by_port) (plan_with (Ruled SameKey (0 ∷ []) ∷ []))

-- the verdicts on some functions: keys by destination at port 1, two objects, and a hash
abbrev pub policer_keys : Verdict
policer_keys = Sharded (record {
  table = Entries128;
  ports = DEFAULT_KEY ∷ (replicate 7 0 ++ 1 ∷ replicate 32 0) ∷ [];
})

-- the same for a card with a table of 512 entries and keys of 52 bytes
abbrev pub long_keys : Verdict
long_keys = Sharded (record {
  table = Entries512;
  ports = default_key Bytes52 ∷ (replicate 7 0 ++ 1 ∷ replicate 44 0) ∷ [];
})

-- a bridge keeps no label
abbrev pub bridge_cause : Verdict
bridge_cause = Locked (cause.Object (object.Chain 0) Unhashable)

-- the function that it is on
abbrev pub bridge : Function
bridge = function_named (codes "bridge")
    (chain_named (codes "macs") (named (codes "m") ∷ []) (map_named (codes "by_mac") 0 1 ∷ []) ∷ [])
    [] (object.Chain 0 ∷ [])

-- what a translator's other sites know
abbrev pub conn_known : List ℕ
conn_known = codes " sip=src_ip sp=src_port dip=dst_ip dp=dst_port rip=dst_ip rp=dst_port\n"

-- what is printed of each
pub record TextsAreSo : Type 0 where
  pub policer_is_by_destination : policer_text
      ≡ codes "nf policer\nobject hosts rule J1 keeps d\n"
      ++ codes "site 1 get by_dst d=dst_ip\nsite 1 new d=dst_ip\nsite 1 name by_dst d=dst_ip\n"
  pub translator_checks : translator_text
      ≡ codes "nf nat\nobject conns rule J5 keeps dip dp rip rp\n"
      ++ codes "site 0 get by_in" ++ conn_known
      ++ codes "site 0 new" ++ conn_known
      ++ codes "site 0 name by_in" ++ conn_known
      ++ codes "site 1 find dip=src_ip dp=src_port rip=src_ip rp=src_port\n"
  pub hidden_keys_are_disjoint : hidden_text
      ≡ codes "nf hidden\nobject c rule J3 keeps -\nsite 0 get d y=dst_ip\n"
      ++ codes "site 0 new x=src_ip y=dst_ip\nsite 0 name s x=src_ip\nsite 0 name d y=dst_ip\n"
  pub narrowed_is_a_subset : narrowed_text
      ≡ codes "nf narrowed\nobject c rule J2 keeps x\nsite 0 get m x=src_ip\n"
      ++ codes "site 0 new x=src_ip y=src_port\nsite 0 name m x=src_ip\n"
  pub each_kind_is_told : many_text
      ≡ codes "nf many\nobject given read only\nobject c rule J4 keeps -\nsite 0 get s -\n"
      ++ codes "object hits rule J1 keeps index\n"
      ++ codes "site 0 store index=dst_port\nsite 0 load index=dst_port\n"
      ++ codes "object never unused\n"
  pub six_is_told : six_text
      ≡ codes "nf bysrc\nobject s rule J1 keeps x\nsite 0 six get m x=src_ip6\n"
      ++ codes "site 0 six new x=src_ip6\nsite 0 six name m x=src_ip6\n"
  pub six_comes_behind : both_text
      ≡ codes "nf count\nobject hits rule J1 keeps index\n"
      ++ codes "site 0 store index=dst_port\nsite 0 load index=dst_port\n"
      ++ codes "site 0 six store index=dst_port\nsite 0 six load index=dst_port\n"
  pub policer_has_keys : verdict_text bridge policer_keys
      ≡ codes "sharded\nkey 0 6d5a56da255b0ec24167253d43a38fb0"
      ++ codes "d0ca2bcbae7b30b477cb2da38030f20c6a42b73bbeac01fa\n"
      ++ codes "key 1 00000000000000010000000000000000"
      ++ codes "000000000000000000000000000000000000000000000000\n"
  pub long_keys_are_told : verdict_text bridge long_keys
      ≡ codes "sharded\nkey 0 6d5a56da255b0ec24167253d43a38fb0"
      ++ codes "d0ca2bcbae7b30b477cb2da38030f20c6a42b73bbeac01fa6d5a56da255b0ec24167253d\n"
      ++ codes "key 1 00000000000000010000000000000000"
      ++ codes "000000000000000000000000000000000000000000000000000000000000000000000000\n"
  pub bridge_has_none : verdict_text bridge bridge_cause ≡ codes "locked macs J4\n"
  pub the_hash_is_named : verdict_text bridge (Locked cause.Hash) ≡ codes "locked hash\n"
