-- The names of maps, labels and fields, as they are printed.
use Rattle.std.specs.Prelude.{ℕ, List, [], Option, Some, None, codes, slice_get}
use Rattle.nf_base.specs.declared.decl.ObjectId.{ObjectId}
use Rattle.nf_base.specs.declared.decl.ObjectId.TheVariants as object
use Rattle.nf_base.specs.declared.decl.ChainDecl.{ChainDecl}
use Rattle.nf_base.specs.declared.decl.ColumnDecl.{ColumnDecl}
use Rattle.nf_base.specs.declared.decl.MapDecl.{MapDecl}
use Rattle.nf_base.specs.declared.packet.Family.{Family}
use Rattle.nf_base.specs.declared.packet.Family.TheVariants.{Four, Six}
use Rattle.nf_base.specs.Text.{Function}
use Rattle.nf_base.specs.declared.hash_fields.Hashable.{Hashable}
use Rattle.nf_base.specs.declared.hash_fields.Hashable.TheVariants.{SrcIp, DstIp, SrcPort, DstPort}

-- the name of a declared map
abbrev pub declared_map : Option MapDecl → List ℕ
declared_map None = []
declared_map (Some decl) = decl.name

-- that of a map among the maps of a chain
abbrev pub map_in : Option ChainDecl → ℕ → List ℕ
map_in None m = []
map_in (Some decl) m = declared_map (slice_get decl.maps m)

-- the name of a map of an object
abbrev pub map_name : Function → ObjectId → ℕ → List ℕ
map_name f (object.Chain chain) m = map_in (slice_get f.chains chain) m
map_name f (object.Array array) m = []

-- that of a declared label
abbrev pub declared_label : Option ColumnDecl → List ℕ
declared_label None = []
declared_label (Some decl) = decl.name

-- that of a label among the labels of a chain
abbrev pub label_in : Option ChainDecl → ℕ → List ℕ
label_in None l = []
label_in (Some decl) l = declared_label (slice_get decl.labels l)

-- the name of a label of an object: an array's one label is its `index`
abbrev pub label_name : Function → ObjectId → ℕ → List ℕ
label_name f (object.Chain chain) l = label_in (slice_get f.chains chain) l
label_name f (object.Array array) l = codes "index"

-- the word in the language of a field of a packet of a family
abbrev pub field_word : Family → Hashable → List ℕ
field_word Four SrcIp = codes "src_ip"
field_word Six SrcIp = codes "src_ip6"
field_word Four DstIp = codes "dst_ip"
field_word Six DstIp = codes "dst_ip6"
field_word family SrcPort = codes "src_port"
field_word family DstPort = codes "dst_port"
