-- The fields that the hash reads, their widths and their values.
use Rattle.std.specs.Prelude.{◌≡◌, ◌<◌, ◌^◌, ℕ, Option, Some, None}
use Rattle.nf_base.specs.declared.packet.Field.{Field}
use Rattle.nf_base.specs.declared.packet.Field.TheVariants as field
use Rattle.nf_base.specs.declared.packet.Family.{Family}
use Rattle.nf_base.specs.declared.packet.Family.TheVariants as family
use Rattle.nf_base.specs.declared.packet.Fields.{Fields}
use Rattle.nf_base.specs.declared.packet.Packet.{Packet}
use Rattle.nf_base.specs.Families.{family_of, source, destination}
use Rattle.nf_base.specs.declared.hash_fields.Hashable.{Hashable}
use Rattle.nf_base.specs.declared.hash_fields.Hashable.TheVariants.{SrcIp, DstIp, SrcPort, DstPort}

-- the order in which the input has them
abbrev pub number : Hashable → ℕ
number SrcIp = 0
number DstIp = 1
number SrcPort = 2
number DstPort = 3

-- how many bits an address has
abbrev pub address_width : Family → ℕ
address_width family.Four = 32
address_width family.Six = 128

-- how many bits each has
abbrev pub width : Family → Hashable → ℕ
width f SrcIp = address_width f
width f DstIp = address_width f
width f SrcPort = 16
width f DstPort = 16

-- what a packet's fields say of one
abbrev pub value : Fields → Hashable → ℕ
value fields SrcIp = source fields
value fields DstIp = destination fields
value fields SrcPort = fields.src_port
value fields DstPort = fields.dst_port

-- fields within their widths, as those of each packet are
pub record IsInput (fields : Fields) : Type 0 where
  pub within : (h : Hashable) → value fields h < 2 ^ width (family_of fields) h

-- a packet's fields, where it is handled, are within their widths
abbrev pub HasInput : Packet → Type 0
HasInput packet = (fields : Fields) → packet.fields ≡ Some fields → IsInput fields

-- a field of the language, where it is hashed in packets of a family
abbrev pub hashable : Family → Field → Option Hashable
hashable f field.Time = None
hashable f field.Length = None
hashable f field.SrcMac = None
hashable f field.DstMac = None
hashable family.Four field.SrcIp = Some SrcIp
hashable family.Six field.SrcIp = None
hashable family.Four field.DstIp = Some DstIp
hashable family.Six field.DstIp = None
hashable family.Four field.SrcIp6 = None
hashable family.Six field.SrcIp6 = Some SrcIp
hashable family.Four field.DstIp6 = None
hashable family.Six field.DstIp6 = Some DstIp
hashable f field.Proto = None
hashable f field.Ttl = None
hashable f field.SrcPort = Some SrcPort
hashable f field.DstPort = Some DstPort
