-- Which fields a handler may name, by the version of IP of its packets.
use Rattle.std.specs.Prelude.{Bool, true, false, not, List}
use Rattle.nf_base.specs.declared.packet.Family.{Family}
use Rattle.nf_base.specs.declared.packet.Family.TheVariants.{Four, Six}
use Rattle.nf_base.specs.declared.packet.Field.{Field}
use Rattle.nf_base.specs.declared.packet.Field.TheVariants.{Time, Length, SrcMac, DstMac, SrcIp, DstIp, SrcIp6, DstIp6, Proto, Ttl, SrcPort, DstPort}
use Rattle.nf_tokens.specs.declared.token.Place.{Place}
use Rattle.nf_types.specs.declared.fault.TypingKind.TheVariants.{OtherFamily}
use Rattle.nf_types.specs.declared.fault.Fault.{Fault}
use Rattle.nf_types.specs.Faults.{fault_if}

-- whether two versions of IP are the same
abbrev pub same_family : Family → Family → Bool
same_family Four Four = true
same_family Four Six = false
same_family Six Four = false
same_family Six Six = true

-- whether packets of a version have a field: each version has addresses of its own
abbrev pub has_field : Family → Field → Bool
has_field family Time = true
has_field family Length = true
has_field family SrcMac = true
has_field family DstMac = true
has_field family SrcIp = same_family family Four
has_field family DstIp = same_family family Four
has_field family SrcIp6 = same_family family Six
has_field family DstIp6 = same_family family Six
has_field family Proto = true
has_field family Ttl = true
has_field family SrcPort = true
has_field family DstPort = true

-- a field that a handler names is one of its packets
abbrev pub field_faults : Family → Field → Place → List Fault
field_faults family field at = fault_if (not (has_field family field)) OtherFamily at
