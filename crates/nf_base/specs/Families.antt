-- The two versions of IP: which one a packet has, its addresses, and the handler that it is for.
use Rattle.std.specs.Prelude.{ℕ, Option, Some, None}
use Rattle.nf_base.specs.declared.packet.Family.{Family}
use Rattle.nf_base.specs.declared.packet.Family.TheVariants as family
use Rattle.nf_base.specs.declared.packet.Door.{Door}
use Rattle.nf_base.specs.declared.packet.Addresses.{Addresses}
use Rattle.nf_base.specs.declared.packet.Addresses.TheVariants as addresses
use Rattle.nf_base.specs.declared.packet.Fields.{Fields}

-- the version of IP that addresses are of
abbrev pub family_by : Addresses → Family
family_by (addresses.Four src dst) = family.Four
family_by (addresses.Six src dst) = family.Six

-- the version of IP that a packet with these fields has
abbrev pub family_of : Fields → Family
family_of fields = family_by fields.addresses

abbrev pub source_in : Addresses → ℕ
source_in (addresses.Four src dst) = src
source_in (addresses.Six src dst) = src

abbrev pub destination_in : Addresses → ℕ
destination_in (addresses.Four src dst) = dst
destination_in (addresses.Six src dst) = dst

-- the source address, whatever the version
abbrev pub source : Fields → ℕ
source fields = source_in fields.addresses

-- the destination address
abbrev pub destination : Fields → ℕ
destination fields = destination_in fields.addresses

-- the handler that a packet of a port with these fields is for
abbrev pub door_of : ℕ → Fields → Door
door_of port fields = record { port = port; family = family_of fields }

-- the same of a packet that may be skipped, which no handler is for; that for IPv4 stands in
abbrev pub door_for : ℕ → Option Fields → Door
door_for port None = record { port = port; family = family.Four }
door_for port (Some fields) = door_of port fields
