-- The values of a handler's text.
use Rattle.std.specs.Prelude.{ℕ, ◌+◌, ◌-◌, ◌*◌, ◌/◌, ◌%◌, ◌^◌, min, Bool, true, false, nat_lt, nat_le, not, ◌==◌, if◌then◌else◌}
use Rattle.std.specs.Int.Bits.{bit_and}
use Rattle.nf_base.specs.declared.packet.Field.{Field}
use Rattle.nf_base.specs.declared.packet.Field.TheVariants.{Time, Length, SrcMac, DstMac, SrcIp, DstIp, SrcIp6, DstIp6, Proto, Ttl, SrcPort, DstPort}
use Rattle.nf_base.specs.declared.packet.Fields.{Fields}
use Rattle.nf_base.specs.Families.{source, destination}
use Rattle.nf_base.specs.declared.width.Width.{Width}
use Rattle.nf_base.specs.declared.width.Width.TheVariants.{W8, W16, W32, W48, W64, W128}
use Rattle.nf_base.specs.declared.expr.Operator.{Operator}
use Rattle.nf_base.specs.declared.expr.Operator.TheVariants.{Plus, Minus, Times, Over, Modulo, And}
use Rattle.nf_base.specs.declared.expr.Comparison.{Comparison}
use Rattle.nf_base.specs.declared.expr.Comparison.TheVariants.{Equal, NotEqual, Less, LessOrEqual, Greater, GreaterOrEqual}

-- the value of a field of a handled packet that came at a time
abbrev pub field_of : ℕ → Fields → Field → ℕ
field_of time fields Time = time
field_of time fields Length = fields.length
field_of time fields SrcMac = fields.src_mac
field_of time fields DstMac = fields.dst_mac
field_of time fields SrcIp = source fields
field_of time fields DstIp = destination fields
field_of time fields SrcIp6 = source fields
field_of time fields DstIp6 = destination fields
field_of time fields Proto = fields.proto
field_of time fields Ttl = fields.ttl
field_of time fields SrcPort = fields.src_port
field_of time fields DstPort = fields.dst_port

-- how many bits a width has
abbrev pub bits : Width → ℕ
bits W8 = 8
bits W16 = 16
bits W32 = 32
bits W48 = 48
bits W64 = 64
bits W128 = 128

-- the width of a field: 64 bits of nanoseconds, 32 bits of length, and the widths of the headers
abbrev pub field_width : Field → Width
field_width Time = W64
field_width Length = W32
field_width SrcMac = W48
field_width DstMac = W48
field_width SrcIp = W32
field_width DstIp = W32
field_width SrcIp6 = W128
field_width DstIp6 = W128
field_width Proto = W8
field_width Ttl = W8
field_width SrcPort = W16
field_width DstPort = W16

-- all fields but the time, the length and the protocol may be set
abbrev pub is_settable : Field → Bool
is_settable Time = false
is_settable Length = false
is_settable SrcMac = true
is_settable DstMac = true
is_settable SrcIp = true
is_settable DstIp = true
is_settable SrcIp6 = true
is_settable DstIp6 = true
is_settable Proto = false
is_settable Ttl = true
is_settable SrcPort = true
is_settable DstPort = true

-- a card hashes addresses and ports (Microsoft RSS, TCP and UDP over IPv4)
abbrev pub is_hashable : Field → Bool
is_hashable Time = false
is_hashable Length = false
is_hashable SrcMac = false
is_hashable DstMac = false
is_hashable SrcIp = true
is_hashable DstIp = true
is_hashable SrcIp6 = true
is_hashable DstIp6 = true
is_hashable Proto = false
is_hashable Ttl = false
is_hashable SrcPort = true
is_hashable DstPort = true

-- a value taken to a width
abbrev pub narrowed : Width → ℕ → ℕ
narrowed w v = v % 2 ^ bits w

-- Sums and products stop at the largest value, differences at 0; a division by 0 gives 0.
abbrev pub result_of : Operator → ℕ → ℕ → ℕ
result_of Plus a b = min (a + b) (2 ^ 128 - 1)
result_of Minus a b = a - b
result_of Times a b = min (a * b) (2 ^ 128 - 1)
result_of Over a b = if b == 0 then 0 else a / b
result_of Modulo a b = if b == 0 then 0 else a % b
result_of And a b = bit_and a b

-- whether a comparison of two values holds
abbrev pub compares : Comparison → ℕ → ℕ → Bool
compares Equal a b = a == b
compares NotEqual a b = not (a == b)
compares Less a b = nat_lt a b
compares LessOrEqual a b = nat_le a b
compares Greater a b = nat_lt b a
compares GreaterOrEqual a b = nat_le b a
