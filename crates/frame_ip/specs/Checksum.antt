-- A checksum that is brought up to date by what changed (RFC 1624 equation 3).
use Rattle.std.specs.Prelude.{ℕ, zero, suc, ◌+◌, ◌-◌, ◌/◌, ◌%◌, List, [], ◌∷◌, nat_eq, nat_lt, if◌then◌else◌}
use Rattle.frame_ip.specs.Bytes.{number_at}
use Rattle.frame_ip.specs.Writes.{Write}

-- what a word adds to the sum of an update: nothing where its value stays, else the complement of the
-- old value and the new value
abbrev pub change : List ℕ → Write → ℕ
change frame w = if nat_eq (number_at frame w.at 2) w.word then 0 else (65535 - number_at frame w.at 2) + w.word

abbrev pub changes : List ℕ → List Write → ℕ
changes frame [] = 0
changes frame (w ∷ ws) = change frame w + changes frame ws

-- the high half added to the low half
abbrev pub halves : ℕ → ℕ
halves sum = sum / 65536 + sum % 65536

-- the same until the sum fits 16 bits, so many times at most
unfoldable pub folded : ℕ → ℕ → ℕ
folded zero sum = sum
folded (suc most) sum = if nat_lt sum 65536 then sum else folded most (halves sum)

-- until it fits
abbrev pub fold : ℕ → ℕ
fold sum = folded sum sum

-- the checksum at an offset after words were written: ~fold(~old + sum of changes)
abbrev pub updated : List ℕ → ℕ → List Write → ℕ
updated frame at ws = 65535 - fold ((65535 - number_at frame at 2) + changes frame ws)

-- A UDP checksum of 0 says that there is none, and stays; one that comes out as 0 is sent as 0xffff (RFC 768).
abbrev pub udp_checksum : ℕ → ℕ → ℕ
udp_checksum old new = if nat_eq old 0 then 0 else (if nat_eq new 0 then 65535 else new)
