-- How many bytes of the captures' files were taken.
use Rattle.std.specs.Prelude.{◌≡◌, ℕ, ◌+◌, ◌≤◌, ◌==◌, List, [], ◌∷◌, length, Option, if◌then◌else◌}
use Rattle.pcap_file.specs.Taken.{AreTaken}
use Rattle.packet_feed.specs.declared.ahead.Ahead.{Ahead}
use Rattle.packet_feed.specs.declared.ahead.Ahead.TheVariants.{Unread, Held, Ended, Torn}
use Rattle.packet_feed.specs.Arrivals.{Arrival}
use Rattle.packet_feed.specs.Streams.{Stream}

-- how many bytes the records of a port's packets have
abbrev pub bytes_at : ℕ → List Arrival → ℕ
bytes_at port [] = 0
bytes_at port (a ∷ rest) = (if a.packet.id.port == port then 16 + length a.frame else 0) + bytes_at port rest

-- So many bytes were taken behind the records that were given: those of the record that is held, none
-- where nothing was read or nothing is left, and at most those of one record where that is torn.
abbrev pub IsAhead : Ahead → List ℕ → ℕ → Type 0
IsAhead Unread frame count = count ≡ 0
IsAhead Held frame count = count ≡ 16 + length frame
IsAhead Ended frame count = count ≡ 0
IsAhead (Torn offset) frame count = count ≤ 16 + 262144

-- Of a capture its header, the records that were given, and at most one record more were taken.
pub record IsTaken (port : ℕ) (given : List Arrival) (s : Stream) (start now : Option (List ℕ)) : Type 0 where
  pub more : ℕ
  pub ahead : IsAhead s.ahead s.frame more
  pub taken : AreTaken (24 + bytes_at port given + more) start now

-- More bytes were taken in one call, all of them ahead of what was given.
pub record TakesAhead (old new : Stream) (before now : Option (List ℕ)) : Type 0 where
  pub more : ℕ
  pub ahead : (count : ℕ) → IsAhead old.ahead old.frame count → IsAhead new.ahead new.frame (count + more)
  pub taken : AreTaken more before now
