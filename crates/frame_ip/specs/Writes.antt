-- The words that edits write into a frame whatever its version of IP: 16 bits at an offset, in network order.
use Rattle.std.specs.Prelude.{◌≡◌, ℕ, ◌+◌, ◌/◌, ◌%◌, ◌^◌, List, [], ◌∷◌, ◌++◌, slice_set, Option, Some, None}
use Rattle.nf_base.specs.declared.done.Edits.{Edits}

-- a 16-bit word that is written at an offset
pub record Write : Type 0 where
  pub at : ℕ
  pub word : ℕ

-- its two bytes, the higher one first
abbrev pub put : Write → List ℕ → List ℕ
put w frame = slice_set (slice_set frame w.at (w.word / 256)) (w.at + 1) (w.word % 256)

abbrev pub put_all : List Write → List ℕ → List ℕ
put_all [] frame = frame
put_all (w ∷ ws) frame = put_all ws (put w frame)

-- the words of a MAC address that is written at an offset: 48 bits
abbrev pub mac_words : ℕ → Option ℕ → List Write
mac_words at None = []
mac_words at (Some v) =
    record { at = at; word = v / 2 ^ 32 % 65536 } ∷ record { at = at + 2; word = v / 65536 % 65536 } ∷ record { at = at + 4; word = v % 65536 } ∷ []

-- the word of a port: 16 bits
abbrev pub port_words : ℕ → Option ℕ → List Write
port_words at None = []
port_words at (Some v) = record { at = at; word = v % 65536 } ∷ []

-- nothing is edited
pub record IsUnedited (edits : Edits) : Type 0 where
  pub src_mac : edits.src_mac ≡ None
  pub dst_mac : edits.dst_mac ≡ None
  pub src_ip : edits.src_ip ≡ None
  pub dst_ip : edits.dst_ip ≡ None
  pub src_ip6 : edits.src_ip6 ≡ None
  pub dst_ip6 : edits.dst_ip6 ≡ None
  pub ttl : edits.ttl ≡ None
  pub src_port : edits.src_port ≡ None
  pub dst_port : edits.dst_port ≡ None

-- the words of all MAC addresses that are written
abbrev pub macs : Edits → List Write
macs edits = mac_words 0 edits.dst_mac ++ mac_words 6 edits.src_mac

-- the words of all ports that are written, by the offset at which the TCP or UDP header begins
abbrev pub ports : Edits → ℕ → List Write
ports edits transport = port_words transport edits.src_port ++ port_words (transport + 2) edits.dst_port
