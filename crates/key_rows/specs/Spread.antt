-- Keys that give packets of a family more than one table index (Microsoft RSS: the low bits of the
-- hash).
use Rattle.std.specs.Prelude.{◌≡◌, ◌≢◌, ◌↔◌, ℕ, ◌+◌, ◌-◌, ◌%◌, ◌^◌, ◌<◌, ◌≤◌, List}
use Rattle.toeplitz_hash.specs.Bits.{bit_of}
use Rattle.toeplitz_hash.specs.Toeplitz.{toeplitz_of}
use Rattle.nf_base.specs.declared.packet.Family.{Family}
use Rattle.nf_base.specs.declared.packet.Fields.{Fields}
use Rattle.key_rows.specs.Places.{IsInputOf, input_bits}
use Rattle.toeplitz_hash.specs.Packets.{input_bytes}

-- Some key bit is 1 of those that meet the last `low` bits of the hash: for the low 7 bits 25 to 126
-- (IPv4) or 25 to 318 (IPv6), for the low 9 from 23 on.
pub record Spreads (f : Family) (low : ℕ) (key : List ℕ) : Type 0 where
  pub bit : ℕ
  pub from : 32 - low ≤ bit
  pub to : bit < input_bits f + 31
  pub one : bit_of key bit ≡ 1

-- the table index of an input
abbrev pub index_of : ℕ → List ℕ → Fields → ℕ
index_of low key p = toeplitz_of key (input_bytes p) % 2 ^ low

-- two inputs of a family with different table indices
pub record Varies (f : Family) (low : ℕ) (key : List ℕ) : Type 0 where
  pub first : Fields
  pub second : Fields
  pub first_fits : IsInputOf f first
  pub second_fits : IsInputOf f second
  pub differ : index_of low key first ≢ index_of low key second

-- keys spread exactly where the table index is not constant
abbrev pub SpreadingKeysVary : Type 0
SpreadingKeysVary = (f : Family) (low : ℕ) (key : List ℕ) → 0 < low → low ≤ 32 →
    Spreads f low key ↔ Varies f low key
