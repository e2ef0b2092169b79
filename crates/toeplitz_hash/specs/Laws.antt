-- What the hash is known for, as laws over its definition.
use Rattle.std.specs.Prelude.{◌≡◌, ◌≢◌, ℕ, ◌+◌, ◌-◌, ◌*◌, ◌%◌, ◌^◌, ◌<◌, ◌≤◌, IsTrue, List, ◌++◌, length, drop, Some, None, slice_get}
use Rattle.std.specs.Int.{bit_at}
use Rattle.std.specs.Int.Bits.{bit_xor}
use Rattle.nf_base.specs.declared.keys.Keys.{Keys}
use Rattle.nf_base.specs.declared.packet.Field.{Field}
use Rattle.nf_base.specs.declared.packet.Addresses.{Addresses}
use Rattle.nf_base.specs.declared.packet.Fields.{Fields}
use Rattle.nf_base.specs.Families.{family_by, family_of, source_in, destination_in}
use Rattle.nf_base.specs.declared.packet.Packet.{Packet}
use Rattle.nf_base.specs.Values.{field_of, field_width, is_hashable, narrowed}
use Rattle.toeplitz_hash.specs.Bits.{bit_of, number_of}
use Rattle.toeplitz_hash.specs.Toeplitz.{hash_bit, toeplitz_of}
use Rattle.toeplitz_hash.specs.Packets.{address_bits, positions, input_by, input_bytes, hash_of}

-- bit j of a hash, 0 the highest of 32
abbrev pub bit_of_hash : ℕ → ℕ → ℕ
bit_of_hash hash j = bit_at hash (31 - j)

-- a hash, bit by bit
pub record HasBits (key input : List ℕ) : Type 0 where
  pub fits : toeplitz_of key input < 2 ^ 32
  pub bits :
      (j : ℕ) → j < 32
      → bit_of_hash (toeplitz_of key input) j
      ≡ hash_bit (8 * length input) (bit_of key) (bit_of input) j

-- each hash has these bits
abbrev pub HashesHaveBits : Type 0
HashesHaveBits = (key input : List ℕ) → HasBits key input

-- bytes whose bits are the sums modulo 2 of two others' bits
pub record IsSum (left right sum : List ℕ) : Type 0 where
  pub bits : (i : ℕ) → bit_of sum i ≡ (bit_of left i + bit_of right i) % 2

-- the hash under a sum of keys is the sum of the hashes under each
abbrev pub IsLinearInKey : Type 0
IsLinearInKey =
    (left right sum input : List ℕ) → IsSum left right sum
    → toeplitz_of sum input ≡ bit_xor (toeplitz_of left input) (toeplitz_of right input)

-- the hash of a sum of inputs is the sum of their hashes
abbrev pub IsLinearInInput : Type 0
IsLinearInInput =
    (key left right sum : List ℕ) → length left ≡ length sum → length right ≡ length sum
    → IsSum left right sum
    → toeplitz_of key sum ≡ bit_xor (toeplitz_of key left) (toeplitz_of key right)

-- two keys that agree on their first n bits
pub record AgreeBelow (n : ℕ) (left right : List ℕ) : Type 0 where
  pub bits : (i : ℕ) → i < n → bit_of left i ≡ bit_of right i

-- Of a key as many bits matter as the input has, and 31 more.
abbrev pub OnlyFirstBitsMatter : Type 0
OnlyFirstBitsMatter =
    (left right input : List ℕ) → AgreeBelow (8 * length input + 31) left right
    → toeplitz_of left input ≡ toeplitz_of right input

-- of a key for packets these are bits 0 to 126, or to 318
abbrev pub OnlyPositionsMatter : Type 0
OnlyPositionsMatter =
    (left right : List ℕ) (fields : Fields) → AgreeBelow (positions (family_of fields)) left right
    → toeplitz_of left (input_bytes fields) ≡ toeplitz_of right (input_bytes fields)

-- bytes without a 1
pub record AreZero (bytes : List ℕ) : Type 0 where
  pub bits : (i : ℕ) → bit_of bytes i ≡ 0

-- under a key without a 1 each hash is 0
abbrev pub ZerosHashToZero : Type 0
ZerosHashToZero = (key input : List ℕ) → AreZero key → toeplitz_of key input ≡ 0

-- bytes with one 1, at bit k
pub record HasOneBit (bytes : List ℕ) (k : ℕ) : Type 0 where
  pub one : bit_of bytes k ≡ 1
  pub others : (i : ℕ) → i ≢ k → bit_of bytes i ≡ 0

-- Under a key with one 1 a bit of the hash is one bit of the input: they count down from the 1.
pub record CountsDownFrom (key input : List ℕ) (k : ℕ) : Type 0 where
  pub to_the_first :
      (j : ℕ) → j < 32 → j ≤ k
      → bit_of_hash (toeplitz_of key input) j ≡ bit_of input (k - j)
  pub past_the_first : (j : ℕ) → j < 32 → k < j → bit_of_hash (toeplitz_of key input) j ≡ 0

-- so it is with each such key
abbrev pub OneKeyBitSelects : Type 0
OneKeyBitSelects = (key input : List ℕ) (k : ℕ) → HasOneBit key k → CountsDownFrom key input k

-- An input with one 1 has the 32 bits of the key from there on as its hash.
abbrev pub OneInputBitSelects : Type 0
OneInputBitSelects =
    (key input : List ℕ) (k : ℕ) → k < 8 * length input → HasOneBit input k
    → toeplitz_of key input ≡ number_of 32 (λ j. bit_of key (k + j))

-- The hash of two inputs in a row, from the hash of each; the second one's key begins where it
-- begins.
abbrev pub InputsAddUp : Type 0
InputsAddUp =
    (key left right : List ℕ)
    → toeplitz_of key (left ++ right)
    ≡ bit_xor (toeplitz_of key left) (toeplitz_of (drop (length left) key) right)

-- where two addresses of w bits and two ports stand among the bits of an input
pub record IsLaidOut (w : ℕ) (input : List ℕ) (s d x y : ℕ) : Type 0 where
  pub bits : 8 * length input ≡ w + w + 16 + 16
  pub src_ip : (i : ℕ) → i < w → bit_of input i ≡ bit_at s (w - 1 - i)
  pub dst_ip : (i : ℕ) → i < w → bit_of input (w + i) ≡ bit_at d (w - 1 - i)
  pub src_port : (i : ℕ) → i < 16 → bit_of input (w + w + i) ≡ bit_at x (16 - 1 - i)
  pub dst_port : (i : ℕ) → i < 16 → bit_of input (w + w + 16 + i) ≡ bit_at y (16 - 1 - i)

-- so it is with each packet
abbrev pub InputsAreLaidOut : Type 0
InputsAreLaidOut =
    (a : Addresses) (x y : ℕ) →
    IsLaidOut (address_bits (family_by a)) (input_by a x y) (source_in a) (destination_in a) x y

-- Two packets' fields agree in what a card hashes: in their version of IP, and in each hashable
-- field, at its width. The times
-- at which the packets came play no part.
pub record AgreeInHashed (s t : ℕ) (a b : Fields) : Type 0 where
  pub family : family_of a ≡ family_of b
  pub each :
      (field : Field) → IsTrue (is_hashable field)
      → narrowed (field_width field) (field_of s a field)
      ≡ narrowed (field_width field) (field_of t b field)

-- such packets hash alike, whatever the key
abbrev pub OnlyHashedFieldsMatter : Type 0
OnlyHashedFieldsMatter =
    (key : List ℕ) (s t : ℕ) (a b : Fields)
    → AgreeInHashed s t a b → toeplitz_of key (input_bytes a) ≡ toeplitz_of key (input_bytes b)

-- which key a packet's hash is taken with
pub record UsesTheKeyOfItsPort (keys : Keys) (packet : Packet) : Type 0 where
  pub handled :
      (fields : Fields) (key : List ℕ)
      → packet.fields ≡ Some fields → slice_get keys.ports packet.id.port ≡ Some key
      → hash_of keys packet ≡ Some (toeplitz_of key (input_bytes fields))
  pub skipped : packet.fields ≡ None → hash_of keys packet ≡ None

-- so it is with each packet and all keys
abbrev pub PacketsUseTheKeyOfTheirPort : Type 0
PacketsUseTheKeyOfTheirPort = (keys : Keys) (packet : Packet) → UsesTheKeyOfItsPort keys packet
