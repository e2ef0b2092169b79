-- A block that is taken off the front of a file: as much of it is held as can matter.
use Rattle.std.specs.Prelude.{◌≡◌, ◌≢◌, ◌⊎◌, ℕ, ◌+◌, ◌-◌, ◌<◌, ◌≤◌, ◌^◌, min, Bool, true, false, List, [], length, take, drop, Option, Some, None}
use Rattle.pcap_file.specs.declared.form.Endian.{Endian}
use Rattle.pcap_file.specs.Form.{number_in}
use Rattle.pcapng_file.specs.declared.block.Block.{Block}
use Rattle.pcapng_file.specs.declared.block.Taken.{Taken}
use Rattle.pcapng_file.specs.declared.block.Taken.TheVariants.{Nothing, Torn, Whole}
use Rattle.pcapng_file.specs.Blocks.{is_section, block_order, is_closed, total_in}

-- the first bytes of a list of so many, of which at most so many are held
pub record IsFront (most : ℕ) (held : List ℕ) (count : ℕ) (all : List ℕ) : Type 0 where
  pub long : length all ≡ count
  pub held_is : held ≡ take most all

-- what is held where a block begins: nothing, or at most 24 bytes of a section's header
abbrev pub IsReady : List ℕ → Type 0
IsReady held = (length held ≤ 24) × (8 < length held → is_section held ≡ true)

-- of a block of so many bytes, how many are held at most: those of a frame, and what stands in front
abbrev pub held_of : ℕ → ℕ
held_of total = min (total - 4) 262172

-- the front of a block is held
pub record IsBlockFront (order : Endian) (total : ℕ) (held bytes : List ℕ) : Type 0 where
  pub total_is : total ≡ total_in order bytes
  pub within : total ≤ length bytes
  pub held_is : held ≡ take (held_of total) bytes

-- The first bytes of a block tell its byte order, and are no more than the block has before its closing
-- length.
pub record IsOrdered (order : Endian) (held : List ℕ) (found : Endian) : Type 0 where
  pub long : 8 ≤ length held
  pub order_is : block_order order held ≡ Some found
  pub short : (length held ≤ 8) ⊎ ((length held ≤ 24) × (28 ≤ total_in found held))

-- no whole block stands in front: it is torn there, or nothing is left
pub record IsRefused (order : Endian) (offset : ℕ) (bytes held : List ℕ) : Type 0 where
  pub none : (found : Endian) → block_order order bytes ≡ Some found → is_closed found offset bytes ≡ false
  pub empty : held ≡ [] → bytes ≡ []
  pub some : held ≢ [] → bytes ≢ []

-- a whole block was taken
pub record IsAccepted (order : Endian) (offset : ℕ) (bytes held : List ℕ) (rest : Option (List ℕ)) (found : Endian) (total : ℕ) : Type 0 where
  pub order_is : block_order order bytes ≡ Some found
  pub closed : is_closed found offset bytes ≡ true
  pub total_is : total ≡ total_in found bytes
  pub held_is : held ≡ take (held_of total) bytes
  pub rest_is : rest ≡ Some (drop total bytes)

-- a whole block that stands alone, in the byte order of its section: no section's header, and no longer
-- than what can be held of one
pub record IsBlock (order : Endian) (offset : ℕ) (block : List ℕ) : Type 0 where
  pub within : is_section block ≡ false
  pub closed : is_closed order offset block ≡ true
  pub total_is : length block ≡ total_in order block
  pub few : length block ≤ 262176

-- all of a block in front of its closing length was taken, or there is less of it
abbrev pub IsBody : ℕ → List ℕ → List ℕ → Option (List ℕ) → Bool → Type 0
IsBody total bytes held rest true = (total ≤ length bytes + 4) × (held ≡ take (held_of total) bytes) × (rest ≡ Some (drop (total - 4) bytes))
IsBody total bytes held rest false = length bytes + 4 < total

-- the closing length was taken, or it is missing or another one
abbrev pub IsClosing : Endian → ℕ → List ℕ → Option (List ℕ) → Bool → Type 0
IsClosing order total bytes rest true = (4 ≤ length bytes) × (number_in order bytes ≡ total) × (rest ≡ Some (drop 4 bytes))
IsClosing order total bytes rest false = (length bytes < 4) ⊎ (number_in order bytes ≢ total)

-- all of a block was taken, whose length is said again at its end, or it is not so
abbrev pub IsClosed : Endian → ℕ → List ℕ → List ℕ → Option (List ℕ) → Bool → Type 0
IsClosed order total bytes held rest true =
    (total ≤ length bytes) × (number_in order (drop (total - 4) bytes) ≡ total) × (held ≡ take (held_of total) bytes) × (rest ≡ Some (drop total bytes))
IsClosed order total bytes held rest false = (length bytes < total) ⊎ (number_in order (drop (total - 4) bytes) ≢ total)

-- a block in front was taken, or refused
abbrev pub IsReached : Endian → ℕ → List ℕ → List ℕ → Option (List ℕ) → Option Block → Type 0
IsReached order offset bytes held rest None = IsRefused order offset bytes held
IsReached order offset bytes held rest (Some block) = IsAccepted order offset bytes held rest block.order block.total

-- what an answer says of the bytes that stood in front
abbrev pub IsTaken : Endian → ℕ → List ℕ → List ℕ → Option (List ℕ) → Taken → Type 0
IsTaken order offset bytes held rest Nothing = bytes ≡ []
IsTaken order offset bytes held rest Torn = (bytes ≢ []) × ((found : Endian) → block_order order bytes ≡ Some found → is_closed found offset bytes ≡ false)
IsTaken order offset bytes held rest (Whole block) = IsAccepted order offset bytes held rest block.order block.total

-- what is known of an answer in any case
pub record IsSized (offset total : ℕ) (held : List ℕ) : Type 0 where
  pub least : 12 ≤ total
  pub ends : offset + total < 2 ^ 64
  pub long : length held ≡ held_of total

abbrev pub IsHeld : ℕ → List ℕ → Taken → Type 0
IsHeld offset held Nothing = held ≡ []
IsHeld offset held Torn = held ≡ []
IsHeld offset held (Whole block) = IsSized offset block.total held
