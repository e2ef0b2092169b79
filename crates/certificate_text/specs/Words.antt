-- The words of a certificate's lines.
use Rattle.std.specs.Prelude.{ℕ, ◌+◌, ◌*◌, ◌^◌, ◌==◌, nat_lt, Bool, true, false, not, is_some, Option, Some, None, List, [], ◌∷◌, map, length, codes, bytes_eq, slice_get, slice_index, if◌then◌else◌}
use Rattle.std.specs.List.{range_with_len}
use Rattle.std.specs.Option.{option_map, option_and_then}
use Rattle.nf_tokens.specs.Bytes.{is_hex_digit, digit_of}
use Rattle.nf_tokens.specs.Numbers.{decimal, all_are}
use Rattle.nf_base.specs.declared.card.KeySize.{KeySize}
use Rattle.nf_base.specs.declared.card.KeySize.TheVariants.{Bytes40, Bytes52}
use Rattle.nf_base.specs.declared.card.TableSize.{TableSize}
use Rattle.nf_base.specs.declared.card.TableSize.TheVariants.{Entries128, Entries512}
use Rattle.nf_base.specs.declared.packet.Family.{Family}
use Rattle.nf_base.specs.declared.packet.Family.TheVariants.{Four, Six}
use Rattle.nf_base.specs.Cards.{key_bytes}
use Rattle.certificate_laws.specs.declared.line.Side.{Side}
use Rattle.certificate_laws.specs.declared.line.Side.TheVariants.{First, Second}
use Rattle.certificate_text.specs.declared.heading.Kind.{Kind}
use Rattle.certificate_text.specs.declared.heading.Kind.TheVariants.{Sharded, Locked}

-- what comes of a value, where there is one
abbrev pub and_then : {A B : Type 0} → Option A → (A → Option B) → Option B
and_then o f = option_and_then f o

-- a value below 2^32
abbrev pub short : ℕ → Option ℕ
short n = if nat_lt n (2 ^ 32) then Some n else None

-- a decimal without leading zeros
abbrev pub number : List ℕ → Option ℕ
number word = and_then (decimal word) short

-- the number that stands at a place among words
abbrev pub number_at : List (List ℕ) → ℕ → Option ℕ
number_at words k = and_then (slice_get words k) number

-- whether there is no word at a place
abbrev pub ends_at : List (List ℕ) → ℕ → Bool
ends_at words k = not (is_some (slice_get words k))

-- a word, where there is one, against one of the format
abbrev pub is_equal : List ℕ → Option (List ℕ) → Bool
is_equal word None = false
is_equal word (Some w) = bytes_eq w word

abbrev pub is_word : List (List ℕ) → ℕ → List ℕ → Bool
is_word words k word = is_equal word (slice_get words k)

abbrev pub side_in : List ℕ → Option Side
side_in word =
    if bytes_eq word (codes "p") then Some First else
    if bytes_eq word (codes "q") then Some Second else
    None

abbrev pub kind_in : List ℕ → Option Kind
kind_in word =
    if bytes_eq word (codes "sharded") then Some Sharded else
    if bytes_eq word (codes "locked") then Some Locked else
    None

-- a version of IP
abbrev pub family_in : List ℕ → Option Family
family_in word =
    if bytes_eq word (codes "4") then Some Four else
    if bytes_eq word (codes "6") then Some Six else
    None

-- how many entries a table has
abbrev pub table_in : List ℕ → Option TableSize
table_in word =
    if bytes_eq word (codes "128") then Some Entries128 else
    if bytes_eq word (codes "512") then Some Entries512 else
    None

-- how many bytes a key has
abbrev pub key_size_in : List ℕ → Option KeySize
key_size_in word =
    if bytes_eq word (codes "40") then Some Bytes40 else
    if bytes_eq word (codes "52") then Some Bytes52 else
    None

-- the byte that two hexadecimal digits make, the first one its high half
abbrev pub byte_at : List ℕ → ℕ → ℕ
byte_at digits i = 16 * digit_of (slice_index digits (2 * i)) + digit_of (slice_index digits (2 * i + 1))

-- the bytes of a key, by its digits
unfoldable pub bytes_of_digits : KeySize → List ℕ → List ℕ
bytes_of_digits size digits = map (byte_at digits) (range_with_len 0 (key_bytes size))

-- the size of a key of so many digits, two of which are a byte
abbrev pub size_of_digits : ℕ → Option KeySize
size_of_digits n = if n == 80 then Some Bytes40 else if n == 104 then Some Bytes52 else None

-- a key of a size, where all of its text are digits 0-9 a-f
abbrev pub key_of_size : List ℕ → KeySize → Option (List ℕ)
key_of_size text size = if all_are is_hex_digit text then Some (bytes_of_digits size text) else None

-- 80 digits of 0-9 a-f, which make 40 bytes, or 104, which make 52
abbrev pub key_in : List ℕ → Option (List ℕ)
key_in text = and_then (size_of_digits (length text)) (key_of_size text)
