-- The texts of values among the words.
use Rattle.std.specs.Prelude.{ℕ, ◌+◌, ◌*◌, ◌==◌, nat_le, not, ◌&&◌, Bool, Option, Some, None, List, length, map, slice_index, take, drop, if◌then◌else◌}
use Rattle.std.specs.List.{range_with_len}
use Rattle.std.specs.Option.{option_map, option_and_then}
use Rattle.nf_tokens.specs.Bytes.{is_hex_digit, digit_of, front_length}
use Rattle.nf_tokens.specs.Numbers.{value_from, decimal, address, all_are}
use Rattle.nf_base.specs.Cards.{entries, key_bytes}
use Rattle.nf_base.specs.declared.card.TableSize.{TableSize}
use Rattle.nf_base.specs.declared.card.TableSize.TheVariants.{Entries128, Entries512}
use Rattle.nf_base.specs.declared.card.KeySize.{KeySize}
use Rattle.nf_base.specs.declared.card.KeySize.TheVariants.{Bytes40, Bytes52}
use Rattle.nf_base.specs.declared.packet.Addresses.{Addresses}
use Rattle.nf_base.specs.declared.packet.Addresses.TheVariants as addresses
use Rattle.command_words.specs.declared.endpoint.Address.{Address}
use Rattle.command_words.specs.declared.endpoint.Address.TheVariants.{Four, Six}
use Rattle.command_words.specs.declared.endpoint.Endpoint.{Endpoint}
use Rattle.command_words.specs.declared.endpoint.Ends.{Ends}

-- what comes of a value, where there is one
abbrev pub and_then : {A B : Type 0} → Option A → (A → Option B) → Option B
and_then o f = option_and_then f o

-- a value that is at most so large
abbrev pub at_most : ℕ → Option ℕ → Option ℕ
at_most most v = and_then v (λ v. if nat_le v most then Some v else None)

-- a decimal up to a number, without a sign or leading zeros
abbrev pub number_up_to : ℕ → List ℕ → Option ℕ
number_up_to most text = at_most most (decimal text)

-- 1 to 16
abbrev pub workers_in : List ℕ → Option ℕ
workers_in text = and_then (number_up_to 16 text) (λ n. if n == 0 then None else Some n)

-- 1 to 65,536
abbrev pub flows_in : List ℕ → Option ℕ
flows_in text = and_then (number_up_to 65536 text) (λ n. if n == 0 then None else Some n)

-- the size of a table with so many entries
abbrev pub table_with : ℕ → Option TableSize
table_with n =
    if n == entries Entries128 then Some Entries128 else
    if n == entries Entries512 then Some Entries512 else
    None

-- 128 or 512
abbrev pub table_in : List ℕ → Option TableSize
table_in text = and_then (decimal text) table_with

-- the size of a key of so many bytes
abbrev pub key_size_with : ℕ → Option KeySize
key_size_with n =
    if n == key_bytes Bytes40 then Some Bytes40 else
    if n == key_bytes Bytes52 then Some Bytes52 else
    None

-- 40 or 52
abbrev pub key_size_in : List ℕ → Option KeySize
key_size_in text = and_then (decimal text) key_size_with

-- a byte that is no colon
abbrev pub in_address : ℕ → Bool
in_address b = not (b == 58)

-- how long the text up to the first colon is
abbrev pub address_length : List ℕ → ℕ
address_length text = front_length in_address text

-- what stands behind the first colon
abbrev pub behind_colon : List ℕ → List ℕ
behind_colon text = drop (address_length text + 1) text

-- 32 digits of 0-9 a-f, an IPv6 address
abbrev pub six_address : List ℕ → Option ℕ
six_address text = if (length text == 32) && all_are is_hex_digit text then Some (value_from 16 0 text) else None

-- an IPv6 address, and where there is none, an IPv4 one
abbrev pub six_or_four : Option ℕ → Option ℕ → Option Address
six_or_four None four = option_map (λ a. Four a) four
six_or_four (Some six) four = Some (Six six)

-- an address of either version of IP
abbrev pub address_in : List ℕ → Option Address
address_in text = six_or_four (six_address text) (address text)

-- an address, a colon, and a port up to 65,535
abbrev pub endpoint_in : List ℕ → Option Endpoint
endpoint_in text =
    and_then (address_in (take (address_length text) text)) (λ a.
    option_map (λ p. record { address = a; port = p }) (number_up_to 65535 (behind_colon text)))

-- a source and a destination address, where they are of one version
abbrev pub addresses_between : Address → Address → Option Addresses
addresses_between (Four src) (Four dst) = Some (addresses.Four src dst)
addresses_between (Four src) (Six dst) = None
addresses_between (Six src) (Four dst) = None
addresses_between (Six src) (Six dst) = Some (addresses.Six src dst)

-- a source and a destination, where their addresses are of one version
abbrev pub ends_between : Endpoint → Endpoint → Option Ends
ends_between source destination =
    option_map (λ found. record { addresses = found; source_port = source.port; destination_port = destination.port })
    (addresses_between source.address destination.address)

-- the byte that two hexadecimal digits make, the first one its high half
abbrev pub byte_at : List ℕ → ℕ → ℕ
byte_at digits i = 16 * digit_of (slice_index digits (2 * i)) + digit_of (slice_index digits (2 * i + 1))

-- the bytes of a key, by its digits
unfoldable pub bytes_of_digits : KeySize → List ℕ → List ℕ
bytes_of_digits size digits = map (byte_at digits) (range_with_len 0 (key_bytes size))

-- the size of a key of so many digits, two of which are a byte
abbrev pub size_of_digits : ℕ → Option KeySize
size_of_digits n = if n == 80 then Some Bytes40 else if n == 104 then Some Bytes52 else None

-- a key of a size, where all of its text are digits 0-9 a-f
abbrev pub key_of_size : List ℕ → KeySize → Option (List ℕ)
key_of_size text size = if all_are is_hex_digit text then Some (bytes_of_digits size text) else None

-- 80 digits of 0-9 a-f, which make 40 bytes, or 104, which make 52
abbrev pub key_in : List ℕ → Option (List ℕ)
key_in text = and_then (size_of_digits (length text)) (key_of_size text)
