-- The row that a line lists.
use Rattle.std.specs.Prelude.{ℕ, ◌+◌, ◌-◌, ◌*◌, ◌<◌, All, ◌==◌, ◌&&◌, ◌||◌, nat_lt, nat_le, not, Bool, Option, Some, None, List, length, slice_get, if◌then◌else◌}
use Rattle.std.specs.List.{list_all, range_with_len}
use Rattle.std.specs.Option.{option_map, option_and_then}
use Rattle.nf_base.specs.declared.packet.Family.{Family}
use Rattle.nf_base.specs.declared.hash_fields.Hashable.TheVariants.{SrcIp, DstIp, SrcPort, DstPort}
use Rattle.key_rows.specs.declared.place.Place.{Place}
use Rattle.key_rows.specs.Classes.{end, width_at, end_at, class_of}
use Rattle.certificate_laws.specs.declared.line.Side.{Side}
use Rattle.certificate_laws.specs.declared.line.Side.TheVariants.{First, Second}
use Rattle.certificate_laws.specs.declared.line.Named.{Named}
use Rattle.certificate_laws.specs.Certificates.{numbers_below}
use Rattle.certificate_text.specs.Words.{and_then}
use Rattle.key_proof.specs.declared.numbered.Numbered.{Numbered}

-- which field of an input of a family a bit is of
abbrev pub field_in : Family → ℕ → Option ℕ
field_in f input =
    if nat_lt input (end f SrcIp) then Some 0 else
    if nat_lt input (end f DstIp) then Some 1 else
    if nat_lt input (end f SrcPort) then Some 2 else
    if nat_lt input (end f DstPort) then Some 3 else
    None

-- which of the eight fields of two inputs
abbrev pub field_of : Place → Place → Side → ℕ → Option ℕ
field_of first second First input = field_in first.family input
field_of first second Second input = option_map (λ n. 4 + n) (field_in second.family input)

-- the class of one of the eight fields of inputs at two places
abbrev pub class_at : Place → Place → ℕ → ℕ
class_at first second n = class_of first.known second.known n

-- whether no field before one is of its class
abbrev pub is_least : Place → Place → ℕ → Bool
is_least first second n =
    list_all (λ m. not (class_at first second m == class_at first second n)) (range_with_len 0 n)

-- whether a field is of another class than k, or has more than so many bits
abbrev pub is_longer : Place → Place → ℕ → ℕ → ℕ → Bool
is_longer first second k t m =
    not (class_at first second m == k) || nat_lt t (width_at first.family second.family m)

-- whether all fields of a class have more than so many bits
abbrev pub are_longer : Place → Place → ℕ → ℕ → Bool
are_longer first second k t =
    list_all (is_longer first second k t) (range_with_len 0 8)

-- The row of result bit `result` and of the class of a bit of a field, which is the class's least
-- one: t bits stand behind it in its field, and so in each field of the class.
abbrev pub row_behind : Place → Place → ℕ → ℕ → ℕ → Option (List ℕ)
row_behind first second n t result =
    if nat_lt result 32 && (is_least first second n && are_longer first second (class_at first second n) t)
    then Some (numbers_below first second (class_at first second n) (t + 31 - result) 8)
    else None

-- the same of bit `input` of the inputs at two places
abbrev pub row_between : Place → Place → Side → ℕ → ℕ → Option (List ℕ)
row_between first second side input result =
    and_then (field_of first second side input) (λ n.
    row_behind first second n (end_at first.family second.family n - 1 - input) result)

-- whether two sites are of one object, at the first so many ports
abbrev pub are_tied : ℕ → Numbered → Numbered → Bool
are_tied ports a b =
    (a.object == b.object) && ((length a.place.known == length b.place.known)
    && (nat_lt a.place.port ports && nat_lt b.place.port ports))

abbrev pub row_if : ℕ → Named → Numbered → Numbered → Option (List ℕ)
row_if ports named a b =
    if are_tied ports a b then row_between a.place b.place named.side named.input named.result else None

-- the row that is named, where there is one
abbrev pub row_of : ℕ → List Numbered → Named → Option (List ℕ)
row_of ports sites named =
    if nat_le named.first named.second then
    and_then (slice_get sites named.first) (λ a.
    and_then (slice_get sites named.second) (row_if ports named a))
    else None

-- the numbers of a row are those of bits of the keys of these ports
abbrev pub ArePlacesWithin : Place → Place → List ℕ → Type 0
ArePlacesWithin first second row =
    (ports : ℕ) → first.port < ports → second.port < ports → All (λ place. place < 319 * ports) row

-- so for the first so many ports
abbrev pub IsRowWithin : ℕ → List ℕ → Type 0
IsRowWithin ports row = All (λ place. place < 319 * ports) row
