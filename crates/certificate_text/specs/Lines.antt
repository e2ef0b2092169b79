-- The lines of a certificate.
use Rattle.std.specs.Prelude.{ℕ, ◌+◌, ◌*◌, ◌==◌, ◌&&◌, nat_lt, Bool, Option, Some, None, List, [], ◌∷◌, drop, length, codes, slice_get, slice_index_or, if◌then◌else◌}
use Rattle.std.specs.Option.{option_map, option_and_then}
use Rattle.nf_base.specs.declared.card.Card.{Card}
use Rattle.nf_base.specs.declared.card.TableSize.{TableSize}
use Rattle.certificate_laws.specs.declared.line.Term.{Term}
use Rattle.certificate_laws.specs.declared.line.Term.TheVariants as term
use Rattle.certificate_laws.specs.declared.line.Line.{Line}
use Rattle.certificate_laws.specs.declared.line.Line.TheVariants as line
use Rattle.certificate_laws.specs.declared.line.Named.{Named}
use Rattle.certificate_laws.specs.Certificates.{span_of}
use Rattle.certificate_text.specs.declared.heading.Heading.{Heading}
use Rattle.certificate_text.specs.Pieces.{pieces}
use Rattle.certificate_text.specs.Words.{and_then, number, number_at, ends_at, is_word, side_in, kind_in, family_in, table_in, key_size_in, key_in}

-- the number of the bit at a position of a port, of so many positions a port
abbrev pub bit_number : List ℕ → ℕ → ℕ → Option ℕ
bit_number positions port position =
    if nat_lt position (slice_index_or positions port 0) then Some (319 * port + position) else None

-- `<port>` and `<position>` at a place among words
abbrev pub bit_at : List ℕ → List (List ℕ) → ℕ → Option ℕ
bit_at positions words k =
    and_then (number_at words k) (λ port. and_then (number_at words (k + 1)) (bit_number positions port))

-- `<port>.<position>`
abbrev pub bit_in : List ℕ → List (List ℕ) → Option ℕ
bit_in positions parts = if ends_at parts 2 then bit_at positions parts 0 else None

-- `r<row>`, or `b<port>.<position>`
abbrev pub term_in : List ℕ → List ℕ → Option Term
term_in positions [] = None
term_in positions (sign ∷ rest) =
    if sign == 114 then option_map (λ k. term.Row k) (number rest) else
    if sign == 98 then option_map (λ m. term.Bit m) (bit_in positions (pieces 46 rest)) else
    None

-- all of some words, each a term
abbrev pub terms_in : List ℕ → List (List ℕ) → Option (List Term)
terms_in positions [] = Some []
terms_in positions (word ∷ words) =
    and_then (term_in positions word) (λ t. option_map (λ ts. t ∷ ts) (terms_in positions words))

abbrev pub sum_in : List ℕ → List (List ℕ) → Option Line
sum_in positions words = option_map (λ ts. line.Sum ts) (terms_in positions (drop 1 words))

abbrev pub named_in : List (List ℕ) → Option Named
named_in words =
    and_then (number_at words 1) (λ first.
    and_then (number_at words 2) (λ second.
    and_then (and_then (slice_get words 3) side_in) (λ side.
    and_then (number_at words 4) (λ input.
    option_map (λ result. record { first = first; second = second; side = side; input = input; result = result })
    (number_at words 5)))))

abbrev pub row_in : List (List ℕ) → Option Line
row_in words = if ends_at words 6 then option_map (λ named. line.Row named) (named_in words) else None

abbrev pub key_line_in : List (List ℕ) → Option Line
key_line_in words =
    if ends_at words 3 then
    and_then (number_at words 1) (λ port.
    option_map (λ key. line.Key port key) (and_then (slice_get words 2) key_in))
    else None

abbrev pub not_in : List ℕ → List (List ℕ) → Option Line
not_in positions words =
    if ends_at words 3 then option_map (λ m. line.Not m) (bit_at positions words 1) else None

abbrev pub split_in : List ℕ → List (List ℕ) → Option Line
split_in positions words =
    if ends_at words 3 then option_map (λ m. line.Split m) (bit_at positions words 1) else None

abbrev pub clash_in : List (List ℕ) → Option Line
clash_in words = if ends_at words 1 then Some line.Clash else None

abbrev pub zero_in : TableSize → List ℕ → List (List ℕ) → Option Line
zero_in table positions words =
    if ends_at words 3 then
    and_then (number_at words 1) (λ port.
    if nat_lt port (length positions) then
    option_map (λ family. line.Zero (span_of table family port)) (and_then (slice_get words 2) family_in)
    else None)
    else None

-- a line without terms
abbrev pub plain_in : TableSize → List ℕ → List (List ℕ) → Option Line
plain_in table positions words =
    if is_word words 0 (codes "row") then row_in words else
    if is_word words 0 (codes "key") then key_line_in words else
    if is_word words 0 (codes "not") then not_in positions words else
    if is_word words 0 (codes "split") then split_in positions words else
    if is_word words 0 (codes "clash") then clash_in words else
    if is_word words 0 (codes "zero") then zero_in table positions words else
    None

-- a line of a certificate for a table of a size, for ports of whose keys so many bits count
abbrev pub line_in : TableSize → List ℕ → List ℕ → Option Line
line_in table positions bytes =
    if is_word (pieces 32 bytes) 0 (codes "sum") then sum_in positions (pieces 32 bytes)
    else plain_in table positions (pieces 32 bytes)

-- the first line
abbrev pub titled : List (List ℕ) → Bool
titled words =
    is_word words 0 (codes "maestro") && (is_word words 1 (codes "proof")
    && (is_word words 2 (codes "1") && ends_at words 6))

abbrev pub sizes_in : List (List ℕ) → Option Heading
sizes_in words =
    and_then (and_then (slice_get words 3) table_in) (λ table.
    and_then (and_then (slice_get words 4) key_size_in) (λ key.
    option_map (λ kind. record { card = record { table = table; key = key }; kind = kind })
    (and_then (slice_get words 5) kind_in)))

abbrev pub heading_in : List ℕ → Option Heading
heading_in bytes = if titled (pieces 32 bytes) then sizes_in (pieces 32 bytes) else None
