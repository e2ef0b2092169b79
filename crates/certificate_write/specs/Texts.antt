-- The text of a certificate.
use Rattle.std.specs.Prelude.{ℕ, ◌/◌, ◌%◌, nat_lt, List, [], ◌∷◌, ◌++◌, codes, decimal, if◌then◌else◌}
use Rattle.hex.specs.Hex.{encode_lower}
use Rattle.nf_base.specs.declared.card.KeySize.{KeySize}
use Rattle.nf_base.specs.declared.card.KeySize.TheVariants.{Bytes40, Bytes52}
use Rattle.nf_base.specs.declared.card.TableSize.{TableSize}
use Rattle.nf_base.specs.declared.card.TableSize.TheVariants.{Entries128, Entries512}
use Rattle.certificate_laws.specs.declared.line.Term.{Term}
use Rattle.certificate_laws.specs.declared.line.Term.TheVariants.{Row, Bit}
use Rattle.certificate_laws.specs.declared.line.Side.{Side}
use Rattle.certificate_laws.specs.declared.line.Side.TheVariants.{First, Second}
use Rattle.certificate_laws.specs.declared.line.Named.{Named}
use Rattle.certificate_laws.specs.declared.line.Span.{Span}
use Rattle.certificate_laws.specs.declared.line.Line.{Line}
use Rattle.certificate_laws.specs.declared.line.Line.TheVariants as line
use Rattle.certificate_text.specs.declared.heading.Heading.{Heading}
use Rattle.certificate_text.specs.declared.heading.Kind.{Kind}
use Rattle.certificate_text.specs.declared.heading.Kind.TheVariants.{Sharded, Locked}

abbrev pub side_word : Side → List ℕ
side_word First = codes "p"
side_word Second = codes "q"

-- the version of IP that a span of bits is for: those of IPv6 are longer
abbrev pub family_word : Span → List ℕ
family_word span = if nat_lt span.count 200 then codes "4" else codes "6"

-- a word in front of others
abbrev pub spaced : List ℕ → List ℕ → List ℕ
spaced word rest = word ++ (codes " " ++ rest)

-- the port and the position of a bit, with something between them
abbrev pub bit_text : List ℕ → ℕ → List ℕ
bit_text between place = decimal (place / 319) ++ (between ++ decimal (place % 319))

abbrev pub term_text : Term → List ℕ
term_text (Row k) = codes "r" ++ decimal k
term_text (Bit place) = codes "b" ++ bit_text (codes ".") place

-- each term behind a space
abbrev pub terms_text : List Term → List ℕ
terms_text [] = []
terms_text (t ∷ terms) = codes " " ++ (term_text t ++ terms_text terms)

abbrev pub named_text : Named → List ℕ
named_text n =
    spaced (decimal n.first) (spaced (decimal n.second) (spaced (side_word n.side)
    (spaced (decimal n.input) (decimal n.result))))

-- a line behind the first, without its LF
abbrev pub line_text : Line → List ℕ
line_text (line.Row named) = spaced (codes "row") (named_text named)
line_text (line.Key port key) = spaced (codes "key") (spaced (decimal port) (encode_lower key))
line_text (line.Not place) = spaced (codes "not") (bit_text (codes " ") place)
line_text (line.Split place) = spaced (codes "split") (bit_text (codes " ") place)
line_text line.Clash = codes "clash"
line_text (line.Zero span) =
    spaced (codes "zero") (spaced (decimal (span.first / 319)) (family_word span))
line_text (line.Sum terms) = codes "sum" ++ terms_text terms

-- lines behind one another, each with its LF
abbrev pub lines_text : List Line → List ℕ
lines_text [] = []
lines_text (l ∷ lines) = line_text l ++ (codes "\n" ++ lines_text lines)

abbrev pub table_word : TableSize → List ℕ
table_word Entries128 = codes "128"
table_word Entries512 = codes "512"

abbrev pub size_word : KeySize → List ℕ
size_word Bytes40 = codes "40"
size_word Bytes52 = codes "52"

abbrev pub kind_word : Kind → List ℕ
kind_word Sharded = codes "sharded"
kind_word Locked = codes "locked"

-- the first line, without its LF
abbrev pub heading_text : Heading → List ℕ
heading_text h =
    codes "maestro proof 1 "
    ++ spaced (table_word h.card.table) (spaced (size_word h.card.key) (kind_word h.kind))
