-- The first wrong line of a certificate.
use Rattle.std.specs.Prelude.{◌≡◌, ℕ, zero, suc, ◌+◌, ◌-◌, ◌*◌, ◌==◌, ◌&&◌, Bool, Option, Some, None, List, [], ◌∷◌, ◌++◌, map, length, slice_index_or, if◌then◌else◌}
use Rattle.std.specs.List.{range_with_len}
use Rattle.nf_base.specs.declared.card.Card.{Card}
use Rattle.nf_base.specs.declared.card.KeySize.{KeySize}
use Rattle.nf_base.specs.declared.keys.Keys.{Keys}
use Rattle.nf_base.specs.Cards.{key_bytes}
use Rattle.nf_base.specs.Doors.{six_ports}
use Rattle.nf_base.specs.Text.{Function}
use Rattle.key_rows.specs.declared.place.Object.{Object}
use Rattle.key_rows.specs.Positions.{positions_at}
use Rattle.key_rows.specs.Rows.{bits_of}
use Rattle.key_rows.specs.Systems.{default_bits}
use Rattle.gf2_solve.specs.Sums.{bit}
use Rattle.shard_rules.specs.Served.{own_plan}
use Rattle.certificate_laws.specs.declared.line.Named.{Named}
use Rattle.certificate_laws.specs.declared.line.Line.{Line}
use Rattle.certificate_laws.specs.declared.line.Line.TheVariants as line
use Rattle.certificate_laws.specs.declared.line.Span.{Span}
use Rattle.certificate_laws.specs.Fixed.{none_fixed}
use Rattle.certificate_laws.specs.Terms.{rows_at}
use Rattle.certificate_laws.specs.Due.{Due, Whole, after, nots}
use Rattle.certificate_laws.specs.Certificates.{counted, spans_of}
use Rattle.certificate_text.specs.declared.heading.Heading.{Heading}
use Rattle.certificate_text.specs.declared.heading.Kind.{Kind}
use Rattle.certificate_text.specs.declared.heading.Kind.TheVariants.{Sharded, Locked}
use Rattle.certificate_text.specs.Pieces.{lines_of}
use Rattle.certificate_text.specs.Lines.{line_in, heading_in}
use Rattle.key_proof.specs.declared.subject.Subject.{Subject}
use Rattle.key_proof.specs.Sites.{numbered_sites}
use Rattle.key_proof.specs.Rows.{row_of}
use Rattle.key_proof.specs.Judging.{wrong_port}

-- what a certificate of a function is about: its ports, of whose keys so many bits count, and its
-- sites
abbrev pub subject_of : Function → Subject
subject_of f = record {
  positions = map (positions_at (six_ports f) (own_plan f).objects) (range_with_len 0 (length f.handlers));
  sites = numbered_sites f;
}

abbrev pub ports_of : Subject → ℕ
ports_of s = length s.positions

-- how many bits count of the key of a port
abbrev pub positions_in : Subject → ℕ → ℕ
positions_in s port = slice_index_or s.positions port 0

abbrev pub spans_in : List Object → Subject → Heading → List Span
spans_in objects s h = spans_of objects h.card.table (ports_of s)

-- a line, where it has the form of one
abbrev pub line_here : Subject → Heading → List ℕ → Option Line
line_here s h bytes = line_in h.card.table s.positions bytes

-- ---- trees

abbrev pub after_if : List (List ℕ) → List Span → List Due → Option Line → Option (List Due)
after_if rows spans due None = None
after_if rows spans due (Some line) = after (rows_at rows) spans due line

abbrev pub due_then : Option (List Due) → ℕ → (List Due → Option ℕ) → Option ℕ
due_then None n next = Some n
due_then (Some due) n next = next due

-- the first wrong one of lines that are numbered from n on, where this is due; an end too early
-- counts as the line after the last
abbrev pub trees_fault : Subject → Heading → List (List ℕ) → List Span → ℕ → List Due → List (List ℕ)
    → Option ℕ
trees_fault s h rows spans n [] [] = None
trees_fault s h rows spans n (d ∷ due) [] = Some n
trees_fault s h rows spans n due (l ∷ lines) =
    due_then (after_if rows spans due (line_here s h l)) n
    (λ next. trees_fault s h rows spans (n + 1) next lines)

-- ---- keys

abbrev pub keys_with : Heading → List (List ℕ) → Keys
keys_with h keys = record { table = h.card.table; ports = keys }

-- what is due behind keys
abbrev pub due_behind : Subject → Keys → List Due
due_behind s keys =
    nots (bit (counted (positions_in s) (ports_of s))) (319 * ports_of s) (default_bits (ports_of s)) (bits_of (ports_of s) keys)
    (319 * ports_of s) 0

-- the line of the key of a port stands so many lines before the one behind the keys
abbrev pub key_or : Option ℕ → ℕ → ℕ → Option ℕ → Option ℕ
key_or None n ports rest = rest
key_or (Some port) n ports rest = Some (n - ports + port)

-- keys are judged together
abbrev pub judged_fault : List Object → Subject → Heading → List (List ℕ) → ℕ → List (List ℕ)
    → List (List ℕ) → Option ℕ
judged_fault objects s h rows n keys lines =
    key_or (wrong_port objects h.card s.positions (keys_with h keys)) n (ports_of s)
    (trees_fault s h rows (spans_in objects s h) n (due_behind s (keys_with h keys)) lines)

-- the key of this port, of this size
abbrev pub key_in : KeySize → ℕ → Option Line → Option (List ℕ)
key_in size port None = None
key_in size port (Some (line.Key p key)) =
    if (p == port) && (length key == key_bytes size) then Some key else None
key_in size port (Some (line.Row named)) = None
key_in size port (Some (line.Not place)) = None
key_in size port (Some (line.Split place)) = None
key_in size port (Some line.Clash) = None
key_in size port (Some (line.Zero span)) = None
key_in size port (Some (line.Sum terms)) = None

abbrev pub key_then : Option (List ℕ) → ℕ → (List ℕ → Option ℕ) → Option ℕ
key_then None n next = Some n
key_then (Some key) n next = next key

-- the keys of so many ports more
abbrev pub keys_fault : List Object → Subject → Heading → List (List ℕ) → ℕ → List (List ℕ) → ℕ
    → List (List ℕ) → Option ℕ
keys_fault objects s h rows n keys zero lines = judged_fault objects s h rows n keys lines
keys_fault objects s h rows n keys (suc more) [] = Some n
keys_fault objects s h rows n keys (suc more) (l ∷ lines) =
    key_then (key_in h.card.key (length keys) (line_here s h l)) n
    (λ key. keys_fault objects s h rows (n + 1) (keys ++ key ∷ []) more lines)

-- ---- rows

-- what stands behind the rows
abbrev pub kind_fault : Kind → List Object → Subject → Heading → List (List ℕ) → ℕ → List (List ℕ)
    → Option ℕ
kind_fault Sharded objects s h rows n lines = keys_fault objects s h rows n [] (ports_of s) lines
kind_fault Locked objects s h rows n lines =
    trees_fault s h rows (spans_in objects s h) n (Whole (none_fixed (319 * ports_of s)) ∷ []) lines

abbrev pub proof_fault : List Object → Subject → Heading → List (List ℕ) → ℕ → List (List ℕ)
    → Option ℕ
proof_fault objects s h rows n lines = kind_fault h.kind objects s h rows n lines

-- the row of a line that names one, if it is right; no row at all of another line
abbrev pub row_in : Subject → Option Line → Option (Option (List ℕ))
row_in s None = None
row_in s (Some (line.Row named)) = Some (row_of (ports_of s) s.sites named)
row_in s (Some (line.Key port key)) = None
row_in s (Some (line.Not place)) = None
row_in s (Some (line.Split place)) = None
row_in s (Some line.Clash) = None
row_in s (Some (line.Zero span)) = None
row_in s (Some (line.Sum terms)) = None

abbrev pub row_then : Option (Option (List ℕ)) → Option ℕ → ℕ → (List ℕ → Option ℕ) → Option ℕ
row_then None behind n next = behind
row_then (Some None) behind n next = Some n
row_then (Some (Some row)) behind n next = next row

-- rows as long as lines name some, behind those so far
abbrev pub rows_fault : List Object → Subject → Heading → List (List ℕ) → ℕ → List (List ℕ)
    → Option ℕ
rows_fault objects s h rows n [] = proof_fault objects s h rows n []
rows_fault objects s h rows n (l ∷ lines) =
    row_then (row_in s (line_here s h l)) (proof_fault objects s h rows n (l ∷ lines)) n
    (λ row. rows_fault objects s h (rows ++ row ∷ []) (n + 1) lines)

-- ---- the whole

-- what the first line says
abbrev pub heading_of : List (List ℕ) → Option Heading
heading_of [] = None
heading_of (l ∷ lines) = heading_in l

abbrev pub heading_then : Option Heading → (Heading → Option ℕ) → Option ℕ
heading_then None next = Some 1
heading_then (Some h) next = next h

abbrev pub lines_fault : Function → List (List ℕ) → Option ℕ
lines_fault f [] = Some 1
lines_fault f (l ∷ lines) =
    heading_then (heading_in l)
    (λ h. rows_fault (own_plan f).objects (subject_of f) h [] 2 lines)

-- The number of the first wrong line of a text as a certificate of a function; lines are numbered
-- from 1, and an end too early counts as the line after the last.
abbrev pub first_wrong : Function → List ℕ → Option ℕ
first_wrong f text = lines_fault f (lines_of text)

-- the card that a certificate is for
abbrev pub card_in : Option Heading → Option Card
card_in None = None
card_in (Some h) = Some h.card

abbrev pub card_of : List ℕ → Option Card
card_of text = card_in (heading_of (lines_of text))
