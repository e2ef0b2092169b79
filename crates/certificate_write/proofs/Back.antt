-- What is written is read.
use Rattle.std.proofs.Common.{◌≡◌, ℕ, ◌+◌, ◌*◌, ◌/◌, ◌%◌, ◌<◌, ◌≤◌, ◌^◌, nat_lt, refl, sym, ap, ◌∙◌, subst, Bool, true, false, List, [], ◌∷◌, ◌++◌, All, length, map, drop, get_or, Option, Some, None, if◌then◌else◌, arith}
use Rattle.std.specs.Prelude.{codes, decimal}
use Rattle.std.specs.Option.{option_map}
use Rattle.std.proofs.lemmas.Bool.{lt-ltb}
use Rattle.std.proofs.lemmas.List.Elements.{All-head, All-tail}
use Rattle.hex.specs.Hex.{encode_lower}
use Rattle.nf_base.specs.declared.card.TableSize.{TableSize}
use Rattle.nf_base.specs.declared.card.TableSize.TheVariants.{Entries128, Entries512}
use Rattle.nf_base.specs.declared.card.KeySize.{KeySize}
use Rattle.nf_base.specs.declared.card.KeySize.TheVariants.{Bytes40, Bytes52}
use Rattle.nf_base.specs.declared.packet.Family.{Family}
use Rattle.nf_base.specs.declared.packet.Family.TheVariants.{Four, Six}
use Rattle.certificate_laws.specs.declared.line.Term.{Term}
use Rattle.certificate_laws.specs.declared.line.Term.TheVariants.{Row, Bit}
use Rattle.certificate_laws.specs.declared.line.Side.{Side}
use Rattle.certificate_laws.specs.declared.line.Side.TheVariants.{First, Second}
use Rattle.certificate_laws.specs.declared.line.Named.{Named}
use Rattle.certificate_laws.specs.declared.line.Span.{Span}
use Rattle.certificate_laws.specs.declared.line.Line.{Line}
use Rattle.certificate_laws.specs.declared.line.Line.TheVariants as line
use Rattle.certificate_laws.specs.Certificates.{span_of}
use Rattle.certificate_text.specs.declared.heading.Heading.{Heading}
use Rattle.certificate_text.specs.declared.heading.Kind.{Kind}
use Rattle.certificate_text.specs.declared.heading.Kind.TheVariants.{Sharded, Locked}
use Rattle.certificate_text.specs.Pieces.{IsFree, pieces}
use Rattle.certificate_text.specs.Words.{and_then, number, is_word, side_in, family_in, key_in}
use Rattle.certificate_text.specs.Lines.{bit_number, bit_in, term_in, terms_in, sum_in, named_in, plain_in, line_in, titled, sizes_in, heading_in}
use Rattle.certificate_text.proofs.Cutting.{pieces_free}
use Rattle.certificate_write.specs.Texts.{spaced, side_word, family_word, bit_text, term_text, terms_text, named_text, line_text, table_word, size_word, kind_word, heading_text}
use Rattle.certificate_write.specs.Sayable.{IsPlace, IsTerm, IsShort, IsKeyLine, IsSpanHere, IsSayable}
use Rattle.certificate_write.specs.Laws.{IsReadBack, LinesAreReadBack, IsHeadingReadBack, HeadingsAreReadBack}
use Rattle.certificate_write.proofs.Decimals.{read_short}
use Rattle.certificate_write.proofs.Digits.{digits_free, key_back}
use Rattle.certificate_write.proofs.Frees.{free_both, free_by_test, number_free}
use Rattle.certificate_write.proofs.Cut.{next, port_short, position_short, bit_words, bit_parts, bit_free, terms_words, terms_free}

-- ---- bits and terms

bit_back : (positions : List ℕ) (place : ℕ) → length positions ≤ 4 → IsPlace positions place
    → and_then (number (decimal (place / 319))) (λ port. and_then (number (decimal (place % 319))) (bit_number positions port)) ≡ Some place
bit_back positions place few is =
    let whole : 319 * (place / 319) + place % 319 ≡ place = omega arith in
    ap (λ o. and_then o (λ port. and_then (number (decimal (place % 319))) (bit_number positions port))) (read_short (place / 319) (port_short positions place few is))
    ∙ ap (λ o. and_then o (bit_number positions (place / 319))) (read_short (place % 319) (position_short place))
    ∙ ap (λ b. if b then Some (319 * (place / 319) + place % 319) else None) (lt-ltb (place % 319) (get_or positions (place / 319) 0) is)
    ∙ ap Some whole

term_back : (positions : List ℕ) (t : Term) → length positions ≤ 4 → IsTerm positions t → term_in positions (term_text t) ≡ Some t
term_back positions (Row k) few is = ap (option_map (λ n. Row n)) (read_short k is)
term_back positions (Bit place) few is =
    ap (λ (ws : List (List ℕ)). option_map (λ n. Bit n) (bit_in positions ws)) (bit_parts positions place few is) ∙ ap (option_map (λ n. Bit n)) (bit_back positions place few is)

terms_back : (positions : List ℕ) (terms : List Term) → length positions ≤ 4 → All (IsTerm positions) terms → terms_in positions (map term_text terms) ≡ Some terms
terms_back positions [] few are = refl
terms_back positions (t ∷ terms) few are =
    ap (λ o. and_then o (λ one. option_map (λ more. one ∷ more) (terms_in positions (map term_text terms)))) (term_back positions t few (All-head (IsTerm positions) t terms are))
    ∙ ap (option_map (λ more. t ∷ more)) (terms_back positions terms few (All-tail (IsTerm positions) t terms are))

-- ---- what a row's line names

named_by : Option ℕ → Option ℕ → Option Side → Option ℕ → Option ℕ → Option Named
named_by a b s i r =
    and_then a (λ first. and_then b (λ second. and_then s (λ side. and_then i (λ input.
    option_map (λ result. record { first = first; second = second; side = side; input = input; result = result }) r))))

side_back : (side : Side) → side_in (side_word side) ≡ Some side
side_back First = refl
side_back Second = refl

side_free : (sep : ℕ) (side : Side) → sep < 48 → IsFree sep (side_word side)
side_free sep First less = ((λ e. absurd (omega (arith, e, less))), tt)
side_free sep Second less = ((λ e. absurd (omega (arith, e, less))), tt)

named_back : (n : Named) → IsShort n → named_by (number (decimal n.first)) (number (decimal n.second)) (side_in (side_word n.side)) (number (decimal n.input)) (number (decimal n.result)) ≡ Some n
unfolding named_by
named_back n is =
    ap (λ o. named_by o (number (decimal n.second)) (side_in (side_word n.side)) (number (decimal n.input)) (number (decimal n.result))) (read_short n.first is.first)
    ∙ ap (λ o. named_by (Some n.first) o (side_in (side_word n.side)) (number (decimal n.input)) (number (decimal n.result))) (read_short n.second is.second)
    ∙ ap (λ o. named_by (Some n.first) (Some n.second) o (number (decimal n.input)) (number (decimal n.result))) (side_back n.side)
    ∙ ap (λ o. named_by (Some n.first) (Some n.second) (Some n.side) o (number (decimal n.result))) (read_short n.input is.input)
    ∙ ap (named_by (Some n.first) (Some n.second) (Some n.side) (Some n.input)) (read_short n.result is.result)

named_words : (n : Named) → IsShort n → pieces 32 (named_text n) ≡ decimal n.first ∷ decimal n.second ∷ side_word n.side ∷ decimal n.input ∷ decimal n.result ∷ []
named_words n is =
    let d : List ℕ = spaced (decimal n.input) (decimal n.result) in
    let c : List ℕ = spaced (side_word n.side) (spaced (decimal n.input) (decimal n.result)) in
    let b : List ℕ = spaced (decimal n.second) (spaced (side_word n.side) (spaced (decimal n.input) (decimal n.result))) in
    next (decimal n.first) b (decimal n.second ∷ side_word n.side ∷ decimal n.input ∷ decimal n.result ∷ []) (number_free 32 n.first (omega arith) is.first)
    (next (decimal n.second) c (side_word n.side ∷ decimal n.input ∷ decimal n.result ∷ []) (number_free 32 n.second (omega arith) is.second)
    (next (side_word n.side) d (decimal n.input ∷ decimal n.result ∷ []) (side_free 32 n.side (omega arith))
    (next (decimal n.input) (decimal n.result) (decimal n.result ∷ []) (number_free 32 n.input (omega arith) is.input)
    (pieces_free 32 (decimal n.result) (number_free 32 n.result (omega arith) is.result)))))

-- words with a space between them
spaced_free : (word rest : List ℕ) → IsFree 10 word → IsFree 10 rest → IsFree 10 (spaced word rest)
spaced_free word rest one two = free_both 10 word (codes " " ++ rest) one (free_both 10 (codes " ") rest (free_by_test 10 (codes " ") refl) two)

named_free : (n : Named) → IsShort n → IsFree 10 (named_text n)
named_free n is =
    spaced_free (decimal n.first) (spaced (decimal n.second) (spaced (side_word n.side) (spaced (decimal n.input) (decimal n.result)))) (number_free 10 n.first (omega arith) is.first)
    (spaced_free (decimal n.second) (spaced (side_word n.side) (spaced (decimal n.input) (decimal n.result))) (number_free 10 n.second (omega arith) is.second)
    (spaced_free (side_word n.side) (spaced (decimal n.input) (decimal n.result)) (side_free 10 n.side (omega arith))
    (spaced_free (decimal n.input) (decimal n.result) (number_free 10 n.input (omega arith) is.input) (number_free 10 n.result (omega arith) is.result))))

-- ---- spans

span_free : (sep : ℕ) (span : Span) → sep < 48 → IsFree sep (family_word span)
span_free sep span less = by_test (nat_lt span.count 200)
  where
    by_test : (b : Bool) → IsFree sep (if b then codes "4" else codes "6")
    by_test true = ((λ e. absurd (omega (arith, e, less))), tt)
    by_test false = ((λ e. absurd (omega (arith, e, less))), tt)

family_back : (table : TableSize) (family : Family) (port : ℕ) → family_in (family_word (span_of table family port)) ≡ Some family
family_back Entries128 Four port = refl
family_back Entries128 Six port = refl
family_back Entries512 Four port = refl
family_back Entries512 Six port = refl

port_back : (table : TableSize) (family : Family) (port : ℕ) → (span_of table family port).first / 319 ≡ port
port_back Entries128 family port = omega arith
port_back Entries512 family port = omega arith

-- ---- lines

-- the words of a line whose first is this one
by_words : (table : TableSize) (positions bytes : List ℕ) (words : List (List ℕ)) → pieces 32 bytes ≡ words → line_in table positions bytes ≡ (if is_word words 0 (codes "sum") then sum_in positions words else plain_in table positions words)
by_words table positions bytes words is = ap (λ (ws : List (List ℕ)). if is_word ws 0 (codes "sum") then sum_in positions ws else plain_in table positions ws) is

row_read : (table : TableSize) (positions : List ℕ) (n : Named) → IsShort n → line_in table positions (line_text (line.Row n)) ≡ Some (line.Row n)
unfolding named_by
row_read table positions n is =
    by_words table positions (line_text (line.Row n)) (codes "row" ∷ decimal n.first ∷ decimal n.second ∷ side_word n.side ∷ decimal n.input ∷ decimal n.result ∷ [])
    (next (codes "row") (named_text n) (decimal n.first ∷ decimal n.second ∷ side_word n.side ∷ decimal n.input ∷ decimal n.result ∷ []) (free_by_test 32 (codes "row") refl) (named_words n is))
    ∙ ap (option_map (λ m. line.Row m)) (named_back n is)

key_read : (table : TableSize) (positions : List ℕ) (port : ℕ) (key : List ℕ) → IsKeyLine port key → line_in table positions (line_text (line.Key port key)) ≡ Some (line.Key port key)
key_read table positions port key is =
    by_words table positions (line_text (line.Key port key)) (codes "key" ∷ decimal port ∷ encode_lower key ∷ [])
    (next (codes "key") (spaced (decimal port) (encode_lower key)) (decimal port ∷ encode_lower key ∷ []) (free_by_test 32 (codes "key") refl)
    (next (decimal port) (encode_lower key) (encode_lower key ∷ []) (number_free 32 port (omega arith) is.small)
    (pieces_free 32 (encode_lower key) (let bytes = is.whole in digits_free 32 key (omega arith) bytes.bytes))))
    ∙ ap (λ o. and_then o (λ p. option_map (λ k. line.Key p k) (key_in (encode_lower key)))) (read_short port is.small)
    ∙ ap (option_map (λ k. line.Key port k)) (key_back is.size key is.whole)

not_read : (table : TableSize) (positions : List ℕ) (place : ℕ) → length positions ≤ 4 → IsPlace positions place → line_in table positions (line_text (line.Not place)) ≡ Some (line.Not place)
not_read table positions place few is =
    by_words table positions (line_text (line.Not place)) (codes "not" ∷ decimal (place / 319) ∷ decimal (place % 319) ∷ [])
    (next (codes "not") (bit_text (codes " ") place) (decimal (place / 319) ∷ decimal (place % 319) ∷ []) (free_by_test 32 (codes "not") refl) (bit_words positions place few is))
    ∙ ap (option_map (λ m. line.Not m)) (bit_back positions place few is)

split_read : (table : TableSize) (positions : List ℕ) (place : ℕ) → length positions ≤ 4 → IsPlace positions place → line_in table positions (line_text (line.Split place)) ≡ Some (line.Split place)
split_read table positions place few is =
    by_words table positions (line_text (line.Split place)) (codes "split" ∷ decimal (place / 319) ∷ decimal (place % 319) ∷ [])
    (next (codes "split") (bit_text (codes " ") place) (decimal (place / 319) ∷ decimal (place % 319) ∷ []) (free_by_test 32 (codes "split") refl) (bit_words positions place few is))
    ∙ ap (option_map (λ m. line.Split m)) (bit_back positions place few is)

span_read : (table : TableSize) (positions : List ℕ) (family : Family) (port : ℕ) → length positions ≤ 4 → port < length positions
    → line_in table positions (line_text (line.Zero (span_of table family port))) ≡ Some (line.Zero (span_of table family port))
span_read table positions family port few there =
    let span : Span = span_of table family port in
    let first : ℕ = span.first / 319 in
    let short : (span_of table family port).first / 319 < 2 ^ 32 = let same = port_back table family port in omega (arith, same, there, few) in
    by_words table positions (line_text (line.Zero span)) (codes "zero" ∷ decimal first ∷ family_word span ∷ [])
    (next (codes "zero") (spaced (decimal first) (family_word span)) (decimal first ∷ family_word span ∷ []) (free_by_test 32 (codes "zero") refl)
    (next (decimal first) (family_word span) (family_word span ∷ []) (number_free 32 first (omega arith) short)
    (pieces_free 32 (family_word span) (span_free 32 span (omega arith)))))
    ∙ ap (λ o. and_then o (λ p. if nat_lt p (length positions) then option_map (λ f. line.Zero (span_of table f p)) (family_in (family_word span)) else None)) (read_short first short ∙ ap Some (port_back table family port))
    ∙ ap (λ b. if b then option_map (λ f. line.Zero (span_of table f port)) (family_in (family_word span)) else None) (lt-ltb port (length positions) there)
    ∙ ap (option_map (λ f. line.Zero (span_of table f port))) (family_back table family port)

sum_read : (table : TableSize) (positions : List ℕ) (terms : List Term) → length positions ≤ 4 → All (IsTerm positions) terms → line_in table positions (line_text (line.Sum terms)) ≡ Some (line.Sum terms)
sum_read table positions terms few are =
    by_words table positions (line_text (line.Sum terms)) (codes "sum" ∷ map term_text terms) (terms_words positions (codes "sum") terms few (free_by_test 32 (codes "sum") refl) are)
    ∙ ap (option_map (λ ts. line.Sum ts)) (terms_back positions terms few are)

zero_back : (table : TableSize) (positions : List ℕ) (span : Span) → length positions ≤ 4 → IsSpanHere table (length positions) span → IsReadBack table positions (line.Zero span)
zero_back table positions span few is = subst (λ (s : Span). IsReadBack table positions (line.Zero s)) (sym is.is) (record {
  free = spaced_free (codes "zero") (spaced (decimal ((span_of table is.family is.port).first / 319)) (family_word (span_of table is.family is.port))) (free_by_test 10 (codes "zero") refl)
      (spaced_free (decimal ((span_of table is.family is.port).first / 319)) (family_word (span_of table is.family is.port))
      (number_free 10 ((span_of table is.family is.port).first / 319) (omega arith) (let same = port_back table is.family is.port in let there = is.there in omega (arith, same, there, few)))
      (span_free 10 (span_of table is.family is.port) (omega arith)));
  read = span_read table positions is.family is.port few is.there;
})

pub lines_are_read_back : LinesAreReadBack
lines_are_read_back table positions (line.Row n) few is = record {
  free = spaced_free (codes "row") (named_text n) (free_by_test 10 (codes "row") refl) (named_free n is);
  read = row_read table positions n is;
}
lines_are_read_back table positions (line.Key port key) few is = record {
  free = spaced_free (codes "key") (spaced (decimal port) (encode_lower key)) (free_by_test 10 (codes "key") refl)
      (spaced_free (decimal port) (encode_lower key) (number_free 10 port (omega arith) is.small) (let bytes = is.whole in digits_free 10 key (omega arith) bytes.bytes));
  read = key_read table positions port key is;
}
lines_are_read_back table positions (line.Not place) few is = record {
  free = spaced_free (codes "not") (bit_text (codes " ") place) (free_by_test 10 (codes "not") refl) (bit_free 10 (codes " ") positions place (omega arith) (free_by_test 10 (codes " ") refl) few is);
  read = not_read table positions place few is;
}
lines_are_read_back table positions (line.Split place) few is = record {
  free = spaced_free (codes "split") (bit_text (codes " ") place) (free_by_test 10 (codes "split") refl) (bit_free 10 (codes " ") positions place (omega arith) (free_by_test 10 (codes " ") refl) few is);
  read = split_read table positions place few is;
}
lines_are_read_back table positions line.Clash few is = record { free = free_by_test 10 (codes "clash") refl; read = refl }
lines_are_read_back table positions (line.Zero span) few is = zero_back table positions span few is
lines_are_read_back table positions (line.Sum terms) few is = record {
  free = free_both 10 (codes "sum") (terms_text terms) (free_by_test 10 (codes "sum") refl) (terms_free positions terms few is);
  read = sum_read table positions terms few is;
}

-- ---- the first line

heading_back : (table : TableSize) (size : KeySize) (kind : Kind) → IsHeadingReadBack (record { card = record { table = table; key = size }; kind = kind })
heading_back Entries128 Bytes40 Sharded = record { free = free_by_test 10 (codes "maestro proof 1 128 40 sharded") refl; read = refl }
heading_back Entries128 Bytes40 Locked = record { free = free_by_test 10 (codes "maestro proof 1 128 40 locked") refl; read = refl }
heading_back Entries128 Bytes52 Sharded = record { free = free_by_test 10 (codes "maestro proof 1 128 52 sharded") refl; read = refl }
heading_back Entries128 Bytes52 Locked = record { free = free_by_test 10 (codes "maestro proof 1 128 52 locked") refl; read = refl }
heading_back Entries512 Bytes40 Sharded = record { free = free_by_test 10 (codes "maestro proof 1 512 40 sharded") refl; read = refl }
heading_back Entries512 Bytes40 Locked = record { free = free_by_test 10 (codes "maestro proof 1 512 40 locked") refl; read = refl }
heading_back Entries512 Bytes52 Sharded = record { free = free_by_test 10 (codes "maestro proof 1 512 52 sharded") refl; read = refl }
heading_back Entries512 Bytes52 Locked = record { free = free_by_test 10 (codes "maestro proof 1 512 52 locked") refl; read = refl }

pub headings_are_read_back : HeadingsAreReadBack
headings_are_read_back h = heading_back h.card.table h.card.key h.kind
