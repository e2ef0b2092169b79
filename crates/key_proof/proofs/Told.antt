-- The bytes of a key that a line tells.
use Rattle.std.proofs.Common.{◌≡◌, ℕ, ◌+◌, ◌-◌, ◌*◌, ◌<◌, ◌≤◌, ◌==◌, ◌&&◌, nat_lt, not, refl, sym, ap, ◌∙◌, subst, inl, inr, true, false, Bool, List, [], ◌∷◌, All, length, map, drop, codes, Option, Some, None, if◌then◌else◌, slice_get, slice_index, arith}
use Rattle.std.specs.List.{range_with_len}
use Rattle.std.specs.Option.{option_map}
use Rattle.std.proofs.lemmas.Bool.{cases_Bool, and_parts, false≢true, eqb-true, lt-ltb, cases_lt}
use Rattle.std.proofs.lemmas.Option.{none-some, same_Some}
use Rattle.std.proofs.lemmas.List.Elements.{All-nil, All-map}
use Rattle.nf_base.specs.declared.card.KeySize.{KeySize}
use Rattle.nf_base.specs.declared.card.TableSize.{TableSize}
use Rattle.nf_base.specs.Cards.{key_bytes}
use Rattle.nf_tokens.specs.Bytes.{is_digit, is_hex_digit, between, digit_of}
use Rattle.nf_tokens.specs.Numbers.{all_are}
use Rattle.key_rows.specs.Given.{IsKey}
use Rattle.certificate_laws.specs.declared.line.Line.{Line}
use Rattle.certificate_laws.specs.declared.line.Line.TheVariants as line
use Rattle.certificate_text.specs.declared.heading.Heading.{Heading}
use Rattle.certificate_text.specs.Pieces.{pieces}
use Rattle.certificate_text.specs.Words as words
use Rattle.certificate_text.specs.Words.{and_then, number_at, ends_at, is_word, byte_at, bytes_of_digits, size_of_digits, key_of_size}
use Rattle.certificate_text.specs.Lines.{terms_in, sum_in, named_in, row_in, key_line_in, bit_at, not_in, split_in, clash_in, zero_in, plain_in, line_in}
use Rattle.key_proof.specs.declared.subject.Subject.{Subject}
use Rattle.key_proof.specs.Faults.{line_here, key_in}
use Rattle.key_proof.proofs.Read.{key_long}
use Rattle.key_proof.specs.Reading.{IsToldHere}

abbrev key_of : Line → List ℕ
key_of (line.Key port key) = key
key_of (line.Row named) = []
key_of (line.Not place) = []
key_of (line.Split place) = []
key_of line.Clash = []
key_of (line.Zero span) = []
key_of (line.Sum terms) = []

abbrev IsSmall : Option Line → Type 0
IsSmall None = Unit {0}
IsSmall (Some l) = All (λ b. b < 256) (key_of l)

if_small : (b : Bool) (x y : Option Line) → IsSmall x → IsSmall y → IsSmall (if b then x else y)
if_small true x y one two = one
if_small false x y one two = two

map_small : {A : Type 0} (f : A → Line) → ((a : A) → [] ≡ key_of (f a)) → (o : Option A) → IsSmall (option_map f o)
map_small f none None = tt
map_small f none (Some a) = subst (All (λ b. b < 256)) (none a) (All-nil (λ b. b < 256))

not_below : (a b : ℕ) → not (nat_lt a b) ≡ true → b ≤ a
not_below a b is = elim (cases_lt a b) [
  | inl less ↦ absurd (false≢true (sym (ap not (lt-ltb a b less)) ∙ is))
  | inr past ↦ past
]

digit_small : (b : ℕ) → digit_of b < 16
digit_small b = elim (cases_Bool (is_digit b)) [
  | inl digit ↦
      let high = not_below 57 b (and_parts (not (nat_lt b 48)) (not (nat_lt 57 b)) digit).1 in
      let same : digit_of b ≡ b - 48 = ap (λ t. if t then b - 48 else (if between 97 102 b then b - 87 else 0)) digit in
      omega (arith, same, high)
  | inr other ↦
      let same : digit_of b ≡ (if between 97 102 b then b - 87 else 0) = ap (λ t. if t then b - 48 else (if between 97 102 b then b - 87 else 0)) other in
      elim (cases_Bool (between 97 102 b)) [
        | inl letter ↦
            let high = not_below 102 b (and_parts (not (nat_lt b 97)) (not (nat_lt 102 b)) letter).1 in
            let is : (if between 97 102 b then b - 87 else 0) ≡ b - 87 = ap (λ t. if t then b - 87 else 0) letter in
            omega (arith, same, is, high)
        | inr neither ↦
            let is : (if between 97 102 b then b - 87 else 0) ≡ 0 = ap (λ t. if t then b - 87 else 0) neither in
            omega (arith, same, is)
      ]
]

bytes_small : (size : KeySize) (digits : List ℕ) → All (λ b. b < 256) (bytes_of_digits size digits)
unfolding bytes_of_digits
bytes_small size digits =
    All-map (λ b. b < 256) (byte_at digits) (range_with_len 0 (key_bytes size))
    (λ k d below. byte_small digits _)
  where
    byte_small : (digits : List ℕ) (i : ℕ) → byte_at digits i < 256
    byte_small digits i =
        let high = digit_small (slice_index digits (2 * i)) in
        let low = digit_small (slice_index digits (2 * i + 1)) in
        omega (arith, high, low)

key_small : (port : ℕ) (text : List ℕ) (size : Option KeySize) → IsSmall (option_map (λ key. line.Key port key) (and_then size (key_of_size text)))
key_small port text None = tt
key_small port text (Some size) = go (all_are is_hex_digit text)
  where
    go : (b : Bool) → IsSmall (option_map (λ key. line.Key port key) (if b then Some (bytes_of_digits size text) else None))
    go true = bytes_small size text
    go false = tt

word_small : (port : ℕ) (word : Option (List ℕ)) → IsSmall (option_map (λ key. line.Key port key) (and_then word words.key_in))
word_small port None = tt
word_small port (Some text) = key_small port text (size_of_digits (length text))

port_small : (ws : List (List ℕ)) (port : Option ℕ) → IsSmall (and_then port (λ p. option_map (λ key. line.Key p key) (and_then (slice_get ws 2) words.key_in)))
port_small ws None = tt
port_small ws (Some p) = word_small p (slice_get ws 2)

zero_small : (table : TableSize) (positions : List ℕ) (ws : List (List ℕ)) → IsSmall (zero_in table positions ws)
zero_small table positions ws = if_small (ends_at ws 3) _ None (go (number_at ws 1)) tt
  where
    go : (port : Option ℕ) → IsSmall (and_then port (λ p. if nat_lt p (length positions) then option_map (λ family. line.Zero (Rattle.certificate_laws.specs.Certificates.span_of table family p)) (and_then (slice_get ws 2) words.family_in) else None))
    go None = tt
    go (Some p) = if_small (nat_lt p (length positions)) _ None (map_small (λ family. line.Zero (Rattle.certificate_laws.specs.Certificates.span_of table family p)) (λ a. refl) (and_then (slice_get ws 2) words.family_in)) tt

plain_small : (table : TableSize) (positions : List ℕ) (ws : List (List ℕ)) → IsSmall (plain_in table positions ws)
plain_small table positions ws =
    if_small (is_word ws 0 (codes "row")) _ _ (if_small (ends_at ws 6) _ None (map_small (λ named. line.Row named) (λ a. refl) (named_in ws)) tt)
    (if_small (is_word ws 0 (codes "key")) _ _ (if_small (ends_at ws 3) _ None (port_small ws (number_at ws 1)) tt)
    (if_small (is_word ws 0 (codes "not")) _ _ (if_small (ends_at ws 3) _ None (map_small (λ m. line.Not m) (λ a. refl) (bit_at positions ws 1)) tt)
    (if_small (is_word ws 0 (codes "split")) _ _ (if_small (ends_at ws 3) _ None (map_small (λ m. line.Split m) (λ a. refl) (bit_at positions ws 1)) tt)
    (if_small (is_word ws 0 (codes "clash")) _ _ (if_small (ends_at ws 1) (Some line.Clash) None (All-nil (λ b. b < 256)) tt)
    (if_small (is_word ws 0 (codes "zero")) _ None (zero_small table positions ws) tt)))))

line_small : (table : TableSize) (positions bytes : List ℕ) → IsSmall (line_in table positions bytes)
line_small table positions bytes =
    if_small (is_word (pieces 32 bytes) 0 (codes "sum")) _ _ (map_small (λ ts. line.Sum ts) (λ a. refl) (terms_in positions (drop 1 (pieces 32 bytes)))) (plain_small table positions (pieces 32 bytes))

told_small : (size : KeySize) (port : ℕ) (o : Option Line) (key : List ℕ) → IsSmall o → key_in size port o ≡ Some key → All (λ b. b < 256) key
told_small size port None key small is = absurd (none-some key is)
told_small size port (Some (line.Key p k)) key small is = elim (cases_Bool ((p == port) && (length k == key_bytes size))) [
  | inl good ↦ subst (All (λ b. b < 256)) (same_Some k key (sym (ap (λ b. if b then Some k else None) good) ∙ is)) small
  | inr bad ↦ absurd (none-some key (sym (ap (λ b. if b then Some k else None) bad) ∙ is))
]
told_small size port (Some (line.Row named)) key small is = absurd (none-some key is)
told_small size port (Some (line.Not place)) key small is = absurd (none-some key is)
told_small size port (Some (line.Split place)) key small is = absurd (none-some key is)
told_small size port (Some line.Clash) key small is = absurd (none-some key is)
told_small size port (Some (line.Zero span)) key small is = absurd (none-some key is)
told_small size port (Some (line.Sum terms)) key small is = absurd (none-some key is)

pub told_is_key : (s : Subject) (h : Heading) (key : List ℕ) → IsToldHere s h key → IsKey h.card.key key
told_is_key s h key told = record {
  long = key_long h.card.key told.port (line_here s h told.bytes) key told.is;
  bytes = told_small h.card.key told.port (line_here s h told.bytes) key (line_small h.card.table s.positions told.bytes) told.is;
}
