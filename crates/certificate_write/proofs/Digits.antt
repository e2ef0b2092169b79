-- The hexadecimal digits of a key are read as the key.
use Rattle.std.proofs.Common.{◌≡◌, ℕ, zero, suc, ◌+◌, ◌*◌, ◌/◌, ◌%◌, ◌<◌, ◌≤◌, ◌==◌, ◌&&◌, nat_le, refl, sym, ap, ◌∙◌, Bool, true, false, List, [], ◌∷◌, All, length, get_or, map, Option, Some, None, if◌then◌else◌, inl, inr, arith}
use Rattle.std.specs.Prelude.{nat_eq}
use Rattle.std.specs.List.{list_all, range_with_len}
use Rattle.std.proofs.lemmas.Bool.{and_parts, cases_Bool, false≢true, eqb-true, eq-eqb, leb-true}
use Rattle.std.proofs.lemmas.List.{same_lists, get_or_default}
use Rattle.std.proofs.lemmas.List.Folds.{list_all_at}
use Rattle.std.proofs.lemmas.List.FromFn.{length-map-range_with_len, get_or-map-range_with_len, get_or-range_with_len}
use Rattle.hex.specs.Hex.{lower_digits, encode_with, encode_lower}
use Rattle.hex.proofs.HexLemmas.{length-encode_with}
use Rattle.nf_base.specs.declared.card.KeySize.{KeySize}
use Rattle.nf_base.specs.declared.card.KeySize.TheVariants.{Bytes40, Bytes52}
use Rattle.nf_base.specs.Cards.{key_bytes}
use Rattle.nf_tokens.specs.Bytes.{is_hex_digit, digit_of, front_length}
use Rattle.nf_tokens.specs.Numbers.{all_are}
use Rattle.key_rows.specs.Given.{IsKey}
use Rattle.certificate_text.specs.Pieces.{IsFree}
use Rattle.certificate_text.specs.Words.{and_then, byte_at, bytes_of_digits, size_of_digits, key_of_size, key_in}

-- a digit of a value below 16
abbrev digit : ℕ → ℕ
digit d = get_or lower_digits d 0

abbrev fits : ℕ → Bool
fits d = is_hex_digit (digit d) && ((digit_of (digit d) == d) && nat_le 48 (digit d))

all_fit : list_all fits (range_with_len 0 16) ≡ true
all_fit = refl

one_fits : (d : ℕ) → d < 16 → fits d ≡ true
one_fits d low = elim (cases_Bool (fits d)) [
  | inl is ↦ is
  | inr not ↦ absurd (false≢true (sym (list_all_at fits (range_with_len 0 16) d 0 (omega (arith, low)) (ap fits (get_or-range_with_len 0 16 d 0 low ∙ zero_more d) ∙ not)) ∙ all_fit))
]
  where
    zero_more : (n : ℕ) → 0 + n ≡ n
    zero_more n = omega arith

pub record IsDigit (d c : ℕ) : Type 0 where
  pub hex : is_hex_digit c ≡ true
  pub value : digit_of c ≡ d
  pub high : 48 ≤ c

is_digit : (d : ℕ) → d < 16 → IsDigit d (digit d)
is_digit d low =
    let one = and_parts (is_hex_digit (digit d)) ((digit_of (digit d) == d) && nat_le 48 (digit d)) (one_fits d low) in
    let two = and_parts (digit_of (digit d) == d) (nat_le 48 (digit d)) one.1 in
    record { hex = one.0; value = eqb-true (digit_of (digit d)) d two.0; high = leb-true 48 (digit d) two.1 }

abbrev AreBytes : List ℕ → Type 0
AreBytes xs = All (λ b. b < 256) xs

tail : (x : ℕ) (xs : List ℕ) → AreBytes (x ∷ xs) → AreBytes xs
tail x xs all i d below = all (suc i) d (omega (arith, below))

head : (x : ℕ) (xs : List ℕ) → AreBytes (x ∷ xs) → x < 256
head x xs all = all 0 x (omega arith)

-- all are digits
digits_front : (xs : List ℕ) → AreBytes xs → front_length is_hex_digit (encode_lower xs) ≡ length (encode_lower xs)
unfolding encode_with
digits_front [] all = refl
digits_front (x ∷ xs) all =
    let small = head x xs all in
    let high : IsDigit (x / 16) (digit (x / 16)) = is_digit (x / 16) (omega (arith, small)) in
    let low : IsDigit (x % 16) (digit (x % 16)) = is_digit (x % 16) (omega arith) in
    ap (λ b. if b then suc (if is_hex_digit (digit (x % 16)) then suc (front_length is_hex_digit (encode_lower xs)) else 0) else 0) high.hex
    ∙ ap (λ b. suc (if b then suc (front_length is_hex_digit (encode_lower xs)) else 0)) low.hex
    ∙ ap (λ n. suc (suc n)) (digits_front xs (tail x xs all))

-- none of them is a separator
pub digits_free : (sep : ℕ) (xs : List ℕ) → sep < 48 → AreBytes xs → IsFree sep (encode_lower xs)
unfolding encode_with
digits_free sep [] less all = tt
digits_free sep (x ∷ xs) less all =
    let small = head x xs all in
    let high : IsDigit (x / 16) (digit (x / 16)) = is_digit (x / 16) (omega (arith, small)) in
    let low : IsDigit (x % 16) (digit (x % 16)) = is_digit (x % 16) (omega arith) in
    ((λ e. absurd (omega (arith, high.high, e, less))), ((λ e. absurd (omega (arith, low.high, e, less))), digits_free sep xs less (tail x xs all)))

-- two digits of a byte
high_at : (xs : List ℕ) (i : ℕ) → i < length xs → get_or (encode_lower xs) (2 * i) 0 ≡ digit (get_or xs i 0 / 16)
unfolding encode_with
high_at [] i below = absurd (omega (arith, below))
high_at (x ∷ xs) zero below = refl
high_at (x ∷ xs) (suc i) below =
    let next : 2 * suc i ≡ suc (suc (2 * i)) = omega arith in
    ap (λ n. get_or (encode_lower (x ∷ xs)) n 0) next ∙ high_at xs i (omega (arith, below))

low_at : (xs : List ℕ) (i : ℕ) → i < length xs → get_or (encode_lower xs) (2 * i + 1) 0 ≡ digit (get_or xs i 0 % 16)
unfolding encode_with
low_at [] i below = absurd (omega (arith, below))
low_at (x ∷ xs) zero below = refl
low_at (x ∷ xs) (suc i) below =
    let next : 2 * suc i + 1 ≡ suc (suc (2 * i + 1)) = omega arith in
    ap (λ n. get_or (encode_lower (x ∷ xs)) n 0) next ∙ low_at xs i (omega (arith, below))

byte_there : (xs : List ℕ) (i : ℕ) → AreBytes xs → i < length xs → byte_at (encode_lower xs) i ≡ get_or xs i 0
byte_there xs i all below =
    let small = all i 0 below in
    let high : IsDigit (get_or xs i 0 / 16) (digit (get_or xs i 0 / 16)) = is_digit (get_or xs i 0 / 16) (omega (arith, small)) in
    let low : IsDigit (get_or xs i 0 % 16) (digit (get_or xs i 0 % 16)) = is_digit (get_or xs i 0 % 16) (omega arith) in
    let one : digit_of (get_or (encode_lower xs) (2 * i) 0) ≡ get_or xs i 0 / 16 = ap digit_of (high_at xs i below) ∙ high.value in
    let two : digit_of (get_or (encode_lower xs) (2 * i + 1) 0) ≡ get_or xs i 0 % 16 = ap digit_of (low_at xs i below) ∙ low.value in
    ap (λ n. 16 * n + digit_of (get_or (encode_lower xs) (2 * i + 1) 0)) one ∙ ap (λ n. 16 * (get_or xs i 0 / 16) + n) two ∙ (omega arith)

bytes_back : (size : KeySize) (key : List ℕ) → IsKey size key → bytes_of_digits size (encode_lower key) ≡ key
unfolding bytes_of_digits
bytes_back size key is =
    same_lists (bytes_of_digits size (encode_lower key)) key
    (length-map-range_with_len (byte_at (encode_lower key)) 0 (key_bytes size) ∙ sym is.long)
    (λ k d below.
    let all = length-map-range_with_len (byte_at (encode_lower key)) 0 (key_bytes size) in
    let inside : k < key_bytes size = omega (arith, below, all) in
    let there : k < length key = let long = is.long in omega (arith, inside, long) in
    get_or-map-range_with_len (byte_at (encode_lower key)) 0 (key_bytes size) k k d inside (omega arith)
    ∙ byte_there key k is.bytes there ∙ get_or_default key k 0 d there)

size_there : (size : KeySize) → size_of_digits (2 * key_bytes size) ≡ Some size
size_there Bytes40 = refl
size_there Bytes52 = refl

pub key_back : (size : KeySize) (key : List ℕ) → IsKey size key → key_in (encode_lower key) ≡ Some key
key_back size key is =
    let all : all_are is_hex_digit (encode_lower key) ≡ true = eq-eqb (front_length is_hex_digit (encode_lower key)) (length (encode_lower key)) (digits_front key is.bytes) in
    ap (λ n. and_then (size_of_digits n) (key_of_size (encode_lower key))) (length-encode_with lower_digits key ∙ ap (λ n. 2 * n) is.long)
    ∙ ap (λ o. and_then o (key_of_size (encode_lower key))) (size_there size)
    ∙ ap (λ b. if b then Some (bytes_of_digits size (encode_lower key)) else None) all
    ∙ ap Some (bytes_back size key is)
