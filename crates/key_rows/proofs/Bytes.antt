-- Keys by their bytes and bits.
use Rattle.std.proofs.Common.{◌≡◌, ℕ, suc, ◌+◌, ◌-◌, ◌*◌, ◌^◌, ◌/◌, ◌%◌, ◌<◌, ◌≤◌, nat_lt, refl, ap, sym, ◌∙◌, Bool, true, false, List, map, take, length, get_or, arith, inl, inr, add-one, if◌then◌else◌}
use Rattle.std.specs.Int.{bit_at}
use Rattle.std.specs.List.{range_with_len}
use Rattle.std.proofs.lemmas.Bool.{cases_lt, le-ltb, lt-ltb}
use Rattle.std.proofs.Math.Nat.{pow-suc}
use Rattle.std.proofs.lemmas.List.{get_or_past, get_or_default, same_lists}
use Rattle.std.proofs.lemmas.List.FromFn.{length-map-range_with_len, get_or-map-range_with_len}
use Rattle.std.proofs.lemmas.Nat.Bits.{bit_at-zero, same_from_bits_below}
use Rattle.nf_base.specs.declared.card.KeySize.{KeySize}
use Rattle.nf_base.specs.declared.card.KeySize.TheVariants.{Bytes40, Bytes52}
use Rattle.nf_base.specs.Cards.{key_bytes}
use Rattle.toeplitz_hash.specs.Bits.{bit_of, number_of}
use Rattle.toeplitz_hash.proofs.Numbers.{number_of-lt, bit_at-number_of}
use Rattle.gf2_solve.specs.Sums.{bit}
use Rattle.key_rows.specs.Solutions.{solution_bit, byte_of, key_of}
use Rattle.key_rows.specs.Given.{IsKey}

-- a bit by its byte
pub bit_in_byte : (bytes : List ℕ) (i : ℕ) → bit_of bytes i ≡ bit_at (get_or bytes (i / 8) 0) (7 - i % 8)
unfolding bit_of
bit_in_byte bytes i = refl

pub solution_bit-lt : (bits : List Bool) (port count i : ℕ) → solution_bit bits port count i < 2
solution_bit-lt bits port count i = of_tests (nat_lt i count) (get_or bits (319 * port + i) false)
  where
    of_tests : (s t : Bool) → (if s then (if t then 1 else 0) else 0) < 2
    of_tests true true = omega arith
    of_tests true false = omega arith
    of_tests false t = omega arith

pub none_behind : (bits : List Bool) (port count i : ℕ) → count ≤ i → solution_bit bits port count i ≡ 0
none_behind bits port count i past = ap (λ t. if t then (if bit bits (319 * port + i) then 1 else 0) else 0) (le-ltb i count past)

pub those_before : (bits : List Bool) (port count i : ℕ) → i < count → solution_bit bits port count i ≡ (if bit bits (319 * port + i) then 1 else 0)
those_before bits port count i below = ap (λ t. if t then (if bit bits (319 * port + i) then 1 else 0) else 0) (lt-ltb i count below)

-- a key has 40 bytes at least
pub least_bytes : (size : KeySize) → 40 ≤ key_bytes size
least_bytes Bytes40 = omega arith
least_bytes Bytes52 = omega arith

-- and 52 at most
pub most_bytes : (size : KeySize) → key_bytes size ≤ 52
most_bytes Bytes40 = omega arith
most_bytes Bytes52 = omega arith

pub long_key : (size : KeySize) (bits : List Bool) (port count : ℕ) → length (key_of size bits port count) ≡ key_bytes size
long_key size bits port count = length-map-range_with_len (byte_of bits port count) 0 (key_bytes size)

-- The key of a solution has its bits.
pub bit_of_key : (size : KeySize) (bits : List Bool) (port count i : ℕ) → count ≤ 320 → bit_of (key_of size bits port count) i ≡ solution_bit bits port count i
bit_of_key size bits port count i most =
    let least : 40 ≤ key_bytes size = least_bytes size in
    elim (cases_lt i (8 * key_bytes size)) [
      | inl within ↦
          let f : ℕ → ℕ = λ j. solution_bit bits port count (8 * (i / 8) + j) in
          let eight : 8 ≡ suc (i % 8) + (7 - i % 8) = omega arith in
          let whole : 8 * (i / 8) + i % 8 ≡ i = omega arith in
          bit_in_byte (key_of size bits port count) i
          ∙ ap (λ b. bit_at b (7 - i % 8)) (get_or-map-range_with_len (byte_of bits port count) 0 (key_bytes size) (i / 8) (i / 8) 0 (omega (arith, within)) (omega arith))
          ∙ ap (λ m. bit_at (number_of m f) (7 - i % 8)) eight
          ∙ bit_at-number_of (i % 8) (7 - i % 8) f (λ j. solution_bit-lt bits port count (8 * (i / 8) + j))
          ∙ ap (solution_bit bits port count) whole
      | inr past ↦
          bit_in_byte (key_of size bits port count) i
          ∙ ap (λ b. bit_at b (7 - i % 8)) (get_or_past (key_of size bits port count) (i / 8) 0 (omega (arith, past, long_key size bits port count)))
          ∙ bit_at-zero (7 - i % 8)
          ∙ sym (none_behind bits port count i (omega (arith, least, most, past)))
    ]

pub is_key : (size : KeySize) (bits : List Bool) (port count : ℕ) → IsKey size (key_of size bits port count)
is_key size bits port count = record {
  long = long_key size bits port count;
  bytes = λ k d below.
      let is : get_or (key_of size bits port count) k d ≡ byte_of bits port count k = get_or-map-range_with_len (byte_of bits port count) 0 (key_bytes size) k k d (omega (arith, below, long_key size bits port count)) (omega arith) in
      rw is (number_of-lt 8 (λ j. solution_bit bits port count (8 * k + j)) (λ j. solution_bit-lt bits port count (8 * k + j)));
}

-- Keys are equal where their bits are.
pub same_keys : (size : KeySize) (key other : List ℕ) → IsKey size key → IsKey size other → ((i : ℕ) → bit_of key i ≡ bit_of other i) → key ≡ other
same_keys size key other first second same =
    same_lists key other (first.long ∙ sym second.long)
    (λ k d below.
    let inside : k < length other = omega (arith, first.long, second.long) in
    same_from_bits_below 8 (get_or key k d) (get_or other k d) (first.bytes k d below) (second.bytes k d inside)
    (λ b small.
    let i : ℕ = 8 * k + (7 - b) in
    let byte : (8 * k + (7 - b)) / 8 ≡ k = omega arith in
    let place : 7 - (8 * k + (7 - b)) % 8 ≡ b = omega arith in
    sym (there key k b d below byte place) ∙ same i ∙ there other k b d inside byte place))
  where
    there : (bytes : List ℕ) (k b d : ℕ) → k < length bytes → (8 * k + (7 - b)) / 8 ≡ k → 7 - (8 * k + (7 - b)) % 8 ≡ b → bit_of bytes (8 * k + (7 - b)) ≡ bit_at (get_or bytes k d) b
    there bytes k b d within byte place =
        bit_in_byte bytes (8 * k + (7 - b))
        ∙ ap (λ m. bit_at (get_or bytes m 0) (7 - (8 * k + (7 - b)) % 8)) byte
        ∙ ap (bit_at (get_or bytes k 0)) place
        ∙ ap (λ (v : ℕ). bit_at v b) (get_or_default bytes k 0 d within)

-- a number with one bit more
pub one_bit_more : (f : ℕ → ℕ) (j byte bit : ℕ) → byte ≡ number_of j f → bit ≡ f j → byte * 2 + bit ≡ number_of (j + 1) f
unfolding number_of
one_bit_more f j byte bit so_far is = rw add-one (omega (arith, so_far, is))

pub fits_more : (j byte bit : ℕ) → byte < 2 ^ j → bit < 2 → byte * 2 + bit < 2 ^ (j + 1)
fits_more j byte bit fits small = rw (add-one, pow-suc) (omega (arith, fits, small))

-- the first of 52 bytes, as many as a key has
pub front_of : (f : ℕ → ℕ) (size : KeySize) → take (key_bytes size) (map f (range_with_len 0 52)) ≡ map f (range_with_len 0 (key_bytes size))
front_of f Bytes40 = refl
front_of f Bytes52 = refl
