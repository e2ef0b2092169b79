-- The bits of the bytes of a number, the highest byte first.
use Rattle.std.proofs.Common.{◌≡◌, ℕ, zero, suc, ◌+◌, ◌-◌, ◌*◌, ◌/◌, ◌%◌, ◌^◌, ◌<◌, refl, ap, sym, ◌∙◌, List, [], ◌∷◌, ◌++◌, get_or, arith}
use Rattle.std.proofs.Math.Nat.{pow-suc}
use Rattle.std.proofs.lemmas.Nat.{shr_split, mod-pow-add, pow-add, pow_pos}
use Rattle.std.proofs.Math.Pow.{mod-mod-pow}
use Rattle.std.proofs.Math.Nat.{mod-lt}
use Rattle.std.proofs.lemmas.Nat.{div-mul-add}
use Rattle.std.proofs.lemmas.Nat.Bits.{bit_at_cat_low}
use Rattle.std.specs.Int.{bit_at}
use Rattle.toeplitz_hash.specs.Bits.{bit_of, number_of}
use Rattle.toeplitz_hash.proofs.Numbers.{bit_at-number_of, number_of-none, number_of-append, number_of-same}
use Rattle.toeplitz_hash.proofs.Bytes.{bit_of-lt, bit_of-drop, number_of_byte}

-- byte i of a number, 0 the lowest, and its lowest k bytes, the highest first
abbrev pub byte_up : ℕ → ℕ → ℕ
byte_up zero n = n % 256
byte_up (suc i) n = n / 256 ^ suc i % 256

abbrev pub high_first : ℕ → ℕ → List ℕ
high_first zero n = []
high_first (suc k) n = byte_up k n ∷ high_first k n

pow_bytes : (k : ℕ) → 256 ^ k ≡ 2 ^ (8 * k)
pow_bytes zero = refl
pow_bytes (suc k) =
    let more : 2 ^ (8 * k + 8) ≡ 2 ^ (8 * k) * 256 = pow-add 2 (8 * k) 8 in
    let count : 8 * suc k ≡ 8 * k + 8 = omega arith in
    pow-suc 256 k ∙ ap (λ m. m * 256) (pow_bytes k) ∙ sym more ∙ ap (λ m. 2 ^ m) (sym count)

byte_is : (k n : ℕ) → byte_up k n ≡ n / 2 ^ (8 * k) % 256
byte_is zero n = omega arith
byte_is (suc k) n = ap (λ m. n / m % 256) (pow_bytes (suc k))

-- the number of the bits of so many bytes, whatever follows
pub number_of_bytes : (k n : ℕ) (rest : List ℕ) → number_of (8 * k) (bit_of (high_first k n ++ rest)) ≡ n % 2 ^ (8 * k)
number_of_bytes zero n rest = number_of-none (bit_of rest) ∙ omega arith
number_of_bytes (suc k) n rest =
    let bytes : List ℕ = byte_up k n ∷ (high_first k n ++ rest) in
    let count : 8 * suc k ≡ 8 + 8 * k = omega arith in
    let parts : number_of (8 + 8 * k) (bit_of bytes) ≡ number_of 8 (bit_of bytes) * 2 ^ (8 * k) + number_of (8 * k) (λ i. bit_of bytes (8 + i)) = number_of-append 8 (8 * k) (bit_of bytes) in
    let none : number_of 0 (bit_of bytes) ≡ 0 = number_of-none (bit_of bytes) in
    let first : number_of 8 (bit_of bytes) ≡ number_of 0 (bit_of bytes) * 256 + byte_up k n % 256 = number_of_byte bytes 0 in
    let byte : number_of 8 (bit_of bytes) ≡ n / 2 ^ (8 * k) % 256 = omega (arith, none, first, byte_is k n) in
    let behind : number_of (8 * k) (λ i. bit_of bytes (8 + i)) ≡ n % 2 ^ (8 * k) =
    number_of-same (8 * k) (λ i. bit_of bytes (8 + i)) (bit_of (high_first k n ++ rest)) (λ i below. sym (bit_of-drop bytes 1 i)) ∙ number_of_bytes k n rest in
    ap (λ m. number_of m (bit_of bytes)) count ∙ parts
    ∙ ap (λ m. m * 2 ^ (8 * k) + number_of (8 * k) (λ i. bit_of bytes (8 + i))) byte
    ∙ ap (λ m. n / 2 ^ (8 * k) % 256 * 2 ^ (8 * k) + m) behind
    ∙ sym (mod-pow-add n 8 (8 * k)) ∙ ap (λ m. n % 2 ^ m) (sym count)

-- the bits of a number that is known modulo 2 ^ n
bit_of_number :
    (n v : ℕ) (f : ℕ → ℕ) → ((i : ℕ) → f i < 2) → number_of n f ≡ v % 2 ^ n → (i : ℕ) → i < n
    → f i ≡ bit_at v (n - 1 - i)
bit_of_number n v f bits is i within =
    let there : bit_at (number_of n f) (n - 1 - i) ≡ f i =
    ap (λ (m : ℕ). bit_at (number_of m f) (n - 1 - i)) (omega arith) ∙ bit_at-number_of i (n - 1 - i) f bits in
    let low : bit_at (v / 2 ^ n * 2 ^ n + v % 2 ^ n) (n - 1 - i) ≡ bit_at (v % 2 ^ n) (n - 1 - i) =
    bit_at_cat_low (v / 2 ^ n) n (v % 2 ^ n) (n - 1 - i) (omega arith) in
    let whole : bit_at (v / 2 ^ n * 2 ^ n + v % 2 ^ n) (n - 1 - i) ≡ bit_at v (n - 1 - i) = ap (λ (m : ℕ). bit_at m (n - 1 - i)) (shr_split v n) in
    sym there ∙ ap (λ (m : ℕ). bit_at m (n - 1 - i)) is ∙ sym low ∙ whole

-- the bits of so many bytes in front
pub bit_of_bytes : (k n : ℕ) (rest : List ℕ) (i : ℕ) → i < 8 * k → bit_of (high_first k n ++ rest) i ≡ bit_at n (8 * k - 1 - i)
bit_of_bytes k n rest = bit_of_number (8 * k) n (bit_of (high_first k n ++ rest)) (bit_of-lt (high_first k n ++ rest)) (number_of_bytes k n rest)

high_is : (k n : ℕ) → n / 2 ^ (8 * k) % 2 ^ 8 ≡ n % 2 ^ (8 + 8 * k) / 2 ^ (8 * k)
high_is k n =
    sym (ap (λ m. m / 2 ^ (8 * k)) (mod-pow-add n 8 (8 * k))
    ∙ div-mul-add (n / 2 ^ (8 * k) % 2 ^ 8) (2 ^ (8 * k)) (n % 2 ^ (8 * k)) (mod-lt n (pow_pos (8 * k))))

-- numbers that are one modulo 2 ^ (8 * k) have one lowest k bytes
pub same_bytes : (k a b : ℕ) → a % 2 ^ (8 * k) ≡ b % 2 ^ (8 * k) → high_first k a ≡ high_first k b
same_bytes zero a b same = refl
same_bytes (suc k) a b same =
    let count : 8 * suc k ≡ 8 + 8 * k = omega arith in
    let whole : a % 2 ^ (8 + 8 * k) ≡ b % 2 ^ (8 + 8 * k) = ap (λ m. a % 2 ^ m) (sym count) ∙ same ∙ ap (λ m. b % 2 ^ m) count in
    let first : byte_up k a ≡ byte_up k b =
    byte_is k a ∙ high_is k a ∙ ap (λ m. m / 2 ^ (8 * k)) whole ∙ sym (high_is k b) ∙ sym (byte_is k b) in
    let low : a % 2 ^ (8 * k) ≡ b % 2 ^ (8 * k) = sym (mod-mod-pow a 8 (8 * k)) ∙ ap (λ m. m % 2 ^ (8 * k)) whole ∙ mod-mod-pow b 8 (8 * k) in
    ap (λ x. x ∷ high_first k a) first ∙ ap (λ xs. byte_up k b ∷ xs) (same_bytes k a b low)
