-- A number that is read is the one that was written, and its bytes are those that were read.
use Rattle.std.proofs.Common.{◌≡◌, ℕ, zero, suc, ◌+◌, ◌*◌, ◌^◌, ◌<◌, ◌≤◌, List, [], ◌∷◌, ◌++◌, length, get_or, take, drop, refl, arith}
use Rattle.std.proofs.lemmas.List.{get_or-drop}
use Rattle.std.proofs.lemmas.Nat.{le_bytes_4, be_bytes_4}
use Rattle.byteorder.specs.Numbers.{big_number-reads_back, little_number-reads_back}
use Rattle.pcap_file.specs.declared.form.Endian.{Endian}
use Rattle.pcap_file.specs.declared.form.Endian.TheVariants.{Big, Little}
use Rattle.pcap_file.specs.Form.{number_in, bytes_in}

abbrev pub IsBytes : List ℕ → Type 0
IsBytes bytes = (i : ℕ) → get_or bytes i 0 < 256

pub IsBytes-drop : (n : ℕ) (bytes : List ℕ) → IsBytes bytes → IsBytes (drop n bytes)
IsBytes-drop n bytes h i = rw get_or-drop (h (n + i))

-- what was written is read again, whatever follows it
pub read_again : (order : Endian) (n : ℕ) (rest : List ℕ) → n < 2 ^ 32 → number_in order (bytes_in order n ++ rest) ≡ n
read_again Big n rest lt = big_number-reads_back 4 n rest lt
read_again Little n rest lt = little_number-reads_back 4 n rest lt

pub drop_number : (order : Endian) (n : ℕ) (rest : List ℕ) → drop 4 (bytes_in order n ++ rest) ≡ rest
drop_number Big n rest = refl
drop_number Little n rest = refl

pub number_long : (order : Endian) (n : ℕ) → length (bytes_in order n) ≡ 4
number_long Big n = refl
number_long Little n = refl

pub number_below : (order : Endian) (bytes : List ℕ) → IsBytes bytes → number_in order bytes < 2 ^ 32
number_below Big bytes fits = omega (arith, fits 0, fits 1, fits 2, fits 3)
number_below Little bytes fits = omega (arith, fits 0, fits 1, fits 2, fits 3)

are_bytes : (a b d e : ℕ) → a < 256 → b < 256 → d < 256 → e < 256 → IsBytes (a ∷ b ∷ d ∷ e ∷ [])
are_bytes a b d e la lb ld le zero = la
are_bytes a b d e la lb ld le (suc zero) = lb
are_bytes a b d e la lb ld le (suc (suc zero)) = ld
are_bytes a b d e la lb ld le (suc (suc (suc zero))) = le
are_bytes a b d e la lb ld le (suc (suc (suc (suc i)))) = omega arith

low_first : (a b d e : ℕ) → a < 256 → b < 256 → d < 256 → e < 256 → bytes_in Little (a + 256 * (b + 256 * (d + 256 * (e + 256 * 0)))) ≡ a ∷ b ∷ d ∷ e ∷ []
low_first a b d e la lb ld le = le_bytes_4 (a ∷ b ∷ d ∷ e ∷ []) _ refl (are_bytes a b d e la lb ld le) (omega arith)

high_first : (a b d e : ℕ) → a < 256 → b < 256 → d < 256 → e < 256 → bytes_in Big (a * 256 ^ 3 + (b * 256 ^ 2 + (d * 256 ^ 1 + (e * 256 ^ 0 + 0)))) ≡ a ∷ b ∷ d ∷ e ∷ []
high_first a b d e la lb ld le = be_bytes_4 (a ∷ b ∷ d ∷ e ∷ []) _ refl (are_bytes a b d e la lb ld le) (omega arith)

pub spelled_again : (order : Endian) (bytes : List ℕ) → IsBytes bytes → 4 ≤ length bytes → bytes_in order (number_in order bytes) ≡ take 4 bytes
spelled_again order [] fits long = absurd (omega arith)
spelled_again order (a ∷ []) fits long = absurd (omega arith)
spelled_again order (a ∷ b ∷ []) fits long = absurd (omega arith)
spelled_again order (a ∷ b ∷ d ∷ []) fits long = absurd (omega arith)
spelled_again Big (a ∷ b ∷ d ∷ e ∷ rest) fits long = high_first a b d e (fits 0) (fits 1) (fits 2) (fits 3)
spelled_again Little (a ∷ b ∷ d ∷ e ∷ rest) fits long = low_first a b d e (fits 0) (fits 1) (fits 2) (fits 3)
