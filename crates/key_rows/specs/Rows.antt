-- The equations over key bits.
use Rattle.std.specs.Prelude.{◌≡◌, ℕ, ◌+◌, ◌-◌, ◌*◌, ◌/◌, ◌%◌, ◌<◌, ◌==◌, nat_lt, Bool, List, map, if◌then◌else◌, slice_index}
use Rattle.std.specs.List.{range_with_len}
use Rattle.nf_base.specs.declared.keys.Keys.{Keys}
use Rattle.nf_base.specs.declared.hash_fields.Hashable.{Hashable}
use Rattle.toeplitz_hash.specs.Bits.{bit_of}
use Rattle.toeplitz_hash.specs.Toeplitz.{sum_below}
use Rattle.toeplitz_hash.specs.Packets.{key_at}
use Rattle.gf2_solve.specs.Sums.{sum_of}
use Rattle.key_rows.specs.declared.place.Place.{Place}
use Rattle.key_rows.specs.declared.windows.Windows.{Windows}
use Rattle.nf_base.specs.declared.packet.Family.{Family}
use Rattle.key_rows.specs.Classes.{width_at, end_at, class_of}

-- The window of a field is what its bits meet of its input's key: the last bit of a field that
-- ends before bit e meets bits e - 1 to e + 30. The window's bits count from its end, since fields
-- of one class that differ in width are equal from their ends on.
abbrev pub window_bit : Family → Family → List ℕ → List ℕ → ℕ → ℕ → ℕ
window_bit f g key other n u = bit_of (if nat_lt n 4 then key else other) (end_at f g n + 30 - u)

-- the sum of bits u of the windows of all fields of class k
abbrev pub class_sum : Family → Family → (ℕ → ℕ) → List ℕ → List ℕ → ℕ → ℕ → ℕ
class_sum f g class key other k u =
    sum_below 8 (λ n. if class n == k then window_bit f g key other n u else 0)

-- The windows of all fields of a class have bit u: that of a field of w bits has w + 31.
abbrev pub IsWithin : Family → Family → (ℕ → ℕ) → ℕ → ℕ → Type 0
IsWithin f g class k u = (n : ℕ) → n < 8 → class n ≡ k → u < width_at f g n + 31

-- bits u of the windows of class k add up to 0 modulo 2
abbrev pub IsEven : Family → Family → (ℕ → ℕ) → List ℕ → List ℕ → ℕ → ℕ → Type 0
IsEven f g class key other k u =
    IsWithin f g class k u → class_sum f g class key other k u % 2 ≡ 0

-- The windows of each class add up to 0 modulo 2. The longest has 128 + 31 bits.
pub record Rows (f g : Family) (first second : List Hashable) (key other : List ℕ) : Type 0 where
  pub even :
      (k : ℕ) → k < 8 → (u : ℕ) → u < 159 → IsEven f g (class_of first second) key other k u

-- the windows of two places
pub record AreWindowsOf (first second : Place) (windows : Windows) : Type 0 where
  pub first_port : windows.first ≡ first.port
  pub second_port : windows.second ≡ second.port
  pub first_family : windows.first_family ≡ first.family
  pub second_family : windows.second_family ≡ second.family
  pub classes : (n : ℕ) → n < 8
      → slice_index windows.classes n ≡ class_of first.known second.known n

-- bit u of the window of a field
abbrev pub window_at : Keys → Windows → ℕ → ℕ → ℕ
window_at keys windows n u =
    window_bit windows.first_family windows.second_family
    (key_at keys windows.first) (key_at keys windows.second) n u

-- the sum of bits u of the windows of class k
abbrev pub sum_at : Keys → Windows → ℕ → ℕ → ℕ
sum_at keys windows k u =
    class_sum windows.first_family windows.second_family (slice_index windows.classes)
    (key_at keys windows.first) (key_at keys windows.second) k u

-- whether all windows of class k have bit u
abbrev pub IsWithinAt : Windows → ℕ → ℕ → Type 0
IsWithinAt windows k u =
    IsWithin windows.first_family windows.second_family (slice_index windows.classes) k u

-- it is 0 modulo 2, if all windows of the class have that bit
abbrev pub IsEvenAt : Keys → Windows → ℕ → ℕ → Type 0
IsEvenAt keys windows k u = IsWithinAt windows k u → sum_at keys windows k u % 2 ≡ 0

-- so with all bits of a class
abbrev pub AreEvenAt : Keys → Windows → ℕ → Type 0
AreEvenAt keys windows k = (u : ℕ) → u < 159 → IsEvenAt keys windows k u

-- so with all classes
abbrev pub AreEven : Keys → Windows → Type 0
AreEven keys windows = (k : ℕ) → k < 8 → AreEvenAt keys windows k

-- a class is of its own class
pub record AreOwn (class : ℕ → ℕ) : Type 0 where
  pub own : (n : ℕ) → n < 8 → class (class n) ≡ class n

-- Key bits by number: the first 319 bits of the key of each port, in the order of the ports.
abbrev pub numbered_bit : Keys → ℕ → ℕ
numbered_bit keys m = bit_of (key_at keys (m / 319)) (m % 319)

-- the bits of the keys of so many ports
abbrev pub bits_of : ℕ → Keys → List Bool
bits_of ports keys = map (λ m. numbered_bit keys m == 1) (range_with_len 0 (319 * ports))

-- whether a sum is 1 modulo 2
abbrev pub is_odd : ℕ → Bool
is_odd n = n % 2 == 1

-- a row that adds up bits u of the windows of class k, whatever the keys
pub record IsRowOf (windows : Windows) (k u : ℕ) (row : List Bool) : Type 0 where
  pub sums : (ports : ℕ) (keys : Keys) → windows.first < ports → windows.second < ports
      → sum_of row (bits_of ports keys) ≡ is_odd (sum_at keys windows k u)
