-- Two inputs in which the fields of one class have one 1, at one place, and all other fields are 0.
use Rattle.std.proofs.Common.{◌≡◌, ℕ, zero, suc, ◌+◌, ◌*◌, ◌^◌, ◌<◌, refl, sym, ◌∙◌, subst, List, [], ◌∷◌, map, arith}
use Rattle.std.specs.Int.{bit_at}
use Rattle.std.proofs.lemmas.Nat.Bits.{bit_at-zero, bit_at-pow_same, bit_at-pow_other}
use Rattle.toeplitz_hash.specs.Toeplitz.{sum_below}
use Rattle.toeplitz_hash.proofs.Sums.{sum_below-zero, sum_below-one}
use Rattle.nf_base.specs.declared.hash_fields.Hashable.{Hashable}
use Rattle.nf_base.specs.declared.hash_fields.Hashable.TheVariants.{SrcIp, DstIp, SrcPort, DstPort}
use Rattle.nf_base.specs.Hashed.{number}
use Rattle.key_rows.specs.Laws.{KeepTies}
use Rattle.nf_base.specs.declared.packet.Family.{Family}
use Rattle.nf_base.specs.declared.packet.Family.TheVariants.{Four, Six}
use Rattle.nf_base.specs.declared.packet.Addresses.{Addresses}
use Rattle.nf_base.specs.declared.packet.Addresses.TheVariants as addresses
use Rattle.nf_base.specs.declared.packet.Fields.{Fields}
use Rattle.nf_base.specs.Families.{family_by, source_in, destination_in}
use Rattle.nf_base.specs.Hashed.{address_width, width, value}
use Rattle.key_rows.specs.Places.{IsInputOf}
use Rattle.key_rows.specs.Places.{AreTied}
use Rattle.key_rows.specs.Classes.{width_at}
use Rattle.key_rows.proofs.Windowed.{value_at}

some_address : (f : Family) → 0 < address_width f
some_address Four = omega arith
some_address Six = omega arith

pub width_some : (f g : Family) (n : ℕ) → n < 8 → 0 < width_at f g n
width_some f g zero below = some_address f
width_some f g (suc zero) below = some_address f
width_some f g (suc (suc zero)) below = omega arith
width_some f g (suc (suc (suc zero))) below = omega arith
width_some f g (suc (suc (suc (suc zero)))) below = some_address g
width_some f g (suc (suc (suc (suc (suc zero))))) below = some_address g
width_some f g (suc (suc (suc (suc (suc (suc zero)))))) below = omega arith
width_some f g (suc (suc (suc (suc (suc (suc (suc zero))))))) below = omega arith
width_some f g (suc (suc (suc (suc (suc (suc (suc (suc n)))))))) below = absurd (omega arith)

-- lists of equal numbers, one by one
pub map_same : (f g : Hashable → ℕ) → ((x : Hashable) → f x ≡ g x) → (xs : List Hashable) → map f xs ≡ map g xs
map_same f g same [] = refl
map_same f g same (x ∷ xs) =
    let here : f x ≡ g x = same x in
    let rest : map f xs ≡ map g xs = map_same f g same xs in
    cc

-- Where numbers are equal in two lists, so is what is made of them.
pub map_through : (f g : Hashable → ℕ) (h : ℕ → ℕ) (xs ys : List Hashable) → map f xs ≡ map g ys → map (λ x. h (f x)) xs ≡ map (λ y. h (g y)) ys
map_through f g h [] [] p = refl
map_through f g h [] (y ∷ ys) p = cc
map_through f g h (x ∷ xs) [] p = cc
map_through f g h (x ∷ xs) (y ∷ ys) p =
    let one : f x ≡ g y = cc in
    let rest : map (λ z. h (f z)) xs ≡ map (λ z. h (g z)) ys = map_through f g h xs ys (cc) in
    cc

first_value : (p q : Fields) (field : Hashable) → value_at p q (number field) ≡ value p field
first_value p q SrcIp = refl
first_value p q DstIp = refl
first_value p q SrcPort = refl
first_value p q DstPort = refl

second_value : (p q : Fields) (field : Hashable) → value_at p q (4 + number field) ≡ value q field
second_value p q SrcIp = refl
second_value p q DstIp = refl
second_value p q SrcPort = refl
second_value p q DstPort = refl

pub values_tied : (first second : List Hashable) (p q : Fields) → AreTied first second p q → KeepTies first second (value_at p q)
values_tied first second p q tied =
    map_same (λ x. value_at p q (number x)) (value p) (first_value p q) first ∙ tied ∙ sym (map_same (λ y. value_at p q (4 + number y)) (value q) (second_value p q) second)

pub tied_values : (first second : List Hashable) (p q : Fields) → KeepTies first second (value_at p q) → AreTied first second p q
tied_values first second p q kept =
    sym (map_same (λ x. value_at p q (number x)) (value p) (first_value p q) first) ∙ kept ∙ map_same (λ y. value_at p q (4 + number y)) (value q) (second_value p q) second

-- addresses of a family
abbrev pub addresses_of : Family → ℕ → ℕ → Addresses
addresses_of Four s d = addresses.Four s d
addresses_of Six s d = addresses.Six s d

pub family_with : (f : Family) (s d : ℕ) → family_by (addresses_of f s d) ≡ f
family_with Four s d = refl
family_with Six s d = refl

pub source_with : (f : Family) (s d : ℕ) → source_in (addresses_of f s d) ≡ s
source_with Four s d = refl
source_with Six s d = refl

pub destination_with : (f : Family) (s d : ℕ) → destination_in (addresses_of f s d) ≡ d
destination_with Four s d = refl
destination_with Six s d = refl

-- an input of a family with these four fields
abbrev pub input_with : Family → (ℕ → ℕ) → Fields
input_with f v = record { length = 0; src_mac = 0; dst_mac = 0; addresses = addresses_of f (v 0) (v 1); proto = 0; ttl = 0; src_port = v 2; dst_port = v 3 }

-- and one with the last four of eight
abbrev pub input_after : Family → (ℕ → ℕ) → Fields
input_after g v = input_with g (λ n. v (4 + n))

pub value_with : (f g : Family) (v : ℕ → ℕ) (n : ℕ) → n < 8 → value_at (input_with f v) (input_after g v) n ≡ v n
value_with f g v zero below = source_with f (v 0) (v 1)
value_with f g v (suc zero) below = destination_with f (v 0) (v 1)
value_with f g v (suc (suc zero)) below = refl
value_with f g v (suc (suc (suc zero))) below = refl
value_with f g v (suc (suc (suc (suc zero)))) below = source_with g (v 4) (v 5)
value_with f g v (suc (suc (suc (suc (suc zero))))) below = destination_with g (v 4) (v 5)
value_with f g v (suc (suc (suc (suc (suc (suc zero)))))) below = refl
value_with f g v (suc (suc (suc (suc (suc (suc (suc zero))))))) below = refl
value_with f g v (suc (suc (suc (suc (suc (suc (suc (suc n)))))))) below = absurd (omega arith)

-- four values within their widths are an input
pub is_input : (f : Family) (v : ℕ → ℕ) → v 0 < 2 ^ address_width f → v 1 < 2 ^ address_width f → v 2 < 2 ^ 16 → v 3 < 2 ^ 16 → IsInputOf f (input_with f v)
is_input f v source destination src_port dst_port = record { of = family_with f (v 0) (v 1); within = each }
  where
    each : (field : Hashable) → value (input_with f v) field < 2 ^ width f field
    each SrcIp = subst (λ (m : ℕ). m < 2 ^ address_width f) (sym (source_with f (v 0) (v 1))) source
    each DstIp = subst (λ (m : ℕ). m < 2 ^ address_width f) (sym (destination_with f (v 0) (v 1))) destination
    each SrcPort = src_port
    each DstPort = dst_port

pub is_input_with : (f g : Family) (v : ℕ → ℕ) → ((n : ℕ) → n < 8 → v n < 2 ^ width_at f g n) → IsInputOf f (input_with f v)
is_input_with f g v fits = is_input f v (fits 0 (omega arith)) (fits 1 (omega arith)) (fits 2 (omega arith)) (fits 3 (omega arith))

pub is_input_after : (f g : Family) (v : ℕ → ℕ) → ((n : ℕ) → n < 8 → v n < 2 ^ width_at f g n) → IsInputOf g (input_after g v)
is_input_after f g v fits = is_input g (λ n. v (4 + n)) (fits 4 (omega arith)) (fits 5 (omega arith)) (fits 6 (omega arith)) (fits 7 (omega arith))

-- The one 1 picks the number that it meets, and no 1 picks none.
pub one_picks : (t : ℕ) (g : ℕ → ℕ) → t < 128 → sum_below 128 (λ i. bit_at (2 ^ t) i * g i) ≡ g t
one_picks t g within =
    let there : bit_at (2 ^ t) t ≡ 1 = bit_at-pow_same t in
    sum_below-one 128 t (λ i. bit_at (2 ^ t) i * g i) within
    (λ i below other. let none : bit_at (2 ^ t) i ≡ 0 = bit_at-pow_other t i other in rw none (omega arith))
    ∙ rw there (omega arith)

pub none_picks : (g : ℕ → ℕ) → sum_below 128 (λ i. bit_at 0 i * g i) ≡ 0
none_picks g = sum_below-zero 128 (λ i. bit_at 0 i * g i) (λ i below. rw (bit_at-zero i) (omega arith))
