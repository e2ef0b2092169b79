-- A hash bit as a sum over the fields and their windows of the key.
use Rattle.std.proofs.Common.{◌≡◌, ℕ, zero, suc, ◌+◌, ◌-◌, ◌*◌, ◌%◌, ◌^◌, ◌<◌, refl, ap, sym, ◌∙◌, subst, List, [], ◌∷◌, length, arith, zero-add, slice_index}
use Rattle.std.specs.Int.{bit_at}
use Rattle.std.proofs.lemmas.Nat.Bits.{bit_at_above}
use Rattle.nf_base.specs.declared.hash_fields.Hashable.TheVariants.{SrcIp, DstIp, SrcPort, DstPort}
use Rattle.toeplitz_hash.specs.Bits.{bit_of}
use Rattle.toeplitz_hash.specs.Toeplitz.{sum_below, hash_bit, hash_of_bits, toeplitz_of}
use Rattle.toeplitz_hash.specs.Laws.{bit_of_hash}
use Rattle.toeplitz_hash.proofs.Sums.{sum_below-same, sum_below-append}
use Rattle.toeplitz_hash.proofs.Numbers.{number_of-same}
use Rattle.toeplitz_hash.proofs.Hashes.{hash_bit-lt}
use Rattle.toeplitz_hash.proofs.Linear.{hashes_have_bits}
use Rattle.key_rows.proofs.Sums.{sum_below-reverse, sum_below-longer}
use Rattle.nf_base.specs.declared.packet.Family.{Family}
use Rattle.nf_base.specs.declared.packet.Family.TheVariants.{Four, Six}
use Rattle.nf_base.specs.declared.packet.Fields.{Fields}
use Rattle.nf_base.specs.Families.{source_in, destination_in}
use Rattle.nf_base.specs.Hashed.{address_width, value}
use Rattle.key_rows.specs.Places.{IsInputOf}
use Rattle.toeplitz_hash.specs.Packets.{input_bytes}
use Rattle.key_rows.specs.Classes.{end, width_at}
use Rattle.key_rows.specs.Rows.{window_bit}
use Rattle.toeplitz_hash.specs.Packets.{address_bits}
use Rattle.toeplitz_hash.specs.Laws.{IsLaidOut}
use Rattle.toeplitz_hash.proofs.InputBits.{inputs_are_laid_out}

-- bit j of the hash of a packet
abbrev pub hashed : List ℕ → Fields → ℕ → ℕ
hashed key p j = hash_bit (8 * length (input_bytes p)) (bit_of key) (bit_of (input_bytes p)) j

pub hashed_bit : (key : List ℕ) (p : Fields) (j : ℕ) → hashed key p j < 2
hashed_bit key p j = hash_bit-lt (8 * length (input_bytes p)) (bit_of key) (bit_of (input_bytes p)) j

-- Hashes are equal where their bits are.
pub from_bits : (key other : List ℕ) (p q : Fields) → ((j : ℕ) → j < 32 → hashed key p j ≡ hashed other q j) → toeplitz_of key (input_bytes p) ≡ toeplitz_of other (input_bytes q)
unfolding toeplitz_of hash_of_bits
from_bits key other p q same = number_of-same 32 (hashed key p) (hashed other q) same

pub to_bits : (key other : List ℕ) (p q : Fields) → toeplitz_of key (input_bytes p) ≡ toeplitz_of other (input_bytes q) → (j : ℕ) → j < 32 → hashed key p j ≡ hashed other q j
to_bits key other p q same j within =
    sym ((hashes_have_bits key (input_bytes p)).bits j within) ∙ ap (λ h. bit_of_hash h j) same ∙ (hashes_have_bits other (input_bytes q)).bits j within

-- what one field, which ends behind a bit, adds to bit j of the hash
abbrev pub part : List ℕ → ℕ → ℕ → ℕ → ℕ
part key end v j = sum_below 128 (λ t. bit_at v t * bit_of key (end + 30 - (t + (31 - j))))

module _ (key input : List ℕ) (start width v j : ℕ) (fits : v < 2 ^ width) (within : j < 32) where
  from_the_left : ((o : ℕ) → o < width → bit_of input (start + o) ≡ bit_at v (width - 1 - o))
      → sum_below width (λ o. bit_of input (start + o) * bit_of key (start + o + j)) ≡ sum_below width (λ o. bit_at v (width - 1 - o) * bit_of key (start + o + j))
  from_the_left laid =
      sum_below-same width (λ o. bit_of input (start + o) * bit_of key (start + o + j)) (λ o. bit_at v (width - 1 - o) * bit_of key (start + o + j))
      (λ o below. ap (λ b. b * bit_of key (start + o + j)) (laid o below))

  from_the_end : sum_below width (λ o. bit_at v (width - 1 - o) * bit_of key (start + o + j)) ≡ sum_below width (λ t. bit_at v t * bit_of key (start + width + 30 - (t + (31 - j))))
  from_the_end =
      sum_below-reverse width (λ o. bit_at v (width - 1 - o) * bit_of key (start + o + j))
      ∙ sum_below-same width (λ t. bit_at v (width - 1 - (width - 1 - t)) * bit_of key (start + (width - 1 - t) + j)) (λ t. bit_at v t * bit_of key (start + width + 30 - (t + (31 - j))))
      (λ t below.
      let same_bit : width - 1 - (width - 1 - t) ≡ t = omega arith in
      let same_place : start + (width - 1 - t) + j ≡ start + width + 30 - (t + (31 - j)) = omega arith in
      ap (λ m. bit_at v m * bit_of key (start + (width - 1 - t) + j)) same_bit ∙ ap (λ m. bit_at v t * bit_of key m) same_place)

  with_zeros : (more : ℕ) → sum_below (width + more) (λ t. bit_at v t * bit_of key (start + width + 30 - (t + (31 - j)))) ≡ sum_below width (λ t. bit_at v t * bit_of key (start + width + 30 - (t + (31 - j))))
  with_zeros more =
      sum_below-longer width more (λ t. bit_at v t * bit_of key (start + width + 30 - (t + (31 - j))))
      (λ t past. let none : bit_at v t ≡ 0 = bit_at_above v width t fits past in rw none (omega arith))

  field_part : (more : ℕ) → width + more ≡ 128 → ((o : ℕ) → o < width → bit_of input (start + o) ≡ bit_at v (width - 1 - o))
      → sum_below width (λ o. bit_of input (start + o) * bit_of key (start + o + j)) ≡ part key (start + width) v j
  field_part more whole laid =
      from_the_left laid ∙ from_the_end ∙ sym (with_zeros more)
      ∙ ap (λ m. sum_below m (λ t. bit_at v t * bit_of key (start + width + 30 - (t + (31 - j))))) whole

of_input : (w : ℕ) (f : ℕ → ℕ) → sum_below (w + w + 16 + 16) f ≡ sum_below w (λ o. f (0 + o)) + sum_below w (λ o. f (w + o)) + sum_below 16 (λ o. f (w + w + o)) + sum_below 16 (λ o. f (w + w + 16 + o))
of_input w f =
    let fourth : sum_below (w + w + 16 + 16) f ≡ sum_below (w + w + 16) f + sum_below 16 (λ o. f (w + w + 16 + o)) = sum_below-append (w + w + 16) 16 f in
    let third : sum_below (w + w + 16) f ≡ sum_below (w + w) f + sum_below 16 (λ o. f (w + w + o)) = sum_below-append (w + w) 16 f in
    let second : sum_below (w + w) f ≡ sum_below w f + sum_below w (λ o. f (w + o)) = sum_below-append w w f in
    let first : sum_below w f ≡ sum_below w (λ o. f (0 + o)) = sum_below-same w f (λ o. f (0 + o)) (λ o below. ap f (sym (zero-add o))) in
    omega (arith, first, second, third, fourth)

-- how many bits an address lacks of the longest
abbrev more : Family → ℕ
more Four = 96
more Six = 0

fills : (f : Family) → address_width f + more f ≡ 128
fills Four = refl
fills Six = refl

same_width : (f : Family) → address_bits f ≡ address_width f
same_width Four = refl
same_width Six = refl

pub laid_of : (f : Family) (p : Fields) → IsInputOf f p → IsLaidOut (address_width f) (input_bytes p) (value p SrcIp) (value p DstIp) p.src_port p.dst_port
laid_of f p fits =
    subst (λ (w : ℕ). IsLaidOut w (input_bytes p) (source_in p.addresses) (destination_in p.addresses) p.src_port p.dst_port) (same_width f)
    (subst (λ (g : Family). IsLaidOut (address_bits g) (input_bytes p) (source_in p.addresses) (destination_in p.addresses) p.src_port p.dst_port)
    fits.of (inputs_are_laid_out p.addresses p.src_port p.dst_port))

pub hash_parts : (f : Family) (key : List ℕ) (p : Fields) (j : ℕ) → IsInputOf f p → j < 32
    → hashed key p j ≡ (part key (end f SrcIp) (value p SrcIp) j + part key (end f DstIp) (value p DstIp) j + part key (end f SrcPort) p.src_port j + part key (end f DstPort) p.dst_port j) % 2
unfolding hash_bit
hash_parts f key p j fits within =
    let w : ℕ = address_width f in
    let input : List ℕ = input_bytes p in
    let laid : IsLaidOut (address_width f) (input_bytes p) (value p SrcIp) (value p DstIp) p.src_port p.dst_port = laid_of f p fits in
    let first = field_part key input 0 w (value p SrcIp) j (fits.within SrcIp) within (more f) (fills f) (λ o below. ap (bit_of input) (zero-add o) ∙ laid.src_ip o below) in
    let at_first : part key (0 + w) (value p SrcIp) j ≡ part key (end f SrcIp) (value p SrcIp) j = ap (λ m. part key m (value p SrcIp) j) (zero-add w) in
    let second = field_part key input w w (value p DstIp) j (fits.within DstIp) within (more f) (fills f) laid.dst_ip in
    let third = field_part key input (w + w) 16 p.src_port j (fits.within SrcPort) within 112 refl laid.src_port in
    let fourth = field_part key input (w + w + 16) 16 p.dst_port j (fits.within DstPort) within 112 refl laid.dst_port in
    let count = ap (λ m. sum_below m (λ i. bit_of input i * bit_of key (i + j))) laid.bits in
    let all = of_input w (λ i. bit_of input i * bit_of key (i + j)) in
    omega (arith, count, all, first, at_first, second, third, fourth)

-- the values of the eight fields of two inputs
abbrev pub value_at : Fields → Fields → ℕ → ℕ
value_at p q n = slice_index (value p SrcIp ∷ value p DstIp ∷ value p SrcPort ∷ value p DstPort ∷ value q SrcIp ∷ value q DstIp ∷ value q SrcPort ∷ value q DstPort ∷ []) n

pub value_fits : (f g : Family) (p q : Fields) → IsInputOf f p → IsInputOf g q → (n : ℕ) → n < 8 → value_at p q n < 2 ^ width_at f g n
value_fits f g p q first second zero below = first.within SrcIp
value_fits f g p q first second (suc zero) below = first.within DstIp
value_fits f g p q first second (suc (suc zero)) below = first.within SrcPort
value_fits f g p q first second (suc (suc (suc zero))) below = first.within DstPort
value_fits f g p q first second (suc (suc (suc (suc zero)))) below = second.within SrcIp
value_fits f g p q first second (suc (suc (suc (suc (suc zero))))) below = second.within DstIp
value_fits f g p q first second (suc (suc (suc (suc (suc (suc zero)))))) below = second.within SrcPort
value_fits f g p q first second (suc (suc (suc (suc (suc (suc (suc zero))))))) below = second.within DstPort
value_fits f g p q first second (suc (suc (suc (suc (suc (suc (suc (suc n)))))))) below = absurd (omega arith)

-- all eight fields' bits, each times the key's bit that it meets
abbrev pub total : Family → Family → List ℕ → List ℕ → Fields → Fields → ℕ → ℕ
total f g key other p q j = sum_below 8 (λ n. sum_below 128 (λ t. bit_at (value_at p q n) t * window_bit f g key other n (t + (31 - j))))

sum_below_8 : (f : ℕ → ℕ) → sum_below 8 f ≡ 0 + f 0 + f 1 + f 2 + f 3 + f 4 + f 5 + f 6 + f 7
unfolding sum_below
sum_below_8 f = refl

pub hash_total : (f g : Family) (key other : List ℕ) (p q : Fields) (j : ℕ) → IsInputOf f p → IsInputOf g q → j < 32 → (hashed key p j + hashed other q j) % 2 ≡ total f g key other p q j % 2
hash_total f g key other p q j fits fits_too within =
    let all : total f g key other p q j ≡ 0 + part key (end f SrcIp) (value p SrcIp) j + part key (end f DstIp) (value p DstIp) j + part key (end f SrcPort) p.src_port j + part key (end f DstPort) p.dst_port j + part other (end g SrcIp) (value q SrcIp) j + part other (end g DstIp) (value q DstIp) j + part other (end g SrcPort) q.src_port j + part other (end g DstPort) q.dst_port j =
    sum_below_8 (λ n. sum_below 128 (λ t. bit_at (value_at p q n) t * window_bit f g key other n (t + (31 - j)))) in
    let left = hash_parts f key p j fits within in
    let right = hash_parts g other q j fits_too within in
    omega (arith, all, left, right)
