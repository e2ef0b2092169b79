-- Vectors as keys: a right verdict refutes.
use Rattle.std.proofs.Common.{◌≡◌, ◌≢◌, ℕ, ◌+◌, ◌*◌, ◌/◌, ◌%◌, ◌<◌, ◌≤◌, ◌==◌, ◌&&◌, nat_lt, refl, sym, ap, ◌∙◌, subst, inl, inr, true, false, Bool, List, [], All, get_or, replicate, length, map, arith, if◌then◌else◌, Some, None, Option}
use Rattle.std.specs.List.{range_with_len}
use Rattle.std.proofs.lemmas.Bool.{eq-eqb, lt-ltb, ltb-true}
use Rattle.std.proofs.lemmas.List.{same_lists, get_or_default, get_or-set_other, length-set, length-replicate}
use Rattle.std.proofs.lemmas.Grind.{get_or-set_at}
use Rattle.std.proofs.lemmas.List.FromFn.{length-map-range_with_len, get_or-map-range_with_len}
use Rattle.std.proofs.lemmas.List.Elements.{All-map}
use Rattle.nf_base.specs.declared.card.Card.{Card}
use Rattle.nf_base.specs.declared.keys.Keys.{Keys}
use Rattle.toeplitz_hash.specs.DefaultKey.{default_key}
use Rattle.toeplitz_hash.specs.Bits.{bit_of}
use Rattle.toeplitz_hash.specs.Packets.{key_at}
use Rattle.toeplitz_hash.proofs.Bytes.{bit_of-lt}
use Rattle.gf2_solve.specs.Sums.{bit, sum_of}
use Rattle.key_rows.specs.declared.place.Object.{Object}
use Rattle.key_rows.specs.Given.{IsKey, MayBeGiven, AreGiven, key_bit, default_bit}
use Rattle.key_rows.specs.Rows.{numbered_bit, bits_of}
use Rattle.key_rows.specs.Systems.{default_bits}
use Rattle.key_rows.specs.Solutions.{key_of}
use Rattle.key_rows.proofs.Added.{length_bits, bit_of_bits}
use Rattle.key_rows.proofs.Bytes.{those_before, bit_of_key, is_key}
use Rattle.certificate_laws.specs.declared.line.Span.{Span}
use Rattle.certificate_laws.specs.Fixed.{fixed_at, with_bit, fixed_before, HasFixed}
use Rattle.certificate_laws.specs.Trees.{Meets, IsAdmissible, IsRefuted}
use Rattle.certificate_laws.specs.Certificates.{counted}
use Rattle.certificate_laws.proofs.Answering.{same_bits, default_at}
use Rattle.certificate_laws.proofs.Listing.{bit_at_port}
use Rattle.certificate_laws.proofs.Leaves.{both_true}
use Rattle.key_certificate.specs.Whole.{AreWhole, LockedIsRefuted, GivenAreRefuted}

-- the keys with a vector's bits
abbrev keys_of : Card → ℕ → List Bool → Keys
keys_of card ports x = record { table = card.table; ports = map (λ port. key_of card.key x port 319) (range_with_len 0 ports) }

back : (b : Bool) (n : ℕ) → n ≡ (if b then 1 else 0) → (n == 1) ≡ b
back true n is = eq-eqb n 1 is
back false n is = ap (λ m. m == 1) is

module _ (card : Card) (ports : ℕ) (x : List Bool) (long : length x ≡ 319 * ports) where
  key_there : (port : ℕ) → port < ports → key_at (keys_of card ports x) port ≡ key_of card.key x port 319
  key_there port within = get_or-map-range_with_len (λ p. key_of card.key x p 319) 0 ports port port [] within (omega arith)

  bit_there : (m : ℕ) → m < 319 * ports → (numbered_bit (keys_of card ports x) m == 1) ≡ bit x m
  bit_there m within =
      let port : m / 319 < ports = omega arith in
      let low : m % 319 < 319 = omega arith in
      let whole : 319 * (m / 319) + m % 319 ≡ m = omega arith in
      let few : 319 ≤ 320 = omega arith in
      back (bit x m) (numbered_bit (keys_of card ports x) m)
      (ap (λ (key : List ℕ). bit_of key (m % 319)) (key_there (m / 319) port)
      ∙ bit_of_key card.key x (m / 319) 319 (m % 319) few
      ∙ those_before x (m / 319) 319 (m % 319) low
      ∙ ap (λ n. if bit x n then 1 else 0) whole)

  same_vector : bits_of ports (keys_of card ports x) ≡ x
  same_vector =
      same_lists (bits_of ports (keys_of card ports x)) x (length_bits ports (keys_of card ports x) ∙ sym long)
      (λ k d below.
      let within : k < 319 * ports = omega (arith, below, length_bits ports (keys_of card ports x)) in
      get_or_default (bits_of ports (keys_of card ports x)) k d false below ∙ bit_of_bits ports (keys_of card ports x) k within ∙ bit_there k within
      ∙ get_or_default x k false d (omega (arith, within, long)))

  may : (objects : List Object) (rows : List (List Bool)) (spans : List Span) → AreWhole ports objects card.table rows spans → IsAdmissible rows spans x → MayBeGiven ports objects card (keys_of card ports x)
  may objects rows spans whole is = record {
    table = refl;
    count = length-map-range_with_len (λ p. key_of card.key x p 319) 0 ports;
    whole = All-map (IsKey card.key) (λ p. key_of card.key x p 319) (range_with_len 0 ports) (λ k d below. is_key card.key x (get_or (range_with_len 0 ports) k d) 319);
    admissible = whole.admissible (keys_of card ports x) (subst (λ (y : List Bool). All (λ row. sum_of row y ≡ false) rows) (sym same_vector) is.sums);
    spreading = whole.spreading (keys_of card ports x) (subst (λ (y : List Bool). All (Meets y) spans) (sym same_vector) is.met);
  }

long_none : (n : ℕ) (x : List Bool) → HasFixed (replicate n None) x → length x ≡ n
long_none n x has = has.long ∙ length-replicate {A = Option Bool} n None

pub locked_is_refuted : LockedIsRefuted
locked_is_refuted ports objects card rows spans whole none = record {
  none = λ x is has. none.none (keys_of card ports x) (may card ports x (long_none (319 * ports) x has) objects rows spans whole is);
}

-- where a bit and those before it that count are fixed to
before_fixed : (counts : ℕ → Bool) (n : ℕ) (x : List Bool) (place : ℕ) (b : Bool) (i : ℕ) → place < n → i < place → counts i ≡ true → fixed_at (with_bit place b (fixed_before counts n x place)) i ≡ Some (bit x i)
before_fixed counts n x place b i within below there =
    get_or-set_other (fixed_before counts n x place) place i (Some b) None (λ same. let no : ⊥ = omega (arith, same, below) in no)
    ∙ get_or-map-range_with_len (λ k. if nat_lt k place && counts k then Some (bit x k) else None) 0 n i i None (omega (arith, within, below)) (omega arith)
    ∙ ap (λ t. if t then Some (bit x i) else None) (both_true (nat_lt i place) (counts i) (lt-ltb i place below) there)

here_fixed : (counts : ℕ → Bool) (n : ℕ) (x : List Bool) (place : ℕ) (b : Bool) → place < n → fixed_at (with_bit place b (fixed_before counts n x place)) place ≡ Some b
here_fixed counts n x place b within =
    get_or-set_at (fixed_before counts n x place) place place (Some b) None refl (omega (arith, within, length-map-range_with_len (λ k. if nat_lt k place && counts k then Some (bit x k) else None) 0 n))

-- whether a bit counts
counted_at : (positions : ℕ → ℕ) (ports m : ℕ) → m < 319 * ports → bit (counted positions ports) m ≡ nat_lt (m % 319) (positions (m / 319))
counted_at positions ports m inside = get_or-map-range_with_len (λ k. nat_lt (k % 319) (positions (k / 319))) 0 (319 * ports) m m false inside (omega arith)

counted_there : (positions : ℕ → ℕ) (ports q j : ℕ) → q < ports → j < 319 → j < positions q → bit (counted positions ports) (319 * q + j) ≡ true
counted_there positions ports q j within low small =
    let inside : 319 * q + j < 319 * ports = omega (arith, within, low) in
    let p : (319 * q + j) / 319 ≡ q = omega (arith, low) in
    let r : (319 * q + j) % 319 ≡ j = omega (arith, low) in
    counted_at positions ports (319 * q + j) inside ∙ ap (λ n. nat_lt n (positions ((319 * q + j) / 319))) r ∙ ap (λ n. nat_lt j (positions n)) p ∙ lt-ltb j (positions q) small

module _ (positions : ℕ → ℕ) (ports : ℕ) (objects : List Object) (card : Card) (rows : List (List Bool)) (spans : List Span) (keys : Keys) (most : (port : ℕ) → positions port ≤ 319)
    (whole : AreWhole ports objects card.table rows spans) (given : AreGiven positions ports objects card keys) where
  abbrev counts : ℕ → Bool
  counts m = bit (counted positions ports) m

  abbrev own : List Bool
  own = bits_of ports keys

  module _ (port i : ℕ) (within : port < ports) (small : i < positions port) (other : bit (bits_of ports keys) (319 * port + i) ≢ bit (default_bits ports) (319 * port + i)) (x : List Bool)
      (is : IsAdmissible rows spans x) (has : HasFixed (with_bit (319 * port + i) (bit (default_bits ports) (319 * port + i)) (fixed_before (bit (counted positions ports)) (319 * ports) (bits_of ports keys) (319 * port + i))) x) where
    low : i < 319
    low = let top = most port in omega (arith, small, top)

    inside : 319 * port + i < 319 * ports
    inside = let less = low in omega (arith, within, less)

    long : length x ≡ 319 * ports
    long =
        has.long ∙ length-set (fixed_before counts (319 * ports) own (319 * port + i)) (319 * port + i) (Some (bit (default_bits ports) (319 * port + i)))
        ∙ length-map-range_with_len (λ k. if nat_lt k (319 * port + i) && counts k then Some (bit own k) else None) 0 (319 * ports)

    abbrev made : Keys
    made = keys_of card ports x

    made_at : (q j : ℕ) → q < ports → j < 319 → (bit_of (key_at (keys_of card ports x) q) j == 1) ≡ bit x (319 * q + j)
    made_at q j there less =
        sym (bit_at_port ports (keys_of card ports x) q j there less) ∙ ap (λ (y : List Bool). bit y (319 * q + j)) (same_vector card ports x long)

    -- bits before this one that count
    earlier : (q j : ℕ) → q < ports → j < positions q → 319 * q + j < 319 * port + i → key_bit keys q j ≡ key_bit (keys_of card ports x) q j
    earlier q j there less before =
        let short : j < 319 = let top = most q in omega (arith, less, top) in
        same_bits (key_bit keys q j) (key_bit (keys_of card ports x) q j) (bit_of-lt (key_at keys q) j) (bit_of-lt (key_at (keys_of card ports x) q) j)
        (sym (bit_at_port ports keys q j there short)
        ∙ sym (has.bits (319 * q + j) (bit own (319 * q + j)) (before_fixed counts (319 * ports) own (319 * port + i) (bit (default_bits ports) (319 * port + i)) (319 * q + j) inside before (counted_there positions ports q j there short less)))
        ∙ sym (made_at q j there short))

    here : key_bit (keys_of card ports x) port i ≡ default_bit card i
    here =
        same_bits (key_bit (keys_of card ports x) port i) (default_bit card i) (bit_of-lt (key_at (keys_of card ports x) port) i) (bit_of-lt (default_key card.key) i)
        (made_at port i within low
        ∙ has.bits (319 * port + i) (bit (default_bits ports) (319 * port + i)) (here_fixed counts (319 * ports) own (319 * port + i) (bit (default_bits ports) (319 * port + i)) inside)
        ∙ default_at ports port i card within low)

    clash : ⊥
    clash = elim (given.nearest port i within small) [
      | inl same ↦ other (bit_at_port ports keys port i within low ∙ ap (λ n. n == 1) same ∙ sym (default_at ports port i card within low))
      | inr out ↦
          out.none (keys_of card ports x) (may card ports x long objects rows spans whole is)
          (record {
            earlier_ports = λ q j before less.
                earlier q j (omega (arith, before, within)) less (let top = most q in omega (arith, before, less, top));
            earlier_bits = λ j before. earlier port j within (omega (arith, before, small)) (omega (arith, before));
          })
          here
    ]

  refuted_at : (m : ℕ) → m < 319 * ports → bit (counted positions ports) m ≡ true → bit (bits_of ports keys) m ≢ bit (default_bits ports) m
      → IsRefuted rows spans (with_bit m (bit (default_bits ports) m) (fixed_before (bit (counted positions ports)) (319 * ports) (bits_of ports keys) m))
  refuted_at m within there other =
      let port : m / 319 < ports = omega arith in
      let small : m % 319 < positions (m / 319) = ltb-true (m % 319) (positions (m / 319)) (sym (counted_at positions ports m within) ∙ there) in
      let is : 319 * (m / 319) + m % 319 ≡ m = omega arith in
      subst (λ (k : ℕ). IsRefuted rows spans (with_bit k (bit (default_bits ports) k) (fixed_before (bit (counted positions ports)) (319 * ports) (bits_of ports keys) k))) is
      (record { none = λ x admissible has. clash (m / 319) (m % 319) port small (subst (λ (k : ℕ). bit (bits_of ports keys) k ≢ bit (default_bits ports) k) (sym is) other) x admissible has })

pub given_are_refuted : GivenAreRefuted
given_are_refuted positions ports objects card rows spans keys most whole given = record { each = λ m within there other. refuted_at positions ports objects card rows spans keys most whole given m within there other }
