-- From a nearest solution to the given keys.
use Rattle.std.proofs.Common.{◌≡◌, ◌↔◌, ◌⊎◌, ℕ, zero, suc, ◌+◌, ◌-◌, ◌*◌, ◌/◌, ◌%◌, ◌<◌, ◌≤◌, ◌==◌, ◌||◌, Bool, true, false, refl, ap, sym, ◌∙◌, List, [], ◌∷◌, All, arith, length, map, get_or, subst, inl, inr, nat_lt, if◌then◌else◌, Option, Some, None, Result, Ok, Err, IfOk}
use Rattle.std.specs.declared.alloc.AllocError.{AllocError}
use Rattle.std.specs.List.{range_with_len, list_all}
use Rattle.std.proofs.lemmas.Bool.{eqb-true, eq-eqb, cases_eq, cases_lt, cases_Bool, and_parts, ltb-true, false≢true}
use Rattle.std.proofs.lemmas.List.{get_or_past, get_or_default, same_lists}
use Rattle.std.proofs.lemmas.List.FromFn.{length-map-range_with_len, get_or-map-range_with_len}
use Rattle.std.proofs.lemmas.List.Elements.{All-nil, All-cons, All-map}
use Rattle.std.proofs.lemmas.Nat.Bits.{bit_at-zero}
use Rattle.nf_base.specs.declared.card.Card.{Card}
use Rattle.nf_base.specs.declared.card.KeySize.{KeySize}
use Rattle.nf_base.specs.declared.card.TableSize.{TableSize}
use Rattle.nf_base.specs.declared.card.KeySize.TheVariants.{Bytes40, Bytes52}
use Rattle.nf_base.specs.Cards.{index_bits}
use Rattle.nf_base.specs.declared.keys.Keys.{Keys}
use Rattle.nf_base.specs.declared.packet.Family.{Family}
use Rattle.nf_base.specs.declared.packet.Family.TheVariants.{Four, Six}
use Rattle.nf_base.specs.Doors.{six_at}
use Rattle.toeplitz_hash.specs.declared.key.TheConstants.{DEFAULT_KEY}
use Rattle.toeplitz_hash.specs.DefaultKey.{default_key}
use Rattle.toeplitz_hash.proofs.Defaults.{default_keys_agree}
use Rattle.toeplitz_hash.specs.Bits.{bit_of}
use Rattle.toeplitz_hash.specs.Packets as met
use Rattle.toeplitz_hash.specs.Packets.{key_at}
use Rattle.toeplitz_hash.proofs.Bytes.{bit_of-lt}
use Rattle.gf2_solve.specs.Sums.{bit}
use Rattle.gf2_solve.specs.Solutions.{IsAdmissible, AgreeBelow, IsAnswer}
use Rattle.gf2_solve.specs.Kept.{Kept, Answers}
use Rattle.key_rows.specs.declared.place.Place.{Place}
use Rattle.key_rows.specs.declared.place.Object.{Object}
use Rattle.key_rows.specs.Places.{Agree, AreAdmissibleForAll}
use Rattle.key_rows.specs.Keyed.{is_keyed, is_keyed_for}
use Rattle.key_rows.specs.Spread.{Spreads}
use Rattle.key_rows.specs.Given as given
use Rattle.key_rows.specs.Positions.{positions_at, AreWithin, AreCut}
use Rattle.key_rows.specs.Given.{IsKey, AreSpreading, MayBeGiven, default_bit, key_bit, AgreeBefore, AreGiven, NoneMayBeGiven, AreAnswer}
use Rattle.key_rows.specs.Rows.{numbered_bit, bits_of}
use Rattle.key_rows.specs.Systems.{AreEquationsOf, AreGroupsOf, default_bits}
use Rattle.key_rows.specs.Solutions.{solution_bit, key_of, given_key, IsNearestFor, IsSolved}
use Rattle.key_rows.proofs.Added.{length_bits, bit_of_bits}
use Rattle.key_rows.proofs.Cutting.{cut_keys_are_given}
use Rattle.key_rows.proofs.Bytes.{none_behind, those_before, bit_of_key, is_key}
use Rattle.key_rows.proofs.Grouped.{keyed_at, keyed_for_keyed, keyed_some, IsKeyedPast}

module _ (ports : ℕ) (objects : List Object) (card : Card) (system : Kept) (groups : List (List Bool)) (equations : AreEquationsOf ports objects system) (are : AreGroupsOf ports objects card.table groups) where
  both : (keys : Keys) → IsAdmissible (319 * ports) equations.over.rows groups (bits_of ports keys) ↔ (AreAdmissibleForAll keys objects × AreSpreading card.table objects keys)
  both keys = (
    λ admissible. ((equations.exact keys).0 (equations.over.stands.complete (bits_of ports keys) admissible.solution), (are.exact keys).0 admissible.met),
    λ parts. record { solution = equations.over.stands.sound (bits_of ports keys) ((equations.exact keys).1 parts.0); met = (are.exact keys).1 parts.1 },
  )

  of_answer : (answer : Option (List Bool)) → IsAnswer (319 * ports) equations.over.rows groups (default_bits ports) answer → IsSolved ports objects card answer
  of_answer None none = record { none = λ keys may. none.none (bits_of ports keys) ((both keys).1 (may.admissible, may.spreading)) }
  of_answer (Some x) nearest = record { rows = equations.over.rows; groups = groups; nearest = nearest; exact = both }

-- what the solver answers, over keys
pub solved : (ports : ℕ) (objects : List Object) (card : Card) (system : Kept) (groups : List (List Bool)) (wanted : List Bool) (answer : Option (List Bool)) → AreEquationsOf ports objects system → AreGroupsOf ports objects card.table groups
    → wanted ≡ default_bits ports → Answers system groups wanted answer → IsSolved ports objects card answer
solved ports objects card system groups wanted answer equations are is answers =
    of_answer ports objects card system groups equations are answer
    (subst (λ (w : List Bool). IsAnswer (319 * ports) equations.over.rows groups w answer) is (answers.is (319 * ports) equations.over.rows equations.over.stands))

-- a bit as a number, and back
back : (b : Bool) (n : ℕ) → n ≡ (if b then 1 else 0) → (n == 1) ≡ b
back true n is = eq-eqb n 1 is
back false n is = ap (λ m. m == 1) is

same_bits : (a b : ℕ) → a < 2 → b < 2 → (a == 1) ≡ (b == 1) → a ≡ b
same_bits a b first second same =
    elim (cases_eq b 1) [
      | inl one ↦ eqb-true a 1 (same ∙ eq-eqb b 1 one) ∙ sym one
      | inr other ↦
          elim (cases_eq a 1) [
            | inl one ↦ absurd (other (eqb-true b 1 (sym same ∙ eq-eqb a 1 one)))
            | inr neither ↦ omega arith
          ]
    ]

-- the keys of some ports, each by its number
abbrev keys_by : TableSize → ℕ → (ℕ → List ℕ) → Keys
keys_by size ports key = record { table = size; ports = map key (range_with_len 0 ports) }

key_by : (size : TableSize) (ports : ℕ) (key : ℕ → List ℕ) (port : ℕ) → port < ports → key_at (keys_by size ports key) port ≡ key port
key_by size ports key port within = get_or-map-range_with_len key 0 ports port port [] within (omega arith)

past_by : (size : TableSize) (ports : ℕ) (key other : ℕ → List ℕ) (port : ℕ) → ports ≤ port → key_at (keys_by size ports key) port ≡ key_at (keys_by size ports other) port
past_by size ports key other port past =
    get_or_past (map key (range_with_len 0 ports)) port [] (omega (arith, length-map-range_with_len key 0 ports))
    ∙ sym (get_or_past (map other (range_with_len 0 ports)) port [] (omega (arith, length-map-range_with_len other 0 ports)))

-- Keys with the same keys of keyed ports are admissible alike, and spread alike.
keep_admissible : (objects : List Object) (keys other : Keys) → ((port : ℕ) → is_keyed objects port ≡ true → key_at keys port ≡ key_at other port) → AreAdmissibleForAll keys objects → AreAdmissibleForAll other objects
keep_admissible objects keys other same admissible i o within j p inside k q inside_too =
    let first : Place = get_or (get_or objects i o).places j p in
    let second : Place = get_or (get_or objects i o).places k q in
    subst (λ (key : List ℕ). Agree first.family second.family first.known second.known key (key_at other second.port)) (same first.port (keyed_at objects i j o p within inside))
    (subst (λ (key : List ℕ). Agree first.family second.family first.known second.known (key_at keys first.port) key) (same second.port (keyed_at objects i k o q within inside_too))
    (admissible i o within j p inside k q inside_too))

keep_spreading : (size : TableSize) (objects : List Object) (keys other : Keys) → ((port : ℕ) → is_keyed objects port ≡ true → key_at keys port ≡ key_at other port) → AreSpreading size objects keys → AreSpreading size objects other
keep_spreading size objects keys other same spreading = record { each = λ port family keyed. subst (Spreads family (index_bits size)) (same port (keyed_for_keyed objects family port keyed)) (spreading.each port family keyed) }

small_bytes : (bytes : List ℕ) → list_all (λ b. nat_lt b 256) bytes ≡ true → All (λ b. b < 256) bytes
small_bytes [] all = All-nil (λ b. b < 256)
small_bytes (b ∷ bytes) all =
    let parts = and_parts (nat_lt b 256) (list_all (λ c. nat_lt c 256) bytes) all in
    All-cons (λ c. c < 256) b bytes (ltb-true b 256 parts.0) (small_bytes bytes parts.1)

default_is_key : (size : KeySize) → IsKey size (default_key size)
default_is_key Bytes40 = record { long = refl; bytes = small_bytes (default_key Bytes40) refl }
default_is_key Bytes52 = record { long = refl; bytes = small_bytes (default_key Bytes52) refl }

module _ (ports : ℕ) (objects : List Object) (card : Card) (x : List Bool) (near : IsNearestFor ports objects card.table x) where
  -- the whole keys with a solution's bits, and the same with the default key where a port isn't keyed
  abbrev whole_key : ℕ → List ℕ
  whole_key port = key_of card.key x port 319

  abbrev wide_key : ℕ → List ℕ
  wide_key port = given_key card.key (λ q. 319) objects x port

  abbrev all_keys : Keys
  all_keys = keys_by card.table ports whole_key

  abbrev the_keys : Keys
  the_keys = keys_by card.table ports wide_key

  keyed_key : (positions : ℕ → ℕ) (port : ℕ) → is_keyed objects port ≡ true → given_key card.key positions objects x port ≡ key_of card.key x port (positions port)
  keyed_key positions port keyed = ap (λ t. if t then key_of card.key x port (positions port) else default_key card.key) keyed

  other_key : (positions : ℕ → ℕ) (port : ℕ) → is_keyed objects port ≡ false → given_key card.key positions objects x port ≡ default_key card.key
  other_key positions port unkeyed = ap (λ t. if t then key_of card.key x port (positions port) else default_key card.key) unkeyed

  same_keyed : (port : ℕ) → is_keyed objects port ≡ true → key_at all_keys port ≡ key_at the_keys port
  same_keyed port keyed =
      elim (cases_lt port ports) [
        | inl within ↦ key_by card.table ports whole_key port within ∙ sym (keyed_key (λ q. 319) port keyed) ∙ sym (key_by card.table ports wide_key port within)
        | inr past ↦ past_by card.table ports whole_key wide_key port past
      ]

  -- a solution's bit, in the key that has its bits
  bit_there : (m : ℕ) → m < 319 * ports → (numbered_bit all_keys m == 1) ≡ bit x m
  bit_there m within =
      let port : m / 319 < ports = omega arith in
      let low : m % 319 < 319 = omega arith in
      let whole : 319 * (m / 319) + m % 319 ≡ m = omega arith in
      back (bit x m) (numbered_bit all_keys m)
      (ap (λ (key : List ℕ). bit_of key (m % 319)) (key_by card.table ports whole_key (m / 319) port)
      ∙ bit_of_key card.key x (m / 319) 319 (m % 319) (omega arith)
      ∙ those_before x (m / 319) 319 (m % 319) low
      ∙ ap (λ n. if bit x n then 1 else 0) whole)

  long_x : length x ≡ 319 * ports
  long_x = near.nearest.admissible.solution.length

  all_bits : bits_of ports all_keys ≡ x
  all_bits =
      same_lists (bits_of ports all_keys) x (length_bits ports all_keys ∙ sym long_x)
      (λ k d below.
      let within : k < 319 * ports = omega (arith, length_bits ports all_keys) in
      get_or_default (bits_of ports all_keys) k d false below ∙ bit_of_bits ports all_keys k within ∙ bit_there k within
      ∙ get_or_default x k false d (omega (arith, long_x)))

  facts : AreAdmissibleForAll all_keys objects × AreSpreading card.table objects all_keys
  facts = (near.exact all_keys).0 (subst (IsAdmissible (319 * ports) near.rows near.groups) (sym all_bits) near.nearest.admissible)

  admissible_ : AreAdmissibleForAll the_keys objects
  admissible_ = keep_admissible objects all_keys the_keys same_keyed facts.0

  spreading_ : AreSpreading card.table objects the_keys
  spreading_ = keep_spreading card.table objects all_keys the_keys same_keyed facts.1

  wanted_bit : (m : ℕ) → m < 319 * ports → bit (default_bits ports) m ≡ (bit_of DEFAULT_KEY (m % 319) == 1)
  wanted_bit m within = get_or-map-range_with_len (λ k. bit_of DEFAULT_KEY (k % 319) == 1) 0 (319 * ports) m m false within (omega arith)

  -- The given keys have the solution's bits, at ports that are not keyed too.
  agree : (m : ℕ) → m ≤ 319 * ports → AgreeBelow m x (bits_of ports the_keys)
  agree zero within = record { bits = λ j below. absurd (omega arith) }
  agree (suc m) within =
      let earlier : AgreeBelow m x (bits_of ports the_keys) = agree m (omega arith) in
      let inside : m < 319 * ports = omega arith in
      let here : bit x m ≡ bit (bits_of ports the_keys) m = one m inside earlier in
      record {
        bits = λ j below.
            elim (cases_eq j m) [
              | inl same ↦ ap (bit x) same ∙ here ∙ sym (ap (bit (bits_of ports the_keys)) same)
              | inr other ↦ earlier.bits j (omega arith)
            ];
      }
    where
      one : (n : ℕ) → n < 319 * ports → AgreeBelow n x (bits_of ports the_keys) → bit x n ≡ bit (bits_of ports the_keys) n
      one n inside earlier =
          let port : n / 319 < ports = omega arith in
          elim (cases_Bool (is_keyed objects (n / 319))) [
            | inl keyed ↦
                sym (bit_there n inside)
                ∙ ap (λ (key : List ℕ). bit_of key (n % 319) == 1) (same_keyed (n / 319) keyed)
                ∙ sym (bit_of_bits ports the_keys n inside)
            | inr unkeyed ↦
                let default : bit (bits_of ports the_keys) n ≡ bit (default_bits ports) n =
                bit_of_bits ports the_keys n inside
                ∙ ap (λ (key : List ℕ). bit_of key (n % 319) == 1) (key_by card.table ports wide_key (n / 319) port ∙ other_key (λ q. 319) (n / 319) unkeyed)
                ∙ ap (λ (b : ℕ). b == 1) (default_keys_agree card.key (n % 319) (omega arith))
                ∙ sym (wanted_bit n inside) in
                elim (near.nearest.nearest n inside) [
                  | inl wanted ↦ wanted ∙ sym default
                  | inr out ↦ absurd (out.none (bits_of ports the_keys) ((near.exact the_keys).1 (admissible_, spreading_)) earlier default)
                ]
          ]

  x_bit : (port i : ℕ) → port < ports → i < 319 → bit x (319 * port + i) ≡ (key_bit the_keys port i == 1)
  x_bit port i within low =
      let inside : 319 * port + i < 319 * ports = omega arith in
      let p : (319 * port + i) / 319 ≡ port = omega arith in
      let q : (319 * port + i) % 319 ≡ i = omega arith in
      (agree (319 * ports) (omega arith)).bits (319 * port + i) inside
      ∙ bit_of_bits ports the_keys (319 * port + i) inside
      ∙ ap (λ n. bit_of (key_at the_keys n) ((319 * port + i) % 319) == 1) p
      ∙ ap (λ n. bit_of (key_at the_keys port) n == 1) q

  default_at : (port i : ℕ) → port < ports → i < 319 → bit (default_bits ports) (319 * port + i) ≡ (default_bit card i == 1)
  default_at port i within low =
      let inside : 319 * port + i < 319 * ports = omega arith in
      let q : (319 * port + i) % 319 ≡ i = omega arith in
      wanted_bit (319 * port + i) inside ∙ ap (λ n. bit_of DEFAULT_KEY n == 1) q ∙ ap (λ (b : ℕ). b == 1) (sym (default_keys_agree card.key i (omega arith)))

  other_bit : (other : Keys) (port i : ℕ) → port < ports → i < 319 → bit (bits_of ports other) (319 * port + i) ≡ (key_bit other port i == 1)
  other_bit other port i within low =
      let inside : 319 * port + i < 319 * ports = omega arith in
      let p : (319 * port + i) / 319 ≡ port = omega arith in
      let q : (319 * port + i) % 319 ≡ i = omega arith in
      bit_of_bits ports other (319 * port + i) inside
      ∙ ap (λ n. bit_of (key_at other n) ((319 * port + i) % 319) == 1) p
      ∙ ap (λ n. bit_of (key_at other port) n == 1) q

  -- keys that agree on all earlier bits, as vectors
  earlier_bits : (other : Keys) (port i : ℕ) → port < ports → i < 319 → AgreeBefore (λ q. 319) port i the_keys other → AgreeBelow (319 * port + i) x (bits_of ports other)
  earlier_bits other port i within low before = record {
    bits = λ j below.
        let inside : j < 319 * ports = omega arith in
        let q : ℕ = j / 319 in
        let whole : 319 * (j / 319) + j % 319 ≡ j = omega arith in
        let port_there : j / 319 < ports = omega arith in
        let bit_small : j % 319 < 319 = omega arith in
        let same : key_bit the_keys (j / 319) (j % 319) ≡ key_bit other (j / 319) (j % 319) =
        elim (cases_lt (j / 319) port) [
          | inl earlier ↦ before.earlier_ports (j / 319) (j % 319) earlier bit_small
          | inr late ↦
              let last : j / 319 ≡ port = omega arith in
              let small : j % 319 < i = omega arith in
              ap (λ n. key_bit the_keys n (j % 319)) last ∙ before.earlier_bits (j % 319) small ∙ sym (ap (λ n. key_bit other n (j % 319)) last)
        ] in
        ap (bit x) (sym whole) ∙ x_bit (j / 319) (j % 319) port_there bit_small ∙ ap (λ b. b == 1) same ∙ sym (other_bit other (j / 319) (j % 319) port_there bit_small) ∙ ap (bit (bits_of ports other)) whole;
  }

  nearest_ : (port i : ℕ) → port < ports → i < 319 → (key_bit the_keys port i ≡ default_bit card i) ⊎ given.IsOutOfReach (λ q. 319) ports objects card the_keys port i
  nearest_ port i within low =
      let inside : 319 * port + i < 319 * ports = omega arith in
      elim (near.nearest.nearest (319 * port + i) inside) [
        | inl wanted ↦
            inl (same_bits (key_bit the_keys port i) (default_bit card i) (bit_of-lt (key_at the_keys port) i) (bit_of-lt (default_key card.key) i)
            (sym (x_bit port i within low) ∙ wanted ∙ default_at port i within low))
        | inr out ↦
            inr (record {
              none = λ other may before same.
                  out.none (bits_of ports other) ((near.exact other).1 (may.admissible, may.spreading)) (earlier_bits other port i within low before)
                  (other_bit other port i within low ∙ ap (λ b. b == 1) same ∙ sym (default_at port i within low));
            })
      ]

  each_key : (positions : ℕ → ℕ) (port : ℕ) → IsKey card.key (given_key card.key positions objects x port)
  each_key positions port = of_test (is_keyed objects port)
    where
      of_test : (t : Bool) → IsKey card.key (if t then key_of card.key x port (positions port) else default_key card.key)
      of_test true = is_key card.key x port (positions port)
      of_test false = default_is_key card.key

  all_whole : (positions : ℕ → ℕ) → All (IsKey card.key) (map (given_key card.key positions objects x) (range_with_len 0 ports))
  all_whole positions = All-map (IsKey card.key) (given_key card.key positions objects x) (range_with_len 0 ports) (λ k d below. each_key positions (get_or (range_with_len 0 ports) k d))

  -- a bit of the key of a keyed port
  keyed_bit : (positions : ℕ → ℕ) (port i : ℕ) → positions port ≤ 319 → port < ports → is_keyed objects port ≡ true → key_bit (keys_by card.table ports (given_key card.key positions objects x)) port i ≡ solution_bit x port (positions port) i
  keyed_bit positions port i most within keyed =
      ap (λ (key : List ℕ). bit_of key i) (key_by card.table ports (given_key card.key positions objects x) port within ∙ keyed_key positions port keyed)
      ∙ bit_of_key card.key x port (positions port) i (omega (arith, most))

  past_bit : (positions : ℕ → ℕ) (port i : ℕ) → positions port ≤ 319 → port < ports → is_keyed objects port ≡ true → positions port ≤ i → key_bit (keys_by card.table ports (given_key card.key positions objects x)) port i ≡ 0
  past_bit positions port i most within keyed high = keyed_bit positions port i most within keyed ∙ none_behind x port (positions port) i high

  unkeyed_key : (positions : ℕ → ℕ) (port : ℕ) → port < ports → is_keyed objects port ≡ false → key_at (keys_by card.table ports (given_key card.key positions objects x)) port ≡ default_key card.key
  unkeyed_key positions port within unkeyed = key_by card.table ports (given_key card.key positions objects x) port within ∙ other_key positions port unkeyed

  -- The whole keys are nearest in 319 bits each.
  wide_keys : AreGiven (λ q. 319) ports objects card the_keys
  wide_keys = record {
    may = record {
      table = refl;
      count = length-map-range_with_len wide_key 0 ports;
      whole = all_whole (λ q. 319);
      admissible = admissible_;
      spreading = spreading_;
    };
    nearest = nearest_;
    past = λ port i within keyed high. past_bit (λ q. 319) port i (omega arith) within keyed high;
    unkeyed = unkeyed_key (λ q. 319);
  }

  -- The keys up to each port's positions are the whole ones, cut.
  are_cut : (positions : ℕ → ℕ) → ((port : ℕ) → positions port ≤ 319) → AreCut positions ports objects card the_keys (keys_by card.table ports (given_key card.key positions objects x))
  are_cut positions most = record {
    table = refl;
    count = length-map-range_with_len (given_key card.key positions objects x) 0 ports;
    whole = all_whole positions;
    same = λ port i within low.
        elim (cases_Bool (is_keyed objects port)) [
          | inl keyed ↦
              keyed_bit positions port i (most port) within keyed
              ∙ those_before x port (positions port) i low
              ∙ sym (those_before x port 319 i (omega (arith, low, most port)))
              ∙ sym (keyed_bit (λ q. 319) port i (omega arith) within keyed)
          | inr unkeyed ↦ ap (λ (key : List ℕ). bit_of key i) (unkeyed_key positions port within unkeyed ∙ sym (unkeyed_key (λ q. 319) port within unkeyed))
        ];
    past = λ port i within keyed high. past_bit positions port i (most port) within keyed high;
    unkeyed = unkeyed_key positions;
  }

-- what counts at each port reaches as far as its inputs do
positions_within : (six : List Bool) (objects : List Object) → AreWithin (positions_at six objects) objects
positions_within six objects = record {
  least = λ port family keyed. reach (six_at six port) (is_keyed_for objects Six port) family (λ is. ap (λ (g : Family). is_keyed_for objects g port) (sym is) ∙ keyed);
  most = λ port. at_most (six_at six port || is_keyed_for objects Six port);
}
  where
    reach : (has keyed : Bool) (family : Family) → (family ≡ Six → keyed ≡ true) → met.positions family ≤ (if has || keyed then met.positions Six else met.positions Four)
    reach true keyed Four is = omega arith
    reach true keyed Six is = omega arith
    reach false true Four is = omega arith
    reach false true Six is = omega arith
    reach false false Four is = omega arith
    reach false false Six is = absurd (false≢true (is refl))

    at_most : (t : Bool) → (if t then met.positions Six else met.positions Four) ≤ 319
    at_most true = omega arith
    at_most false = omega arith

-- The keys of the nearest solution are the given ones.
pub given_from : (six : List Bool) (ports : ℕ) (objects : List Object) (card : Card) (x : List Bool) (keys : List (List ℕ)) → IsNearestFor ports objects card.table x → keys ≡ map (given_key card.key (positions_at six objects) objects x) (range_with_len 0 ports)
    → AreGiven (positions_at six objects) ports objects card (record { table = card.table; ports = keys })
given_from six ports objects card x keys near is =
    let within : AreWithin (positions_at six objects) objects = positions_within six objects in
    subst (λ (l : List (List ℕ)). AreGiven (positions_at six objects) ports objects card (record { table = card.table; ports = l })) (sym is)
    (cut_keys_are_given (positions_at six objects) ports objects card (the_keys ports objects card x near) (keys_by card.table ports (given_key card.key (positions_at six objects) objects x)) within (wide_keys ports objects card x near)
    (are_cut ports objects card x near (positions_at six objects) within.most))

-- how many bits a nearest solution has
pub long_nearest : (ports : ℕ) (objects : List Object) (size : TableSize) (x : List Bool) → IsNearestFor ports objects size x → length x ≡ 319 * ports
long_nearest ports objects size x near = near.nearest.admissible.solution.length

no_bit : (i : ℕ) → bit_of [] i ≡ 0
unfolding bit_of
no_bit i = bit_at-zero (7 - i % 8)

-- Where a port past the last one is keyed no keys spread.
pub none_past : (ports : ℕ) (objects : List Object) (card : Card) → IsKeyedPast objects ports → NoneMayBeGiven ports objects card
none_past ports objects card past = record {
  none = λ keys may.
      let found = keyed_some objects past.port past.keyed in
      let spreads : Spreads found.0 (index_bits card.table) (key_at keys past.port) = may.spreading.each past.port found.0 found.1 in
      let none : key_at keys past.port ≡ [] = get_or_past keys.ports past.port [] (omega (arith, may.count, past.past)) in
      let zero_ : bit_of (key_at keys past.port) spreads.bit ≡ 0 = ap (λ (key : List ℕ). bit_of key spreads.bit) none ∙ no_bit spreads.bit in
      omega (arith, zero_, spreads.one);
}

pub solved_if : (ports : ℕ) (objects : List Object) (card : Card) (system : Kept) (groups : List (List Bool)) (wanted : List Bool) (result : Result (Option (List Bool)) AllocError) → AreEquationsOf ports objects system → AreGroupsOf ports objects card.table groups
    → wanted ≡ default_bits ports → IfOk result (Answers system groups wanted) → IfOk result (IsSolved ports objects card)
solved_if ports objects card system groups wanted (Ok answer) equations are is answers = solved ports objects card system groups wanted answer equations are is answers
solved_if ports objects card system groups wanted (Err e) equations are is answers = tt
