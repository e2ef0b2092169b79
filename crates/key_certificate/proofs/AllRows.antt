-- Where all rows sum to 0, keys are admissible.
use Rattle.std.proofs.Common.{◌≡◌, ◌≢◌, ◌⊎◌, ℕ, zero, suc, ◌+◌, ◌-◌, ◌%◌, ◌<◌, ◌≤◌, ◌==◌, ◌&&◌, ◌||◌, nat_lt, not, refl, sym, ap, ◌∙◌, subst, inl, inr, true, false, Bool, List, All, Contains, get_or, length, map, slice_get, Some, None, if◌then◌else◌, arith}
use Rattle.std.specs.Option.{option_map}
use Rattle.std.proofs.lemmas.List.{length-map}
use Rattle.std.proofs.lemmas.Bool.{false≢true, cases_eq, cases_lt, cases_Bool, eq-eqb, ne_eqb, eqb-true, lt-ltb, le-ltb, le-leb}
use Rattle.nf_base.specs.declared.keys.Keys.{Keys}
use Rattle.nf_base.specs.declared.packet.Family.{Family}
use Rattle.nf_base.specs.Text.{Function}
use Rattle.nf_sites.proofs.Lists.{to_map}
use Rattle.nf_base.specs.declared.packet.Fields.{Fields}
use Rattle.nf_base.specs.declared.hash_fields.Hashable.{Hashable}
use Rattle.nf_base.specs.Hashed.{address_width, value}
use Rattle.toeplitz_hash.specs.Packets.{key_at}
use Rattle.toeplitz_hash.proofs.Sums.{sum_below-zero}
use Rattle.gf2_solve.specs.Sums.{sum_of}
use Rattle.key_rows.specs.declared.place.Place.{Place}
use Rattle.key_rows.specs.declared.place.Object.{Object}
use Rattle.key_rows.specs.Places.{AgreeAt, AreAdmissibleForAll}
use Rattle.key_rows.specs.Keyed.{AreAtPorts}
use Rattle.key_rows.specs.Classes.{width_at, end_at}
use Rattle.key_rows.specs.Rows.{IsWithin, Rows, window_bit, class_sum, bits_of, is_odd}
use Rattle.key_rows.proofs.Sums.{at_other}
use Rattle.key_rows.proofs.Inputs.{width_some}
use Rattle.key_rows.proofs.Rowed.{ends_wide}
use Rattle.key_rows.proofs.Paired.{places_agree_in_either_order}
use Rattle.key_rows.proofs.Theorem.{rows_say_all_inputs}
use Rattle.shard_rules.specs.Served.{own_plan}
use Rattle.certificate_laws.specs.declared.line.Named.{Named}
use Rattle.certificate_laws.specs.declared.line.Side.{Side}
use Rattle.certificate_laws.specs.declared.line.Side.TheVariants.{First, Second}
use Rattle.certificate_laws.specs.Certificates.{numbers_below}
use Rattle.certificate_laws.specs.Terms.{row_at, rows_at}
use Rattle.certificate_laws.proofs.Leaves.{both_true}
use Rattle.certificate_laws.proofs.Listing.{numbers_sum}
use Rattle.certificate_text.specs.Words.{and_then}
use Rattle.key_proof.specs.declared.numbered.Numbered.{Numbered}
use Rattle.key_proof.specs.Rows.{field_in, field_of, class_at, is_least, is_longer, are_longer, row_behind, row_between, are_tied, row_if, row_of}
use Rattle.key_proof.specs.Sites.{numbered_sites}
use Rattle.key_proof.proofs.Ranges.{all_good}
use Rattle.key_certificate.specs.Rows.{HasAllRows, IsPlaced, IsNumbered, AreNumbered}

-- ---- the field of a bit

first_field : (f g : Family) (n t : ℕ) → n < 4 → t < width_at f g n → field_in f (end_at f g n - 1 - t) ≡ Some n
first_field f g zero t below less =
    ap (λ b. if b then Some 0 else if nat_lt (address_width f - 1 - t) (address_width f + address_width f) then Some 1 else if nat_lt (address_width f - 1 - t) (address_width f + address_width f + 16) then Some 2 else if nat_lt (address_width f - 1 - t) (address_width f + address_width f + 16 + 16) then Some 3 else None)
    (lt-ltb (address_width f - 1 - t) (address_width f) (omega (arith, less)))
first_field f g (suc zero) t below less =
    let i : ℕ = address_width f + address_width f - 1 - t in
    ap (λ b. if b then Some 0 else if nat_lt i (address_width f + address_width f) then Some 1 else if nat_lt i (address_width f + address_width f + 16) then Some 2 else if nat_lt i (address_width f + address_width f + 16 + 16) then Some 3 else None)
    (le-ltb i (address_width f) (omega (arith, less)))
    ∙ ap (λ b. if b then Some 1 else if nat_lt i (address_width f + address_width f + 16) then Some 2 else if nat_lt i (address_width f + address_width f + 16 + 16) then Some 3 else None)
    (lt-ltb i (address_width f + address_width f) (omega (arith, less)))
first_field f g (suc (suc zero)) t below less =
    let i : ℕ = address_width f + address_width f + 16 - 1 - t in
    ap (λ b. if b then Some 0 else if nat_lt i (address_width f + address_width f) then Some 1 else if nat_lt i (address_width f + address_width f + 16) then Some 2 else if nat_lt i (address_width f + address_width f + 16 + 16) then Some 3 else None)
    (le-ltb i (address_width f) (omega (arith, less)))
    ∙ ap (λ b. if b then Some 1 else if nat_lt i (address_width f + address_width f + 16) then Some 2 else if nat_lt i (address_width f + address_width f + 16 + 16) then Some 3 else None)
    (le-ltb i (address_width f + address_width f) (omega (arith, less)))
    ∙ ap (λ b. if b then Some 2 else if nat_lt i (address_width f + address_width f + 16 + 16) then Some 3 else None)
    (lt-ltb i (address_width f + address_width f + 16) (omega (arith, less)))
first_field f g (suc (suc (suc zero))) t below less =
    let i : ℕ = address_width f + address_width f + 16 + 16 - 1 - t in
    ap (λ b. if b then Some 0 else if nat_lt i (address_width f + address_width f) then Some 1 else if nat_lt i (address_width f + address_width f + 16) then Some 2 else if nat_lt i (address_width f + address_width f + 16 + 16) then Some 3 else None)
    (le-ltb i (address_width f) (omega (arith, less)))
    ∙ ap (λ b. if b then Some 1 else if nat_lt i (address_width f + address_width f + 16) then Some 2 else if nat_lt i (address_width f + address_width f + 16 + 16) then Some 3 else None)
    (le-ltb i (address_width f + address_width f) (omega (arith, less)))
    ∙ ap (λ b. if b then Some 2 else if nat_lt i (address_width f + address_width f + 16 + 16) then Some 3 else None)
    (le-ltb i (address_width f + address_width f + 16) (omega (arith, less)))
    ∙ ap (λ b. if b then Some 3 else None)
    (lt-ltb i (address_width f + address_width f + 16 + 16) (omega (arith, less)))
first_field f g (suc (suc (suc (suc n)))) t below less = absurd (omega (arith, below))

-- that of the second input is the first's, with the families the other way
second_same : (f g : Family) (n : ℕ) → n < 4 → (width_at f g (4 + n) ≡ width_at g f n) × (end_at f g (4 + n) ≡ end_at g f n)
second_same f g zero below = (refl, refl)
second_same f g (suc zero) below = (refl, refl)
second_same f g (suc (suc zero)) below = (refl, refl)
second_same f g (suc (suc (suc zero))) below = (refl, refl)
second_same f g (suc (suc (suc (suc n)))) below = absurd (omega (arith, below))

-- the side and the bit of a field
pub record IsFieldBit (first second : Place) (n t : ℕ) : Type 0 where
  pub side : Side
  pub is : field_of first second side (end_at first.family second.family n - 1 - t) ≡ Some n

field_bit : (first second : Place) (n t : ℕ) → n < 8 → t < width_at first.family second.family n → IsFieldBit first second n t
field_bit first second n t below less = elim (cases_lt n 4) [
  | inl low ↦ record { side = First; is = first_field first.family second.family n t low less }
  | inr high ↦
      let m : ℕ = n - 4 in
      let low : n - 4 < 4 = omega (arith, below) in
      let same : 4 + (n - 4) ≡ n = omega (arith, high) in
      let both = second_same first.family second.family (n - 4) low in
      let wide : width_at first.family second.family n ≡ width_at second.family first.family (n - 4) = ap (width_at first.family second.family) (sym same) ∙ both.0 in
      let ends : end_at first.family second.family n ≡ end_at second.family first.family (n - 4) = ap (end_at first.family second.family) (sym same) ∙ both.1 in
      record {
        side = Second;
        is = ap (λ e. option_map (λ k. 4 + k) (field_in second.family (e - 1 - t))) ends
            ∙ ap (option_map (λ k. 4 + k)) (first_field second.family first.family (n - 4) t low (omega (arith, less, wide)))
            ∙ ap Some same;
      }
]

-- ---- the row of a class

-- the least number with a value, of the first so many
least : (p : ℕ → ℕ) (k n : ℕ) → ((m : ℕ) × (m < n) × (p m ≡ k) × ((j : ℕ) → j < m → p j ≢ k)) ⊎ ((j : ℕ) → j < n → p j ≢ k)
least p k zero = inr (λ j below. absurd (omega (arith, below)))
least p k (suc n) = elim (least p k n) [
  | inl found ↦ inl (found.0, omega (arith, found.1), found.2, found.3)
  | inr none ↦ elim (cases_eq (p n) k) [
    | inl is ↦ inl (n, omega arith, is, none)
    | inr other ↦ inr (λ j below. elim (cases_eq j n) [
      | inl same ↦ (λ is. other (ap p (sym same) ∙ is))
      | inr before ↦ none j (omega (arith, below, before))
    ])
  ]
]

odd_none : (n : ℕ) → is_odd n ≡ false → n % 2 ≡ 0
odd_none n none = elim (cases_eq (n % 2) 1) [
  | inl one ↦ absurd (false≢true (sym none ∙ eq-eqb (n % 2) 1 one))
  | inr other ↦ omega (arith, other)
]

-- two sites of one object, in the order of their numbers
pub record AreTwo (ports : ℕ) (sites : List Numbered) (x y : ℕ) (a b : Numbered) : Type 0 where
  pub first : slice_get sites x ≡ Some a
  pub second : slice_get sites y ≡ Some b
  pub order : x ≤ y
  pub one : a.object ≡ b.object
  pub long : length a.place.known ≡ length b.place.known
  pub first_port : a.place.port < ports
  pub second_port : b.place.port < ports

module _ (ports : ℕ) (sites : List Numbered) (x y : ℕ) (a b : Numbered) (two : AreTwo ports sites x y a b) where
  tied : are_tied ports a b ≡ true
  tied =
      both_true (a.object == b.object) ((length a.place.known == length b.place.known) && (nat_lt a.place.port ports && nat_lt b.place.port ports)) (eq-eqb a.object b.object two.one)
      (both_true (length a.place.known == length b.place.known) (nat_lt a.place.port ports && nat_lt b.place.port ports) (eq-eqb (length a.place.known) (length b.place.known) two.long)
      (both_true (nat_lt a.place.port ports) (nat_lt b.place.port ports) (lt-ltb a.place.port ports two.first_port) (lt-ltb b.place.port ports two.second_port)))

  abbrev first : Place
  first = a.place

  abbrev second : Place
  second = b.place

  module _ (n t result : ℕ) (below : n < 8) (low : result < 32) (new : (j : ℕ) → j < n → class_at first second j ≢ class_at first second n)
      (longer : (m : ℕ) → m < 8 → class_at first second m ≡ class_at first second n → t < width_at first.family second.family m) where
    is_new : is_least first second n ≡ true
    is_new = sym (all_good (λ m. not (class_at first second m == class_at first second n)) 0 n (λ m from less. ap not (ne_eqb (class_at first second m) (class_at first second n) (new m (omega (arith, less))))))

    are_long : are_longer first second (class_at first second n) t ≡ true
    are_long = sym (all_good (is_longer first second (class_at first second n) t) 0 8 (λ m from less. one m (omega (arith, less))))
      where
        one : (m : ℕ) → m < 8 → is_longer first second (class_at first second n) t m ≡ true
        one m less = elim (cases_Bool (class_at first second m == class_at first second n)) [
          | inl same ↦
              ap (λ c. not c || nat_lt t (width_at first.family second.family m)) same
              ∙ lt-ltb t (width_at first.family second.family m) (longer m less (eqb-true (class_at first second m) (class_at first second n) same))
          | inr other ↦ ap (λ c. not c || nat_lt t (width_at first.family second.family m)) other
        ]

    short : t < width_at first.family second.family n
    short = longer n below refl

    behind : row_behind first second n t result ≡ Some (numbers_below first second (class_at first second n) (t + 31 - result) 8)
    behind = ap (λ c. if c then Some (numbers_below first second (class_at first second n) (t + 31 - result) 8) else None)
        (both_true (nat_lt result 32) (is_least first second n && are_longer first second (class_at first second n) t) (lt-ltb result 32 low)
        (both_true (is_least first second n) (are_longer first second (class_at first second n) t) is_new are_long))

    abbrev input : ℕ
    input = end_at first.family second.family n - 1 - t

    bit : IsFieldBit first second n t
    bit = field_bit first second n t below short

    between : row_between first second bit.side input result ≡ Some (numbers_below first second (class_at first second n) (t + 31 - result) 8)
    between =
        let back : end_at first.family second.family n - 1 - (end_at first.family second.family n - 1 - t) ≡ t = let wide = ends_wide first.family second.family n below in let less = short in omega (arith, wide, less) in
        ap (λ o. and_then o (λ m. row_behind first second m (end_at first.family second.family m - 1 - input) result)) bit.is
        ∙ ap (λ s. row_behind first second n s result) back
        ∙ behind

    abbrev named : Named
    named = record { first = x; second = y; side = bit.side; input = input; result = result }

    named_row : row_of ports sites named ≡ Some (numbers_below first second (class_at first second n) (t + 31 - result) 8)
    named_row =
        ap (λ c. if c then and_then (slice_get sites x) (λ s. and_then (slice_get sites y) (row_if ports named s)) else None) (le-leb x y two.order)
        ∙ ap (λ o. and_then o (λ s. and_then (slice_get sites y) (row_if ports named s))) two.first
        ∙ ap (λ o. and_then o (row_if ports named a)) two.second
        ∙ ap (λ c. if c then row_between first second bit.side input result else None) tied
        ∙ between

  module _ (rows : List (List ℕ)) (keys : Keys) (all : HasAllRows ports sites rows) (sums : All (λ row. sum_of row (bits_of ports keys) ≡ false) (rows_at rows)) where
    row_sums : (row : List ℕ) → Contains rows row → sum_of (row_at row) (bits_of ports keys) ≡ false
    row_sums row there =
        let at = to_map row_at rows row there in
        subst (λ (r : List Bool). sum_of r (bits_of ports keys) ≡ false) at.2 (sums at.0 (row_at row) at.1)

    even_at : (n t result u : ℕ) → n < 8 → result < 32 → t + 31 - result ≡ u → ((j : ℕ) → j < n → class_at first second j ≢ class_at first second n)
        → IsWithin first.family second.family (class_at first second) (class_at first second n) u
        → ((m : ℕ) → m < 8 → class_at first second m ≡ class_at first second n → t < width_at first.family second.family m)
        → class_sum first.family second.family (class_at first second) (key_at keys first.port) (key_at keys second.port) (class_at first second n) u % 2 ≡ 0
    even_at n t result u below low is new within longer =
        let row : List ℕ = numbers_below first second (class_at first second n) (t + 31 - result) 8 in
        let none : sum_of (row_at (numbers_below first second (class_at first second n) (t + 31 - result) 8)) (bits_of ports keys) ≡ false =
        row_sums row (all.each (named n t result below low new longer) row (named_row n t result below low new longer)) in
        let none_there : sum_of (row_at (numbers_below first second (class_at first second n) u 8)) (bits_of ports keys) ≡ false =
        subst (λ (v : ℕ). sum_of (row_at (numbers_below first second (class_at first second n) v 8)) (bits_of ports keys) ≡ false) is none in
        odd_none (class_sum first.family second.family (class_at first second) (key_at keys first.port) (key_at keys second.port) (class_at first second n) u)
        (sym (numbers_sum ports keys first second (class_at first second n) u two.first_port two.second_port within 8 (omega arith)) ∙ none_there)

    even_new : (n u : ℕ) → n < 8 → ((j : ℕ) → j < n → class_at first second j ≢ class_at first second n) → IsWithin first.family second.family (class_at first second) (class_at first second n) u
        → class_sum first.family second.family (class_at first second) (key_at keys first.port) (key_at keys second.port) (class_at first second n) u % 2 ≡ 0
    even_new n u below new within = elim (cases_lt u 32) [
      | inl few ↦ even_at n 0 (31 - u) u below (omega arith) (omega (arith, few)) new within (λ m less same. width_some_at m less)
      | inr many ↦ even_at n (u - 31) 0 u below (omega arith) (omega (arith, many)) new within (λ m less same. let inside = within m less same in omega (arith, inside, many))
    ]
      where
        width_some_at : (m : ℕ) → m < 8 → 0 < width_at first.family second.family m
        width_some_at m less = width_some first.family second.family m less

    rows_there : Rows first.family second.family first.known second.known (key_at keys first.port) (key_at keys second.port)
    rows_there = record {
      even = λ k small u less within. elim (least (class_at first second) k 8) [
        | inl found ↦
            subst (λ (c : ℕ). class_sum first.family second.family (class_at first second) (key_at keys first.port) (key_at keys second.port) c u % 2 ≡ 0) found.2
            (even_new found.0 u found.1 (λ j before is. found.3 j before (is ∙ found.2))
            (λ m low same. within m low (same ∙ found.2)))
        | inr none ↦
            ap (λ m. m % 2) (sum_below-zero 8 (λ n. if class_at first second n == k then window_bit first.family second.family (key_at keys first.port) (key_at keys second.port) n u else 0)
            (λ n below. at_other (class_at first second n) k (window_bit first.family second.family (key_at keys first.port) (key_at keys second.port) n u) 0 (none n below)))
      ];
    }

    agree : AgreeAt keys first second
    agree = (rows_say_all_inputs first.family second.family first.known second.known (key_at keys first.port) (key_at keys second.port) two.long).1 rows_there

-- ---- all objects

-- inputs can be tied only where there are as many fields
long_alike : (first second : List Hashable) (p q : Fields) → map (value p) first ≡ map (value q) second → length first ≡ length second
long_alike first second p q tied = sym (length-map first (value p)) ∙ ap length tied ∙ length-map second (value q)

module _ (f : Function) (ports : ℕ) (rows : List (List ℕ)) (keys : Keys) (numbered : AreNumbered f) (all : HasAllRows ports (numbered_sites f) rows)
    (at_ports : All (λ object. AreAtPorts ports object.places) (own_plan f).objects) (sums : All (λ row. sum_of row (bits_of ports keys) ≡ false) (rows_at rows)) where
  -- two places with numbers, whatever their order
  placed_agree : (k : ℕ) (p q : Place) → p.port < ports → q.port < ports → length p.known ≡ length q.known → IsPlaced (numbered_sites f) k p → IsPlaced (numbered_sites f) k q → AgreeAt keys p q
  placed_agree k p q one two long first second = elim (cases_le first.at second.at) [
    | inl order ↦ in_order k p q one two long first second order
    | inr other ↦ (places_agree_in_either_order keys q p).0 (in_order k q p two one (sym long) second first (omega (arith, other)))
  ]
    where
      cases_le : (a b : ℕ) → (a ≤ b) ⊎ (b < a)
      cases_le a b = elim (cases_lt b a) [
        | inl less ↦ inr less
        | inr more ↦ inl more
      ]

      in_order : (j : ℕ) (r s : Place) → r.port < ports → s.port < ports → length r.known ≡ length s.known → (x : IsPlaced (numbered_sites f) j r) (y : IsPlaced (numbered_sites f) j s) → x.at ≤ y.at → AgreeAt keys r s
      in_order j r s there there_too same x y order =
          subst (λ (t : Place). AgreeAt keys t s) x.same (subst (λ (t : Place). AgreeAt keys x.site.place t) y.same
          (agree ports (numbered_sites f) x.at y.at x.site y.site (record {
            first = x.there;
            second = y.there;
            order = order;
            one = x.object ∙ sym y.object;
            long = ap (λ (t : Place). length t.known) x.same ∙ same ∙ sym (ap (λ (t : Place). length t.known) y.same);
            first_port = subst (λ (t : Place). t.port < ports) (sym x.same) there;
            second_port = subst (λ (t : Place). t.port < ports) (sym y.same) there_too;
          }) rows keys all sums))

  pub admissible : AreAdmissibleForAll keys (own_plan f).objects
  admissible i o within j p inside k q inside_too =
      let object : Object = get_or (own_plan f).objects i o in
      let first : Place = get_or (get_or (own_plan f).objects i o).places j p in
      let second : Place = get_or (get_or (own_plan f).objects i o).places k q in
      let here : IsNumbered (numbered_sites f) object = numbered.each i o within in
      elim (cases_eq (length first.known) (length second.known)) [
        | inl long ↦ placed_agree here.k first second (at_ports i o within j p inside) (at_ports i o within k q inside_too) long (here.each j p inside) (here.each k q inside_too)
        | inr other ↦ record { hashes = λ x y fits fits_too tied. absurd (other (long_alike first.known second.known x y tied)) }
      ]
