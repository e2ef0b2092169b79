-- Listed rows sum to 0 at admissible keys, and keys that spread meet each span.
use Rattle.std.proofs.Common.{◌≡◌, ℕ, zero, suc, ◌+◌, ◌-◌, ◌*◌, ◌/◌, ◌%◌, ◌<◌, ◌≤◌, ◌==◌, nat_lt, refl, sym, ap, ◌∙◌, subst, inl, inr, true, false, Bool, List, [], ◌∷◌, ◌++◌, All, Contains, get_or, length, map, if◌then◌else◌, arith}
use Rattle.std.proofs.lemmas.Bool.{eq-eqb, ne_eqb, eqb-true, cases_Bool, cases_eq}
use Rattle.std.proofs.lemmas.List.Elements.{All-nil, All-cons, All-map}
use Rattle.nf_base.specs.declared.card.Card.{Card}
use Rattle.nf_base.specs.declared.card.TableSize.{TableSize}
use Rattle.nf_base.specs.declared.card.TableSize.TheVariants.{Entries128, Entries512}
use Rattle.nf_base.specs.Cards.{index_bits}
use Rattle.nf_base.specs.declared.keys.Keys.{Keys}
use Rattle.nf_base.specs.declared.packet.Family.{Family}
use Rattle.nf_base.specs.declared.packet.Family.TheVariants.{Four, Six}
use Rattle.toeplitz_hash.specs.Bits.{bit_of}
use Rattle.toeplitz_hash.specs.Toeplitz.{sum_below}
use Rattle.toeplitz_hash.specs.Packets.{key_at}
use Rattle.toeplitz_hash.proofs.Bytes.{bit_of-lt}
use Rattle.gf2_solve.specs.Sums.{plus, bit, sum_of}
use Rattle.gf2_solve.proofs.SumLemmas.{plus_zero, plus_assoc}
use Rattle.key_rows.specs.declared.place.Place.{Place}
use Rattle.key_rows.specs.declared.place.Object.{Object}
use Rattle.key_rows.specs.Places.{Agree, AgreeAt, AreAdmissible, AreAdmissibleForAll, input_bits}
use Rattle.key_rows.specs.Keyed.{is_keyed_for}
use Rattle.key_rows.specs.Spread.{Spreads}
use Rattle.key_rows.specs.Given.{AreSpreading, MayBeGiven}
use Rattle.key_rows.specs.Classes.{class_of, width_at, end_at}
use Rattle.key_rows.specs.Systems.{group_from, group_long}
use Rattle.key_rows.specs.Rows.{IsWithin, Rows, window_bit, class_sum, bits_of, is_odd}
use Rattle.key_rows.proofs.Added.{bit_of_bits}
use Rattle.key_rows.proofs.Rowed.{ends_within, ends_wide}
use Rattle.key_rows.proofs.Theorem.{rows_say_all_inputs}
use Rattle.certificate_laws.specs.declared.line.Span.{Span}
use Rattle.certificate_laws.specs.Terms.{alone, row_at, rows_at}
use Rattle.certificate_laws.specs.Trees.{Meets, IsAdmissible}
use Rattle.certificate_laws.specs.Certificates.{place_number, numbers_below, IsListed, span_of, span_if, spans_of}
use Rattle.certificate_laws.proofs.Adding.{sum_of-added, sum_of-alone}

held : {X : Type 0} (P : X → Type 0) (xs : List X) (x : X) → All P xs → Contains xs x → P x
held P xs x all there = subst P there.2 (all there.0 x there.1)

even_to : (n : ℕ) → n % 2 ≡ 0 → is_odd n ≡ false
even_to n even = ne_eqb (n % 2) 1 (omega (arith, even))

pub odd_plus : (n b : ℕ) → b < 2 → is_odd (n + b) ≡ plus (is_odd n) (b == 1)
odd_plus n zero small =
    let same : n + 0 ≡ n = omega arith in
    ap is_odd same ∙ sym (plus_zero (is_odd n))
odd_plus n (suc zero) small =
    elim (cases_eq (n % 2) 1) [
      | inl one ↦ ne_eqb ((n + 1) % 2) 1 (omega (arith, one)) ∙ sym (ap (λ t. plus t true) (eq-eqb (n % 2) 1 one))
      | inr other ↦ eq-eqb ((n + 1) % 2) 1 (omega (arith, other)) ∙ sym (ap (λ t. plus t true) (ne_eqb (n % 2) 1 other))
    ]
odd_plus n (suc (suc b)) small = absurd (omega arith)

-- a bit of a key, by its number
pub bit_at_port : (ports : ℕ) (keys : Keys) (port i : ℕ) → port < ports → i < 319 → bit (bits_of ports keys) (319 * port + i) ≡ (bit_of (key_at keys port) i == 1)
bit_at_port ports keys port i within low =
    let inside : 319 * port + i < 319 * ports = omega arith in
    let p : (319 * port + i) / 319 ≡ port = omega arith in
    let q : (319 * port + i) % 319 ≡ i = omega arith in
    bit_of_bits ports keys (319 * port + i) inside
    ∙ ap (λ n. bit_of (key_at keys n) ((319 * port + i) % 319) == 1) p
    ∙ ap (λ n. bit_of (key_at keys port) n == 1) q

-- the sum at one place more
pub sum_of-places : (places : List ℕ) (place : ℕ) (x : List Bool) → sum_of (row_at (places ++ place ∷ [])) x ≡ plus (sum_of (row_at places) x) (bit x place)
sum_of-places [] place x = sum_of-added (alone place) [] x ∙ plus_zero (sum_of (alone place) x) ∙ sum_of-alone place x
sum_of-places (p ∷ places) place x =
    sum_of-added (alone p) (row_at (places ++ place ∷ [])) x
    ∙ ap (plus (sum_of (alone p) x)) (sum_of-places places place x)
    ∙ sym (plus_assoc (sum_of (alone p) x) (sum_of (row_at places) x) (bit x place))
    ∙ ap (λ b. plus b (bit x place)) (sym (sum_of-added (alone p) (row_at places) x))

module _ (ports : ℕ) (keys : Keys) (first second : Place) (k u : ℕ) (one : first.port < ports) (two : second.port < ports)
    (whole : IsWithin first.family second.family (class_of first.known second.known) k u) where
  abbrev term : ℕ → ℕ
  term n = if class_of first.known second.known n == k then window_bit first.family second.family (key_at keys first.port) (key_at keys second.port) n u else 0

  -- the key bit that a number says
  number_is : (n : ℕ) → n < 8 → class_of first.known second.known n ≡ k
      → bit (bits_of ports keys) (place_number first second n u) ≡ (window_bit first.family second.family (key_at keys first.port) (key_at keys second.port) n u == 1)
  number_is n below same =
      let inside : u < width_at first.family second.family n + 31 = whole n below same in
      let low : end_at first.family second.family n + 30 - u < 319 = omega (arith, ends_within first.family second.family n below) in
      elim (cases_Bool (nat_lt n 4)) [
        | inl before ↦
            ap (λ b. bit (bits_of ports keys) (319 * (if b then first.port else second.port) + (end_at first.family second.family n + 30 - u))) before
            ∙ bit_at_port ports keys first.port (end_at first.family second.family n + 30 - u) one low
            ∙ ap (λ b. bit_of (if b then key_at keys first.port else key_at keys second.port) (end_at first.family second.family n + 30 - u) == 1) (sym before)
        | inr behind ↦
            ap (λ b. bit (bits_of ports keys) (319 * (if b then first.port else second.port) + (end_at first.family second.family n + 30 - u))) behind
            ∙ bit_at_port ports keys second.port (end_at first.family second.family n + 30 - u) two low
            ∙ ap (λ b. bit_of (if b then key_at keys first.port else key_at keys second.port) (end_at first.family second.family n + 30 - u) == 1) (sym behind)
      ]

  small_term : (n : ℕ) → window_bit first.family second.family (key_at keys first.port) (key_at keys second.port) n u < 2
  small_term n = bit_of-lt (if nat_lt n 4 then key_at keys first.port else key_at keys second.port) (end_at first.family second.family n + 30 - u)

  -- the row's sum is that of the windows
  pub numbers_sum : (n : ℕ) → n ≤ 8 → sum_of (row_at (numbers_below first second k u n)) (bits_of ports keys) ≡ is_odd (sum_below n (λ m. term m))
  unfolding sum_below
  numbers_sum zero within = refl
  numbers_sum (suc n) within =
      elim (cases_eq (class_of first.known second.known n) k) [
        | inl same ↦
            let test : (class_of first.known second.known n == k) ≡ true = eq-eqb (class_of first.known second.known n) k same in
            let w : ℕ = window_bit first.family second.family (key_at keys first.port) (key_at keys second.port) n u in
            ap (λ b. sum_of (row_at (numbers_below first second k u n ++ (if b then place_number first second n u ∷ [] else []))) (bits_of ports keys)) test
            ∙ sum_of-places (numbers_below first second k u n) (place_number first second n u) (bits_of ports keys)
            ∙ ap (plus (sum_of (row_at (numbers_below first second k u n)) (bits_of ports keys))) (number_is n (omega (arith, within)) same)
            ∙ ap (λ b. plus b (w == 1)) (numbers_sum n (omega (arith, within)))
            ∙ sym (odd_plus (sum_below n (λ m. term m)) w (small_term n))
            ∙ ap (λ b. is_odd (sum_below n (λ m. term m) + (if b then w else 0))) (sym test)
        | inr other ↦
            let test : (class_of first.known second.known n == k) ≡ false = ne_eqb (class_of first.known second.known n) k other in
            let w : ℕ = window_bit first.family second.family (key_at keys first.port) (key_at keys second.port) n u in
            let same : sum_below n (λ m. term m) ≡ sum_below n (λ m. term m) + 0 = omega arith in
            ap (λ b. sum_of (row_at (numbers_below first second k u n ++ (if b then place_number first second n u ∷ [] else []))) (bits_of ports keys)) test
            ∙ ap (λ (l : List ℕ). sum_of (row_at l) (bits_of ports keys)) (no_more (numbers_below first second k u n))
            ∙ numbers_sum n (omega (arith, within))
            ∙ ap is_odd same
            ∙ ap (λ b. is_odd (sum_below n (λ m. term m) + (if b then w else 0))) (sym test)
      ]
    where
      no_more : (xs : List ℕ) → xs ++ [] ≡ xs
      no_more [] = refl
      no_more (x ∷ xs) = ap (λ ys. x ∷ ys) (no_more xs)

-- a listed row, at admissible keys
pub listed_sum : (ports : ℕ) (objects : List Object) (row : List ℕ) (keys : Keys) → IsListed ports objects row → AreAdmissibleForAll keys objects → sum_of (row_at row) (bits_of ports keys) ≡ false
listed_sum ports objects row keys is admissible =
    let places = is.places in
    let first : Place = is.first in
    let second : Place = is.second in
    let of_object : AreAdmissible keys places.object.places = held (λ (o : Object). AreAdmissible keys o.places) objects places.object admissible places.among in
    let of_first : All (AgreeAt keys first) places.object.places = held (λ (p : Place). All (AgreeAt keys p) places.object.places) places.object.places first of_object places.first_there in
    let agree : AgreeAt keys first second = held (AgreeAt keys first) places.object.places second of_first places.second_there in
    let rows : Rows first.family second.family first.known second.known (key_at keys first.port) (key_at keys second.port) =
    (rows_say_all_inputs first.family second.family first.known second.known (key_at keys first.port) (key_at keys second.port) places.tied).0 agree in
    let even : class_sum first.family second.family (class_of first.known second.known) (key_at keys first.port) (key_at keys second.port) is.class is.bit % 2 ≡ 0 =
    rows.even is.class is.class_there is.bit is.bit_there is.whole in
    ap (λ (l : List ℕ). sum_of (row_at l) (bits_of ports keys)) is.is
    ∙ numbers_sum ports keys first second is.class is.bit places.first_port places.second_port is.whole 8 (omega arith)
    ∙ even_to (class_sum first.family second.family (class_of first.known second.known) (key_at keys first.port) (key_at keys second.port) is.class is.bit) even

span_ends : (size : TableSize) (f : Family) → group_from size + group_long size f ≡ input_bits f + 31
span_ends Entries128 Four = refl
span_ends Entries128 Six = refl
span_ends Entries512 Four = refl
span_ends Entries512 Six = refl

most_bits : (f : Family) → input_bits f + 31 ≤ 319
most_bits Four = omega arith
most_bits Six = omega arith

-- keys that spread meet the span of a keyed port
pub span_met : (ports : ℕ) (size : TableSize) (family : Family) (port : ℕ) (keys : Keys) → port < ports → Spreads family (index_bits size) (key_at keys port) → Meets (bits_of ports keys) (span_of size family port)
span_met ports size family port keys there spreads =
    let low : group_from size ≤ spreads.bit = spreads.from in
    let high : spreads.bit < group_from size + group_long size family = omega (arith, spreads.to, span_ends size family) in
    let least : spreads.bit < 319 = omega (arith, spreads.to, most_bits family) in
    let place : 319 * port + group_from size + (spreads.bit - group_from size) ≡ 319 * port + spreads.bit = omega (arith, low) in
    record {
      offset = spreads.bit - group_from size;
      within = omega (arith, low, high);
      one = ap (bit (bits_of ports keys)) place ∙ bit_at_port ports keys port spreads.bit there least ∙ eq-eqb (bit_of (key_at keys port) spreads.bit) 1 spreads.one;
    }

append_all : {X : Type 0} (P : X → Type 0) (xs ys : List X) → All P xs → All P ys → All P (xs ++ ys)
append_all P [] ys first second = second
append_all P (x ∷ xs) ys first second = All-cons P x (xs ++ ys) (first 0 x (omega arith)) (append_all P xs ys (λ i d below. first (suc i) d (omega (arith, below))) second)

-- and all of the spans of the first so many ports
pub spans_met : (ports : ℕ) (objects : List Object) (size : TableSize) (keys : Keys) → AreSpreading size objects keys → (n : ℕ) → n ≤ ports → All (Meets (bits_of ports keys)) (spans_of objects size n)
spans_met ports objects size keys spreading zero within = All-nil (Meets (bits_of ports keys))
spans_met ports objects size keys spreading (suc n) within =
    append_all (Meets (bits_of ports keys)) (spans_of objects size n) (span_if objects size Four n ++ span_if objects size Six n)
    (spans_met ports objects size keys spreading n (omega (arith, within)))
    (append_all (Meets (bits_of ports keys)) (span_if objects size Four n) (span_if objects size Six n) (of_family Four (is_keyed_for objects Four n) refl) (of_family Six (is_keyed_for objects Six n) refl))
  where
    of_family : (f : Family) (b : Bool) → is_keyed_for objects f n ≡ b → All (Meets (bits_of ports keys)) (if b then span_of size f n ∷ [] else [])
    of_family f true is =
        All-cons (Meets (bits_of ports keys)) (span_of size f n) [] (span_met ports size f n keys (omega (arith, within)) (spreading.each n f is)) (All-nil (Meets (bits_of ports keys)))
    of_family f false is = All-nil (Meets (bits_of ports keys))

-- keys that may be given are what trees speak of
pub may_is_admissible : (ports : ℕ) (objects : List Object) (card : Card) (rows : List (List ℕ)) (keys : Keys) → All (IsListed ports objects) rows → MayBeGiven ports objects card keys
    → IsAdmissible (rows_at rows) (spans_of objects card.table ports) (bits_of ports keys)
may_is_admissible ports objects card rows keys listed may = record {
  sums = All-map (λ (row : List Bool). sum_of row (bits_of ports keys) ≡ false) row_at rows (λ i d below. listed_sum ports objects (get_or rows i d) keys (listed i d below) may.admissible);
  met = spans_met ports objects card.table keys may.spreading ports (omega arith);
}
