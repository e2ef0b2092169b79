-- Rows and spans that leave nothing out, and that a certificate can name.
use Rattle.std.proofs.Common.{◌≡◌, ℕ, zero, suc, ◌+◌, ◌-◌, ◌*◌, ◌/◌, ◌%◌, ◌<◌, ◌≤◌, ◌==◌, ◌||◌, refl, sym, ap, ◌∙◌, subst, inl, inr, true, false, Bool, List, [], ◌∷◌, ◌++◌, All, Contains, get_or, length, map, Some, if◌then◌else◌, arith}
use Rattle.std.proofs.lemmas.Bool.{cases_eq, cases_lt, eq-eqb, eqb-true, lt-ltb, le-ltb, false≢true}
use Rattle.std.proofs.lemmas.List.Elements.{All-nil, All-cons, All-push, Contains-append_left, Contains-append_right}
use Rattle.std.proofs.lemmas.List.FromFn.{get_or-map-range_with_len}
use Rattle.std.specs.List.{list_any}
use Rattle.nf_base.specs.declared.card.TableSize.{TableSize}
use Rattle.nf_base.specs.declared.card.TableSize.TheVariants.{Entries128, Entries512}
use Rattle.nf_base.specs.Cards.{index_bits}
use Rattle.nf_base.specs.Doors.{six_ports, six_at}
use Rattle.nf_base.specs.Text.{Function}
use Rattle.nf_base.specs.declared.keys.Keys.{Keys}
use Rattle.nf_base.specs.declared.packet.Family.{Family}
use Rattle.nf_base.specs.declared.packet.Family.TheVariants.{Four, Six}
use Rattle.nf_laws.proofs.Listed.{here}
use Rattle.nf_sites.proofs.Lists.{any_true}
use Rattle.toeplitz_hash.specs.Bits.{bit_of}
use Rattle.toeplitz_hash.specs.Packets as met
use Rattle.toeplitz_hash.specs.Packets.{key_at}
use Rattle.gf2_solve.specs.Sums.{bit}
use Rattle.key_rows.specs.declared.place.Place.{Place}
use Rattle.key_rows.specs.declared.place.Object.{Object}
use Rattle.key_rows.specs.Places.{input_bits}
use Rattle.key_rows.specs.Keyed.{is_keyed_for, is_for, version}
use Rattle.key_rows.specs.Positions.{positions_at}
use Rattle.key_rows.specs.Spread.{Spreads}
use Rattle.key_rows.specs.Classes.{class_of, end_at}
use Rattle.key_rows.specs.Rows.{bits_of}
use Rattle.key_rows.specs.Systems.{group_from, group_long}
use Rattle.key_rows.proofs.Grouped.{keyed_within, keyed_for_keyed}
use Rattle.shard_rules.specs.Served.{own_plan}
use Rattle.certificate_laws.specs.declared.line.Span.{Span}
use Rattle.certificate_laws.specs.Terms.{rows_at}
use Rattle.certificate_laws.specs.Trees.{Meets}
use Rattle.certificate_laws.specs.Certificates.{place_number, numbers_below, IsListed, span_of, span_if, spans_of}
use Rattle.certificate_laws.proofs.Leaves.{both_true}
use Rattle.certificate_laws.proofs.Listing.{bit_at_port}
use Rattle.certificate_write.specs.Sayable.{IsPlace, IsSpanHere}
use Rattle.certificate_prove.specs.Growing.{AreNameable, IsSpanCounted}
use Rattle.key_proof.specs.Faults.{subject_of}
use Rattle.key_proof.specs.Rows.{row_of}
use Rattle.key_proof.specs.Sites.{numbered_sites}
use Rattle.key_proof.proofs.AtPorts.{own_at_ports, ports_same}
use Rattle.key_proof.proofs.Lists.{named_is_listed}
use Rattle.key_proof.specs.declared.numbered.Numbered.{Numbered}
use Rattle.key_certificate.specs.declared.listing.Listing.{Listing}
use Rattle.certificate_laws.specs.declared.line.Named.{Named}
use Rattle.key_certificate.specs.Whole.{AreWhole}
use Rattle.key_certificate.specs.Rows.{HasAllRows, AreNumbered}
use Rattle.key_certificate.specs.Plain.{AreListed}
use Rattle.key_certificate.proofs.AllRows.{admissible}

pub held : {X : Type 0} (P : X → Type 0) (xs : List X) (x : X) → All P xs → Contains xs x → P x
held P xs x all there = subst P there.2 (all there.0 x there.1)

-- ---- each span is that of a port and a family

append_all : {X : Type 0} (P : X → Type 0) (xs ys : List X) → All P xs → All P ys → All P (xs ++ ys)
append_all P [] ys first second = second
append_all P (x ∷ xs) ys first second = All-cons P x (xs ++ ys) (first 0 x (omega arith)) (append_all P xs ys (λ i d below. first (suc i) d (omega (arith, below))) second)

pub spans_each : (P : Span → Type 0) (objects : List Object) (size : TableSize) (n : ℕ) → ((family : Family) (port : ℕ) → port < n → is_keyed_for objects family port ≡ true → P (span_of size family port)) → All P (spans_of objects size n)
spans_each P objects size zero each = All-nil P
spans_each P objects size (suc n) each =
    append_all P (spans_of objects size n) (span_if objects size Four n ++ span_if objects size Six n)
    (spans_each P objects size n (λ family port below. each family port (omega (arith, below))))
    (append_all P (span_if objects size Four n) (span_if objects size Six n) (one Four (is_keyed_for objects Four n) refl) (one Six (is_keyed_for objects Six n) refl))
  where
    one : (family : Family) (b : Bool) → is_keyed_for objects family n ≡ b → All P (if b then span_of size family n ∷ [] else [])
    one family true is = All-cons P (span_of size family n) [] (each family n (omega arith) is) (All-nil P)
    one family false is = All-nil P

span_there : (objects : List Object) (size : TableSize) (family : Family) (port n : ℕ) → port < n → is_keyed_for objects family port ≡ true → Contains (spans_of objects size n) (span_of size family port)
span_there objects size family port zero below keyed = absurd (omega (arith, below))
span_there objects size family port (suc n) below keyed = elim (cases_eq port n) [
  | inl same ↦
      Contains-append_right (spans_of objects size n) (span_if objects size Four n ++ span_if objects size Six n) (span_of size family port)
      (subst (λ (m : ℕ). Contains (span_if objects size Four m ++ span_if objects size Six m) (span_of size family port)) same (of_family family (own family keyed)))
  | inr other ↦ Contains-append_left (spans_of objects size n) (span_if objects size Four n ++ span_if objects size Six n) (span_of size family port) (span_there objects size family port n (omega (arith, below, other)) keyed)
]
  where
    own : (g : Family) → is_keyed_for objects g port ≡ true → Contains (span_if objects size g port) (span_of size g port)
    own g is = subst (λ (b : Bool). Contains (if b then span_of size g port ∷ [] else []) (span_of size g port)) (sym is) (here (span_of size g port) [])

    of_family : (g : Family) → Contains (span_if objects size g port) (span_of size g port) → Contains (span_if objects size Four port ++ span_if objects size Six port) (span_of size g port)
    of_family Four is = Contains-append_left (span_if objects size Four port) (span_if objects size Six port) (span_of size Four port) is
    of_family Six is = Contains-append_right (span_if objects size Four port) (span_if objects size Six port) (span_of size Six port) is

span_ends : (size : TableSize) (f : Family) → group_from size + group_long size f ≡ met.positions f
span_ends Entries128 Four = refl
span_ends Entries128 Six = refl
span_ends Entries512 Four = refl
span_ends Entries512 Six = refl

most_positions : (f : Family) → met.positions f ≤ 319
most_positions Four = omega arith
most_positions Six = omega arith

input_positions : (f : Family) → met.positions f ≡ input_bits f + 31
input_positions Four = refl
input_positions Six = refl

-- what a span that is met says of a key
spreads_back : (ports : ℕ) (size : TableSize) (family : Family) (port : ℕ) (keys : Keys) → port < ports → Meets (bits_of ports keys) (span_of size family port) → Spreads family (index_bits size) (key_at keys port)
spreads_back ports size family port keys there m =
    let within = m.within in
    let ends = span_ends size family in
    let inputs = input_positions family in
    let most = most_positions family in
    let low : group_from size + m.offset < 319 = omega (arith, within, ends, most) in
    let same : 319 * port + (group_from size + m.offset) ≡ 319 * port + group_from size + m.offset = omega arith in
    record {
      bit = group_from size + m.offset;
      from = omega arith;
      to = omega (arith, within, ends, inputs);
      one = eqb-true (bit_of (key_at keys port) (group_from size + m.offset)) 1 (sym (bit_at_port ports keys port (group_from size + m.offset) there low) ∙ ap (bit (bits_of ports keys)) same ∙ m.one);
    }

pub are_whole : (f : Function) (size : TableSize) (rows : List (List ℕ)) → AreNumbered f → HasAllRows (length f.handlers) (numbered_sites f) rows
    → AreWhole (length f.handlers) (own_plan f).objects size (rows_at rows) (spans_of (own_plan f).objects size (length f.handlers))
are_whole f size rows numbered all = record {
  admissible = λ keys sums. admissible f (length f.handlers) rows keys numbered all (own_at_ports f) sums;
  spreading = λ keys met_all. record {
    each = λ port family keyed.
        let below : port < length f.handlers = keyed_within (own_plan f).objects port (length f.handlers) (own_at_ports f) (keyed_for_keyed (own_plan f).objects family port keyed) in
        spreads_back (length f.handlers) size family port keys below
        (held (Meets (bits_of (length f.handlers) keys)) (spans_of (own_plan f).objects size (length f.handlers)) (span_of size family port) met_all
        (span_there (own_plan f).objects size family port (length f.handlers) below keyed));
  };
}

-- ---- bits that count

at_least : (six : List Bool) (objects : List Object) (family : Family) (port : ℕ) → is_keyed_for objects family port ≡ true → met.positions family ≤ positions_at six objects port
at_least six objects Four port keyed = by_test (six_at six port || is_keyed_for objects Six port)
  where
    by_test : (b : Bool) → 127 ≤ (if b then 319 else 127)
    by_test true = omega arith
    by_test false = omega arith
at_least six objects Six port keyed = by_test (six_at six port) (is_keyed_for objects Six port) keyed
  where
    by_test : (a b : Bool) → b ≡ true → 319 ≤ (if a || b then 319 else 127)
    by_test true b is = omega arith
    by_test false true is = omega arith
    by_test false false is = absurd (false≢true is)

count_is : (f : Function) (port : ℕ) → port < length f.handlers → get_or (subject_of f).positions port 0 ≡ positions_at (six_ports f) (own_plan f).objects port
count_is f port below = get_or-map-range_with_len (positions_at (six_ports f) (own_plan f).objects) 0 (length f.handlers) port port 0 below (omega arith)

-- a bit of a keyed port that a family's inputs meet
place_counts : (f : Function) (family : Family) (port i : ℕ) → port < length f.handlers → is_keyed_for (own_plan f).objects family port ≡ true → i < met.positions family → IsPlace (subject_of f).positions (319 * port + i)
place_counts f family port i there keyed less =
    let most = most_positions family in
    let low : i < 319 = omega (arith, less, most) in
    let p : (319 * port + i) / 319 ≡ port = omega (arith, low) in
    let r : (319 * port + i) % 319 ≡ i = omega (arith, low) in
    let count : get_or (subject_of f).positions ((319 * port + i) / 319) 0 ≡ positions_at (six_ports f) (own_plan f).objects port = ap (λ q. get_or (subject_of f).positions q 0) p ∙ count_is f port there in
    let least = at_least (six_ports f) (own_plan f).objects family port keyed in
    omega (arith, r, count, least, less)

-- a port is keyed for the family of a place
place_keyed : (objects : List Object) (object : Object) (place : Place) → Contains objects object → Contains object.places place → is_keyed_for objects place.family place.port ≡ true
place_keyed objects object place among there =
    any_true (λ (o : Object). list_any (is_for place.family place.port) o.places) objects object among
    (any_true (is_for place.family place.port) object.places place there
    (both_true (version place.family == version place.family) (place.port == place.port) (eq-eqb (version place.family) (version place.family) refl) (eq-eqb place.port place.port refl)))

end_most : (f g : Family) (n : ℕ) → n < 4 → end_at f g n ≤ input_bits f
end_most f g zero below = omega arith
end_most f g (suc zero) below = omega arith
end_most f g (suc (suc zero)) below = omega arith
end_most f g (suc (suc (suc zero))) below = omega arith
end_most f g (suc (suc (suc (suc n)))) below = absurd (omega (arith, below))

end_behind : (f g : Family) (n : ℕ) → 4 ≤ n → n < 8 → end_at f g n ≤ input_bits g
end_behind f g zero from below = absurd (omega (arith, from))
end_behind f g (suc zero) from below = absurd (omega (arith, from))
end_behind f g (suc (suc zero)) from below = absurd (omega (arith, from))
end_behind f g (suc (suc (suc zero))) from below = absurd (omega (arith, from))
end_behind f g (suc (suc (suc (suc zero)))) from below = omega arith
end_behind f g (suc (suc (suc (suc (suc zero))))) from below = omega arith
end_behind f g (suc (suc (suc (suc (suc (suc zero)))))) from below = omega arith
end_behind f g (suc (suc (suc (suc (suc (suc (suc zero))))))) from below = omega arith
end_behind f g (suc (suc (suc (suc (suc (suc (suc (suc n)))))))) from below = absurd (omega (arith, below))

-- the bits of a row count
number_counts : (f : Function) (first second : Place) (one two : Object) (u n : ℕ) → first.port < length f.handlers → second.port < length f.handlers → Contains (own_plan f).objects one → Contains one.places first
    → Contains (own_plan f).objects two → Contains two.places second → n < 8 → IsPlace (subject_of f).positions (place_number first second n u)
number_counts f first second one two u n there there_too among stands among_too stands_too below = elim (cases_lt n 4) [
  | inl low ↦
      subst (λ (b : Bool). IsPlace (subject_of f).positions (319 * (if b then first.port else second.port) + (end_at first.family second.family n + 30 - u))) (sym (lt-ltb n 4 low))
      (place_counts f first.family first.port (end_at first.family second.family n + 30 - u) there (place_keyed (own_plan f).objects one first among stands)
      (let most = end_most first.family second.family n low in let inputs = input_positions first.family in omega (arith, most, inputs)))
  | inr high ↦
      subst (λ (b : Bool). IsPlace (subject_of f).positions (319 * (if b then first.port else second.port) + (end_at first.family second.family n + 30 - u))) (sym (le-ltb n 4 high))
      (place_counts f second.family second.port (end_at first.family second.family n + 30 - u) there_too (place_keyed (own_plan f).objects two second among_too stands_too)
      (let most = end_behind first.family second.family n high below in let inputs = input_positions second.family in omega (arith, most, inputs)))
]

numbers_count : (P : ℕ → Type 0) (first second : Place) (k u n : ℕ) → ((m : ℕ) → m < n → P (place_number first second m u)) → All P (numbers_below first second k u n)
numbers_count P first second k u zero each = All-nil P
numbers_count P first second k u (suc n) each =
    by_test (class_of first.known second.known n == k) (numbers_count P first second k u n (λ m below. each m (omega (arith, below)))) (each n (omega arith))
  where
    by_test : (b : Bool) → All P (numbers_below first second k u n) → P (place_number first second n u) → All P (numbers_below first second k u n ++ (if b then place_number first second n u ∷ [] else []))
    by_test true before this = All-push P (numbers_below first second k u n) (place_number first second n u) before this
    by_test false before this = append_all P (numbers_below first second k u n) [] before (All-nil P)

row_counts : (f : Function) (row : List ℕ) → IsListed (length f.handlers) (own_plan f).objects row → All (IsPlace (subject_of f).positions) row
row_counts f row is =
    let places = is.places in
    subst (λ (r : List ℕ). All (IsPlace (subject_of f).positions) r) (sym is.is)
    (numbers_count (IsPlace (subject_of f).positions) is.first is.second is.class is.bit 8
    (λ m below. number_counts f is.first is.second places.object places.object is.bit m places.first_port places.second_port places.among places.first_there places.among places.second_there below))

-- each listed row has a name
names_each : (ports : ℕ) (sites : List Numbered) (P : List ℕ → Type 0) (named : List Named) (rows : List (List ℕ)) → ((n : Named) (row : List ℕ) → row_of ports sites n ≡ Some row → P row)
    → map (row_of ports sites) named ≡ map (λ row. Some row) rows → All P rows
names_each ports sites P named [] each same = All-nil P
names_each ports sites P [] (row ∷ rows) each same = absurd (let long = ap length same in omega (arith, long))
names_each ports sites P (n ∷ named) (row ∷ rows) each same =
    All-cons P row rows (each n row (let first : row_of ports sites n ≡ Some row = cc in first)) (names_each ports sites P named rows each (let rest : map (row_of ports sites) named ≡ map (λ r. Some r) rows = cc in rest))

pub nameable : (f : Function) (table : TableSize) (listing : Listing) → length f.handlers ≤ 4 → AreListed (length f.handlers) (numbered_sites f) listing
    → AreNameable table (subject_of f).positions (319 * length f.handlers) listing.rows (spans_of (own_plan f).objects table (length f.handlers))
nameable f table listing few listed = record {
  few = omega (arith, few);
  count = listed.few;
  each_row = listed.within;
  counted = names_each (length f.handlers) (numbered_sites f) (λ row. All (IsPlace (subject_of f).positions) row) listing.named listing.rows
      (λ n row is. row_counts f row (named_is_listed f (length f.handlers) n row is)) listed.same;
  each_span = spans_each (λ s. s.first + s.count ≤ 319 * length f.handlers) (own_plan f).objects table (length f.handlers)
      (λ family port below keyed. (let ends = span_ends table family in let most = most_positions family in omega (arith, below, ends, most)));
  spread = spans_each (IsSpanCounted (subject_of f).positions) (own_plan f).objects table (length f.handlers)
      (λ family port below keyed. record {
        each = λ i less.
            let same : 319 * port + (group_from table + i) ≡ 319 * port + group_from table + i = omega arith in
            subst (IsPlace (subject_of f).positions) same (place_counts f family port (group_from table + i) below keyed (let ends = span_ends table family in omega (arith, less, ends)));
      });
  here = spans_each (IsSpanHere table (length (subject_of f).positions)) (own_plan f).objects table (length f.handlers)
      (λ family port below keyed. record { family = family; port = port; there = (let all = ports_same f in omega (arith, below, all)); is = refl });
}
