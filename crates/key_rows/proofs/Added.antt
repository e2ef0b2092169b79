-- Systems with more equations.
use Rattle.std.proofs.Common.{◌≡◌, ◌↔◌, ℕ, ◌+◌, ◌*◌, ◌%◌, ◌<◌, ◌==◌, Bool, false, sym, ◌∙◌, List, [], ◌∷◌, ◌++◌, All, arith, below_more, length}
use Rattle.std.specs.List.{HoldsAt}
use Rattle.std.proofs.lemmas.Bool.{eq-eqb, ne_eqb, true≢false}
use Rattle.std.proofs.lemmas.List.FromFn.{length-map-range_with_len, get_or-map-range_with_len}
use Rattle.std.proofs.lemmas.List.Elements.{All-nil, All-cons, All-head, All-tail, All-push}
use Rattle.nf_base.specs.declared.keys.Keys.{Keys}
use Rattle.gf2_solve.specs.Sums.{bit, sum_of}
use Rattle.gf2_solve.specs.Solutions.{IsSolution}
use Rattle.gf2_solve.specs.Kept.{Kept, StandsFor, HasRowMore}
use Rattle.key_rows.specs.declared.place.Object.{Object}
use Rattle.key_rows.specs.declared.windows.Windows.{Windows}
use Rattle.key_rows.specs.Places.{AreAdmissible}
use Rattle.key_rows.specs.Rows.{IsWithinAt, sum_at, IsEvenAt, numbered_bit, bits_of, is_odd, IsRowOf}
use Rattle.key_rows.specs.Systems.{IsOver, Solve, Adds, AreEquationsOf}

-- the bits of keys
pub length_bits : (ports : ℕ) (keys : Keys) → length (bits_of ports keys) ≡ 319 * ports
length_bits ports keys = length-map-range_with_len (λ m. numbered_bit keys m == 1) 0 (319 * ports)

pub bit_of_bits : (ports : ℕ) (keys : Keys) (m : ℕ) → m < 319 * ports → bit (bits_of ports keys) m ≡ (numbered_bit keys m == 1)
bit_of_bits ports keys m within = get_or-map-range_with_len (λ k. numbered_bit keys k == 1) 0 (319 * ports) m m false within (omega arith)

-- no equation, for what holds by itself
pub adds_nothing : (ports : ℕ) (Fact : Keys → Type 0) (s : Kept) → IsOver ports s → ((keys : Keys) → Fact keys) → Adds ports Fact s s
adds_nothing ports Fact s over holds = record { over = over; exact = λ keys. (λ solved. (solved, holds keys), λ both. both.0) }

pub adds_as : (ports : ℕ) (Fact Other : Keys → Type 0) (old new : Kept) → ((keys : Keys) → Fact keys ↔ Other keys) → Adds ports Fact old new → Adds ports Other old new
adds_as ports Fact Other old new same adds = record {
  over = adds.over;
  exact = λ keys. (
    λ solved. let both : Solve ports old keys × Fact keys = (adds.exact keys).0 solved in (both.0, (same keys).0 both.1),
    λ both. (adds.exact keys).1 (both.0, (same keys).1 both.1),
  );
}

-- one fact more of a row of facts
pub adds_more : (ports : ℕ) (P : Keys → ℕ → Type 0) (n : ℕ) (old mid new : Kept) → Adds ports (λ keys. (i : ℕ) → i < n → P keys i) old mid → Adds ports (λ keys. P keys n) mid new
    → Adds ports (λ keys. (i : ℕ) → i < n + 1 → P keys i) old new
adds_more ports P n old mid new before one = record {
  over = one.over;
  exact = λ keys. (
    λ solved.
        let last : Solve ports mid keys × P keys n = (one.exact keys).0 solved in
        let rest : Solve ports old keys × ((i : ℕ) → i < n → P keys i) = (before.exact keys).0 last.0 in
        (rest.0, below_more (P keys) n rest.1 last.1),
    λ both. (one.exact keys).1 ((before.exact keys).1 (both.0, λ i below. both.1 i (omega arith)), both.1 n (omega arith)),
  );
}

pub adds_held : (ports : ℕ) (P : Keys → ℕ → Type 0) (n : ℕ) (old mid : Kept) → Adds ports (λ keys. (i : ℕ) → i < n → P keys i) old mid → ((keys : Keys) → P keys n)
    → Adds ports (λ keys. (i : ℕ) → i < n + 1 → P keys i) old mid
adds_held ports P n old mid before holds = adds_more ports P n old mid mid before (adds_nothing ports (λ keys. P keys n) mid before.over holds)

-- all of some and one more
front : {X : Type 0} (P : X → Type 0) (xs : List X) (x : X) → All P (xs ++ x ∷ []) → All P xs
front P [] x all = All-nil P
front P (y ∷ ys) x all = All-cons P y ys (All-head P y (ys ++ x ∷ []) all) (front P ys x (All-tail P y (ys ++ x ∷ []) all))

last : {X : Type 0} (P : X → Type 0) (xs : List X) (x : X) → All P (xs ++ x ∷ []) → P x
last P [] x all = All-head P x [] all
last P (y ∷ ys) x all = last P ys x (All-tail P y (ys ++ x ∷ []) all)

pub with_one : {X : Type 0} (P : X → Type 0) (xs : List X) (x : X) → (All P (xs ++ x ∷ [])) ↔ (All P xs × P x)
with_one P xs x = (λ all. (front P xs x all, last P xs x all), λ both. All-push P xs x both.0 both.1)

-- a sum that is not odd
even_from : (n : ℕ) → is_odd n ≡ false → n % 2 ≡ 0
even_from n even =
    let other : n % 2 ≡ 1 → ⊥ = λ one. true≢false (sym (eq-eqb (n % 2) 1 one) ∙ even) in
    omega (arith, other)

even_to : (n : ℕ) → n % 2 ≡ 0 → is_odd n ≡ false
even_to n even = ne_eqb (n % 2) 1 (omega (arith, even))

-- A row adds one equation.
pub row_added : (ports : ℕ) (windows : Windows) (k u : ℕ) (old new : Kept) (row : List Bool) → IsOver ports old → windows.first < ports → windows.second < ports
    → IsWithinAt windows k u → IsRowOf windows k u row → HasRowMore old row new → Adds ports (λ keys. IsEvenAt keys windows k u) old new
row_added ports windows k u old new row over first second within is more =
    let stands : StandsFor new (319 * ports) (over.rows ++ row ∷ []) = more.stands (319 * ports) over.rows over.stands in
    record {
      over = record { rows = over.rows ++ row ∷ []; stands = stands };
      exact = λ keys.
          let x : List Bool = bits_of ports keys in
          let sum : sum_of row (bits_of ports keys) ≡ is_odd (sum_at keys windows k u) = is.sums ports keys first second in (
            λ solved.
                let solution : IsSolution (319 * ports) (over.rows ++ row ∷ []) x = stands.sound x solved in
                let both : All (λ r. sum_of r x ≡ false) over.rows × (sum_of row x ≡ false) = (with_one (λ r. sum_of r x ≡ false) over.rows row).0 solution.sums in
                (over.stands.complete x (record { length = solution.length; sums = both.0 }), λ inside. even_from (sum_at keys windows k u) (sym sum ∙ both.1)),
            λ both.
                let solution : IsSolution (319 * ports) over.rows x = over.stands.sound x both.0 in
                stands.complete x (record {
                  length = solution.length;
                  sums = (with_one (λ r. sum_of r x ≡ false) over.rows row).1 (solution.sums, sum ∙ even_to (sum_at keys windows k u) (both.1 within));
                }),
          );
    }

-- The equations of objects one by one are those of all.
pub all_added : (ports : ℕ) (objects : List Object) (n : ℕ) (start system : Kept) → StandsFor start (319 * ports) [] → n ≡ length objects
    → Adds ports (λ keys. (i : ℕ) → i < n → HoldsAt (λ object. AreAdmissible keys object.places) objects i) start system → AreEquationsOf ports objects system
all_added ports objects n start system stands all adds = record {
  over = adds.over;
  exact = λ keys. (
    λ solved i d below. ((adds.exact keys).0 solved).1 i (omega (arith, all)) d,
    λ each. (adds.exact keys).1
        (stands.complete (bits_of ports keys) (record { length = length_bits ports keys; sums = All-nil (λ r. sum_of r (bits_of ports keys) ≡ false) }), λ i below d. each i d (omega (arith, all))),
  );
}
