-- A row that a line names is one of the objects' rows.
use Rattle.std.proofs.Common.{◌≡◌, ℕ, zero, suc, ◌+◌, ◌-◌, ◌*◌, ◌<◌, ◌≤◌, ◌==◌, ◌&&◌, nat_lt, nat_le, not, refl, sym, ap, ◌∙◌, subst, inl, inr, true, false, Bool, List, [], ◌∷◌, All, Contains, length, get_or, Option, Some, None, slice_get, slice_index_or, if◌then◌else◌, arith}
use Rattle.std.specs.Option.{option_map}
use Rattle.std.proofs.lemmas.Bool.{and_parts, cases_Bool, ltb-true, eqb-true}
use Rattle.std.proofs.lemmas.Option.{none-some, same_Some, slice_get_within, get_or_from_slice_get}
use Rattle.nf_base.specs.declared.decl.ObjectId.{ObjectId}
use Rattle.nf_base.specs.declared.packet.Family.{Family}
use Rattle.nf_base.specs.declared.packet.Family.TheVariants.{Four, Six}
use Rattle.nf_base.specs.Text.{Function}
use Rattle.key_rows.specs.declared.place.Place.{Place}
use Rattle.key_rows.specs.declared.place.Object.{Object}
use Rattle.key_rows.specs.Classes.{width_at, end_at}
use Rattle.key_rows.proofs.Joined.{class_below}
use Rattle.shard_rules.specs.Served.{own_plan}
use Rattle.certificate_laws.specs.declared.line.Named.{Named}
use Rattle.certificate_laws.specs.declared.line.Side.{Side}
use Rattle.certificate_laws.specs.declared.line.Side.TheVariants.{First, Second}
use Rattle.certificate_laws.specs.Certificates.{numbers_below, IsListed, ArePlacesOf}
use Rattle.certificate_text.specs.Words.{and_then}
use Rattle.key_proof.specs.declared.numbered.Numbered.{Numbered}
use Rattle.key_proof.specs.Sites.{numbered_sites}
use Rattle.key_proof.specs.Rows.{field_in, field_of, class_at, is_least, are_longer, row_behind, row_between, are_tied, row_if, row_of}
use Rattle.key_proof.proofs.Named.{tied_long, tied_object, tied_first, tied_second, longer, are_within}
use Rattle.key_proof.proofs.Numbers.{places_at, IsNumbered, all_numbered}

-- what a value that comes of another one comes of
pub record ComesOf {A B : Type 0} (o : Option A) (f : A → Option B) (y : B) : Type 0 where
  pub x : A
  pub is : o ≡ Some x
  pub gives : f x ≡ Some y

comes_of : {A B : Type 0} (o : Option A) (f : A → Option B) (y : B) → and_then o f ≡ Some y → ComesOf o f y
comes_of None f y is = absurd (none-some y is)
comes_of (Some x) f y is = record { x = x; is = refl; gives = is }

-- a test that was passed
passed : {A : Type 0} (b : Bool) (o : Option A) (y : A) → (if b then o else None) ≡ Some y → (b ≡ true) × (o ≡ Some y)
passed true o y is = (refl, is)
passed false o y is = absurd (none-some y is)

field_low : (f : Family) (input n : ℕ) → field_in f input ≡ Some n → n < 4
field_low f input n is = go (nat_lt input (end_at f f 0)) (nat_lt input (end_at f f 1)) (nat_lt input (end_at f f 2)) (nat_lt input (end_at f f 3)) is
  where
    go : (a b c d : Bool) → (if a then Some 0 else if b then Some 1 else if c then Some 2 else if d then Some 3 else None) ≡ Some n → n < 4
    go true b c d is = let e = same_Some 0 n is in omega (arith, e)
    go false true c d is = let e = same_Some 1 n is in omega (arith, e)
    go false false true d is = let e = same_Some 2 n is in omega (arith, e)
    go false false false true is = let e = same_Some 3 n is in omega (arith, e)
    go false false false false is = absurd (none-some n is)

field_below : (first second : Place) (side : Side) (input n : ℕ) → field_of first second side input ≡ Some n → n < 8
field_below first second First input n is = let low = field_low first.family input n is in omega (arith, low)
field_below first second Second input n is = go (field_in second.family input) refl is
  where
    go : (o : Option ℕ) → field_in second.family input ≡ o → option_map (λ m. 4 + m) o ≡ Some n → n < 8
    go None at is = absurd (none-some n is)
    go (Some m) at is =
        let low = field_low second.family input m at in
        let e = same_Some (4 + m) n is in
        omega (arith, low, e)

width_most : (f g : Family) (n : ℕ) → n < 8 → width_at f g n ≤ 128
width_most Four g zero below = omega arith
width_most Six g zero below = omega arith
width_most Four g (suc zero) below = omega arith
width_most Six g (suc zero) below = omega arith
width_most f g (suc (suc zero)) below = omega arith
width_most f g (suc (suc (suc zero))) below = omega arith
width_most f Four (suc (suc (suc (suc zero)))) below = omega arith
width_most f Six (suc (suc (suc (suc zero)))) below = omega arith
width_most f Four (suc (suc (suc (suc (suc zero))))) below = omega arith
width_most f Six (suc (suc (suc (suc (suc zero))))) below = omega arith
width_most f g (suc (suc (suc (suc (suc (suc zero)))))) below = omega arith
width_most f g (suc (suc (suc (suc (suc (suc (suc zero))))))) below = omega arith
width_most f g (suc (suc (suc (suc (suc (suc (suc (suc n)))))))) below = absurd (omega arith)

-- a row between two places of an object
row_listed : (ports : ℕ) (objects : List Object) (first second : Place) (side : Side) (input result : ℕ) (row : List ℕ) → ArePlacesOf ports objects first second
    → row_between first second side input result ≡ Some row → IsListed ports objects row
row_listed ports objects first second side input result row places is =
    let step = comes_of (field_of first second side input) (λ n. row_behind first second n (end_at first.family second.family n - 1 - input) result) row is in
    let n : ℕ = step.x in
    let t : ℕ = end_at first.family second.family n - 1 - input in
    let below : n < 8 = field_below first second side input n step.is in
    let test = passed (nat_lt result 32 && (is_least first second n && are_longer first second (class_at first second n) t)) (Some (numbers_below first second (class_at first second n) (t + 31 - result) 8)) row step.gives in
    let one = and_parts (nat_lt result 32) (is_least first second n && are_longer first second (class_at first second n) t) test.0 in
    let two = and_parts (is_least first second n) (are_longer first second (class_at first second n) t) one.1 in
    let small : t < width_at first.family second.family n = longer first second (class_at first second n) t n two.1 below refl in
    record {
      first = first;
      second = second;
      places = places;
      class = class_at first second n;
      bit = t + 31 - result;
      class_there = class_below first.known second.known n below;
      bit_there = omega (arith, small, width_most first.family second.family n below);
      whole = are_within first second (class_at first second n) t result two.1 (ltb-true result 32 one.0);
      is = sym (same_Some (numbers_below first second (class_at first second n) (t + 31 - result) 8) row test.1);
    }

-- two numbered sites of an object
tied_places : (f : Function) (ports : ℕ) (a b : Numbered) → are_tied ports a b ≡ true → IsNumbered f a → IsNumbered f b → ArePlacesOf ports (own_plan f).objects a.place b.place
tied_places f ports a b tied one two =
    let same : one.object ≡ two.object = same_Some one.object two.object (sym one.at ∙ ap (slice_get f.objects) (tied_object ports a b tied) ∙ two.at) in
    record {
      object = places_at f one.object;
      among = one.among;
      first_there = one.there;
      second_there = subst (λ (o : ObjectId). Contains (places_at f o).places b.place) (sym same) two.there;
      first_port = tied_first ports a b tied;
      second_port = tied_second ports a b tied;
      tied = tied_long ports a b tied;
    }

item_of : (P : Numbered → Type 0) (xs : List Numbered) (i : ℕ) (x : Numbered) → All P xs → slice_get xs i ≡ Some x → P x
item_of P xs i x all is = subst P (get_or_from_slice_get xs i x x is) (all i x (slice_get_within xs i x is))

pub named_is_listed : (f : Function) (ports : ℕ) (named : Named) (row : List ℕ) → row_of ports (numbered_sites f) named ≡ Some row → IsListed ports (own_plan f).objects row
named_is_listed f ports named row is =
    let sites : List Numbered = numbered_sites f in
    let order = passed (nat_le named.first named.second) (and_then (slice_get sites named.first) (λ a. and_then (slice_get sites named.second) (row_if ports named a))) row is in
    let one = comes_of (slice_get sites named.first) (λ a. and_then (slice_get sites named.second) (row_if ports named a)) row order.1 in
    let two = comes_of (slice_get sites named.second) (row_if ports named one.x) row one.gives in
    let tied = passed (are_tied ports one.x two.x) (row_between one.x.place two.x.place named.side named.input named.result) row two.gives in
    row_listed ports (own_plan f).objects one.x.place two.x.place named.side named.input named.result row
    (tied_places f ports one.x two.x tied.0 (item_of (IsNumbered f) sites named.first one.x (all_numbered f) one.is) (item_of (IsNumbered f) sites named.second two.x (all_numbered f) two.is)) tied.1
