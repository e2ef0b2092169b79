-- Rows that are listed one after another.
use Rattle.std.proofs.Common.{◌≡◌, ℕ, ◌+◌, ◌-◌, ◌*◌, ◌/◌, ◌%◌, ◌<◌, ◌≤◌, ◌^◌, ◌&&◌, nat_lt, nat_le, refl, sym, ap, ◌∙◌, subst, inl, inr, true, false, Bool, List, [], ◌∷◌, ◌++◌, All, Contains, length, map, slice_get, Option, Some, None, if◌then◌else◌, arith}
use Rattle.std.proofs.lemmas.Bool.{and_parts, cases_eq, cases_lt, lt-ltb, le-ltb, ltb-true}
use Rattle.std.proofs.lemmas.List.{map-append}
use Rattle.std.proofs.lemmas.List.Elements.{All-nil, All-push, Contains-append_left, Contains-append_right}
use Rattle.std.proofs.lemmas.Option.{none-some, slice_get_within}
use Rattle.nf_base.specs.declared.packet.Family.{Family}
use Rattle.nf_base.specs.declared.packet.Family.TheVariants.{Four, Six}
use Rattle.nf_base.specs.Hashed.{address_width}
use Rattle.std.specs.Option.{option_map}
use Rattle.nf_laws.proofs.Listed.{here}
use Rattle.key_rows.specs.declared.place.Place.{Place}
use Rattle.key_rows.specs.Classes.{end_at}
use Rattle.certificate_laws.specs.declared.line.Named.{Named}
use Rattle.certificate_laws.specs.declared.line.Side.{Side}
use Rattle.certificate_laws.specs.declared.line.Side.TheVariants.{First, Second}
use Rattle.certificate_laws.specs.Certificates.{numbers_below}
use Rattle.certificate_text.specs.Words.{and_then}
use Rattle.certificate_write.specs.Sayable.{IsShort}
use Rattle.key_proof.specs.declared.numbered.Numbered.{Numbered}
use Rattle.key_proof.specs.Rows.{field_in, field_of, class_at, is_least, are_longer, row_behind, row_between, are_tied, row_if, row_of, IsRowWithin}
use Rattle.key_certificate.specs.declared.listing.Listing.{Listing}
use Rattle.key_certificate.specs.Rows.{HasAllRows}
use Rattle.key_certificate.specs.Plain.{name_at, AreListed, Keeps, IsThere, HasNames, HasPairs, HasSites}

pub nothing_listed : (ports : ℕ) (sites : List Numbered) (listing : Listing) → listing.named ≡ [] → listing.rows ≡ [] → AreListed ports sites listing
nothing_listed ports sites listing named rows = record {
  same = ap (map (row_of ports sites)) named ∙ sym (ap (map (λ (r : List ℕ). Some r)) rows);
  few = let none = ap length rows in omega (arith, none);
  short = subst (λ (l : List Named). All IsShort l) (sym named) (All-nil IsShort);
  within = subst (λ (l : List (List ℕ)). All (IsRowWithin ports) l) (sym rows) (All-nil (IsRowWithin ports));
}

pub pushed : (ports : ℕ) (sites : List Numbered) (old new : Listing) (named : Named) (row : List ℕ) → AreListed ports sites old → IsShort named → Some row ≡ row_of ports sites named → IsRowWithin ports row
    → new.named ≡ old.named ++ named ∷ [] → new.rows ≡ old.rows ++ row ∷ [] → length new.rows ≤ 2 ^ 32 → AreListed ports sites new
pushed ports sites old new named row before short is within names rows few = record {
  same = ap (map (row_of ports sites)) names ∙ map-append (row_of ports sites) old.named (named ∷ [])
      ∙ ap (λ l. l ++ row_of ports sites named ∷ []) before.same ∙ ap (λ o. map (λ (r : List ℕ). Some r) old.rows ++ o ∷ []) (sym is)
      ∙ sym (ap (map (λ (r : List ℕ). Some r)) rows ∙ map-append (λ (r : List ℕ). Some r) old.rows (row ∷ []));
  few = few;
  short = subst (λ (l : List Named). All IsShort l) (sym names) (All-push IsShort old.named named before.short short);
  within = subst (λ (l : List (List ℕ)). All (IsRowWithin ports) l) (sym rows) (All-push (IsRowWithin ports) old.rows row before.within within);
}

pub keeps_pushed : (old new : Listing) (row : List ℕ) → new.rows ≡ old.rows ++ row ∷ [] → Keeps old new
keeps_pushed old new row rows = record { each = λ r there. subst (λ (l : List (List ℕ)). Contains l r) (sym rows) (Contains-append_left old.rows (row ∷ []) r there) }

pub keeps_all : (listing : Listing) → Keeps listing listing
keeps_all listing = record { each = λ r there. there }

pub keeps_both : (old mid new : Listing) → Keeps old mid → Keeps mid new → Keeps old new
keeps_both old mid new first second = record { each = λ r there. second.each r (first.each r there) }

some_one : {A : Type 0} (o : Option A) (x y : A) → o ≡ Some x → Some y ≡ o → x ≡ y
some_one o x y first second = let same : Some y ≡ Some x = second ∙ first in cc

pub pushed_there : (ports : ℕ) (sites : List Numbered) (named : Named) (old new : Listing) (row : List ℕ) → Some row ≡ row_of ports sites named → new.rows ≡ old.rows ++ row ∷ [] → IsThere ports sites named new
pushed_there ports sites named old new row is rows = record {
  is = λ r named_is.
      subst (λ (l : List (List ℕ)). Contains l r) (sym rows)
      (Contains-append_right old.rows (row ∷ []) r (subst (λ (q : List ℕ). Contains (row ∷ []) q) (sym (some_one (row_of ports sites named) r row named_is is)) (here row [])));
}

pub none_there : (ports : ℕ) (sites : List Numbered) (named : Named) (listing : Listing) → None ≡ row_of ports sites named → IsThere ports sites named listing
none_there ports sites named listing none = record { is = λ r is. absurd (none-some r (none ∙ is)) }

kept_there : (ports : ℕ) (sites : List Numbered) (named : Named) (old new : Listing) → Keeps old new → IsThere ports sites named old → IsThere ports sites named new
kept_there ports sites named old new keeps there = record { is = λ r is. keeps.each r (there.is r is) }

pub names_none : (ports : ℕ) (sites : List Numbered) (first second : ℕ) (listing : Listing) → HasNames ports sites first second 0 listing
names_none ports sites first second listing = record { each = λ j below. absurd (omega (arith, below)) }

kept_names : (ports : ℕ) (sites : List Numbered) (first second m : ℕ) (old new : Listing) → Keeps old new → HasNames ports sites first second m old → HasNames ports sites first second m new
kept_names ports sites first second m old new keeps has = record { each = λ j below. kept_there ports sites (name_at first second j) old new keeps (has.each j below) }

pub names_more : (ports : ℕ) (sites : List Numbered) (first second m : ℕ) (old new : Listing) → HasNames ports sites first second m old → Keeps old new → IsThere ports sites (name_at first second m) new
    → HasNames ports sites first second (m + 1) new
names_more ports sites first second m old new has keeps there = record {
  each = λ j below. elim (cases_eq j m) [
    | inl same ↦ subst (λ (k : ℕ). IsThere ports sites (name_at first second k) new) (sym same) there
    | inr other ↦ kept_there ports sites (name_at first second j) old new keeps (has.each j (omega (arith, below, other)))
  ];
}

pub pairs_none : (ports : ℕ) (sites : List Numbered) (first : ℕ) (listing : Listing) → HasPairs ports sites first 0 listing
pairs_none ports sites first listing = record { each = λ j below. absurd (omega (arith, below)) }

pub pairs_more : (ports : ℕ) (sites : List Numbered) (first count : ℕ) (old new : Listing) → HasPairs ports sites first count old → Keeps old new → HasNames ports sites first count 18432 new
    → HasPairs ports sites first (count + 1) new
pairs_more ports sites first count old new has keeps there = record {
  each = λ j below. elim (cases_eq j count) [
    | inl same ↦ subst (λ (k : ℕ). HasNames ports sites first k 18432 new) (sym same) there
    | inr other ↦ kept_names ports sites first j 18432 old new keeps (has.each j (omega (arith, below, other)))
  ];
}

kept_pairs : (ports : ℕ) (sites : List Numbered) (first count : ℕ) (old new : Listing) → Keeps old new → HasPairs ports sites first count old → HasPairs ports sites first count new
kept_pairs ports sites first count old new keeps has = record { each = λ j below. kept_names ports sites first j 18432 old new keeps (has.each j below) }

pub sites_none : (ports : ℕ) (sites : List Numbered) (listing : Listing) → HasSites ports sites 0 listing
sites_none ports sites listing = record { each = λ j below. absurd (omega (arith, below)) }

pub sites_more : (ports : ℕ) (sites : List Numbered) (count : ℕ) (old new : Listing) → HasSites ports sites count old → Keeps old new → HasPairs ports sites count (length sites) new
    → HasSites ports sites (count + 1) new
sites_more ports sites count old new has keeps there = record {
  each = λ j below. elim (cases_eq j count) [
    | inl same ↦ subst (λ (k : ℕ). HasPairs ports sites k (length sites) new) (sym same) there
    | inr other ↦ kept_pairs ports sites j (length sites) old new keeps (has.each j (omega (arith, below, other)))
  ];
}

-- ---- names that name a row

named_alike : (first second : ℕ) (s t : Side) (i j r q : ℕ) → s ≡ t → i ≡ j → r ≡ q
    → ◌≡◌ {A = Named} (record { first = first; second = second; side = s; input = i; result = r }) (record { first = first; second = second; side = t; input = j; result = q })
named_alike first second s t i j r q side input result =
    ap (λ (x : Side). let n : Named = record { first = first; second = second; side = x; input = i; result = r } in n) side
    ∙ ap (λ (x : ℕ). let n : Named = record { first = first; second = second; side = t; input = x; result = r } in n) input
    ∙ ap (λ (x : ℕ). let n : Named = record { first = first; second = second; side = t; input = j; result = x } in n) result

passed : {A : Type 0} (b : Bool) (o : Option A) (y : A) → (if b then o else None) ≡ Some y → (b ≡ true) × (o ≡ Some y)
passed true o y is = (refl, is)
passed false o y is = absurd (none-some y is)

pub record ComesOf {A B : Type 0} (o : Option A) (f : A → Option B) (y : B) : Type 0 where
  pub x : A
  pub is : o ≡ Some x
  pub gives : f x ≡ Some y

comes_of : {A B : Type 0} (o : Option A) (f : A → Option B) (y : B) → and_then o f ≡ Some y → ComesOf o f y
comes_of None f y is = absurd (none-some y is)
comes_of (Some x) f y is = record { x = x; is = refl; gives = is }

-- no field has a bit past the last one
none_past : (f : Family) (a : ℕ) → 288 ≤ a → field_in f a ≡ None
none_past f a over =
    let wide : address_width f ≤ 128 = widest f in
    let w : ℕ = address_width f in
    ap (λ b. if b then Some 0 else if nat_lt a (w + w) then Some 1 else if nat_lt a (w + w + 16) then Some 2 else if nat_lt a (w + w + 16 + 16) then Some 3 else None) (le-ltb a (address_width f) (omega (arith, over, wide)))
    ∙ ap (λ b. if b then Some 1 else if nat_lt a (w + w + 16) then Some 2 else if nat_lt a (w + w + 16 + 16) then Some 3 else None) (le-ltb a (address_width f + address_width f) (omega (arith, over, wide)))
    ∙ ap (λ b. if b then Some 2 else if nat_lt a (w + w + 16 + 16) then Some 3 else None) (le-ltb a (address_width f + address_width f + 16) (omega (arith, over, wide)))
    ∙ ap (λ b. if b then Some 3 else None) (le-ltb a (address_width f + address_width f + 16 + 16) (omega (arith, over, wide)))
  where
    widest : (g : Family) → address_width g ≤ 128
    widest Four = omega arith
    widest Six = omega arith

-- a bit of an input
in_input : (f : Family) (input n : ℕ) → field_in f input ≡ Some n → input < 288
in_input f input n is = elim (cases_lt input 288) [
  | inl low ↦ low
  | inr over ↦ absurd (none-some n (sym (none_past f input over) ∙ is))
]

in_field : (first second : Place) (side : Side) (input n : ℕ) → field_of first second side input ≡ Some n → input < 288
in_field first second First input n is = in_input first.family input n is
in_field first second Second input n is = go (field_in second.family input) refl is
  where
    go : (o : Option ℕ) → field_in second.family input ≡ o → option_map (λ m. 4 + m) o ≡ Some n → input < 288
    go None at none = absurd (none-some n none)
    go (Some m) at some = in_input second.family input m at

-- what a name of a row is
pub record IsNaming (sites : List Numbered) (named : Named) : Type 0 where
  pub first : named.first < length sites
  pub second : named.second < length sites
  pub input : named.input < 288
  pub result : named.result < 32

naming : (ports : ℕ) (sites : List Numbered) (named : Named) (row : List ℕ) → row_of ports sites named ≡ Some row → IsNaming sites named
naming ports sites named row is =
    let order = passed (nat_le named.first named.second) (and_then (slice_get sites named.first) (λ a. and_then (slice_get sites named.second) (row_if ports named a))) row is in
    let one = comes_of (slice_get sites named.first) (λ a. and_then (slice_get sites named.second) (row_if ports named a)) row order.1 in
    let two = comes_of (slice_get sites named.second) (row_if ports named one.x) row one.gives in
    let tied = passed (are_tied ports one.x two.x) (row_between one.x.place two.x.place named.side named.input named.result) row two.gives in
    let step = comes_of (field_of one.x.place two.x.place named.side named.input) (λ n. row_behind one.x.place two.x.place n (end_at one.x.place.family two.x.place.family n - 1 - named.input) named.result) row tied.1 in
    let t : ℕ = end_at one.x.place.family two.x.place.family step.x - 1 - named.input in
    let rest : Bool = is_least one.x.place two.x.place step.x && are_longer one.x.place two.x.place (class_at one.x.place two.x.place step.x) t in
    let test = passed (nat_lt named.result 32 && rest) (Some (numbers_below one.x.place two.x.place (class_at one.x.place two.x.place step.x) (t + 31 - named.result) 8)) row step.gives in
    record {
      first = slice_get_within sites named.first one.x one.is;
      second = slice_get_within sites named.second two.x two.is;
      input = in_field one.x.place two.x.place named.side named.input step.x step.is;
      result = ltb-true named.result 32 (and_parts (nat_lt named.result 32) rest test.0).0;
    }

-- the number of a name among those of two sites
number_of : Side → ℕ → ℕ → ℕ
number_of First input result = 32 * input + result
number_of Second input result = 9216 + 32 * input + result

same_name : (first second input result : ℕ) (side : Side) → input < 288 → result < 32 → name_at first second (number_of side input result) ≡ record { first = first; second = second; side = side; input = input; result = result }
unfolding number_of
same_name first second input result First low short =
    let test : nat_lt (32 * input + result) 9216 ≡ true = lt-ltb (32 * input + result) 9216 (omega (arith, low, short)) in
    let one : (32 * input + result) / 32 % 288 ≡ input = omega (arith, low, short) in
    let two : (32 * input + result) % 32 ≡ result = omega (arith, short) in
    named_alike first second (if nat_lt (32 * input + result) 9216 then First else Second) First ((32 * input + result) / 32 % 288) input ((32 * input + result) % 32) result (ap (λ b. if b then First else Second) test) one two
same_name first second input result Second low short =
    let test : nat_lt (9216 + 32 * input + result) 9216 ≡ false = le-ltb (9216 + 32 * input + result) 9216 (omega arith) in
    let one : (9216 + 32 * input + result) / 32 % 288 ≡ input = omega (arith, low, short) in
    let two : (9216 + 32 * input + result) % 32 ≡ result = omega (arith, short) in
    named_alike first second (if nat_lt (9216 + 32 * input + result) 9216 then First else Second) Second ((9216 + 32 * input + result) / 32 % 288) input ((9216 + 32 * input + result) % 32) result (ap (λ b. if b then First else Second) test) one two

number_low : (side : Side) (input result : ℕ) → input < 288 → result < 32 → number_of side input result < 18432
unfolding number_of
number_low First input result low short = omega (arith, low, short)
number_low Second input result low short = omega (arith, low, short)

-- all names are among those of all sites
pub sites_all : (ports : ℕ) (sites : List Numbered) (n : ℕ) (listing : Listing) → length sites ≤ n → HasSites ports sites n listing → HasAllRows ports sites listing.rows
sites_all ports sites n listing all has = record {
  each = λ named row is.
      let names : IsNaming sites named = naming ports sites named row is in
      let m : ℕ = number_of named.side named.input named.result in
      let pairs = has.each named.first (let there = names.first in omega (arith, there, all)) in
      let there = pairs.each named.second names.second in
      let one = there.each m (number_low named.side named.input named.result names.input names.result) in
      one.is row (ap (row_of ports sites) (same_name named.first named.second named.input named.result named.side names.input names.result) ∙ is);
}
