-- What the store tells after one change.
use Rattle.std.proofs.Common.{◌≡◌, ◌≢◌, ℕ, suc, ◌+◌, inl, inr, List, [], ◌∷◌, ◌++◌, map, length, length-append, drop, Option, Some, None, slice_get, option_map, true, false, refl, ap, sym, ◌∙◌, subst, arith}
use Rattle.std.proofs.lemmas.List.{length-map}
use Rattle.std.proofs.lemmas.Option.{slice_get-map}
use Rattle.std.proofs.lemmas.Slice.Eq.{bytes_eq-Decides}
use Rattle.std.proofs.lemmas.Bool.Decides.{eqb_tells}
use Rattle.std.specs.Str.{bytes_eq}
use Rattle.nf_files.specs.declared.memory.named.Named.{Named}
use Rattle.nf_files.specs.declared.memory.opened.OpenFile.{OpenFile}
use Rattle.nf_files.specs.declared.kind.Kind.TheVariants.{Input, Output}
use Rattle.nf_files.specs.Memory.{numbered, number_of, put_under, content_of, told_of}
use Rattle.nf_files.specs.Opened.{rest_of, given_of, name_of, kind_of, stands_under, last_created, displaced, Changes}
use Rattle.nf_files.specs.Openings.{Opens, Creates}
use Rattle.nf_files.specs.Pieces.{Gains}
use Rattle.nf_files.specs.Puts.{Puts}
use Rattle.nf_files.specs.Writes.{Writes}
use Rattle.nf_files.proofs.Numbers.{at_number, same_numbers, other_numbers, number_is, still_opened}
use Rattle.nf_files.proofs.Standing.{last_within, last_named, not_same, not_under, got_last, got_before, kind_grows, last_now, last_before, last_gone, last_stays}

-- what was given to the file that stands under a name is as before
same_content : (xs ys : List OpenFile) (p : Option (List ℕ)) (o : Option ℕ) → ((j : ℕ) → o ≡ Some j → given_of (slice_get ys j) ≡ given_of (slice_get xs j)) → content_of ys p o ≡ content_of xs p o
same_content xs ys p None same = refl
same_content xs ys p (Some j) same = same j refl

same_bytes : (a : List ℕ) → bytes_eq a a ≡ true
same_bytes a = let tells = bytes_eq-Decides a a in tells.1 refl

seen : {B : Type 0} (f : Option OpenFile → B) (put : List ℕ) → ((x : OpenFile) → f (Some (displaced put x)) ≡ f (Some x)) → (o : Option OpenFile) → f (option_map (displaced put) o) ≡ f o
seen f put same None = refl
seen f put same (Some x) = same x

-- at one place as before, and at each other
at_each : {B : Type 0} (f : Option OpenFile → B) (xs ys : List OpenFile) (k : ℕ) → f (slice_get ys k) ≡ f (slice_get xs k) → ((j : ℕ) → j ≢ k → slice_get ys j ≡ slice_get xs j) → (j : ℕ) → f (slice_get ys j) ≡ f (slice_get xs j)
at_each f xs ys k here others j = elim (eqb_tells j k) [
  | inl is ↦ subst (λ (m : ℕ). f (slice_get ys m) ≡ f (slice_get xs m)) (sym is.1) here
  | inr is ↦ ap f (others j is.1)
]

-- a piece was given to an opened file
pub writes_opened : (ns : List Named) (o e : List ℕ) (xs ys : List OpenFile) (file k : ℕ) (piece : List ℕ) → file ≡ k + 2 → Changes xs ys k → Gains piece (given_of (slice_get xs k)) (given_of (slice_get ys k)) → rest_of (slice_get ys k) ≡ rest_of (slice_get xs k) → Writes (told_of ns o e xs) (told_of ns o e ys) file piece
writes_opened ns o e xs ys file k piece is ch gained rest = record {
  gained = rw (at_number (Some o) (Some e) (λ j. given_of (slice_get xs j)) file k is, at_number (Some o) (Some e) (λ j. given_of (slice_get ys j)) file k is) gained;
  current = λ n now.
      let at : last_created xs n ≡ Some k = number_is (last_created xs n) file k is now.last in
      record {
        last = ap number_of (ch.lasts n) ∙ now.last;
        follows = ap (content_of ys (put_under ns n)) (ch.lasts n ∙ at) ∙ sym (at_number (Some o) (Some e) (λ j. given_of (slice_get ys j)) file k is);
      };
  contents = λ n other.
      ap (content_of ys (put_under ns n)) (ch.lasts n) ∙ same_content xs ys (put_under ns n) (last_created xs n) (λ j at.
      ap given_of (ch.others j (λ here. other (at_number None None (λ i. name_of (slice_get xs i)) file k is ∙ subst (λ (i : ℕ). name_of (slice_get xs i) ≡ Some n) here (last_named xs n j at)))));
  rests = same_numbers None None (λ j. rest_of (slice_get xs j)) (λ j. rest_of (slice_get ys j)) (at_each rest_of xs ys k rest ch.others);
  givens = other_numbers (Some o) (Some e) (λ j. given_of (slice_get xs j)) (λ j. given_of (slice_get ys j)) file k is (λ j other. ap given_of (ch.others j other));
  names = same_numbers None None (λ j. name_of (slice_get xs j)) (λ j. name_of (slice_get ys j)) ch.names;
  kinds = same_numbers None None (λ j. kind_of (slice_get xs j)) (λ j. kind_of (slice_get ys j)) ch.kinds;
  latest_same = λ n. ap number_of (ch.lasts n);
  next_same = ap (λ m. suc (suc m)) ch.count;
}

-- where the new file doesn't stand under a name, what does is as before
content_before : (xs : List OpenFile) (y : OpenFile) (p : Option (List ℕ)) (n : List ℕ) → stands_under y n ≡ false → content_of (xs ++ y ∷ []) p (last_created (xs ++ y ∷ []) n) ≡ content_of xs p (last_created xs n)
content_before xs y p n here =
    ap (content_of (xs ++ y ∷ []) p) (last_before xs y n here) ∙ same_content xs (xs ++ y ∷ []) p (last_created xs n) (λ j at.
    let below = last_within xs n j at in ap given_of (got_before xs j y (λ e. absurd (omega (arith, below, e)))))

-- the numbers of the files before
before : {B : Type 0} (f : Option OpenFile → Option B) (o e : Option B) (xs : List OpenFile) (y : OpenFile) (file : ℕ) → file ≡ length xs + 2 → (g : ℕ) → g ≢ file → numbered o e (λ j. f (slice_get (xs ++ y ∷ []) j)) g ≡ numbered o e (λ j. f (slice_get xs j)) g
before f o e xs y file is =
    other_numbers o e (λ j. f (slice_get xs j)) (λ j. f (slice_get (xs ++ y ∷ []) j)) file (length xs) is (λ j other. ap f (got_before xs j y other))

at_end : {B : Type 0} (f : Option OpenFile → Option B) (o e : Option B) (xs : List OpenFile) (y : OpenFile) (file : ℕ) → file ≡ length xs + 2 → numbered o e (λ j. f (slice_get (xs ++ y ∷ []) j)) file ≡ f (Some y)
at_end f o e xs y file is =
    at_number o e (λ j. f (slice_get (xs ++ y ∷ []) j)) file (length xs) is ∙ ap f (got_last xs y)

one_more : (xs : List OpenFile) (y : OpenFile) → suc (suc (length (xs ++ y ∷ []))) ≡ suc (suc (length xs)) + 1
one_more xs y = rw (length-append xs (y ∷ [])) (omega arith)

input_rest : (y : OpenFile) → y.kind ≡ Input → rest_of (Some y) ≡ Some (drop y.at y.bytes.items)
input_rest y kind = rw kind refl

input_under : (y : OpenFile) (n : List ℕ) → y.kind ≡ Input → stands_under y n ≡ false
input_under y n kind = rw kind refl

-- a file was opened to be read
pub opens : (ns : List Named) (o e : List ℕ) (xs : List OpenFile) (y : OpenFile) (opened : List ℕ) (file : ℕ) → file ≡ length xs + 2 → y.kind ≡ Input → Some (drop y.at y.bytes.items) ≡ content_of xs (put_under ns opened) (last_created xs opened) → Opens (told_of ns o e xs) (told_of ns o e (xs ++ y ∷ [])) opened file
opens ns o e xs y opened file is kind left = record {
  number = omega (arith, is);
  from_two = omega (arith, is);
  then = one_more xs y;
  left = at_end rest_of None None xs y file is ∙ input_rest y kind ∙ left;
  rests = before rest_of None None xs y file is;
  givens = before given_of (Some o) (Some e) xs y file is;
  names = before name_of None None xs y file is;
  read = at_end kind_of None None xs y file is ∙ ap Some kind;
  kinds = λ g k known. still_opened (λ j. kind_of (slice_get xs j)) (λ j. kind_of (slice_get (xs ++ y ∷ []) j)) k (λ j. kind_grows xs j y k) g known;
  contents = λ n. content_before xs y (put_under ns n) n (input_under y n kind);
  latest_same = λ n. ap number_of (last_before xs y n (input_under y n kind));
}

output_given : (y : OpenFile) → y.kind ≡ Output → given_of (Some y) ≡ Some y.bytes.items
output_given y kind = rw kind refl

output_name : (y : OpenFile) → y.kind ≡ Output → name_of (Some y) ≡ Some y.name.items
output_name y kind = rw kind refl

output_under : (y : OpenFile) → y.kind ≡ Output → y.stands ≡ true → stands_under y y.name.items ≡ bytes_eq y.name.items y.name.items
output_under y kind stands = rw (kind, stands) refl

-- a file was created
pub creates : (ns : List Named) (o e : List ℕ) (xs : List OpenFile) (y : OpenFile) (created : List ℕ) (file : ℕ) → file ≡ length xs + 2 → y.kind ≡ Output → y.stands ≡ true → y.name.items ≡ created → y.bytes.items ≡ [] → Creates (told_of ns o e xs) (told_of ns o e (xs ++ y ∷ [])) created file
creates ns o e xs y created file is kind stands name bytes =
    let given = at_end given_of (Some o) (Some e) xs y file is ∙ output_given y kind in
    let here : last_created (xs ++ y ∷ []) created ≡ Some (length xs) = subst (λ (n : List ℕ). last_created (xs ++ y ∷ []) n ≡ Some (length xs)) name (last_now xs y y.name.items (output_under y kind stands ∙ same_bytes y.name.items)) in
    let away : (n : List ℕ) → n ≢ created → stands_under y n ≡ false = λ n other. not_under y n (subst (λ (m : List ℕ). n ≢ m) (sym name) other) in
    record {
      number = omega (arith, is);
      from_two = omega (arith, is);
      then = one_more xs y;
      empty = rw given bytes;
      named = rw (at_end name_of None None xs y file is, output_name y kind) name;
      last = rw here (omega (arith, is));
      follows = ap (content_of (xs ++ y ∷ []) (put_under ns created)) here ∙ sym (at_number (Some o) (Some e) (λ j. given_of (slice_get (xs ++ y ∷ []) j)) file (length xs) is);
      rests = before rest_of None None xs y file is;
      givens = before given_of (Some o) (Some e) xs y file is;
      names = before name_of None None xs y file is;
      written = at_end kind_of None None xs y file is ∙ ap Some kind;
      kinds = λ g k known. still_opened (λ j. kind_of (slice_get xs j)) (λ j. kind_of (slice_get (xs ++ y ∷ []) j)) k (λ j. kind_grows xs j y k) g known;
      contents = λ n other. content_before xs y (put_under ns n) n (away n other);
      latest_other = λ n other. ap number_of (last_before xs y n (away n other));
    }

-- what can't tell whether a file stands under its name sees no change
as_before : {B : Type 0} (f : Option OpenFile → B) (put : List ℕ) → ((x : OpenFile) → f (Some (displaced put x)) ≡ f (Some x)) → (xs : List OpenFile) (j : ℕ) → f (slice_get (map (displaced put) xs) j) ≡ f (slice_get xs j)
as_before f put same xs j = ap f (slice_get-map (displaced put) xs j) ∙ seen f put same (slice_get xs j)

kinds_before : (put : List ℕ) (xs : List OpenFile) (j : ℕ) → kind_of (slice_get (map (displaced put) xs) j) ≡ kind_of (slice_get xs j)
kinds_before put xs j = as_before kind_of put (λ x. refl) xs j

-- bytes were put under a name
pub puts : (ns : List Named) (o e : List ℕ) (xs : List OpenFile) (y : Named) (put bytes : List ℕ) → y.name.items ≡ put → y.bytes.items ≡ bytes → Puts (told_of ns o e xs) (told_of (y ∷ ns) o e (map (displaced put) xs)) put bytes
puts ns o e xs y put bytes name put_bytes =
    let ys = map (displaced put) xs in
    record {
      here = rw (last_gone xs put, name, same_bytes put) (ap Some put_bytes);
      latest_none = ap number_of (last_gone xs put);
      contents = λ n other.
          rw (last_stays xs put n other, name, not_same put n other) (same_content xs ys (put_under ns n) (last_created xs n) (λ j at. as_before given_of put (λ x. refl) xs j));
      latest_other = λ n other. ap number_of (last_stays xs put n other);
      rests = same_numbers None None (λ j. rest_of (slice_get xs j)) (λ j. rest_of (slice_get ys j)) (as_before rest_of put (λ x. refl) xs);
      givens = same_numbers (Some o) (Some e) (λ j. given_of (slice_get xs j)) (λ j. given_of (slice_get ys j)) (as_before given_of put (λ x. refl) xs);
      names = same_numbers None None (λ j. name_of (slice_get xs j)) (λ j. name_of (slice_get ys j)) (as_before name_of put (λ x. refl) xs);
      kinds = same_numbers None None (λ j. kind_of (slice_get xs j)) (λ j. kind_of (slice_get ys j)) (kinds_before put xs);
      next_same = ap (λ m. suc (suc m)) (length-map xs (displaced put));
    }
