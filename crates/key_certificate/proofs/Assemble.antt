-- A text that is written line by line has no wrong line.
use Rattle.std.proofs.Common.{◌≡◌, ℕ, suc, ◌+◌, ◌≤◌, ◌==◌, refl, sym, ap, ◌∙◌, subst, Bool, List, [], ◌∷◌, ◌++◌, All, length, map, Option, Some, None, if◌then◌else◌, arith}
use Rattle.std.specs.Prelude.{codes}
use Rattle.std.proofs.lemmas.Bool.{eq-eqb}
use Rattle.std.proofs.lemmas.Option.{none-some, same_Some}
use Rattle.std.proofs.lemmas.List.{append_assoc, append-nil, map-append}
use Rattle.std.proofs.lemmas.List.Elements.{All-nil, All-cons, All-head, All-tail}
use Rattle.nf_base.specs.declared.card.TableSize.{TableSize}
use Rattle.nf_base.specs.Cards.{key_bytes}
use Rattle.nf_base.specs.Text.{Function}
use Rattle.key_rows.specs.declared.place.Object.{Object}
use Rattle.key_rows.specs.Given.{IsKey}
use Rattle.shard_rules.specs.Served.{own_plan}
use Rattle.certificate_laws.specs.declared.line.Line.{Line}
use Rattle.certificate_laws.specs.declared.line.Line.TheVariants as line
use Rattle.certificate_laws.specs.declared.line.Named.{Named}
use Rattle.certificate_laws.specs.declared.line.Span.{Span}
use Rattle.certificate_laws.specs.Terms.{rows_at}
use Rattle.certificate_laws.specs.Due.{Due, Naming, Whole, Clashing, Zeros, and_then, after, after_all}
use Rattle.certificate_laws.proofs.Leaves.{both_true}
use Rattle.certificate_text.specs.declared.heading.Heading.{Heading}
use Rattle.certificate_text.specs.Pieces.{lines_of}
use Rattle.certificate_text.proofs.Cutting.{lines_cut}
use Rattle.certificate_write.specs.Texts.{line_text, lines_text, heading_text}
use Rattle.certificate_write.specs.Sayable.{IsShort, IsSayable}
use Rattle.certificate_write.proofs.Back.{lines_are_read_back, headings_are_read_back}
use Rattle.key_proof.specs.declared.subject.Subject.{Subject}
use Rattle.key_proof.specs.Rows.{row_of}
use Rattle.key_proof.specs.Faults.{ports_of, subject_of, line_here, after_if, due_then, trees_fault, judged_fault, key_in, key_then, keys_fault, proof_fault, row_in, row_then, rows_fault, heading_of, heading_then, lines_fault}
use Rattle.key_certificate.specs.Plain.{row_lines, key_lines, IsRightText}

-- behind the lines of keys these are judged
pub record AreKeysBehind (s : Subject) (h : Heading) (objects : List Object) (rows : List (List ℕ)) (n : ℕ) (before keys : List (List ℕ)) (lines : List (List ℕ)) : Type 0 where
  pub number : ℕ
  pub same : keys_fault objects s h rows n before (length keys) (map line_text (key_lines (length before) keys) ++ lines) ≡ judged_fault objects s h rows number (before ++ keys) lines

-- behind the lines of rows these are listed
pub record AreRowsBehind (s : Subject) (h : Heading) (objects : List Object) (n : ℕ) (before rows : List (List ℕ)) (named : List Named) (lines : List (List ℕ)) : Type 0 where
  pub number : ℕ
  pub same : rows_fault objects s h before n (map line_text (row_lines named) ++ lines) ≡ rows_fault objects s h (before ++ rows) number lines

module _ (s : Subject) (h : Heading) (few : length s.positions ≤ 4) where
  read_back : (l : Line) → IsSayable h.card.table s.positions l → line_here s h (line_text l) ≡ Some l
  read_back l is = (lines_are_read_back h.card.table s.positions l few is).read

  -- ---- trees

  pub trees_right : (rows : List (List ℕ)) (spans : List Span) (n : ℕ) (first : List Due) (lines : List Line) → All (IsSayable h.card.table s.positions) lines → after_all (rows_at rows) spans first lines ≡ Some []
      → trees_fault s h rows spans n first (map line_text lines) ≡ None
  trees_right rows spans n [] [] said is = refl
  trees_right rows spans n (d ∷ first) [] said is = absurd (let none : d ∷ first ≡ [] = same_Some (d ∷ first) [] is in let long = ap length none in omega (arith, long))
  trees_right rows spans n [] (l ∷ lines) said is = absurd (none-some [] is)
  trees_right rows spans n (d ∷ first) (l ∷ lines) said is =
      ap (λ o. due_then (after_if rows spans (d ∷ first) o) n (λ next. trees_fault s h rows spans (n + 1) next (map line_text lines))) (read_back l (All-head (IsSayable h.card.table s.positions) l lines said))
      ∙ go (after (rows_at rows) spans (d ∷ first) l) is (λ next more. trees_right rows spans (n + 1) next lines (All-tail (IsSayable h.card.table s.positions) l lines said) more)
    where
      go : (o : Option (List Due)) → and_then o (λ next. after_all (rows_at rows) spans next lines) ≡ Some [] → ((next : List Due) → after_all (rows_at rows) spans next lines ≡ Some [] → trees_fault s h rows spans (n + 1) next (map line_text lines) ≡ None)
          → due_then o n (λ next. trees_fault s h rows spans (n + 1) next (map line_text lines)) ≡ None
      go None none more = absurd (none-some [] none)
      go (Some next) some more = more next some

  -- ---- keys

  key_here : (port : ℕ) (key : List ℕ) → IsKey h.card.key key → key_in h.card.key port (Some (line.Key port key)) ≡ Some key
  key_here port key is =
      ap (λ b. if b then Some key else None) (both_true (port == port) (length key == key_bytes h.card.key) (eq-eqb port port refl) (eq-eqb (length key) (key_bytes h.card.key) is.long))

  pub keys_right : (objects : List Object) (rows : List (List ℕ)) (n : ℕ) (before keys lines : List (List ℕ)) → All (IsKey h.card.key) keys → All (IsSayable h.card.table s.positions) (key_lines (length before) keys)
      → AreKeysBehind s h objects rows n before keys lines
  keys_right objects rows n before [] lines are said = record {
    number = n;
    same = ap (λ (l : List (List ℕ)). judged_fault objects s h rows n l lines) (sym (append-nil before));
  }
  keys_right objects rows n before (key ∷ keys) lines are said =
      let long : length before + 1 ≡ length (before ++ key ∷ []) = sym (length_push before key) in
      let rest : List Line = key_lines (length before + 1) keys in
      let more : AreKeysBehind s h objects rows (n + 1) (before ++ key ∷ []) keys lines =
      keys_right objects rows (n + 1) (before ++ key ∷ []) keys lines (All-tail (IsKey h.card.key) key keys are)
      (subst (λ (m : ℕ). All (IsSayable h.card.table s.positions) (key_lines m keys)) long (All-tail (IsSayable h.card.table s.positions) (line.Key (length before) key) rest said)) in
      record {
        number = more.number;
        same =
            ap (λ o. key_then (key_in h.card.key (length before) o) n (λ k. keys_fault objects s h rows (n + 1) (before ++ k ∷ []) (length keys) (map line_text rest ++ lines)))
            (read_back (line.Key (length before) key) (All-head (IsSayable h.card.table s.positions) (line.Key (length before) key) rest said))
            ∙ ap (λ o. key_then o n (λ k. keys_fault objects s h rows (n + 1) (before ++ k ∷ []) (length keys) (map line_text rest ++ lines))) (key_here (length before) key (All-head (IsKey h.card.key) key keys are))
            ∙ ap (λ m. keys_fault objects s h rows (n + 1) (before ++ key ∷ []) (length keys) (map line_text (key_lines m keys) ++ lines)) long
            ∙ more.same
            ∙ ap (λ (l : List (List ℕ)). judged_fault objects s h rows more.number l lines) (append_assoc before (key ∷ []) keys);
      }
    where
      length_push : (xs : List (List ℕ)) (x : List ℕ) → length (xs ++ x ∷ []) ≡ length xs + 1
      length_push [] x = refl
      length_push (y ∷ xs) x = let rest = length_push xs x in omega (arith, rest)

  -- ---- rows

  rows_right : (objects : List Object) (n : ℕ) (before rows : List (List ℕ)) (named : List Named) (lines : List (List ℕ)) → All IsShort named → map (row_of (ports_of s) s.sites) named ≡ map (λ row. Some row) rows
      → AreRowsBehind s h objects n before rows named lines
  rows_right objects n before [] [] lines short same = record {
    number = n;
    same = ap (λ (l : List (List ℕ)). rows_fault objects s h l n lines) (sym (append-nil before));
  }
  rows_right objects n before [] (m ∷ named) lines short same = absurd (let long = ap length same in omega (arith, long))
  rows_right objects n before (row ∷ rows) [] lines short same = absurd (let long = ap length same in omega (arith, long))
  rows_right objects n before (row ∷ rows) (m ∷ named) lines short same =
      let first : row_of (ports_of s) s.sites m ≡ Some row = cc in
      let rest : map (row_of (ports_of s) s.sites) named ≡ map (λ r. Some r) rows = cc in
      let more : AreRowsBehind s h objects (n + 1) (before ++ row ∷ []) rows named lines = rows_right objects (n + 1) (before ++ row ∷ []) rows named lines (All-tail IsShort m named short) rest in
      let others : List (List ℕ) = map line_text (row_lines named) ++ lines in
      record {
        number = more.number;
        same =
            ap (λ o. row_then (row_in s o) (proof_fault objects s h before n (line_text (line.Row m) ∷ others)) n (λ r. rows_fault objects s h (before ++ r ∷ []) (n + 1) others)) (read_back (line.Row m) (All-head IsShort m named short))
            ∙ ap (λ o. row_then (Some o) (proof_fault objects s h before n (line_text (line.Row m) ∷ others)) n (λ r. rows_fault objects s h (before ++ r ∷ []) (n + 1) others)) first
            ∙ more.same
            ∙ ap (λ (l : List (List ℕ)). rows_fault objects s h l more.number lines) (append_assoc before (row ∷ []) rows);
      }

  rows_end : (objects : List Object) (rows : List (List ℕ)) (n : ℕ) (lines : List Line) → All (IsSayable h.card.table s.positions) lines → ((l : Line) (rest : List Line) → lines ≡ l ∷ rest → row_in s (Some l) ≡ None)
      → rows_fault objects s h rows n (map line_text lines) ≡ proof_fault objects s h rows n (map line_text lines)
  rows_end objects rows n [] said other = refl
  rows_end objects rows n (l ∷ lines) said other =
      ap (λ o. row_then (row_in s o) (proof_fault objects s h rows n (line_text l ∷ map line_text lines)) n (λ r. rows_fault objects s h (rows ++ r ∷ []) (n + 1) (map line_text lines))) (read_back l (All-head (IsSayable h.card.table s.positions) l lines said))
      ∙ ap (λ o. row_then o (proof_fault objects s h rows n (line_text l ∷ map line_text lines)) n (λ r. rows_fault objects s h (rows ++ r ∷ []) (n + 1) (map line_text lines))) (other l lines refl)

  pub no_row : (rows : List (List Bool)) (spans : List Span) (first : List Due) (l : Line) (rest : List Line) → after_all rows spans first (l ∷ rest) ≡ Some [] → row_in s (Some l) ≡ None
  no_row rows spans first (line.Row named) rest is = absurd (none-some [] (sym (none first) ∙ is))
    where
      none : (due : List Due) → after_all rows spans due (line.Row named ∷ rest) ≡ None
      none [] = refl
      none (Naming place ∷ due) = refl
      none (Whole fixed ∷ due) = refl
      none (Clashing fixed ∷ due) = refl
      none (Zeros fixed place further ∷ due) = refl
  no_row rows spans first (line.Key port key) rest is = refl
  no_row rows spans first (line.Not place) rest is = refl
  no_row rows spans first (line.Split place) rest is = refl
  no_row rows spans first line.Clash rest is = refl
  no_row rows spans first (line.Zero span) rest is = refl
  no_row rows spans first (line.Sum terms) rest is = refl

  -- ---- a text line by line

  lines_back : (lines : List Line) → All (IsSayable h.card.table s.positions) lines → lines_of (lines_text lines) ≡ map line_text lines
  lines_back [] said = refl
  lines_back (l ∷ lines) said =
      lines_cut (line_text l) (lines_text lines) ((lines_are_read_back h.card.table s.positions l few (All-head (IsSayable h.card.table s.positions) l lines said)).free)
      ∙ ap (λ ls. line_text l ∷ ls) (lines_back lines (All-tail (IsSayable h.card.table s.positions) l lines said))

  text_back : (lines : List Line) → All (IsSayable h.card.table s.positions) lines → lines_of ((heading_text h ++ codes "\n") ++ lines_text lines) ≡ heading_text h ∷ map line_text lines
  text_back lines said =
      ap lines_of (append_assoc (heading_text h) (codes "\n") (lines_text lines))
      ∙ lines_cut (heading_text h) (lines_text lines) (headings_are_read_back h).free ∙ ap (λ ls. heading_text h ∷ ls) (lines_back lines said)

append_all : {X : Type 0} (P : X → Type 0) (xs ys : List X) → All P xs → All P ys → All P (xs ++ ys)
append_all P [] ys first second = second
append_all P (x ∷ xs) ys first second = All-cons P x (xs ++ ys) (first 0 x (omega arith)) (append_all P xs ys (λ i d below. first (suc i) d (omega (arith, below))) second)

rows_said : (table : TableSize) (positions : List ℕ) (named : List Named) → All IsShort named → All (IsSayable table positions) (row_lines named)
rows_said table positions [] short = All-nil (IsSayable table positions)
rows_said table positions (n ∷ named) short = All-cons (IsSayable table positions) (line.Row n) (row_lines named) (All-head IsShort n named short) (rows_said table positions named (All-tail IsShort n named short))

-- what is behind the rows is right
module _ (f : Function) (h : Heading) (few : length (subject_of f).positions ≤ 4) (named : List Named) (rows : List (List ℕ)) (short : All IsShort named)
    (same : map (row_of (ports_of (subject_of f)) (subject_of f).sites) named ≡ map (λ row. Some row) rows) (rest : List Line) (said : All (IsSayable h.card.table (subject_of f).positions) rest)
    (other : (l : Line) (more : List Line) → rest ≡ l ∷ more → row_in (subject_of f) (Some l) ≡ None)
    (right : (n : ℕ) → proof_fault (own_plan f).objects (subject_of f) h rows n (map line_text rest) ≡ None) where
  behind_rows : AreRowsBehind (subject_of f) h (own_plan f).objects 2 [] rows named (map line_text rest)
  behind_rows = rows_right (subject_of f) h few (own_plan f).objects 2 [] rows named (map line_text rest) short same

  whole_said : All (IsSayable h.card.table (subject_of f).positions) (row_lines named ++ rest)
  whole_said = append_all (IsSayable h.card.table (subject_of f).positions) (row_lines named) rest (rows_said h.card.table (subject_of f).positions named short) said

  lines_are : lines_of ((heading_text h ++ codes "\n") ++ lines_text (row_lines named ++ rest)) ≡ heading_text h ∷ (map line_text (row_lines named) ++ map line_text rest)
  lines_are = text_back (subject_of f) h few (row_lines named ++ rest) whole_said ∙ ap (λ ls. heading_text h ∷ ls) (map-append line_text (row_lines named) rest)

  pub text_right : IsRightText f h ((heading_text h ++ codes "\n") ++ lines_text (row_lines named ++ rest))
  text_right = record {
    first = ap heading_of lines_are ∙ (headings_are_read_back h).read;
    none =
        ap (lines_fault f) lines_are
        ∙ ap (λ o. heading_then o (λ g. rows_fault (own_plan f).objects (subject_of f) g [] 2 (map line_text (row_lines named) ++ map line_text rest))) (headings_are_read_back h).read
        ∙ behind_rows.same
        ∙ rows_end (subject_of f) h few (own_plan f).objects rows behind_rows.number rest said other
        ∙ right behind_rows.number;
  }
