-- Where no line is wrong: the lines of a tree, the rows and the keys that were read.
use Rattle.std.proofs.Common.{◌≡◌, ℕ, zero, suc, ◌+◌, ◌-◌, ◌<◌, ◌≤◌, refl, sym, ap, ◌∙◌, subst, inl, inr, true, false, Bool, List, [], ◌∷◌, ◌++◌, All, length, Option, Some, None, arith}
use Rattle.std.proofs.lemmas.Option.{none-some}
use Rattle.std.proofs.lemmas.List.Elements.{All-push, All-nil}
use Rattle.nf_base.specs.Cards.{key_bytes}
use Rattle.key_rows.specs.declared.place.Object.{Object}
use Rattle.certificate_laws.specs.declared.line.Line.{Line}
use Rattle.certificate_laws.specs.declared.line.Span.{Span}
use Rattle.certificate_laws.specs.Terms.{rows_at}
use Rattle.certificate_laws.specs.Due.{Due, after, and_then, after_all}
use Rattle.certificate_text.specs.declared.heading.Heading.{Heading}
use Rattle.key_proof.specs.declared.subject.Subject.{Subject}
use Rattle.key_proof.specs.Faults.{ports_of, line_here, after_if, due_then, trees_fault, keys_with, judged_fault, key_in, key_then, keys_fault, proof_fault, row_in, row_then, rows_fault}
use Rattle.key_proof.specs.Reading.{IsRowHere, IsToldHere}
use Rattle.key_proof.proofs.Read.{named_row, key_long}

-- lines behind which nothing is due
pub record AreTaken (rows : List (List ℕ)) (spans : List Span) (first : List Due) : Type 0 where
  pub lines : List Line
  pub taken : after_all (rows_at rows) spans first lines ≡ Some []

taken_more : (rows : List (List ℕ)) (spans : List Span) (first next : List Due) (line : Line) → after (rows_at rows) spans first line ≡ Some next → AreTaken rows spans next → AreTaken rows spans first
taken_more rows spans first next line is rest = record {
  lines = line ∷ rest.lines;
  taken = ap (λ o. and_then o (λ d. after_all (rows_at rows) spans d rest.lines)) is ∙ rest.taken;
}

taken_line : (s : Subject) (h : Heading) (rows : List (List ℕ)) (spans : List Span) (n : ℕ) (first : List Due) (lines : List (List ℕ)) (o : Option Line) (next : Option (List Due))
    → after_if rows spans first o ≡ next → due_then next n (λ d. trees_fault s h rows spans (n + 1) d lines) ≡ None
    → ((d : List Due) → trees_fault s h rows spans (n + 1) d lines ≡ None → AreTaken rows spans d) → AreTaken rows spans first
taken_line s h rows spans n first lines None next is none rest = absurd (none-some n (sym (ap (λ o. due_then o n (λ d. trees_fault s h rows spans (n + 1) d lines)) is ∙ none)))
taken_line s h rows spans n first lines (Some line) None is none rest = absurd (none-some n (sym none))
taken_line s h rows spans n first lines (Some line) (Some d) is none rest = taken_more rows spans first d line is (rest d none)

pub trees_taken : (s : Subject) (h : Heading) (rows : List (List ℕ)) (spans : List Span) (n : ℕ) (first : List Due) (lines : List (List ℕ)) → trees_fault s h rows spans n first lines ≡ None → AreTaken rows spans first
trees_taken s h rows spans n [] [] none = record { lines = []; taken = refl }
trees_taken s h rows spans n (d ∷ first) [] none = absurd (none-some n (sym none))
trees_taken s h rows spans n [] (l ∷ lines) none =
    taken_line s h rows spans n [] lines (line_here s h l) (after_if rows spans [] (line_here s h l)) refl none (λ d. trees_taken s h rows spans (n + 1) d lines)
trees_taken s h rows spans n (d ∷ first) (l ∷ lines) none =
    taken_line s h rows spans n (d ∷ first) lines (line_here s h l) (after_if rows spans (d ∷ first) (line_here s h l)) refl none (λ e. trees_taken s h rows spans (n + 1) e lines)

-- rows that lines name, and behind them a proof in which no line is wrong
pub record AreListedRows (objects : List Object) (s : Subject) (h : Heading) : Type 0 where
  pub rows : List (List ℕ)
  pub named : All (IsRowHere s) rows
  pub number : ℕ
  pub lines : List (List ℕ)
  pub none : proof_fault objects s h rows number lines ≡ None

rows_line : (objects : List Object) (s : Subject) (h : Heading) (rows : List (List ℕ)) (n : ℕ) (l : List ℕ) (lines : List (List ℕ)) (o : Option (Option (List ℕ))) → All (IsRowHere s) rows → row_in s (line_here s h l) ≡ o
    → row_then o (proof_fault objects s h rows n (l ∷ lines)) n (λ row. rows_fault objects s h (rows ++ row ∷ []) (n + 1) lines) ≡ None
    → ((row : List ℕ) → All (IsRowHere s) (rows ++ row ∷ []) → rows_fault objects s h (rows ++ row ∷ []) (n + 1) lines ≡ None → AreListedRows objects s h) → AreListedRows objects s h
rows_line objects s h rows n l lines None named is none rest = record { rows = rows; named = named; number = n; lines = l ∷ lines; none = none }
rows_line objects s h rows n l lines (Some None) named is none rest = absurd (none-some n (sym none))
rows_line objects s h rows n l lines (Some (Some row)) named is none rest = rest row (All-push (IsRowHere s) rows row named (named_row s (line_here s h l) row is)) none

pub rows_listed : (objects : List Object) (s : Subject) (h : Heading) (rows : List (List ℕ)) (n : ℕ) (lines : List (List ℕ)) → All (IsRowHere s) rows → rows_fault objects s h rows n lines ≡ None → AreListedRows objects s h
rows_listed objects s h rows n [] named none = record { rows = rows; named = named; number = n; lines = []; none = none }
rows_listed objects s h rows n (l ∷ lines) named none =
    rows_line objects s h rows n l lines (row_in s (line_here s h l)) named refl none (λ row more is. rows_listed objects s h (rows ++ row ∷ []) (n + 1) lines more is)

-- keys of all ports, each told by a line, that are judged to be right
pub record AreToldKeys (objects : List Object) (s : Subject) (h : Heading) (rows : List (List ℕ)) (count : ℕ) : Type 0 where
  pub keys : List (List ℕ)
  pub told : All (IsToldHere s h) keys
  pub long : length keys ≡ count
  pub number : ℕ
  pub lines : List (List ℕ)
  pub none : judged_fault objects s h rows number keys lines ≡ None

keys_line : (objects : List Object) (s : Subject) (h : Heading) (rows : List (List ℕ)) (n : ℕ) (keys : List (List ℕ)) (more : ℕ) (lines : List (List ℕ)) (o : Option (List ℕ)) (count : ℕ)
    → key_then o n (λ key. keys_fault objects s h rows (n + 1) (keys ++ key ∷ []) more lines) ≡ None
    → ((key : List ℕ) → o ≡ Some key → keys_fault objects s h rows (n + 1) (keys ++ key ∷ []) more lines ≡ None → AreToldKeys objects s h rows count) → AreToldKeys objects s h rows count
keys_line objects s h rows n keys more lines None count none rest = absurd (none-some n (sym none))
keys_line objects s h rows n keys more lines (Some key) count none rest = rest key refl none

length_one : (keys : List (List ℕ)) (key : List ℕ) → length (keys ++ key ∷ []) ≡ length keys + 1
length_one [] key = refl
length_one (k ∷ keys) key = let rest = length_one keys key in omega (arith, rest)

pub keys_told : (objects : List Object) (s : Subject) (h : Heading) (rows : List (List ℕ)) (n : ℕ) (keys : List (List ℕ)) (more : ℕ) (lines : List (List ℕ)) (count : ℕ) → All (IsToldHere s h) keys → length keys + more ≡ count
    → keys_fault objects s h rows n keys more lines ≡ None → AreToldKeys objects s h rows count
keys_told objects s h rows n keys zero lines count told long none = record { keys = keys; told = told; long = omega (arith, long); number = n; lines = lines; none = none }
keys_told objects s h rows n keys (suc more) [] count told long none = absurd (none-some n (sym none))
keys_told objects s h rows n keys (suc more) (l ∷ lines) count told long none =
    keys_line objects s h rows n keys more lines (key_in h.card.key (length keys) (line_here s h l)) count none
    (λ key is rest. keys_told objects s h rows (n + 1) (keys ++ key ∷ []) more lines count
    (All-push (IsToldHere s h) keys key told (record { port = length keys; bytes = l; is = is })) (omega (arith, long, length_one keys key)) rest)
