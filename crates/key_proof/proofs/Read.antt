-- Lines that are read, one by one.
use Rattle.std.proofs.Common.{◌≡◌, ℕ, zero, suc, ◌+◌, ◌-◌, ◌<◌, ◌≤◌, ◌==◌, ◌&&◌, inl, inr, refl, sym, ap, ◌∙◌, subst, true, false, Bool, List, [], ◌∷◌, ◌++◌, All, length, drop, Option, Some, None, arith, if◌then◌else◌}
use Rattle.std.proofs.lemmas.Option.{none-some, same_Some}
use Rattle.std.proofs.lemmas.Bool.{false≢true, cases_Bool, and_parts, eqb-true}
use Rattle.nf_base.specs.declared.card.KeySize.{KeySize}
use Rattle.std.proofs.lemmas.List.Elements.{All-push, All-nil}
use Rattle.nf_base.specs.Cards.{key_bytes}
use Rattle.key_rows.specs.declared.place.Object.{Object}
use Rattle.certificate_laws.specs.declared.line.Line.{Line}
use Rattle.certificate_laws.specs.declared.line.Line.TheVariants as line
use Rattle.certificate_laws.specs.declared.line.Span.{Span}
use Rattle.certificate_laws.specs.Terms.{rows_at}
use Rattle.certificate_laws.specs.Due.{Due, after}
use Rattle.certificate_check.specs.Checking.{Checking, due, is_none_due}
use Rattle.certificate_text.specs.declared.heading.Heading.{Heading}
use Rattle.certificate_text.specs.Pieces.{lines_of}
use Rattle.key_proof.specs.declared.reading.Cursor.{Cursor}
use Rattle.key_proof.specs.declared.subject.Subject.{Subject}
use Rattle.key_proof.specs.Rows.{row_of, IsRowWithin}
use Rattle.key_proof.specs.Faults.{ports_of, line_here, after_if, due_then, trees_fault, judged_fault, key_in, key_then, keys_fault, proof_fault, row_in, row_then, rows_fault}
use Rattle.key_proof.specs.Reading.{IsCursor, rest_at, IsRowHere, IsToldHere, AreRowsRead, AreKeysRead}

-- the place behind a line
pub record IsNext (text line : List ℕ) (old new : Cursor) : Type 0 where
  pub is : rest_at text old ≡ line ∷ rest_at text new
  pub cursor : IsCursor text new
  pub number : new.number ≡ old.number + 1

pub next_is : (text line : List ℕ) (old new : Cursor) → IsCursor text old → lines_of (drop old.at text) ≡ line ∷ lines_of (drop (old.at + length line + 1) text) → old.at + length line < length text
    → new.at ≡ old.at + (length line + 1) → new.number ≡ old.number + 1 → IsNext text line old new
next_is text line old new at is within there number =
    let same : old.at + length line + 1 ≡ new.at = omega (arith, there) in
    record {
      is = is ∙ ap (λ k. line ∷ lines_of (drop k text)) same;
      cursor = record { within = omega (arith, within, there); number = omega (arith, at.number, number, there) };
      number = number;
    }

-- ---- rows

pub record AreRowsSoFar (s : Subject) (h : Heading) (text : List ℕ) (start here : Cursor) (rows : List (List ℕ)) : Type 0 where
  pub cursor : IsCursor text here
  pub same : (objects : List Object) → rows_fault objects s h [] start.number (rest_at text start) ≡ rows_fault objects s h rows here.number (rest_at text here)
  pub named : All (IsRowHere s) rows
  pub within : All (IsRowWithin (ports_of s)) rows

pub rows_start : (s : Subject) (h : Heading) (text : List ℕ) (start : Cursor) (rows : List (List ℕ)) → IsCursor text start → rows ≡ [] → AreRowsSoFar s h text start start rows
rows_start s h text start rows at none = record {
  cursor = at;
  same = λ objects. ap (λ (r : List (List ℕ)). rows_fault objects s h r start.number (rest_at text start)) (sym none);
  named = subst (All (IsRowHere s)) (sym none) (All-nil (IsRowHere s));
  within = subst (All (IsRowWithin (ports_of s))) (sym none) (All-nil (IsRowWithin (ports_of s)));
}

pub named_row : (s : Subject) (o : Option Line) (row : List ℕ) → row_in s o ≡ Some (Some row) → IsRowHere s row
named_row s None row is = absurd (none-some (Some row) is)
named_row s (Some (line.Row named)) row is = record { named = named; is = same_Some (row_of (ports_of s) s.sites named) (Some row) is }
named_row s (Some (line.Key port key)) row is = absurd (none-some (Some row) is)
named_row s (Some (line.Not place)) row is = absurd (none-some (Some row) is)
named_row s (Some (line.Split place)) row is = absurd (none-some (Some row) is)
named_row s (Some line.Clash) row is = absurd (none-some (Some row) is)
named_row s (Some (line.Zero span)) row is = absurd (none-some (Some row) is)
named_row s (Some (line.Sum terms)) row is = absurd (none-some (Some row) is)

module _ (s : Subject) (h : Heading) (text : List ℕ) (start old : Cursor) (rows : List (List ℕ)) (so : AreRowsSoFar s h text start old rows) where
  pub rows_more : (line : List ℕ) (new : Cursor) (row : List ℕ) (longer : List (List ℕ)) → IsNext text line old new → Some (Some row) ≡ row_in s (line_here s h line) → IsRowWithin (ports_of s) row → longer ≡ rows ++ row ∷ []
      → AreRowsSoFar s h text start new longer
  rows_more line new row longer next is_row within put = let is : row_in s (line_here s h line) ≡ Some (Some row) = sym is_row in subst (AreRowsSoFar s h text start new) (sym put) (record {
    cursor = next.cursor;
    same = λ objects.
        so.same objects
        ∙ ap (rows_fault objects s h rows old.number) next.is
        ∙ ap (λ o. row_then o (proof_fault objects s h rows old.number (line ∷ rest_at text new)) old.number (λ r. rows_fault objects s h (rows ++ r ∷ []) (old.number + 1) (rest_at text new))) is
        ∙ ap (λ n. rows_fault objects s h (rows ++ row ∷ []) n (rest_at text new)) (sym next.number);
    named = All-push (IsRowHere s) rows row so.named (named_row s (line_here s h line) row is);
    within = All-push (IsRowWithin (ports_of s)) rows row so.within within;
  })

  pub rows_end : rest_at text old ≡ [] → AreRowsRead s h text start old rows true
  rows_end none objects =
      so.same objects ∙ ap (rows_fault objects s h rows old.number) none ∙ sym (ap (proof_fault objects s h rows old.number) none)

  pub rows_other : (line : List ℕ) (more : List (List ℕ)) → rest_at text old ≡ line ∷ more → None ≡ row_in s (line_here s h line) → AreRowsRead s h text start old rows true
  rows_other line more is none objects =
      so.same objects
      ∙ ap (rows_fault objects s h rows old.number) is
      ∙ ap (λ o. row_then o (proof_fault objects s h rows old.number (line ∷ more)) old.number (λ r. rows_fault objects s h (rows ++ r ∷ []) (old.number + 1) more)) (sym none)
      ∙ sym (ap (proof_fault objects s h rows old.number) is)

  pub rows_wrong : (line : List ℕ) (more : List (List ℕ)) → rest_at text old ≡ line ∷ more → Some None ≡ row_in s (line_here s h line) → AreRowsRead s h text start old rows false
  rows_wrong line more is wrong objects =
      so.same objects
      ∙ ap (rows_fault objects s h rows old.number) is
      ∙ ap (λ o. row_then o (proof_fault objects s h rows old.number (line ∷ more)) old.number (λ r. rows_fault objects s h (rows ++ r ∷ []) (old.number + 1) more)) (sym wrong)

-- ---- keys

pub record AreKeysSoFar (s : Subject) (h : Heading) (text : List ℕ) (start here : Cursor) (keys : List (List ℕ)) (port : ℕ) : Type 0 where
  pub cursor : IsCursor text here
  pub same : (objects : List Object) (rows : List (List ℕ)) → keys_fault objects s h rows start.number [] (ports_of s) (rest_at text start)
      ≡ keys_fault objects s h rows here.number keys (ports_of s - port) (rest_at text here)
  pub whole : All (λ key. length key ≡ key_bytes h.card.key) keys
  pub told : All (IsToldHere s h) keys
  pub count : length keys ≡ port
  pub number : here.number ≡ start.number + port

pub keys_start : (s : Subject) (h : Heading) (text : List ℕ) (start : Cursor) (keys : List (List ℕ)) → IsCursor text start → keys ≡ [] → AreKeysSoFar s h text start start keys 0
keys_start s h text start keys at none = record {
  cursor = at;
  same = λ objects rows.
      ap (λ (k : List (List ℕ)). keys_fault objects s h rows start.number k (ports_of s) (rest_at text start)) (sym none)
      ∙ ap (λ n. keys_fault objects s h rows start.number keys n (rest_at text start)) (let same : ports_of s ≡ ports_of s - 0 = omega arith in same);
  whole = subst (All (λ key. length key ≡ key_bytes h.card.key)) (sym none) (All-nil (λ key. length key ≡ key_bytes h.card.key));
  told = subst (All (IsToldHere s h)) (sym none) (All-nil (IsToldHere s h));
  count = ap length none;
  number = omega arith;
}

-- ---- trees

pub record IsTreeSoFar (s : Subject) (h : Heading) (rows : List (List ℕ)) (spans : List Span) (text : List ℕ) (start : Cursor) (first : List Due) (here : Cursor) (checker : Checking) : Type 0 where
  pub cursor : IsCursor text here
  pub rows_are : checker.rows ≡ rows
  pub spans_are : checker.spans ≡ spans
  pub same : trees_fault s h rows spans start.number first (rest_at text start) ≡ trees_fault s h rows spans here.number (due checker) (rest_at text here)

trees_step : (s : Subject) (h : Heading) (rows : List (List ℕ)) (spans : List Span) (n : ℕ) (d : List Due) (l : List ℕ) (lines : List (List ℕ))
    → trees_fault s h rows spans n d (l ∷ lines) ≡ due_then (after_if rows spans d (line_here s h l)) n (λ next. trees_fault s h rows spans (n + 1) next lines)
trees_step s h rows spans n [] l lines = refl
trees_step s h rows spans n (e ∷ d) l lines = refl

module _ (s : Subject) (h : Heading) (rows : List (List ℕ)) (spans : List Span) (text : List ℕ) (start : Cursor) (first : List Due) where
  pub trees_start : (checker : Checking) → IsCursor text start → checker.rows ≡ rows → checker.spans ≡ spans → due checker ≡ first → IsTreeSoFar s h rows spans text start first start checker
  trees_start checker at one two is = record {
    cursor = at;
    rows_are = one;
    spans_are = two;
    same = ap (λ d. trees_fault s h rows spans start.number d (rest_at text start)) (sym is);
  }

  pub trees_more : (line : List ℕ) (old new : Cursor) (before checker : Checking) → IsTreeSoFar s h rows spans text start first old before → IsNext text line old new → checker.rows ≡ before.rows → checker.spans ≡ before.spans
      → after_if before.rows before.spans (due before) (line_here s h line) ≡ Some (due checker) → IsTreeSoFar s h rows spans text start first new checker
  trees_more line old new before checker so next one two is = record {
    cursor = next.cursor;
    rows_are = one ∙ so.rows_are;
    spans_are = two ∙ so.spans_are;
    same = so.same
        ∙ ap (trees_fault s h rows spans old.number (due before)) next.is
        ∙ trees_step s h rows spans old.number (due before) line (rest_at text new)
        ∙ ap (λ o. due_then o old.number (λ d. trees_fault s h rows spans (old.number + 1) d (rest_at text new)))
        (ap (λ (r : List (List ℕ)). after_if r spans (due before) (line_here s h line)) (sym so.rows_are)
        ∙ ap (λ (p : List Span). after_if before.rows p (due before) (line_here s h line)) (sym so.spans_are) ∙ is)
        ∙ ap (λ n. trees_fault s h rows spans n (due checker) (rest_at text new)) (sym next.number);
  }

  pub trees_wrong : (line : List ℕ) (more : List (List ℕ)) (old : Cursor) (before : Checking) → IsTreeSoFar s h rows spans text start first old before → rest_at text old ≡ line ∷ more
      → after_if before.rows before.spans (due before) (line_here s h line) ≡ None → Some old.number ≡ trees_fault s h rows spans start.number first (rest_at text start)
  trees_wrong line more old before so next is =
      sym (so.same
      ∙ ap (trees_fault s h rows spans old.number (due before)) next
      ∙ trees_step s h rows spans old.number (due before) line more
      ∙ ap (λ o. due_then o old.number (λ d. trees_fault s h rows spans (old.number + 1) d more))
      (ap (λ (r : List (List ℕ)). after_if r spans (due before) (line_here s h line)) (sym so.rows_are)
      ∙ ap (λ (p : List Span). after_if before.rows p (due before) (line_here s h line)) (sym so.spans_are) ∙ is))

  at_end : (n : ℕ) (d : List Due) → is_none_due d ≡ true → trees_fault s h rows spans n d [] ≡ None
  at_end n [] is = refl
  at_end n (e ∷ d) is = absurd (false≢true is)

  early : (n : ℕ) (d : List Due) → is_none_due d ≡ false → trees_fault s h rows spans n d [] ≡ Some n
  early n [] is = absurd (false≢true (sym is))
  early n (e ∷ d) is = refl

  pub trees_end : (old : Cursor) (before : Checking) → IsTreeSoFar s h rows spans text start first old before → rest_at text old ≡ [] → true ≡ is_none_due (due before)
      → None ≡ trees_fault s h rows spans start.number first (rest_at text start)
  trees_end old before so none is = sym (so.same ∙ ap (trees_fault s h rows spans old.number (due before)) none ∙ at_end old.number (due before) (sym is))

  pub trees_early : (old : Cursor) (before : Checking) → IsTreeSoFar s h rows spans text start first old before → rest_at text old ≡ [] → false ≡ is_none_due (due before)
      → Some old.number ≡ trees_fault s h rows spans start.number first (rest_at text start)
  trees_early old before so none is = sym (so.same ∙ ap (trees_fault s h rows spans old.number (due before)) none ∙ early old.number (due before) (sym is))

-- one key more
keys_step : (objects : List Object) (s : Subject) (h : Heading) (rows : List (List ℕ)) (n : ℕ) (keys : List (List ℕ)) (more left : ℕ) (l : List ℕ) (lines : List (List ℕ)) → more ≡ suc left
    → keys_fault objects s h rows n keys more (l ∷ lines) ≡ key_then (key_in h.card.key (length keys) (line_here s h l)) n (λ key. keys_fault objects s h rows (n + 1) (keys ++ key ∷ []) left lines)
keys_step objects s h rows n keys more left l lines is = ap (λ m. keys_fault objects s h rows n keys m (l ∷ lines)) is

length_one : (keys : List (List ℕ)) (key : List ℕ) → length (keys ++ key ∷ []) ≡ length keys + 1
length_one [] key = refl
length_one (k ∷ keys) key = let rest = length_one keys key in omega (arith, rest)

-- a key that a line tells has the size
pub key_long : (size : KeySize) (port : ℕ) (o : Option Line) (key : List ℕ) → key_in size port o ≡ Some key → length key ≡ key_bytes size
key_long size port None key is = absurd (none-some key is)
key_long size port (Some (line.Key p k)) key is = elim (cases_Bool ((p == port) && (length k == key_bytes size))) [
  | inl good ↦
      let parts = and_parts (p == port) (length k == key_bytes size) good in
      let same : k ≡ key = same_Some k key (sym (ap (λ b. if b then Some k else None) good) ∙ is) in
      ap length (sym same) ∙ eqb-true (length k) (key_bytes size) parts.1
  | inr bad ↦ absurd (none-some key (sym (ap (λ b. if b then Some k else None) bad) ∙ is))
]
key_long size port (Some (line.Row named)) key is = absurd (none-some key is)
key_long size port (Some (line.Not place)) key is = absurd (none-some key is)
key_long size port (Some (line.Split place)) key is = absurd (none-some key is)
key_long size port (Some line.Clash) key is = absurd (none-some key is)
key_long size port (Some (line.Zero span)) key is = absurd (none-some key is)
key_long size port (Some (line.Sum terms)) key is = absurd (none-some key is)

module _ (s : Subject) (h : Heading) (text : List ℕ) (start old : Cursor) (keys : List (List ℕ)) (port : ℕ) (so : AreKeysSoFar s h text start old keys port) where
  pub keys_more : (line : List ℕ) (new : Cursor) (key : List ℕ) (longer : List (List ℕ)) → port < ports_of s → IsNext text line old new → Some key ≡ key_in h.card.key port (line_here s h line) → longer ≡ keys ++ key ∷ []
      → AreKeysSoFar s h text start new longer (port + 1)
  keys_more line new key longer below next is put = subst (λ (l : List (List ℕ)). AreKeysSoFar s h text start new l (port + 1)) (sym put) (record {
    cursor = next.cursor;
    same = λ objects rows.
        let left : ports_of s - port ≡ suc (ports_of s - (port + 1)) = omega (arith, below) in
        so.same objects rows
        ∙ ap (keys_fault objects s h rows old.number keys (ports_of s - port)) next.is
        ∙ keys_step objects s h rows old.number keys (ports_of s - port) (ports_of s - (port + 1)) line (rest_at text new) left
        ∙ ap (λ p. key_then (key_in h.card.key p (line_here s h line)) old.number (λ k. keys_fault objects s h rows (old.number + 1) (keys ++ k ∷ []) (ports_of s - (port + 1)) (rest_at text new))) so.count
        ∙ ap (λ o. key_then o old.number (λ k. keys_fault objects s h rows (old.number + 1) (keys ++ k ∷ []) (ports_of s - (port + 1)) (rest_at text new))) (sym is)
        ∙ ap (λ n. keys_fault objects s h rows n (keys ++ key ∷ []) (ports_of s - (port + 1)) (rest_at text new)) (sym next.number);
    whole = All-push (λ k. length k ≡ key_bytes h.card.key) keys key so.whole (key_long h.card.key port (line_here s h line) key (sym is));
    told = All-push (IsToldHere s h) keys key so.told (record { port = port; bytes = line; is = sym is });
    count = length_one keys key ∙ ap (λ n. n + 1) so.count;
    number = omega (arith, next.number, so.number);
  })

  pub keys_wrong : (line : List ℕ) (more : List (List ℕ)) → port < ports_of s → rest_at text old ≡ line ∷ more → None ≡ key_in h.card.key port (line_here s h line) → AreKeysRead s h text start old keys false
  keys_wrong line more below next is objects rows =
      let left : ports_of s - port ≡ suc (ports_of s - (port + 1)) = omega (arith, below) in
      so.same objects rows
      ∙ ap (keys_fault objects s h rows old.number keys (ports_of s - port)) next
      ∙ keys_step objects s h rows old.number keys (ports_of s - port) (ports_of s - (port + 1)) line more left
      ∙ ap (λ p. key_then (key_in h.card.key p (line_here s h line)) old.number (λ k. keys_fault objects s h rows (old.number + 1) (keys ++ k ∷ []) (ports_of s - (port + 1)) more)) so.count
      ∙ ap (λ o. key_then o old.number (λ k. keys_fault objects s h rows (old.number + 1) (keys ++ k ∷ []) (ports_of s - (port + 1)) more)) (sym is)

  pub keys_early : port < ports_of s → rest_at text old ≡ [] → AreKeysRead s h text start old keys false
  keys_early below none objects rows =
      let left : ports_of s - port ≡ suc (ports_of s - (port + 1)) = omega (arith, below) in
      so.same objects rows
      ∙ ap (keys_fault objects s h rows old.number keys (ports_of s - port)) none
      ∙ ap (λ m. keys_fault objects s h rows old.number keys m []) left

  pub keys_end : port ≡ ports_of s → AreKeysRead s h text start old keys true
  keys_end all objects rows =
      so.same objects rows ∙ ap (λ m. keys_fault objects s h rows old.number keys m (rest_at text old)) (let none : ports_of s - port ≡ 0 = omega (arith, all) in none)
