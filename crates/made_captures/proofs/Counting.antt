-- What writes to the outputs of a run and to its journal do to what is told beside made captures.
use Rattle.std.proofs.Common.{◌≡◌, ◌≢◌, ℕ, zero, suc, ◌+◌, ◌%◌, ◌^◌, ◌<◌, ◌≤◌, ◌⊎◌, inl, inr, Bool, true, false, cond, leb, ltb, List, length, refl, sym, ap, ap₂, subst, ◌∙◌, arith, Err, leb-true, ltb-true, eq-eqb, ne_eqb}
use Rattle.std.specs.Prelude.{Option, Some, None, option_map, nat_eq}
use Rattle.std.proofs.lemmas.Bool.{cases_eq, lt-ltb, le-leb}
use Rattle.std.proofs.lemmas.List.{length-append}
use Rattle.nf_files.specs.Told.{Told, Same}
use Rattle.nf_files.specs.Pieces.{Gains}
use Rattle.nf_files.specs.Writes.{Writes}
use Rattle.nf_files.specs.Causes.{Counted, FirstAfter, HasCause}
use Rattle.nf_files.specs.declared.fault.FilesFault.{FilesFault}
use Rattle.nf_files.specs.declared.fault.FilesFault.TheVariants.{Failed, Memory}
use Rattle.made_captures.specs.Told.{with_made}
use Rattle.made_captures.specs.Outputs.{Counting, journal_of, is_output, with_bytes, sum_of, bytes_from, is_right, counts_right, is_known, told_if, mark_of, with_kinds, told_beside}
use Rattle.made_captures.proofs.KindsBeside.{writes_kinds, same_kinds}
use Rattle.made_captures.proofs.Placing.{writes_on, same_on}

-- ---- the bytes that were given

pub bytes_same : (old new : ℕ → Option (List ℕ)) (first n : ℕ) → ((g : ℕ) → first ≤ g → g < first + n → new g ≡ old g) → bytes_from new first n ≡ bytes_from old first n
bytes_same old new first zero same = refl
bytes_same old new first (suc n) same =
    ap₂ sum_of (ap (option_map (λ (bytes : List ℕ). length bytes)) (same first (omega arith) (omega arith)))
    (bytes_same old new (first + 1) n (λ g le lt. same g (omega (arith, le)) (omega (arith, lt))))

more_here : (piece : List ℕ) (old new : Option (List ℕ)) (rest : Option ℕ) → Gains piece old new
    → sum_of (option_map (λ (bytes : List ℕ). length bytes) new) rest ≡ option_map (λ (s : ℕ). s + length piece) (sum_of (option_map (λ (bytes : List ℕ). length bytes) old) rest)
more_here piece None None rest g = refl
more_here piece None (Some b) rest g = absurd g
more_here piece (Some a) None rest g = absurd g
more_here piece (Some a) (Some b) None g = refl
more_here piece (Some a) (Some b) (Some s) g =
    let e : length b ≡ length a + length piece = ap (λ (xs : List ℕ). length xs) g ∙ length-append a piece in
    let f : length b + s ≡ length a + s + length piece = omega (arith, e) in
    ap Some f

more_there : (k : ℕ) (here rest more : Option ℕ) → more ≡ option_map (λ (s : ℕ). s + k) rest → sum_of here more ≡ option_map (λ (s : ℕ). s + k) (sum_of here rest)
more_there k None rest more e = refl
more_there k (Some a) None more e = ap (sum_of (Some a)) e
more_there k (Some a) (Some s) more e = let f : a + (s + k) ≡ a + s + k = omega arith in ap (sum_of (Some a)) e ∙ ap Some f

abbrev More : (old new : ℕ → Option (List ℕ)) (first n k : ℕ) → Type 0
More old new first n k = bytes_from new first n ≡ option_map (λ (s : ℕ). s + k) (bytes_from old first n)

bytes_at : (old new : ℕ → Option (List ℕ)) (file first n : ℕ) (piece : List ℕ) → Gains piece (old file) (new file) → ((g : ℕ) → g ≢ file → new g ≡ old g) → ((first ≡ file) ⊎ (first ≡ file → ⊥)) → ((first ≡ file → ⊥) → More old new (first + 1) n (length piece))
    → More old new first (suc n) (length piece)
bytes_at old new file first n piece gained same (inl e) others =
    let here : Gains piece (old first) (new first) = subst (λ (g : ℕ). Gains piece (old g) (new g)) (sym e) gained in
    ap (sum_of (option_map (λ (bytes : List ℕ). length bytes) (new first))) (bytes_same old new (first + 1) n (λ g more less. same g (λ is. omega (arith, more, is, e))))
    ∙ more_here piece (old first) (new first) (bytes_from old (first + 1) n) here
bytes_at old new file first n piece gained same (inr ne) others =
    ap (λ (x : Option (List ℕ)). sum_of (option_map (λ (bytes : List ℕ). length bytes) x) (bytes_from new (first + 1) n)) (same first ne)
    ∙ more_there (length piece) (option_map (λ (bytes : List ℕ). length bytes) (old first)) (bytes_from old (first + 1) n) (bytes_from new (first + 1) n) (others ne)

bytes_more : (old new : ℕ → Option (List ℕ)) (file first n : ℕ) (piece : List ℕ) → Gains piece (old file) (new file) → ((g : ℕ) → g ≢ file → new g ≡ old g) → first ≤ file → file < first + n → More old new first n (length piece)
bytes_more old new file first zero piece gained same le lt = absurd (omega (arith, le, lt))
bytes_more old new file first (suc n) piece gained same le lt =
    bytes_at old new file first n piece gained same (cases_eq first file) (λ ne. bytes_more old new file (first + 1) n piece gained same (omega (arith, le, ne)) (omega (arith, lt)))

-- ---- the count is as right as it was

iff_true : (a b c d : ℕ) → ((a ≡ b) ⊎ (a ≡ b → ⊥)) → ((c ≡ d) ⊎ (c ≡ d → ⊥)) → (a ≡ b → c ≡ d) → (c ≡ d → a ≡ b) → nat_eq a b ≡ nat_eq c d
iff_true a b c d (inl e) (inl f) there back = eq-eqb a b e ∙ sym (eq-eqb c d f)
iff_true a b c d (inl e) (inr n) there back = absurd (n (there e))
iff_true a b c d (inr n) (inl f) there back = absurd (n (back f))
iff_true a b c d (inr n) (inr m) there back = ne_eqb a b n ∙ sym (ne_eqb c d m)

right_more : (o : Option ℕ) (bytes k : ℕ) → bytes < 2 ^ 64 → is_right (option_map (λ (s : ℕ). s + k) o) ((bytes + k) % 2 ^ 64) ≡ is_right o bytes
right_more None bytes k lt = refl
right_more (Some s) bytes k lt =
    iff_true ((s + k) % 2 ^ 64) ((bytes + k) % 2 ^ 64) (s % 2 ^ 64) bytes (cases_eq ((s + k) % 2 ^ 64) ((bytes + k) % 2 ^ 64)) (cases_eq (s % 2 ^ 64) bytes)
    (λ e. omega (arith, lt, e)) (λ e. omega (arith, lt, e))

-- the outputs are those from the first number on
in_range : (c : Counting) (file : ℕ) (b : Bool) → leb c.first file ≡ b → cond b (ltb file (c.first + c.count)) false ≡ true → (c.first ≤ file) × (file < c.first + c.count)
in_range c file true e f = (leb-true c.first file e, ltb-true file (c.first + c.count) f)
in_range c file false e f = absurd cc

out_of_range : (c : Counting) (file g : ℕ) → is_output c file ≡ false → c.first ≤ g → g < c.first + c.count → g ≢ file
out_of_range c file g e le lt same = no (sym (ap₂ (λ (b d : Bool). cond b d false) (le-leb c.first file (omega (arith, le, same))) (lt-ltb file (c.first + c.count) (omega (arith, lt, same)))) ∙ e)
  where
    no : true ≡ false → ⊥
    no e = absurd cc

either_right : (c : Counting) (old new : Told) (file : ℕ) (piece : List ℕ) (b : Bool) → is_output c file ≡ b → c.bytes < 2 ^ 64 → Writes old new file piece
    → is_right (bytes_from new.given c.first c.count) (cond b ((c.bytes + length piece) % 2 ^ 64) c.bytes) ≡ is_right (bytes_from old.given c.first c.count) c.bytes
either_right c old new file piece true e lt w =
    let within = in_range c file (leb c.first file) refl e in
    ap (λ (o : Option ℕ). is_right o ((c.bytes + length piece) % 2 ^ 64)) (bytes_more old.given new.given file c.first c.count piece w.gained w.givens within.0 within.1)
    ∙ right_more (bytes_from old.given c.first c.count) c.bytes (length piece) lt
either_right c old new file piece false e lt w =
    ap (λ (o : Option ℕ). is_right o c.bytes) (bytes_same old.given new.given c.first c.count (λ g le less. w.givens g (out_of_range c file g e le less)))

right_writes : (c : Counting) (old new : Told) (file : ℕ) (piece : List ℕ) → c.bytes < 2 ^ 64 → Writes old new file piece → counts_right (with_bytes c file (length piece)) new ≡ counts_right c old
right_writes c old new file piece lt w = either_right c old new file piece (is_output c file) refl lt w

right_same : (c : Counting) (old new : Told) → ((g : ℕ) → new.given g ≡ old.given g) → counts_right c new ≡ counts_right c old
right_same c old new same = ap (λ (o : Option ℕ). is_right o c.bytes) (bytes_same old.given new.given c.first c.count (λ g le lt. same g))

-- ---- which file failed first

known_first : (last file : ℕ) (old new : Option ℕ) → file ≤ last → FirstAfter old file new → is_known last new ≡ is_known last old
known_first last file (Some first) new le e = ap (is_known last) e
known_first last file None new le e = ap (is_known last) e ∙ le-leb file last le

pub known_after : (last file : ℕ) (T : Type 0) (old new : Counted) (fault : FilesFault) → file ≤ last → HasCause {T = T} old new file (Err fault) → is_known last new.first ≡ is_known last old.first
known_after last file T old new (Memory e) le h = ap (λ (c : Counted). is_known last c.first) h
known_after last file T old new Failed le h = known_first last file old.first new.first le h.first

-- ---- what is told where that is so

writes_if : (right : Bool) (old new : Told) (file : ℕ) (piece : List ℕ) → Writes old new file piece → Writes (told_if right old) (told_if right new) file piece
writes_if true old new file piece w = w
writes_if false old new file piece w = record {
  gained = tt;
  current = λ n c. record { last = c.last; follows = refl };
  contents = λ n ne. refl;
  rests = λ g. refl;
  givens = λ g ne. refl;
  names = λ g. refl;
  kinds = λ g. refl;
  latest_same = λ n. refl;
  next_same = w.next_same;
}

same_if : (right : Bool) (old new : Told) → Same old new → Same (told_if right old) (told_if right new)
same_if true old new s = s
same_if false old new s = record { contents = λ n. refl; rests = λ g. refl; givens = λ g. refl; names = λ g. refl; kinds = λ g. refl; latest_same = λ n. refl; next_same = s.next_same }

-- ---- beside made captures

with_flags : (captures : List (List ℕ)) (which first count : ℕ) (told : Told) (r s k l : Bool) → r ≡ s → k ≡ l
    → with_made captures (mark_of which r k first count) (told_if r told) ≡ with_made captures (mark_of which s l first count) (told_if s told)
with_flags captures which first count told r s k l e f = ap₂ (λ (x y : Bool). with_made captures (mark_of which x y first count) (told_if x told)) e f

pub writes_beside : (captures : List (List ℕ)) (which : ℕ) (c now : Counting) (old new : Told) (before after : Counted) (file n : ℕ) (piece : List ℕ) → file < 2 ^ 32 → c.bytes < 2 ^ 64 → n ≡ length piece → now ≡ with_bytes c file n → after ≡ before → Writes old new file piece
    → Writes (told_beside captures which c old before) (told_beside captures which now new after) file piece
writes_beside captures which c now old new before after file n piece low fits count is same w =
    let right = counts_right c old in
    let known = is_known (journal_of c) before.first in
    let later = with_bytes c file (length piece) in
    let here = writes_on captures (mark_of which right known c.first c.count) (told_if right old) (told_if right new) file piece low (writes_if right old new file piece w) in
    let there = with_flags captures which c.first c.count new right (counts_right later new) known (is_known (journal_of c) after.first) (sym (right_writes c old new file piece fits w)) (sym (ap (λ (d : Counted). is_known (journal_of c) d.first) same)) in
    let put = subst (λ (t : Told). Writes (told_beside captures which c old before) t file piece) (ap (with_kinds captures (journal_of c) new.kind) there) (writes_kinds captures (journal_of c) old.kind new.kind _ _ file piece w.kinds here) in
    subst (λ (d : Counting). Writes (told_beside captures which c old before) (told_beside captures which d new after) file piece) (sym (is ∙ ap (with_bytes c file) count)) put

pub same_beside : (captures : List (List ℕ)) (which : ℕ) (c : Counting) (old new : Told) (before after : Counted) → is_known (journal_of c) after.first ≡ is_known (journal_of c) before.first → Same old new
    → Same (told_beside captures which c old before) (told_beside captures which c new after)
same_beside captures which c old new before after known s =
    let right = counts_right c old in
    let k = is_known (journal_of c) before.first in
    let here = same_on captures (mark_of which right k c.first c.count) (told_if right old) (told_if right new) (same_if right old new s) in
    let there = with_flags captures which c.first c.count new right (counts_right c new) k (is_known (journal_of c) after.first) (sym (right_same c old new s.givens)) (sym known) in
    subst (λ (t : Told). Same (told_beside captures which c old before) t) (ap (with_kinds captures (journal_of c) new.kind) there) (same_kinds captures (journal_of c) old.kind new.kind _ _ s.kinds here)
