-- Lines with numbers, as texts come behind others.
use Rattle.std.proofs.Common.{◌≡◌, ◌<◌, ◌≤◌, arith, ℕ, Bool, List, [], ◌∷◌, ◌++◌, length, map, Contains, refl, ap, ap₂, sym, ◌∙◌, subst, inl, inr}
use Rattle.std.proofs.lemmas.List.{append-nil, length-append, get_or_append_left, map-append}
use Rattle.std.proofs.lemmas.List.Elements.{Contains-append_cases}
use Rattle.nf_laws.proofs.Listed.{here, there, has, has_none}
use Rattle.path_walk.specs.declared.line.Line.{Line}
use Rattle.path_walk.specs.declared.line.Line.TheVariants as line
use Rattle.path_walk.specs.Tests.{TestText}
use Rattle.path_walk.specs.Seen.{line_map}
use Rattle.path_walk.specs.Numbering.{no_text, text_at, HasNumber, AreNumbered, IsNumber, IsLineNumbered}

-- a line that has no test
pub untested : (texts : List TestText) (l : Line TestText) (m : Line ℕ) → line_map (text_at texts) m ≡ l → HasNumber (length texts) m → IsLineNumbered texts texts l m
untested texts l m e h = record { more = []; behind = sym (append-nil texts); same = e; within = h }

pub tested : (old new : List TestText) (text : TestText) (exchanged : Bool) (hit miss n : ℕ) → IsNumber old new text n → IsLineNumbered old new (line.Test text exchanged hit miss) (line.Test n exchanged hit miss)
tested old new text exchanged hit miss n h = record {
  more = h.more;
  behind = h.behind;
  same = ap (λ (x : TestText). line.Test x exchanged hit miss) h.at;
  within = h.within;
}

text_stays : (old more : List TestText) (n : ℕ) → n < length old → text_at (old ++ more) n ≡ text_at old n
text_stays old more n h = get_or_append_left old more no_text n h

line_stays : (old more : List TestText) (l : Line ℕ) → HasNumber (length old) l → line_map (text_at (old ++ more)) l ≡ line_map (text_at old) l
line_stays old more line.Stop h = refl
line_stays old more (line.Free hit miss) h = refl
line_stays old more (line.Test n exchanged hit miss) h = ap (λ (x : TestText). line.Test x exchanged hit miss) (text_stays old more n h)
line_stays old more (line.Make made taken full) h = refl

lines_stay : (old more : List TestText) (ls : List (Line ℕ)) → ((l : Line ℕ) → Contains ls l → HasNumber (length old) l) → map (line_map (text_at (old ++ more))) ls ≡ map (line_map (text_at old)) ls
lines_stay old more [] h = refl
lines_stay old more (l ∷ ls) h = ap₂ (λ x xs. x ∷ xs) (line_stays old more l (h l (here l ls))) (lines_stay old more ls (λ x i. h x (there l ls x i)))

has_more : (m n : ℕ) (l : Line ℕ) → m ≤ n → HasNumber m l → HasNumber n l
has_more m n line.Stop h k = tt
has_more m n (line.Free hit miss) h k = tt
has_more m n (line.Test x exchanged hit miss) h k = let j : x < m = k in omega arith
has_more m n (line.Make made taken full) h k = tt

pub no_lines : (texts : List TestText) → AreNumbered [] texts []
no_lines texts = record { same = refl; within = λ l i. absurd (has_none l i) }

pub one_line : (ls : List (Line TestText)) (old new : List TestText) (numbered : List (Line ℕ)) (l : Line TestText) (m : Line ℕ) → AreNumbered ls old numbered → IsLineNumbered old new l m → AreNumbered (ls ++ l ∷ []) new (numbered ++ m ∷ [])
one_line ls old new numbered l m a h = record {
  same = map-append (line_map (text_at new)) numbered (m ∷ [])
      ∙ ap₂ (λ xs x. xs ++ x ∷ []) (ap (λ ts. map (line_map (text_at ts)) numbered) h.behind ∙ lines_stay old h.more numbered a.within ∙ a.same) h.same;
  within = λ x i.
      let n : length new ≡ length (old ++ h.more) = ap length h.behind in
      let k = length-append old h.more in
      let le : length old ≤ length new = omega arith in
      elim (Contains-append_cases numbered (m ∷ []) x i) [
        | inl j ↦ has_more (length old) (length new) x le (a.within x j)
        | inr j ↦ elim (has m [] x j) [ inl e ↦ subst (λ y. HasNumber (length new) y) e h.within | inr k ↦ absurd (has_none x k) ]
      ];
}
