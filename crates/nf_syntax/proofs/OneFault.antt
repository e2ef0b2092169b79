-- A text has one fault at most, and none where it has a tree.
use Rattle.std.proofs.Common.{◌≡◌, ◌∙◌, ◌∷◌, ◌++◌, ◌≤◌, ℕ, Bool, true, false, Option, Some, None, List, [], length, refl, ap, sym, append_assoc, append-nil, arith}
use Rattle.nf_tokens.specs.Tokens.{tokens_of, start, behind_all}
use Rattle.nf_tokens.specs.declared.token.Place as places
use Rattle.nf_tokens.specs.declared.token.Placed.{Placed}
use Rattle.nf_tokens.specs.declared.token.Token.{Token}
use Rattle.nf_tree.specs.Tree.{Tree}
use Rattle.nf_syntax.specs.declared.fault.SyntaxKind.{SyntaxKind}
use Rattle.nf_syntax.specs.declared.fault.SyntaxKind.TheVariants as kinds
use Rattle.nf_syntax.specs.Items.{item, kind_of, Marked, unmarked}
use Rattle.nf_syntax.specs.Machine.{Place, Row, Go, No, step, finished, ended, judged, Verdict, Accepted, Stuck, Past, Short, run, whole}
use Rattle.nf_syntax.specs.Language.{marked, CanGoOn, IsFirstStuck, IsFirstPast, IsShort, IsFault, Long, Misplaced, Passing, Unfinished, IsTextOf}
use Rattle.nf_syntax.specs.Reads.{without_end}
use Rattle.nf_syntax.proofs.Going.{goes, goes_go, on_row}
use Rattle.nf_syntax.proofs.CompleteText.{spelled_goes}
use Rattle.nf_syntax.proofs.Sound.{sound}
use Rattle.nf_syntax.proofs.First.{placed, can_go_on, spelled_run}
use Rattle.nf_syntax.proofs.SoundTokens.{same_some}
use Rattle.nf_syntax.proofs.Marks.{went_on}

-- the table passes these tokens, and comes to a place behind them
record Comes (at : Place) (front : List Placed) : Type 0 where
  stop : Place
  there : (ms : List Marked) → goes at (unmarked front ++ ms) ≡ goes stop ms
  ran : (ps : List Placed) → run at (front ++ ps) ≡ run stop ps

comes_row : (at : Place) (q : Placed) (front : List Placed) (ms : List Marked) (t : Tree) (row : Row) → ((next : Place) → goes next (unmarked front ++ ms) ≡ Some t → Comes next front) →
    step at (item q.token q.place) ≡ row → on_row row false (λ next. goes next (unmarked front ++ ms)) ≡ Some t → Comes at (q ∷ front)
comes_row at q front ms t (Go true next) later s h = absurd cc
comes_row at q front ms t (Go false next) later s h = let l = later next h in record {
  stop = l.stop;
  there = λ ns. goes_go at (item q.token q.place) false next (unmarked front ++ ns) s ∙ l.there ns;
  ran = λ ps. ap (λ row. judged row q (λ n. run n (front ++ ps))) s ∙ l.ran ps;
}
comes_row at q front ms t No later s h = absurd cc

comes : (at : Place) (front : List Placed) (ms : List Marked) (t : Tree) → goes at (unmarked front ++ ms) ≡ Some t → Comes at front
comes at [] ms t h = record { stop = at; there = λ ns. refl; ran = λ ps. refl }
comes at (q ∷ front) ms t h = comes_row at q front ms t (step at (item q.token q.place)) (λ next. comes next front ms t) refl h

went_far : (front : List Marked) (c : CanGoOn front) → goes whole (front ++ c.more) ≡ Some (without_end c.tree)
went_far front c = ap (goes whole) (sym c.tokens) ∙ spelled_goes c.tree c.well_formed

-- a token that no text has there is where the table is stuck
stuck_row : (stop : Place) (token : Token) (at : places.Place) (rest : List Placed) (front : List Marked) (row : Row) → ((ms : List Marked) → goes whole (front ++ ms) ≡ goes stop ms) →
    ((past : Bool) → CanGoOn (front ++ marked (item token at) past ∷ []) → ⊥) → step stop (item token at) ≡ row → judged row (placed token at) (λ next. run next rest) ≡ Stuck (kind_of token) at
stuck_row stop token at rest front (Go past next) there none s =
    let m = marked (item token at) past in
    absurd (none past (can_go_on next (front ++ m ∷ []) (λ ms. ap (goes whole) (append_assoc front (m ∷ []) ms) ∙ there (m ∷ ms) ∙ goes_go stop (item token at) past next ms s)))
stuck_row stop token at rest front No there none s = refl

stuck_run : (kind : SyntaxKind) (at : places.Place) (ps : List Placed) → IsFirstStuck kind at ps → run whole ps ≡ Stuck kind at
stuck_run kind at ps f =
    let c = comes whole f.front f.before.more (without_end f.before.tree) (went_far (unmarked f.front) f.before) in
    ap (run whole) f.split ∙ c.ran (placed f.token at ∷ f.rest)
    ∙ stuck_row c.stop f.token at f.rest (unmarked f.front) (step c.stop (item f.token at)) c.there f.stuck refl
    ∙ ap (λ k. Stuck k at) (sym f.of_kind)

-- a token that passes a limit in some text is where the table passes it
past_row : (token : Token) (at : places.Place) (rest : List Placed) (row : Row) (more : List Marked) (t : Tree) → on_row row true (λ next. goes next more) ≡ Some t →
    judged row (placed token at) (λ next. run next rest) ≡ Past at
past_row token at rest (Go true next) more t h = refl
past_row token at rest (Go false next) more t h = absurd cc
past_row token at rest No more t h = absurd cc

past_run : (at : places.Place) (ps : List Placed) → IsFirstPast at ps → run whole ps ≡ Past at
past_run at ps f =
    let m = marked (item f.token at) true in
    let w = went_on (unmarked f.front) m f.past in
    let c = comes whole f.front (m ∷ f.past.more) (without_end f.past.tree) w in
    ap (run whole) f.split ∙ c.ran (placed f.token at ∷ f.rest)
    ∙ past_row f.token at f.rest (step c.stop (item f.token at)) f.past.more (without_end f.past.tree) (sym (c.there (m ∷ f.past.more)) ∙ w)

-- tokens that begin a text and are none end where the table needs more
ended_row : (o : Option Tree) → ((t : Tree) → o ≡ Some t → ⊥) → ended o ≡ Short
ended_row None none = refl
ended_row (Some t) none = absurd (none t refl)

short_run : (ps : List Placed) → IsShort ps → run whole ps ≡ Short
short_run ps f =
    let c = comes whole ps f.before.more (without_end f.before.tree) (went_far (unmarked ps) f.before) in
    ap (run whole) (sym (append-nil ps)) ∙ c.ran []
    ∙ ended_row (finished c.stop) (λ t h. f.unfinished t (sound (unmarked ps) t (ap (goes whole) (sym (append-nil (unmarked ps))) ∙ c.there [] ∙ h)))

record Fault : Type 0 where
  kind : SyntaxKind
  place : places.Place

abbrev as_fault : SyntaxKind → places.Place → Fault
as_fault kind at = record { kind = kind; place = at }

abbrev fault : SyntaxKind → places.Place → Option Fault
fault kind at = Some (as_fault kind at)

abbrev fault_of : places.Place → Verdict → Option Fault
fault_of end (Accepted t) = None
fault_of end (Stuck kind at) = fault kind at
fault_of end (Past at) = fault kinds.Limit at
fault_of end Short = fault kinds.End end

the_fault : (kind : SyntaxKind) (at : places.Place) (text : List ℕ) → length text ≤ 1048576 → IsFault kind at text → fault_of (behind_all start text) (run whole (tokens_of 0 start text)) ≡ fault kind at
the_fault kind at text small (Long long e s) = absurd (omega (arith, small, long))
the_fault kind at text small (Misplaced h f) = ap (fault_of (behind_all start text)) (stuck_run kind at (tokens_of 0 start text) f)
the_fault kind at text small (Passing h e f) = ap (fault_of (behind_all start text)) (past_run at (tokens_of 0 start text) f) ∙ ap (λ k. fault k at) (sym e)
the_fault kind at text small (Unfinished h e s f) = ap (fault_of (behind_all start text)) (short_run (tokens_of 0 start text) f) ∙ ap (λ p. fault kinds.End p) (sym s) ∙ ap (λ k. fault k at) (sym e)

same_fault : (k l : SyntaxKind) (p q : places.Place) → fault k p ≡ fault l q → (k ≡ l) × (p ≡ q)
same_fault k l p q h =
    let e = same_some (as_fault k p) (as_fault l q) h in
    (ap (λ f. f.kind) e, ap (λ f. f.place) e)

one_small : (k l : SyntaxKind) (p q : places.Place) (text : List ℕ) → length text ≤ 1048576 → IsFault k p text → IsFault l q text → (k ≡ l) × (p ≡ q)
one_small k l p q text small a b = same_fault k l p q (sym (the_fault k p text small a) ∙ the_fault l q text small b)

pub one_fault : (k l : SyntaxKind) (p q : places.Place) (text : List ℕ) → IsFault k p text → IsFault l q text → (k ≡ l) × (p ≡ q)
one_fault k l p q text (Long h e s) (Long h' e' s') = (e ∙ sym e', s ∙ sym s')
one_fault k l p q text (Long h e s) (Misplaced h' f) = absurd (omega (arith, h, h'))
one_fault k l p q text (Long h e s) (Passing h' e' f) = absurd (omega (arith, h, h'))
one_fault k l p q text (Long h e s) (Unfinished h' e' s' f) = absurd (omega (arith, h, h'))
one_fault k l p q text (Misplaced h f) b = one_small k l p q text h (Misplaced h f) b
one_fault k l p q text (Passing h e f) b = one_small k l p q text h (Passing h e f) b
one_fault k l p q text (Unfinished h e s f) b = one_small k l p q text h (Unfinished h e s f) b

no_fault_of : (end : places.Place) (v : Verdict) (t : Tree) (k : SyntaxKind) (p : places.Place) → v ≡ Accepted t → fault_of end v ≡ fault k p → ⊥
no_fault_of end (Accepted u) t k p e h = cc
no_fault_of end (Stuck kind at) t k p e h = cc
no_fault_of end (Past at) t k p e h = cc
no_fault_of end Short t k p e h = cc

pub no_fault : (k : SyntaxKind) (p : places.Place) (text : List ℕ) (tree : Tree) → IsTextOf text tree → IsFault k p text → ⊥
no_fault k p text tree t f =
    no_fault_of (behind_all start text) (run whole (tokens_of 0 start text)) (without_end tree) k p (spelled_run (tokens_of 0 start text) tree t.spelled.spelled) (the_fault k p text t.small f)
