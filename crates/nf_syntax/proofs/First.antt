-- Where the table stops is the first fault, and the contract of the parser from the verdict of the table.
use Rattle.std.proofs.Common.{◌≡◌, ◌∙◌, ◌∷◌, ◌++◌, true, false, Option, Some, None, Result, Ok, Err, IfOk, IfErr, List, [], refl, ap, sym, append_assoc}
use Rattle.nf_tokens.specs.declared.token.Place as places
use Rattle.nf_tokens.specs.declared.token.Placed.{Placed}
use Rattle.nf_tokens.specs.declared.token.Token.{Token}
use Rattle.nf_tree.specs.Tree.{Tree}
use Rattle.nf_syntax.specs.declared.fault.SyntaxKind.{SyntaxKind}
use Rattle.nf_syntax.specs.declared.fault.TokenFault.{TokenFault}
use Rattle.nf_syntax.specs.declared.fault.TokenFault.TheVariants as stops
use Rattle.nf_syntax.specs.Items.{item, kind_of, Marked, unmarked}
use Rattle.nf_syntax.specs.Machine.{Place, Row, Go, No, step, finished, ended, judged, Accepted, Stuck, Past, Short, run, whole}
use Rattle.nf_syntax.specs.Language.{marked, Spells, CanGoOn, IsTreeOf, IsFirstStuck, IsFirstPast, IsShort, IsFirstFault, Finds}
use Rattle.nf_syntax.specs.Reads.{Answers, without_end}
use Rattle.nf_syntax.proofs.Going.{goes, goes_go, goes_no, accepted, went}
use Rattle.nf_syntax.proofs.CompleteText.{spelled_goes}
use Rattle.nf_syntax.proofs.Sound.{sound}
use Rattle.nf_syntax.proofs.Live.{live}

abbrev pub placed : Token → places.Place → Placed
placed t at = record { token = t; place = at }

-- the table comes to a place in front of a token, which has this row there
record Stops (at : Place) (ps : List Placed) (p : places.Place) (row : Row) : Type 0 where
  front : List Placed
  token : Token
  rest : List Placed
  stop : Place
  split : ps ≡ front ++ placed token p ∷ rest
  there : (ms : List Marked) → goes at (unmarked front ++ ms) ≡ goes stop ms
  at_it : step stop (item token p) ≡ row

abbrev stops_here : (at : Place) (q : Placed) (p : places.Place) (ps : List Placed) (row : Row) → q.place ≡ p → step at (item q.token q.place) ≡ row → Stops at (q ∷ ps) p row
stops_here at q p ps row same h = record {
  front = [];
  token = q.token;
  rest = ps;
  stop = at;
  split = ap (λ x. placed q.token x ∷ ps) same;
  there = λ ms. refl;
  at_it = ap (λ x. step at (item q.token x)) (sym same) ∙ h;
}

abbrev stops_later : (at : Place) (q : Placed) (p : places.Place) (ps : List Placed) (row : Row) (next : Place) → step at (item q.token q.place) ≡ Go false next → Stops next ps p row → Stops at (q ∷ ps) p row
stops_later at q p ps row next h s = record {
  front = q ∷ s.front;
  token = s.token;
  rest = s.rest;
  stop = s.stop;
  split = ap (λ x. q ∷ x) s.split;
  there = λ ms. goes_go at (item q.token q.place) false next (unmarked s.front ++ ms) h ∙ s.there ms;
  at_it = s.at_it;
}

no_stuck : (o : Option Tree) (kind : SyntaxKind) (p : places.Place) → ended o ≡ Stuck kind p → ⊥
no_stuck None kind p h = cc
no_stuck (Some t) kind p h = cc

no_past : (o : Option Tree) (p : places.Place) → ended o ≡ Past p → ⊥
no_past None p h = cc
no_past (Some t) p h = cc

-- where it is stuck
record Sticks (at : Place) (ps : List Placed) (kind : SyntaxKind) (p : places.Place) : Type 0 where
  stops : Stops at ps p No
  of_kind : kind ≡ kind_of stops.token

same_stuck : (a b : SyntaxKind) (p q : places.Place) → Stuck a p ≡ Stuck b q → (b ≡ a) × (p ≡ q)
same_stuck a b p q h = (cc, cc)

stuck_row : (at : Place) (q : Placed) (kind : SyntaxKind) (p : places.Place) (ps : List Placed) (row : Row) → ((next : Place) → run next ps ≡ Stuck kind p → Sticks next ps kind p) →
    step at (item q.token q.place) ≡ row → judged row q (λ next. run next ps) ≡ Stuck kind p → Sticks at (q ∷ ps) kind p
stuck_row at q kind p ps (Go true next) later s h = absurd cc
stuck_row at q kind p ps (Go false next) later s h = let l = later next h in record { stops = stops_later at q p ps No next s l.stops; of_kind = l.of_kind }
stuck_row at q kind p ps No later s h = let e = same_stuck (kind_of q.token) kind q.place p h in record { stops = stops_here at q p ps No e.1 s; of_kind = e.0 }

stuck : (at : Place) (ps : List Placed) (kind : SyntaxKind) (p : places.Place) → run at ps ≡ Stuck kind p → Sticks at ps kind p
stuck at [] kind p h = absurd (no_stuck (finished at) kind p h)
stuck at (q ∷ ps) kind p h = stuck_row at q kind p ps (step at (item q.token q.place)) (λ next. stuck next ps kind p) refl h

-- where it passes a limit
record Passes (at : Place) (ps : List Placed) (p : places.Place) : Type 0 where
  next : Place
  stops : Stops at ps p (Go true next)

past_row : (at : Place) (q : Placed) (p : places.Place) (ps : List Placed) (row : Row) → ((next : Place) → run next ps ≡ Past p → Passes next ps p) →
    step at (item q.token q.place) ≡ row → judged row q (λ next. run next ps) ≡ Past p → Passes at (q ∷ ps) p
past_row at q p ps (Go true next) later s h = record { next = next; stops = stops_here at q p ps (Go true next) (cc) s }
past_row at q p ps (Go false next) later s h = let l = later next h in record { next = l.next; stops = stops_later at q p ps (Go true l.next) next s l.stops }
past_row at q p ps No later s h = absurd cc

past : (at : Place) (ps : List Placed) (p : places.Place) → run at ps ≡ Past p → Passes at ps p
past at [] p h = absurd (no_past (finished at) p h)
past at (q ∷ ps) p h = past_row at q p ps (step at (item q.token q.place)) (λ next. past next ps p) refl h

-- at an end that is too early
record Reaches (at : Place) (ps : List Placed) : Type 0 where
  stop : Place
  there : (ms : List Marked) → goes at (unmarked ps ++ ms) ≡ goes stop ms

short_row : (at : Place) (q : Placed) (ps : List Placed) (row : Row) → ((next : Place) → run next ps ≡ Short → Reaches next ps) →
    step at (item q.token q.place) ≡ row → judged row q (λ next. run next ps) ≡ Short → Reaches at (q ∷ ps)
short_row at q ps (Go true next) later s h = absurd cc
short_row at q ps (Go false next) later s h = let l = later next h in record { stop = l.stop; there = λ ms. goes_go at (item q.token q.place) false next (unmarked ps ++ ms) s ∙ l.there ms }
short_row at q ps No later s h = absurd cc

short : (at : Place) (ps : List Placed) → run at ps ≡ Short → Reaches at ps
short at [] h = record { stop = at; there = λ ms. refl }
short at (q ∷ ps) h = short_row at q ps (step at (item q.token q.place)) (λ next. short next ps) refl h

-- what comes to a place begins a text of the grammar
pub can_go_on : (at : Place) (front : List Marked) → ((ms : List Marked) → goes whole (front ++ ms) ≡ goes at ms) → CanGoOn front
can_go_on at front there =
    let l = live at in
    let s = sound (front ++ l.more) l.tree (there l.more ∙ l.reached) in
    record { tree = l.tree; more = l.more; well_formed = s.well_formed; tokens = s.tokens }

dead : (front : List Marked) (m : Marked) → ((more : List Marked) → goes whole (front ++ m ∷ more) ≡ None) → CanGoOn (front ++ m ∷ []) → ⊥
dead front m none c =
    let e1 = spelled_goes c.tree c.well_formed in
    let e2 : _ ≡ front ++ m ∷ c.more = c.tokens ∙ append_assoc front (m ∷ []) c.more in
    let e3 = ap (goes whole) e2 in
    let e4 = none c.more in
    cc

first_stuck : (ps : List Placed) (kind : SyntaxKind) (p : places.Place) → run whole ps ≡ Stuck kind p → IsFirstStuck kind p ps
first_stuck ps kind p h =
    let x = stuck whole ps kind p h in
    let s = x.stops in
    record {
      front = s.front;
      token = s.token;
      rest = s.rest;
      split = s.split;
      of_kind = x.of_kind;
      before = can_go_on s.stop (unmarked s.front) s.there;
      stuck = λ b. dead (unmarked s.front) (marked (item s.token p) b) (λ more. s.there (marked (item s.token p) b ∷ more) ∙ goes_no s.stop (item s.token p) b more s.at_it);
    }

first_past : (ps : List Placed) (p : places.Place) → run whole ps ≡ Past p → IsFirstPast p ps
first_past ps p h =
    let x = past whole ps p h in
    let s = x.stops in
    let m = marked (item s.token p) true in
    record {
      front = s.front;
      token = s.token;
      rest = s.rest;
      split = s.split;
      past = can_go_on x.next (unmarked s.front ++ m ∷ [])
          (λ ms. ap (goes whole) (append_assoc (unmarked s.front) (m ∷ []) ms) ∙ s.there (m ∷ ms) ∙ goes_go s.stop (item s.token p) true x.next ms s.at_it);
    }

pub spelled_run : (ps : List Placed) (t : Tree) → Spells (unmarked ps) t → run whole ps ≡ Accepted (without_end t)
spelled_run ps t s = accepted whole ps (without_end t) (ap (goes whole) (sym s.tokens) ∙ spelled_goes t s.well_formed)

first_short : (ps : List Placed) → run whole ps ≡ Short → IsShort ps
first_short ps h =
    let r = short whole ps h in
    record { before = can_go_on r.stop (unmarked ps) r.there; unfinished = λ t s. let a = spelled_run ps t s in cc }

-- what is read is spelled so
pub found : {X : Type 0} → (view : X → Tree) (r : Result X TokenFault) (ps : List Placed) → Answers view r ps → IfOk r (λ x. IsTreeOf ps (view x))
found view (Ok x) ps a =
    let s = sound (unmarked ps) (without_end (view x)) (went whole ps (without_end (view x)) a.0) in
    record { spelled = record { well_formed = s.well_formed; tokens = s.tokens }; end = a.1 }
found view (Err e) ps a = tt

same_tree : (a b : Tree) → without_end a ≡ without_end b → a.end ≡ b.end → a ≡ b
same_tree a b h e = ap (λ t. with_end t a.end) h ∙ ap (with_end b) e
  where
    with_end : Tree → places.Place → Tree
    with_end t at = record { name = t.name; ports = t.ports; declarations = t.declarations; handlers = t.handlers; end = at }

same_accepted : (a b : Tree) → Accepted a ≡ Accepted b → a ≡ b
same_accepted a b h = cc

-- what is spelled so is read, unless memory runs out
pub only : {X : Type 0} → (view : X → Tree) (r : Result X TokenFault) (ps : List Placed) → Answers view r ps → (t : Tree) → IsTreeOf ps t → Finds view t r
only view (Ok x) ps a t s = same_tree (view x) t (same_accepted (without_end (view x)) (without_end t) (sym a.0 ∙ spelled_run ps t s.spelled)) (a.1 ∙ sym s.end)
only view (Err (stops.Stuck kind p)) ps a t s = let h = spelled_run ps t s.spelled in cc
only view (Err (stops.Past p)) ps a t s = let h = spelled_run ps t s.spelled in cc
only view (Err stops.Short) ps a t s = let h = spelled_run ps t s.spelled in cc
only view (Err stops.Memory) ps a t s = tt

-- where the reading stops is the first fault
pub first : {X : Type 0} → (view : X → Tree) (r : Result X TokenFault) (ps : List Placed) → Answers view r ps → IfErr r (λ e. IsFirstFault e ps)
first view (Ok x) ps a = tt
first view (Err (stops.Stuck kind p)) ps a = first_stuck ps kind p a
first view (Err (stops.Past p)) ps a = first_past ps p a
first view (Err stops.Short) ps a = first_short ps a
first view (Err stops.Memory) ps a = tt
