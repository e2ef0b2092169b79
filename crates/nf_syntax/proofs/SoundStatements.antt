-- What goes through is spelled so: what a statement says.
use Rattle.std.proofs.Common.{◌≡◌, ◌∷◌, ◌++◌, ◌<◌, ℕ, Bool, false, Some, List, [], length, append_assoc, arith}
use Rattle.nf_tokens.specs.declared.token.Place as places
use Rattle.nf_tokens.specs.declared.token.Sign.{Sign}
use Rattle.nf_tokens.specs.declared.token.Sign.TheVariants as signs
use Rattle.nf_tree.specs.declared.place.Name.{Name}
use Rattle.nf_tree.specs.Tree.{Tree, Expression, Guards, Flood, Discard, Forward, Touch, Free, Set, Write, Store, Get, Find, Test}
use Rattle.nf_syntax.specs.declared.head.GetHead.{GetHead}
use Rattle.nf_syntax.specs.declared.head.EntryHead.{EntryHead}
use Rattle.nf_syntax.specs.Items.{Item, ASign, Marked, name, field, sign, word}
use Rattle.nf_syntax.specs.Expressions.{value}
use Rattle.nf_syntax.specs.Grammar.{Required, IsEnding, IsOperation, IsQuestion, IsCreation, values, given, guards, comparing, operation, question, creation, ending, get_head, entry_head}
use Rattle.nf_syntax.specs.Statements.{Statement, Does, Asks, Makes, Ends}
use Rattle.nf_syntax.specs.Machine.{Place, NameAt, SignAt, CloseAt, ComparisonAt, GivenAt, WhereAt, WrittenAt, creation_one, value_at, values_at, get_head_at, entry_head_at, get_at, find_at, new_at, if_at, touch_at, free_at, set_at, write_at, store_at, forward_at, flood_at, discard_at}
use Rattle.nf_syntax.specs.Language.{Spells}
use Rattle.nf_syntax.proofs.Going.{goes}
use Rattle.nf_syntax.proofs.SoundTokens.{Good, mark, front, moved, good_name, good_field, good_sign, good_close, good_comparison}
use Rattle.nf_syntax.proofs.SoundExpressions.{good_value}
use Rattle.nf_syntax.proofs.SoundLists.{good_values, good_given, good_guards}

-- how the tokens of a statement are grouped as they are read, and as they are spelled
three : (s : List Marked) (a b c : Marked) → s ++ a ∷ b ∷ c ∷ [] ≡ ((s ++ a ∷ []) ++ b ∷ []) ++ c ∷ []
three s a b c = simp append_assoc

four : (s : List Marked) (a b c d : Marked) → s ++ a ∷ b ∷ c ∷ d ∷ [] ≡ (((s ++ a ∷ []) ++ b ∷ []) ++ c ∷ []) ++ d ∷ []
four s a b c d = simp append_assoc

six : (s : List Marked) (a b c d e f : Marked) → s ++ a ∷ b ∷ c ∷ d ∷ e ∷ f ∷ [] ≡ (((((s ++ a ∷ []) ++ b ∷ []) ++ c ∷ []) ++ d ∷ []) ++ e ∷ []) ++ f ∷ []
six s a b c d e f = simp append_assoc

sent : (s v : List Marked) (x y z : Marked) → s ++ (x ∷ (v ++ y ∷ z ∷ [])) ≡ (((s ++ x ∷ []) ++ v) ++ y ∷ []) ++ z ∷ []
sent s v x y z = simp append_assoc

put : (s v : List Marked) (x f a e : Marked) → s ++ (x ∷ f ∷ a ∷ (v ++ e ∷ [])) ≡ ((((s ++ x ∷ []) ++ f ∷ []) ++ a ∷ []) ++ v) ++ e ∷ []
put s v x f a e = simp append_assoc

wrote : (s v : List Marked) (x d c a e : Marked) → s ++ (x ∷ d ∷ c ∷ a ∷ (v ++ e ∷ [])) ≡ (((((s ++ x ∷ []) ++ d ∷ []) ++ c ∷ []) ++ a ∷ []) ++ v) ++ e ∷ []
wrote s v x d c a e = simp append_assoc

stored : (s i v : List Marked) (x o c a e : Marked) → s ++ (x ∷ o ∷ (i ++ c ∷ a ∷ (v ++ e ∷ []))) ≡ ((((((s ++ x ∷ []) ++ o ∷ []) ++ i) ++ c ∷ []) ++ a ∷ []) ++ v) ++ e ∷ []
stored s i v x o c a e = simp append_assoc

closed : (s h v : List Marked) (g c : Marked) → s ++ (g ∷ h ++ (v ++ c ∷ [])) ≡ (((s ++ g ∷ []) ++ h) ++ v) ++ c ∷ []
closed s h v g c = simp append_assoc

found : (s h i u : List Marked) (f c : Marked) → s ++ (f ∷ h ++ (i ++ c ∷ u)) ≡ ((((s ++ f ∷ []) ++ h) ++ i) ++ c ∷ []) ++ u
found s h i u f c = simp append_assoc

tested : (s x y : List Marked) (f c : Marked) → s ++ (f ∷ (x ++ c ∷ y)) ≡ (((s ++ f ∷ []) ++ x) ++ c ∷ []) ++ y
tested s x y f c = simp append_assoc

-- a statement without its blocks, and its tokens
abbrev IsStatement : Statement → Type 0
IsStatement (Does o) = IsOperation o
IsStatement (Asks q) = IsQuestion q
IsStatement (Makes n) = IsCreation n
IsStatement (Ends e) = IsEnding Required e

abbrev statement : Statement → List Marked
statement (Does o) = operation o
statement (Asks q) = question q
statement (Makes n) = creation n
statement (Ends e) = ending e

abbrev pub StatementGood : ℕ → List Marked → (Statement → Place) → Type 0
StatementGood n seen k = (s : Statement) → IsStatement s → Good n (seen ++ statement s) (k s)

good_get_head : (n : ℕ) (seen : List Marked) (k : GetHead → Place) → ((h : GetHead) → Good n (seen ++ get_head h.variable h.chain h.map) (k h)) → Good n seen (get_head_at k)
good_get_head n seen k f =
    let k3 = λ (x c m : Name). k (record { variable = x; chain = c; map = m }) in
    let k2 = λ (x c : Name). NameAt (λ m. SignAt signs.OpenParenthesis (k3 x c m)) in
    let k1 = λ (x : Name). NameAt (λ c. SignAt signs.Dot (k2 x c)) in
    good_name n seen (λ x. SignAt signs.Assign (k1 x)) (λ x.
    let s1 = seen ++ name x ∷ [] in
    good_sign n s1 signs.Assign (k1 x) (
    let s2 = s1 ++ sign signs.Assign ∷ [] in
    good_name n s2 (λ c. SignAt signs.Dot (k2 x c)) (λ c.
    let s3 = s2 ++ name c ∷ [] in
    good_sign n s3 signs.Dot (k2 x c) (
    let s4 = s3 ++ sign signs.Dot ∷ [] in
    good_name n s4 (λ m. SignAt signs.OpenParenthesis (k3 x c m)) (λ m.
    let s5 = s4 ++ name m ∷ [] in
    good_sign n s5 signs.OpenParenthesis (k3 x c m) (
    moved n (seen ++ get_head x c m) (s5 ++ sign signs.OpenParenthesis ∷ []) (k3 x c m)
    (six seen (name x) (sign signs.Assign) (name c) (sign signs.Dot) (name m) (sign signs.OpenParenthesis)) (f (record { variable = x; chain = c; map = m }))))))))

good_entry_head : (n : ℕ) (seen : List Marked) (s : Sign) (k : EntryHead → Place) → ((h : EntryHead) → Good n (seen ++ entry_head s h.variable h.chain) (k h)) → Good n seen (entry_head_at s k)
good_entry_head n seen s k f =
    let k2 = λ (x c : Name). k (record { variable = x; chain = c }) in
    let k1 = λ (x : Name). NameAt (λ c. SignAt s (k2 x c)) in
    good_name n seen (λ x. SignAt signs.Assign (k1 x)) (λ x.
    let s1 = seen ++ name x ∷ [] in
    good_sign n s1 signs.Assign (k1 x) (
    let s2 = s1 ++ sign signs.Assign ∷ [] in
    good_name n s2 (λ c. SignAt s (k2 x c)) (λ c.
    let s3 = s2 ++ name c ∷ [] in
    good_sign n s3 s (k2 x c) (
    moved n (seen ++ entry_head s x c) (s3 ++ sign s ∷ []) (k2 x c)
    (four seen (name x) (sign signs.Assign) (name c) (sign s)) (f (record { variable = x; chain = c }))))))

pub good_get : (n : ℕ) (seen : List Marked) (at : places.Place) (k : Statement → Place) → StatementGood n seen k → Good n (seen ++ word signs.Get at ∷ []) (get_at at k)
unfolding get_at
good_get n seen at k f =
    let s0 = seen ++ word signs.Get at ∷ [] in
    let head = λ (h : GetHead). get_head h.variable h.chain h.map in
    let last = λ (h : GetHead) (key : List Expression) (p : places.Place). Get at h.variable h.chain h.map key p in
    good_get_head n s0 (λ h. values_at (λ key. CloseAt (λ p. k (Asks (last h key p))))) (λ h.
    let s1 = s0 ++ head h in
    good_values n s1 (λ key. CloseAt (λ p. k (Asks (last h key p)))) (λ key hk ak.
    good_close n (s1 ++ values key) (λ p. k (Asks (last h key p))) (λ p.
    moved n (seen ++ question (last h key p)) ((s1 ++ values key) ++ word signs.CloseParenthesis p ∷ []) (k (Asks (last h key p)))
    (closed seen (head h) (values key) (word signs.Get at) (word signs.CloseParenthesis p)) (f (Asks (last h key p)) (hk, ak)))))

pub good_find : (n : ℕ) (seen : List Marked) (at : places.Place) (k : Statement → Place) → StatementGood n seen k → Good n (seen ++ word signs.Find at ∷ []) (find_at at k)
unfolding find_at
good_find n seen at k f =
    let s0 = seen ++ word signs.Find at ∷ [] in
    let head = λ (h : EntryHead). entry_head signs.OpenBracket h.variable h.chain in
    let last = λ (h : EntryHead) (i : Expression) (gs : Guards). Find at h.variable h.chain i gs in
    good_entry_head n s0 signs.OpenBracket (λ h. value_at (λ i. SignAt signs.CloseBracket (WhereAt (λ gs. k (Asks (last h i gs)))))) (λ h.
    let s1 = s0 ++ head h in
    good_value n s1 (λ i. SignAt signs.CloseBracket (WhereAt (λ gs. k (Asks (last h i gs))))) (λ i gi.
    let s2 = s1 ++ value i in
    good_sign n s2 signs.CloseBracket (WhereAt (λ gs. k (Asks (last h i gs)))) (
    let s3 = s2 ++ sign signs.CloseBracket ∷ [] in
    good_guards n s3 (λ gs. k (Asks (last h i gs))) (λ gs ag.
    moved n (seen ++ question (last h i gs)) (s3 ++ guards gs) (k (Asks (last h i gs)))
    (found seen (head h) (value i) (guards gs) (word signs.Find at) (sign signs.CloseBracket)) (f (Asks (last h i gs)) (gi, ag))))))

pub good_if : (n : ℕ) (seen : List Marked) (k : Statement → Place) → StatementGood n seen k → Good n (seen ++ sign signs.If ∷ []) (if_at k)
unfolding if_at
good_if n seen k f =
    let s0 = seen ++ sign signs.If ∷ [] in
    good_value n s0 (λ l. ComparisonAt (λ c. value_at (λ r. k (Asks (Test l c r))))) (λ l gl.
    let s1 = s0 ++ value l in
    good_comparison n s1 (λ c. value_at (λ r. k (Asks (Test l c r)))) (λ c.
    let s2 = s1 ++ sign (comparing c) ∷ [] in
    good_value n s2 (λ r. k (Asks (Test l c r))) (λ r gr.
    moved n (seen ++ question (Test l c r)) (s2 ++ value r) (k (Asks (Test l c r)))
    (tested seen (value l) (value r) (sign signs.If) (sign (comparing c))) (f (Asks (Test l c r)) (gl, gr)))))

pub good_new : (n : ℕ) (seen : List Marked) (at : places.Place) (k : Statement → Place) → StatementGood n seen k → Good n (seen ++ word signs.New at ∷ []) (new_at at k)
unfolding new_at
good_new n seen at k f =
    let s0 = seen ++ word signs.New at ∷ [] in
    let head = λ (h : EntryHead). entry_head signs.OpenParenthesis h.variable h.chain in
    good_entry_head n s0 signs.OpenParenthesis (λ h. GivenAt (λ gs. CloseAt (λ p. k (Makes (creation_one at h gs p))))) (λ h.
    let s1 = s0 ++ head h in
    good_given n s1 (λ gs. CloseAt (λ p. k (Makes (creation_one at h gs p)))) (λ gs ag.
    good_close n (s1 ++ given gs) (λ p. k (Makes (creation_one at h gs p))) (λ p.
    moved n (seen ++ creation (creation_one at h gs p)) ((s1 ++ given gs) ++ word signs.CloseParenthesis p ∷ []) (k (Makes (creation_one at h gs p)))
    (closed seen (head h) (given gs) (word signs.New at) (word signs.CloseParenthesis p)) (f (Makes (creation_one at h gs p)) ag))))

pub good_touch : (n : ℕ) (seen : List Marked) (k : Statement → Place) → StatementGood n seen k → Good n (seen ++ sign signs.Touch ∷ []) (touch_at k)
good_touch n seen k f =
    let s0 = seen ++ sign signs.Touch ∷ [] in
    good_name n s0 (λ x. SignAt signs.Semicolon (k (Does (Touch x)))) (λ x.
    good_sign n (s0 ++ name x ∷ []) signs.Semicolon (k (Does (Touch x))) (
    moved n (seen ++ operation (Touch x)) ((s0 ++ name x ∷ []) ++ sign signs.Semicolon ∷ []) (k (Does (Touch x)))
    (three seen (sign signs.Touch) (name x) (sign signs.Semicolon)) (f (Does (Touch x)) tt)))

pub good_free : (n : ℕ) (seen : List Marked) (at : places.Place) (k : Statement → Place) → StatementGood n seen k → Good n (seen ++ word signs.Free at ∷ []) (free_at at k)
good_free n seen at k f =
    let s0 = seen ++ word signs.Free at ∷ [] in
    good_name n s0 (λ x. SignAt signs.Semicolon (k (Does (Free at x)))) (λ x.
    good_sign n (s0 ++ name x ∷ []) signs.Semicolon (k (Does (Free at x))) (
    moved n (seen ++ operation (Free at x)) ((s0 ++ name x ∷ []) ++ sign signs.Semicolon ∷ []) (k (Does (Free at x)))
    (three seen (word signs.Free at) (name x) (sign signs.Semicolon)) (f (Does (Free at x)) tt)))

pub good_set : (n : ℕ) (seen : List Marked) (k : Statement → Place) → StatementGood n seen k → Good n (seen ++ sign signs.Set ∷ []) (set_at k)
good_set n seen k f =
    let s0 = seen ++ sign signs.Set ∷ [] in
    good_field n s0 (λ h. SignAt signs.Assign (value_at (λ v. SignAt signs.Semicolon (k (Does (Set h.field h.place v)))))) (λ h.
    let last = λ (v : Expression). Set h.field h.place v in
    let s1 = s0 ++ field h.field h.place ∷ [] in
    good_sign n s1 signs.Assign (value_at (λ v. SignAt signs.Semicolon (k (Does (last v))))) (
    let s2 = s1 ++ sign signs.Assign ∷ [] in
    good_value n s2 (λ v. SignAt signs.Semicolon (k (Does (last v)))) (λ v gv.
    good_sign n (s2 ++ value v) signs.Semicolon (k (Does (last v))) (
    moved n (seen ++ operation (last v)) ((s2 ++ value v) ++ sign signs.Semicolon ∷ []) (k (Does (last v)))
    (put seen (value v) (sign signs.Set) (field h.field h.place) (sign signs.Assign) (sign signs.Semicolon)) (f (Does (last v)) gv)))))

good_write : (n : ℕ) (seen : List Marked) (x : Name) (k : Statement → Place) → StatementGood n seen k → Good n ((seen ++ name x ∷ []) ++ sign signs.Dot ∷ []) (write_at x k)
good_write n seen x k f =
    let s0 = (seen ++ name x ∷ []) ++ sign signs.Dot ∷ [] in
    good_name n s0 (λ c. SignAt signs.Assign (value_at (λ v. SignAt signs.Semicolon (k (Does (Write x c v)))))) (λ c.
    let s1 = s0 ++ name c ∷ [] in
    good_sign n s1 signs.Assign (value_at (λ v. SignAt signs.Semicolon (k (Does (Write x c v))))) (
    let s2 = s1 ++ sign signs.Assign ∷ [] in
    good_value n s2 (λ v. SignAt signs.Semicolon (k (Does (Write x c v)))) (λ v gv.
    good_sign n (s2 ++ value v) signs.Semicolon (k (Does (Write x c v))) (
    moved n (seen ++ operation (Write x c v)) ((s2 ++ value v) ++ sign signs.Semicolon ∷ []) (k (Does (Write x c v)))
    (wrote seen (value v) (name x) (sign signs.Dot) (name c) (sign signs.Assign) (sign signs.Semicolon)) (f (Does (Write x c v)) gv)))))

good_store : (n : ℕ) (seen : List Marked) (x : Name) (k : Statement → Place) → StatementGood n seen k → Good n ((seen ++ name x ∷ []) ++ sign signs.OpenBracket ∷ []) (store_at x k)
good_store n seen x k f =
    let s0 = (seen ++ name x ∷ []) ++ sign signs.OpenBracket ∷ [] in
    good_value n s0 (λ i. SignAt signs.CloseBracket (SignAt signs.Assign (value_at (λ v. SignAt signs.Semicolon (k (Does (Store x i v))))))) (λ i gi.
    let s1 = s0 ++ value i in
    good_sign n s1 signs.CloseBracket (SignAt signs.Assign (value_at (λ v. SignAt signs.Semicolon (k (Does (Store x i v)))))) (
    let s2 = s1 ++ sign signs.CloseBracket ∷ [] in
    good_sign n s2 signs.Assign (value_at (λ v. SignAt signs.Semicolon (k (Does (Store x i v))))) (
    let s3 = s2 ++ sign signs.Assign ∷ [] in
    good_value n s3 (λ v. SignAt signs.Semicolon (k (Does (Store x i v)))) (λ v gv.
    good_sign n (s3 ++ value v) signs.Semicolon (k (Does (Store x i v))) (
    moved n (seen ++ operation (Store x i v)) ((s3 ++ value v) ++ sign signs.Semicolon ∷ []) (k (Does (Store x i v)))
    (stored seen (value i) (value v) (name x) (sign signs.OpenBracket) (sign signs.CloseBracket) (sign signs.Assign) (sign signs.Semicolon)) (f (Does (Store x i v)) (gi, gv)))))))

written_token : (n : ℕ) (seen : List Marked) (x : Name) (k : Statement → Place) → StatementGood n seen k →
    (t : Item) (past : Bool) (ms : List Marked) (tree : Tree) → length ms < n → goes (WrittenAt x k) (mark t past ∷ ms) ≡ Some tree → Spells ((seen ++ name x ∷ []) ++ mark t past ∷ ms) tree
written_token n seen x k f (ASign signs.Dot) false ms tree few h = front n (seen ++ name x ∷ []) (sign signs.Dot) (write_at x k) (good_write n seen x k f) ms tree few h
written_token n seen x k f (ASign signs.OpenBracket) false ms tree few h = front n (seen ++ name x ∷ []) (sign signs.OpenBracket) (store_at x k) (good_store n seen x k f) ms tree few h
written_token n seen x k f t past ms tree few h = absurd cc

pub good_written : (n : ℕ) (seen : List Marked) (x : Name) (k : Statement → Place) → StatementGood n seen k →
    (ms : List Marked) (tree : Tree) → length ms < n → goes (WrittenAt x k) ms ≡ Some tree → Spells ((seen ++ name x ∷ []) ++ ms) tree
good_written n seen x k f [] tree few h = absurd cc
good_written n seen x k f (m ∷ ms) tree few h = written_token n seen x k f m.item m.past ms tree (omega arith) h

pub good_forward : (n : ℕ) (seen : List Marked) (k : Statement → Place) → StatementGood n seen k → Good n (seen ++ sign signs.Forward ∷ []) (forward_at k)
unfolding forward_at
good_forward n seen k f =
    let s0 = seen ++ sign signs.Forward ∷ [] in
    good_value n s0 (λ v. SignAt signs.Semicolon (SignAt signs.CloseBrace (k (Ends (Forward v))))) (λ v gv.
    good_sign n (s0 ++ value v) signs.Semicolon (SignAt signs.CloseBrace (k (Ends (Forward v)))) (
    good_sign n ((s0 ++ value v) ++ sign signs.Semicolon ∷ []) signs.CloseBrace (k (Ends (Forward v))) (
    moved n (seen ++ ending (Forward v)) (((s0 ++ value v) ++ sign signs.Semicolon ∷ []) ++ sign signs.CloseBrace ∷ []) (k (Ends (Forward v)))
    (sent seen (value v) (sign signs.Forward) (sign signs.Semicolon) (sign signs.CloseBrace)) (f (Ends (Forward v)) gv))))

pub good_flood : (n : ℕ) (seen : List Marked) (k : Statement → Place) → StatementGood n seen k → Good n (seen ++ sign signs.Flood ∷ []) (flood_at k)
good_flood n seen k f =
    let s0 = seen ++ sign signs.Flood ∷ [] in
    good_sign n s0 signs.Semicolon (SignAt signs.CloseBrace (k (Ends Flood))) (
    good_sign n (s0 ++ sign signs.Semicolon ∷ []) signs.CloseBrace (k (Ends Flood)) (
    moved n (seen ++ ending Flood) ((s0 ++ sign signs.Semicolon ∷ []) ++ sign signs.CloseBrace ∷ []) (k (Ends Flood))
    (three seen (sign signs.Flood) (sign signs.Semicolon) (sign signs.CloseBrace)) (f (Ends Flood) tt)))

pub good_discard : (n : ℕ) (seen : List Marked) (k : Statement → Place) → StatementGood n seen k → Good n (seen ++ sign signs.Discard ∷ []) (discard_at k)
good_discard n seen k f =
    let s0 = seen ++ sign signs.Discard ∷ [] in
    good_sign n s0 signs.Semicolon (SignAt signs.CloseBrace (k (Ends Discard))) (
    good_sign n (s0 ++ sign signs.Semicolon ∷ []) signs.CloseBrace (k (Ends Discard)) (
    moved n (seen ++ ending Discard) ((s0 ++ sign signs.Semicolon ∷ []) ++ sign signs.CloseBrace ∷ []) (k (Ends Discard))
    (three seen (sign signs.Discard) (sign signs.Semicolon) (sign signs.CloseBrace)) (f (Ends Discard) tt)))
