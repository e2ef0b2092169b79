-- Paths that have gone through a statement, and what is marked.
use Rattle.std.proofs.Common.{◌≡◌, ◌<◌, arith, ℕ, Bool, true, false, ◌&&◌, if◌then◌else◌, List, [], ◌∷◌, ◌++◌, length, Option, Some, Result, Ok, Err, refl, ap, ap₂, sym, ◌∙◌, subst}
use Rattle.std.specs.List.{flat_map}
use Rattle.std.specs.Result.{OnOk}
use Rattle.std.proofs.lemmas.List.{append_assoc}
use Rattle.std.proofs.lemmas.List.Concat.{flat_map-append}
use Rattle.nf_base.specs.declared.expr.Comparison.{Comparison}
use Rattle.nf_base.specs.Text.{Expression, Test, Block, End, Do, Ask, Make}
use Rattle.nf_laws.specs.Paths.{of_packet}
use Rattle.nf_base.specs.Paths.{Branch}
use Rattle.path_walk.specs.declared.ways.Asked.{Asked}
use Rattle.path_walk.specs.Tests.{TestText, is_exchanged}
use Rattle.path_walk.specs.Feasible.{equals_of}
use Rattle.path_walk.specs.Trees.{Tree, Free, Tested, text_of, asking, unfolded, tree_map}
use Rattle.path_walk.specs.Layout.{statement_tree}
use Rattle.path_walk.specs.Numbering.{text_at, AreApart}
use Rattle.path_walk.specs.Known.{Marks, mark_at, excludes, told_mark}
use Rattle.path_walk.specs.Alive.{into_first, into_second, into_third, those, is_any, past, alive, past_one, alive_one, next_of, past_rest, alive_rest}
use Rattle.path_walk.specs.Ahead.{number_in, ahead_of, all_ahead, behind_way, behind_test, rest_tree}
use Rattle.path_walk.proofs.Walking.{some_leaves}
use Rattle.path_walk.specs.Alike.{HaveSame}
use Rattle.path_walk.proofs.Splits.{marks_more, past_split}
use Rattle.path_walk.proofs.Alike.{same, onward, both_same, alive_rest_same, past_rest_same}
use Rattle.path_walk.proofs.Ahead.{number_is, all-agree, asked_of, free_ways_first, free_ways_second, test_ways_first, test_ways_second}

-- where paths come, they go on
some_any : (xs ys : List (List Branch)) → 0 < length xs → is_any (xs ++ ys) ≡ true
some_any [] ys h = absurd (omega arith)
some_any (x ∷ xs) ys h = refl

pub any_ahead : (texts : List TestText) (t : Tree TestText) (ms : List Marks) → is_any (all_ahead texts t ms) ≡ is_any ms
any_ahead texts t [] = refl
any_ahead texts t (m ∷ ms) = some_any (ahead_of texts t m) (all_ahead texts t ms) (some_leaves texts (tree_map (number_in texts) t) m)

-- a test by its parts
same_behind : (t u : Asked) (way : Bool) (m : Marks) → t.number ≡ u.number → t.equals ≡ u.equals → t.exchanged ≡ u.exchanged → behind_test t way m ≡ behind_test u way m
same_behind t u way m n o e =
    ap (λ x. behind_way t.exchanged way (mark_at m x) (excludes t.equals m) m (told_mark m x t.equals)) n
    ∙ ap (λ x. behind_way t.exchanged way (mark_at m u.number) (excludes x m) m (told_mark m u.number x)) o
    ∙ ap (λ x. behind_way x way (mark_at m u.number) (excludes u.equals m) m (told_mark m u.number u.equals)) e

asked_same : (texts : List TestText) (t : Asked) (x : TestText) (e : Bool) (way : Bool) (ms : List Marks) → AreApart texts → t.number < length texts → text_at texts t.number ≡ x → t.equals ≡ equals_of x → t.exchanged ≡ e →
    flat_map (behind_test t way) ms ≡ flat_map (behind_test (asked_of texts x e) way) ms
asked_same texts t x e way ms apart w at o k =
    let n : number_in texts x ≡ t.number = number_is texts t.number x apart w at in
    let same : equals_of (text_at texts (number_in texts x)) ≡ equals_of x = ap (λ i. equals_of (text_at texts i)) n ∙ ap equals_of at in
    all-agree (behind_test t way) (behind_test (asked_of texts x e) way) (λ m. same_behind t (asked_of texts x e) way m (sym n) (o ∙ sym same) k) ms

-- the ways of a test
pub tested_first : (texts : List TestText) (t : Asked) (x : TestText) (e : Bool) (h m : Tree TestText) (old new : List Marks) →
    AreApart texts → t.number < length texts → text_at texts t.number ≡ x → t.equals ≡ equals_of x → t.exchanged ≡ e →
    new ≡ flat_map (behind_test t true) old → all_ahead texts h new ≡ those into_first (all_ahead texts (Tested x e h m) old)
tested_first texts t x e h m old new apart w at o k is =
    ap (all_ahead texts h) (is ∙ asked_same texts t x e true old apart w at o k) ∙ sym (test_ways_first texts x e h m old)

pub tested_second : (texts : List TestText) (t : Asked) (x : TestText) (e : Bool) (h m : Tree TestText) (old new : List Marks) →
    AreApart texts → t.number < length texts → text_at texts t.number ≡ x → t.equals ≡ equals_of x → t.exchanged ≡ e →
    new ≡ flat_map (behind_test t false) old → all_ahead texts m new ≡ those into_second (all_ahead texts (Tested x e h m) old)
tested_second texts t x e h m old new apart w at o k is =
    ap (all_ahead texts m) (is ∙ asked_same texts t x e false old apart w at o k) ∙ sym (test_ways_second texts x e h m old)

-- the ways of a look-up
pub both_first : (texts : List TestText) (h m : Tree TestText) (old new : List Marks) → new ≡ old → all_ahead texts h new ≡ those into_first (all_ahead texts (Free h m) old)
both_first texts h m old new e = ap (all_ahead texts h) e ∙ sym (free_ways_first texts h m old)

pub both_second : (texts : List TestText) (h m : Tree TestText) (old new : List Marks) → new ≡ old → all_ahead texts m new ≡ those into_second (all_ahead texts (Free h m) old)
both_second texts h m old new e = ap (all_ahead texts m) e ∙ sym (free_ways_second texts h m old)

-- a test that reads more than the packet is asked as a look-up
pub asks_free : (place : ℕ) (c : Comparison) (l r : Expression) → (of_packet l && of_packet r) ≡ false → (h m : Tree TestText) → asking (Test place c l r) h m ≡ Free h m
asks_free place c l r e h m = ap (λ (b : Bool). if b then Tested (text_of c l r) (is_exchanged c) h m else Free h m) e

pub asks_test : (place : ℕ) (c : Comparison) (l r : Expression) → (of_packet l && of_packet r) ≡ true → (h m : Tree TestText) → asking (Test place c l r) h m ≡ Tested (text_of c l r) (is_exchanged c) h m
asks_test place c l r e h m = ap (λ (b : Bool). if b then Tested (text_of c l r) (is_exchanged c) h m else Free h m) e

-- a statement that is marked
pub one_mark : (texts : List TestText) (t : Tree TestText) (ms : List Marks) (any : Bool) (m a : List Bool) → any ≡ is_any ms → a ≡ m ++ any ∷ [] → a ≡ m ++ is_any (all_ahead texts t ms) ∷ []
one_mark texts t ms any m a e p = p ∙ ap (λ i. m ++ i ∷ []) (e ∙ sym (any_ahead texts t ms))

-- the tree of a block is that of its first statement
one_tree : (b : Block) (t : Tree TestText) → statement_tree b (rest_tree (next_of b) t) (rest_tree (next_of b) t) ≡ unfolded b t
one_tree (End e) t = refl
one_tree (Do op next) t = refl
one_tree (Ask q hit miss next) t = refl
one_tree (Make n made taken full next) t = refl

-- the marks of a statement and of those in its blocks
pub ask_marks : (m a b c : List Bool) (any : Bool) (hit miss : Block) (live f s : List (List Branch)) →
    any ≡ is_any live → a ≡ m ++ any ∷ [] → b ≡ a ++ alive hit f → c ≡ b ++ alive miss s → f ≡ those into_first live → s ≡ those into_second live →
    c ≡ m ++ (is_any live ∷ (alive hit (those into_first live) ++ alive miss (those into_second live)))
ask_marks m a b c any hit miss live f s e p q u x y =
    u ∙ ap (λ i. i ++ alive miss s) (q ∙ ap (λ i. i ++ alive hit f) p)
    ∙ ap (λ i. i ++ alive miss s) (append_assoc m (any ∷ []) (alive hit f))
    ∙ append_assoc m (any ∷ alive hit f) (alive miss s)
    ∙ ap (λ i. m ++ (i ∷ (alive hit f ++ alive miss s))) e
    ∙ ap₂ (λ i j. m ++ (is_any live ∷ (alive hit i ++ alive miss j))) x y

-- and the paths that go on behind it
pub ask_past : (texts : List TestText) (next : Tree TestText) (hits misses all : List Marks) (hit miss : Block) (live f s : List (List Branch)) →
    all ≡ hits ++ misses → HaveSame (all_ahead texts next hits) (past hit f) → HaveSame (all_ahead texts next misses) (past miss s) → f ≡ those into_first live → s ≡ those into_second live →
    HaveSame (all_ahead texts next all) (past hit (those into_first live) ++ past miss (those into_second live))
ask_past texts next hits misses all hit miss live f s e p q x y =
    let us = all_ahead texts next hits in
    let vs = all_ahead texts next misses in
    let ws = past hit (those into_first live) ++ past miss (those into_second live) in
    onward (all_ahead texts next all) (us ++ vs) ws
    (same (all_ahead texts next all) (us ++ vs) (ap (all_ahead texts next) e ∙ flat_map-append (ahead_of texts next) hits misses))
    (onward (us ++ vs) (past hit f ++ past miss s) ws (both_same us vs (past hit f) (past miss s) p q)
    (same (past hit f ++ past miss s) ws (ap₂ (λ i j. i ++ j) (ap (past hit) x) (ap (past miss) y))))

pub make_past : (texts : List TestText) (next : Tree TestText) (makes takes fills both all : List Marks) (made taken full : Block) (live f s t : List (List Branch)) →
    both ≡ takes ++ fills → all ≡ makes ++ both → HaveSame (all_ahead texts next makes) (past made f) → HaveSame (all_ahead texts next takes) (past taken s) → HaveSame (all_ahead texts next fills) (past full t) →
    f ≡ those into_first live → s ≡ those into_second live → t ≡ those into_third live →
    HaveSame (all_ahead texts next all) (past made (those into_first live) ++ (past taken (those into_second live) ++ past full (those into_third live)))
make_past texts next makes takes fills both all made taken full live f s t e k p q r x y z =
    let us = all_ahead texts next makes in
    let vs = all_ahead texts next takes in
    let ws = all_ahead texts next fills in
    let olds = past made f ++ (past taken s ++ past full t) in
    let news = past made (those into_first live) ++ (past taken (those into_second live) ++ past full (those into_third live)) in
    onward (all_ahead texts next all) (us ++ (vs ++ ws)) news
    (same (all_ahead texts next all) (us ++ (vs ++ ws))
    (ap (all_ahead texts next) (k ∙ ap (λ i. makes ++ i) e) ∙ flat_map-append (ahead_of texts next) makes (takes ++ fills)
    ∙ ap (λ i. us ++ i) (flat_map-append (ahead_of texts next) takes fills)))
    (onward (us ++ (vs ++ ws)) olds news
    (both_same us (vs ++ ws) (past made f) (past taken s ++ past full t) p (both_same vs ws (past taken s) (past full t) q r))
    (same olds news (ap₂ (λ i j. i ++ j) (ap (past made) x) (ap₂ (λ i j. i ++ j) (ap (past taken) y) (ap (past full) z)))))

-- a statement of a block further
abbrev behind_one : List TestText → Tree TestText → Block → List Marks → List (List Branch)
behind_one texts exit one old = past_one one (all_ahead texts (unfolded one exit) old)

behind : (texts : List TestText) (exit : Tree TestText) (one : Block) (old new : List Marks) →
    ((next : Tree TestText) → HaveSame (all_ahead texts next new) (past_one one (all_ahead texts (statement_tree one next next) old))) →
    HaveSame (all_ahead texts (rest_tree (next_of one) exit) new) (behind_one texts exit one old)
behind texts exit one old new k =
    subst (λ (t : Tree TestText). HaveSame (all_ahead texts (rest_tree (next_of one) exit) new) (past_one one (all_ahead texts t old))) (one_tree one exit) (k (rest_tree (next_of one) exit))

pub marks_on : (texts : List TestText) (exit : Tree TestText) (b c whole : List Bool) (one : Block) (old new : List Marks) (rest : Option Block) →
    ((next : Tree TestText) → c ≡ b ++ alive_one one (all_ahead texts (statement_tree one next next) old)) →
    ((next : Tree TestText) → HaveSame (all_ahead texts next new) (past_one one (all_ahead texts (statement_tree one next next) old))) →
    (was : Option Block) → was ≡ Some one → b ++ alive_rest was (all_ahead texts (rest_tree was exit) old) ≡ whole → rest ≡ next_of one →
    c ++ alive_rest rest (all_ahead texts (rest_tree rest exit) new) ≡ whole
marks_on texts exit b c whole one old new rest h k was q j e =
    let i : b ++ alive one (all_ahead texts (unfolded one exit) old) ≡ whole =
    subst (λ (r : Option Block). b ++ alive_rest r (all_ahead texts (rest_tree r exit) old) ≡ whole) q j in
    let on = behind_one texts exit one old in
    let alike : alive_rest rest (all_ahead texts (rest_tree rest exit) new) ≡ alive_rest rest on =
    subst (λ (r : Option Block). alive_rest r (all_ahead texts (rest_tree r exit) new) ≡ alive_rest r on) (sym e)
    (alive_rest_same (next_of one) (all_ahead texts (rest_tree (next_of one) exit) new) on (behind texts exit one old new k)) in
    ap (λ z. c ++ z) alike
    ∙ marks_more b b c whole one (all_ahead texts (unfolded one exit) old) on rest i
    (h (rest_tree (next_of one) exit) ∙ ap (λ t. b ++ alive_one one (all_ahead texts t old)) (one_tree one exit)) refl e

pub past_on : (texts : List TestText) (exit : Tree TestText) (whole : List (List Branch)) (one : Block) (old new : List Marks) (rest : Option Block) →
    ((next : Tree TestText) → HaveSame (all_ahead texts next new) (past_one one (all_ahead texts (statement_tree one next next) old))) →
    (was : Option Block) → was ≡ Some one → HaveSame (past_rest was (all_ahead texts (rest_tree was exit) old)) whole → rest ≡ next_of one →
    HaveSame (past_rest rest (all_ahead texts (rest_tree rest exit) new)) whole
past_on texts exit whole one old new rest k was q j e =
    let live = all_ahead texts (unfolded one exit) old in
    let i : HaveSame (past one live) whole =
    subst (λ (r : Option Block). HaveSame (past_rest r (all_ahead texts (rest_tree r exit) old)) whole) q j in
    let on = all_ahead texts (rest_tree (next_of one) exit) new in
    subst (λ (r : Option Block). HaveSame (past_rest r (all_ahead texts (rest_tree r exit) new)) whole) (sym e)
    (onward (past_rest (next_of one) on) (past_rest (next_of one) (past_one one live)) whole
    (past_rest_same (next_of one) on (past_one one live) (behind texts exit one old new k))
    (onward (past_rest (next_of one) (past_one one live)) (past one live) whole (same (past_rest (next_of one) (past_one one live)) (past one live) (sym (past_split one live))) i))

-- what holds of any answer
pub on_ok_always : {T E : Type 0} (r : Result T E) (P : Type 0) → P → OnOk r P
on_ok_always r P p = elim r as (λ q. OnOk q P) [ Ok x ↦ p | Err x ↦ tt ]
