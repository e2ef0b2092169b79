-- Texts among some, and the tests of blocks and trees that have them.
use Rattle.std.proofs.Common.{◌≡◌, ◌<◌, arith, ℕ, Bool, true, false, ◌&&◌, List, [], ◌∷◌, ◌++◌, length, Option, Some, None, if◌then◌else◌, refl, ap, ap₂, sym, ◌∙◌, subst}
use Rattle.std.proofs.lemmas.List.{append-nil, length-append, get_or_append_left}
use Rattle.nf_base.specs.declared.expr.Comparison.{Comparison}
use Rattle.nf_base.specs.Text.{Expression, Ending, FallsOff, Flood, Discard, Forward, Question, Get, Find, Test, Creation, Block, End, Do, Ask, Make}
use Rattle.nf_base.specs.Statements.{Statement, statements}
use Rattle.nf_laws.specs.Paths.{of_packet}
use Rattle.path_walk.specs.declared.line.Line.{Line}
use Rattle.path_walk.specs.declared.line.Line.TheVariants as line
use Rattle.path_walk.specs.Tests.{TestText, is_exchanged}
use Rattle.path_walk.specs.Listed.{block_branches}
use Rattle.path_walk.specs.Seen.{line_map}
use Rattle.path_walk.specs.Trees.{Tree, Leaf, Free, Tested, Made, text_of, ending_tree, asking, unfolded, tree_map}
use Rattle.path_walk.specs.Numbering.{no_text, text_at, AreApart, HasNumber, IsLineNumbered}
use Rattle.path_walk.specs.Known.{nothing_known}
use Rattle.path_walk.specs.Walks.{leaves}
use Rattle.path_walk.specs.Alive.{next_of}
use Rattle.path_walk.specs.Ahead.{number_in, all_ahead, HasText, IsIn, IsAdded, test_in, text_asked, text_in, AreIn, rest_statements}
use Rattle.path_walk.proofs.Fitting.{fitting, tree_paths}
use Rattle.path_walk.proofs.Marking.{nothing}
use Rattle.path_walk.proofs.Bridge.{AllNumbered, all_fit}
use Rattle.path_walk.proofs.Ahead.{number_is}

-- texts stay among more
has_more : (texts more : List TestText) (x : TestText) → HasText texts x → HasText (texts ++ more) x
has_more texts more x h = record {
  number = h.number;
  within = let n = length-append texts more in let w = h.within in omega arith;
  at = get_or_append_left texts more no_text h.number h.within ∙ h.at;
}

is_more : (texts more : List TestText) (o : Option TestText) → IsIn texts o → IsIn (texts ++ more) o
is_more texts more None h = tt
is_more texts more (Some x) h = has_more texts more x h

are_more : (texts more : List TestText) (ss : List Statement) → AreIn texts ss → AreIn (texts ++ more) ss
are_more texts more [] h = tt
are_more texts more (s ∷ ss) h = (is_more texts more (text_in s) h.0, are_more texts more ss h.1)

-- those of the parts of a list
pub in_front : (texts : List TestText) (xs ys : List Statement) → AreIn texts (xs ++ ys) → AreIn texts xs
in_front texts [] ys h = tt
in_front texts (x ∷ xs) ys h = (h.0, in_front texts xs ys h.1)

pub in_back : (texts : List TestText) (xs ys : List Statement) → AreIn texts (xs ++ ys) → AreIn texts ys
in_back texts [] ys h = h
in_back texts (x ∷ xs) ys h = in_back texts xs ys h.1

in_push : (texts : List TestText) (xs : List Statement) (s : Statement) → AreIn texts xs → IsIn texts (text_in s) → AreIn texts (xs ++ s ∷ [])
in_push texts [] s h k = (k, tt)
in_push texts (x ∷ xs) s h k = (h.0, in_push texts xs s h.1 k)

-- a statement more
pub added_more : (old new : List TestText) (xs : List Statement) (s : Statement) → AreIn old xs → IsAdded old new (text_in s) → AreIn new (xs ++ s ∷ [])
added_more old new xs s h a =
    in_push new xs s (subst (λ ts. AreIn ts xs) (sym a.behind) (are_more old a.more xs h)) a.has

pub added_none : (old : List TestText) → IsAdded old old None
added_none old = record { more = []; behind = sym (append-nil old); has = tt }

-- a line with its number
numbered_has : (texts : List TestText) (m : Line ℕ) → HasNumber (length texts) m → IsIn texts (test_in (line_map (text_at texts) m))
numbered_has texts line.Stop h = tt
numbered_has texts (line.Free hit miss) h = tt
numbered_has texts (line.Test n exchanged hit miss) h = record { number = n; within = h; at = refl }
numbered_has texts (line.Make made taken full) h = tt

pub added_line : (old new : List TestText) (l : Line TestText) (m : Line ℕ) → IsLineNumbered old new l m → IsAdded old new (test_in l)
added_line old new l m h = record {
  more = h.more;
  behind = h.behind;
  has = subst (λ (x : Line TestText). IsIn new (test_in x)) h.same (numbered_has new m h.within);
}

-- what follows a block's first statement
pub next_in : (texts : List TestText) (b : Block) → AreIn texts (statements b) → AreIn texts (rest_statements (next_of b))
next_in texts (End e) h = tt
next_in texts (Do op next) h = h.1
next_in texts (Ask q hit miss next) h = in_back texts (statements miss) (statements next) (in_back texts (statements hit) (statements miss ++ statements next) h.1)
next_in texts (Make n made taken full next) h =
    in_back texts (statements full) (statements next)
    (in_back texts (statements taken) (statements full ++ statements next)
    (in_back texts (statements made) (statements taken ++ (statements full ++ statements next)) h.1))

-- the test and the blocks of a statement
pub asked_in : (texts : List TestText) (b : Block) (q : Question) (hit miss next : Block) → b ≡ Ask q hit miss next → AreIn texts (statements b) → IsIn texts (text_asked q)
asked_in texts b q hit miss next e h = (subst (λ (x : Block). AreIn texts (statements x)) e h).0

pub asked_has : (texts : List TestText) (place : ℕ) (c : Comparison) (l r : Expression) → (of_packet l && of_packet r) ≡ true → IsIn texts (text_asked (Test place c l r)) → HasText texts (text_of c l r)
asked_has texts place c l r e h =
    subst (λ (b : Bool). IsIn texts (test_in (if b then line.Test (text_of c l r) (is_exchanged c) 0 0 else line.Free 0 0))) e h

pub hit_in : (texts : List TestText) (b : Block) (q : Question) (hit miss next : Block) → b ≡ Ask q hit miss next → AreIn texts (statements b) → AreIn texts (statements hit)
hit_in texts b q hit miss next e h =
    in_front texts (statements hit) (statements miss ++ statements next) (subst (λ (x : Block). AreIn texts (statements x)) e h).1

pub miss_in : (texts : List TestText) (b : Block) (q : Question) (hit miss next : Block) → b ≡ Ask q hit miss next → AreIn texts (statements b) → AreIn texts (statements miss)
miss_in texts b q hit miss next e h =
    in_front texts (statements miss) (statements next)
    (in_back texts (statements hit) (statements miss ++ statements next) (subst (λ (x : Block). AreIn texts (statements x)) e h).1)

pub made_in : (texts : List TestText) (b : Block) (n : Creation) (made taken full next : Block) → b ≡ Make n made taken full next → AreIn texts (statements b) → AreIn texts (statements made)
made_in texts b n made taken full next e h =
    in_front texts (statements made) (statements taken ++ (statements full ++ statements next)) (subst (λ (x : Block). AreIn texts (statements x)) e h).1

pub taken_in : (texts : List TestText) (b : Block) (n : Creation) (made taken full next : Block) → b ≡ Make n made taken full next → AreIn texts (statements b) → AreIn texts (statements taken)
taken_in texts b n made taken full next e h =
    in_front texts (statements taken) (statements full ++ statements next)
    (in_back texts (statements made) (statements taken ++ (statements full ++ statements next)) (subst (λ (x : Block). AreIn texts (statements x)) e h).1)

pub full_in : (texts : List TestText) (b : Block) (n : Creation) (made taken full next : Block) → b ≡ Make n made taken full next → AreIn texts (statements b) → AreIn texts (statements full)
full_in texts b n made taken full next e h =
    in_front texts (statements full) (statements next)
    (in_back texts (statements taken) (statements full ++ statements next)
    (in_back texts (statements made) (statements taken ++ (statements full ++ statements next)) (subst (λ (x : Block). AreIn texts (statements x)) e h).1))

-- the tests of a tree are among some texts
abbrev TreeIn : List TestText → Tree TestText → Type 0
TreeIn texts Leaf = Unit {0}
TreeIn texts (Free hit miss) = TreeIn texts hit × TreeIn texts miss
TreeIn texts (Tested x e hit miss) = HasText texts x × TreeIn texts hit × TreeIn texts miss
TreeIn texts (Made made taken full) = TreeIn texts made × TreeIn texts taken × TreeIn texts full

ending_in : (texts : List TestText) (e : Ending) (t : Tree TestText) → TreeIn texts t → TreeIn texts (ending_tree e t)
ending_in texts FallsOff t h = h
ending_in texts Flood t h = tt
ending_in texts Discard t h = tt
ending_in texts (Forward port) t h = tt

asking_in : (texts : List TestText) (q : Question) (h m : Tree TestText) → IsIn texts (text_asked q) → TreeIn texts h → TreeIn texts m → TreeIn texts (asking q h m)
asking_in texts (Get place chain n key var) h m i a b = (a, b)
asking_in texts (Find place chain at guards var) h m i a b = (a, b)
asking_in texts (Test place c l r) h m i a b = split (of_packet l && of_packet r) i
  where
    split : (v : Bool) → IsIn texts (test_in (if v then line.Test (text_of c l r) (is_exchanged c) 0 0 else line.Free 0 0)) →
        TreeIn texts (if v then Tested (text_of c l r) (is_exchanged c) h m else Free h m)
    split true k = (k, a, b)
    split false k = (a, b)

block_in : (texts : List TestText) (b : Block) (t : Tree TestText) → AreIn texts (statements b) → TreeIn texts t → TreeIn texts (unfolded b t)
block_in texts (End e) t h i = ending_in texts e t i
block_in texts (Do op next) t h i = block_in texts next t h.1 i
block_in texts (Ask q hit miss next) t h i =
    let rest = in_back texts (statements hit) (statements miss ++ statements next) h.1 in
    let follows = block_in texts next t (in_back texts (statements miss) (statements next) rest) i in
    asking_in texts q (unfolded hit (unfolded next t)) (unfolded miss (unfolded next t)) h.0
    (block_in texts hit (unfolded next t) (in_front texts (statements hit) (statements miss ++ statements next) h.1) follows)
    (block_in texts miss (unfolded next t) (in_front texts (statements miss) (statements next) rest) follows)
block_in texts (Make n made taken full next) t h i =
    let rest = in_back texts (statements made) (statements taken ++ (statements full ++ statements next)) h.1 in
    let last = in_back texts (statements taken) (statements full ++ statements next) rest in
    let follows = block_in texts next t (in_back texts (statements full) (statements next) last) i in (
      block_in texts made (unfolded next t) (in_front texts (statements made) (statements taken ++ (statements full ++ statements next)) h.1) follows,
      block_in texts taken (unfolded next t) (in_front texts (statements taken) (statements full ++ statements next) rest) follows,
      block_in texts full (unfolded next t) (in_front texts (statements full) (statements next) last) follows,
    )

-- a text among some by its number
text_back : (texts : List TestText) (x : TestText) → AreApart texts → HasText texts x → text_at texts (number_in texts x) ≡ x
text_back texts x apart h = ap (text_at texts) (number_is texts h.number x apart h.within h.at) ∙ h.at

number_below : (texts : List TestText) (x : TestText) → AreApart texts → HasText texts x → number_in texts x < length texts
number_below texts x apart h = let e = number_is texts h.number x apart h.within h.at in let w = h.within in omega arith

tree_back : (texts : List TestText) (t : Tree TestText) → AreApart texts → TreeIn texts t → tree_map (text_at texts) (tree_map (number_in texts) t) ≡ t
tree_back texts Leaf apart h = refl
tree_back texts (Free hit miss) apart h = ap₂ Free (tree_back texts hit apart h.0) (tree_back texts miss apart h.1)
tree_back texts (Tested x e hit miss) apart h =
    ap (λ y. Tested y e (tree_map (text_at texts) (tree_map (number_in texts) hit)) (tree_map (text_at texts) (tree_map (number_in texts) miss))) (text_back texts x apart h.0)
    ∙ ap₂ (Tested x e) (tree_back texts hit apart h.1) (tree_back texts miss apart h.2)
tree_back texts (Made made taken full) apart h =
    ap (λ y. Made y (tree_map (text_at texts) (tree_map (number_in texts) taken)) (tree_map (text_at texts) (tree_map (number_in texts) full))) (tree_back texts made apart h.0)
    ∙ ap₂ (Made made) (tree_back texts taken apart h.1) (tree_back texts full apart h.2)

tree_numbered : (texts : List TestText) (t : Tree TestText) → AreApart texts → TreeIn texts t → AllNumbered (length texts) (tree_map (number_in texts) t)
tree_numbered texts Leaf apart h = tt
tree_numbered texts (Free hit miss) apart h = (tree_numbered texts hit apart h.0, tree_numbered texts miss apart h.1)
tree_numbered texts (Tested x e hit miss) apart h = (number_below texts x apart h.0, tree_numbered texts hit apart h.1, tree_numbered texts miss apart h.2)
tree_numbered texts (Made made taken full) apart h = (tree_numbered texts made apart h.0, tree_numbered texts taken apart h.1, tree_numbered texts full apart h.2)

-- paths of which nothing is known go as the feasible ones
pub all_feasible : (texts : List TestText) (block : Block) → AreApart texts → AreIn texts (statements block) →
    all_ahead texts (unfolded block Leaf) (nothing_known (length texts) ∷ []) ≡ block_branches block
all_feasible texts block apart h =
    let t = unfolded block Leaf in
    let i : TreeIn texts t = block_in texts block Leaf h tt in
    append-nil (leaves texts (tree_map (number_in texts) t) (nothing_known (length texts)))
    ∙ all_fit texts apart (tree_map (number_in texts) t) (tree_numbered texts t apart i) (nothing_known (length texts)) [] (nothing texts)
    ∙ ap (fitting []) (tree_back texts t apart i)
    ∙ tree_paths block
