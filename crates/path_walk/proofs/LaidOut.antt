-- What is laid out, a statement at a time.
use Rattle.std.proofs.Common.{◌≡◌, ◌<◌, arith, ℕ, Bool, true, false, ◌&&◌, List, [], ◌∷◌, ◌++◌, length, if◌then◌else◌, Result, refl, ap, ap₂, sym, ◌∙◌, subst}
use Rattle.std.specs.Result.{IfOk}
use Rattle.std.proofs.lemmas.Result.{IfOk-weaker}
use Rattle.std.proofs.lemmas.List.{length_push}
use Rattle.nf_base.specs.Text.{Question, Get, Find, Test, Block, End, Do, Ask, Make}
use Rattle.nf_base.specs.Laid.{before}
use Rattle.nf_laws.specs.Paths.{of_packet}
use Rattle.path_walk.specs.declared.line.Line.{Line}
use Rattle.path_walk.specs.declared.line.Line.TheVariants as line
use Rattle.path_walk.specs.Tests.{TestText, is_exchanged}
use Rattle.path_walk.specs.Trees.{Tree, Leaf, Free, Tested, Made, text_of, asking, unfolded}
use Rattle.path_walk.specs.Lines.{child, grown, trees, tree_at, IsBelow, IsLaid, Keeps}
use Rattle.path_walk.specs.Layout.{question_line, statement_tree, IsPut, IsLaidOut}
use Rattle.path_walk.proofs.Lines.{keeps_itself, keeps_both, keeps_push, tree_push}

pub statement_first : (b rest : Block) (t : Tree TestText) → statement_tree b t (unfolded rest t) ≡ unfolded (before b rest) t
statement_first (End e) rest t = refl
statement_first (Do op next) rest t = refl
statement_first (Ask q hit miss next) rest t = refl
statement_first (Make n made taken full next) rest t = refl

pub itself : (ls : List (Line TestText)) (at : ℕ) → IsLaid ls → at < length ls → IsLaidOut ls ls at (tree_at ls at)
itself ls at h w = record { begins = refl; within = w; keeps = keeps_itself ls h }

-- a line put behind others
put_line : (old ls : List (Line TestText)) (l : Line TestText) (tree : Tree TestText) → Keeps old ls → IsBelow (length ls) l → grown l (trees [] ls) ≡ tree → IsLaidOut old (ls ++ l ∷ []) (length ls) tree
put_line old ls l tree k b e = record {
  begins = tree_push ls l ∙ e;
  within = let n = length_push ls l in omega arith;
  keeps = keeps_both old ls (ls ++ l ∷ []) k (keeps_push ls l k.laid b);
}

pub stop : (ls : List (Line TestText)) → IsLaid ls → IsLaidOut ls (ls ++ line.Stop ∷ []) (length ls) Leaf
stop ls h = put_line ls ls line.Stop Leaf (keeps_itself ls h) tt refl

question_below : (q : Question) (n hit miss : ℕ) → hit < n → miss < n → IsBelow n (question_line q hit miss)
question_below (Get place chain m key var) n hit miss h k = (h, k)
question_below (Find place chain at guards var) n hit miss h k = (h, k)
question_below (Test place c l r) n hit miss h k = split (of_packet l && of_packet r)
  where
    split : (b : Bool) → IsBelow n (if b then line.Test (text_of c l r) (is_exchanged c) hit miss else line.Free hit miss)
    split true = (h, k)
    split false = (h, k)

question_grown : (q : Question) (hit miss : ℕ) (ts : List (Tree TestText)) → grown (question_line q hit miss) ts ≡ asking q (child ts hit) (child ts miss)
question_grown (Get place chain m key var) hit miss ts = refl
question_grown (Find place chain at guards var) hit miss ts = refl
question_grown (Test place c l r) hit miss ts = split (of_packet l && of_packet r)
  where
    split : (b : Bool) → grown (if b then line.Test (text_of c l r) (is_exchanged c) hit miss else line.Free hit miss) ts
        ≡ (if b then Tested (text_of c l r) (is_exchanged c) (child ts hit) (child ts miss) else Free (child ts hit) (child ts miss))
    split true = refl
    split false = refl

-- lines behind lines, from the same exit
pub behind : (a b c : List (Line TestText)) (at to exit : ℕ) (x : Tree TestText) (f : Tree TestText → Tree TestText) → exit < length a → IsLaidOut a b at x → IsLaidOut b c to (f (tree_at b exit)) → IsLaidOut a c to (f (tree_at a exit))
behind a b c at to exit x f w h k = record {
  begins = k.begins ∙ ap f (h.keeps.same exit w);
  within = k.within;
  keeps = keeps_both a b c h.keeps k.keeps;
}

pub asks : (a b c : List (Line TestText)) (q : Question) (hit miss : Tree TestText) (hits misses : ℕ) → IsLaidOut a b hits hit → IsLaidOut b c misses miss → IsLaidOut a (c ++ question_line q hits misses ∷ []) (length c) (asking q hit miss)
asks a b c q hit miss hits misses h m =
    let k = m.keeps.longer in
    let w = h.within in
    let x : hits < length c = omega arith in
    put_line a c (question_line q hits misses) (asking q hit miss) (keeps_both a b c h.keeps m.keeps) (question_below q (length c) hits misses x m.within)
    (question_grown q hits misses (trees [] c) ∙ ap₂ (asking q) (m.keeps.same hits w ∙ h.begins) m.begins)

pub makes : (a b c d : List (Line TestText)) (made taken full : Tree TestText) (x y z : ℕ) → IsLaidOut a b x made → IsLaidOut b c y taken → IsLaidOut c d z full → IsLaidOut a (d ++ line.Make x y z ∷ []) (length d) (Made made taken full)
makes a b c d made taken full x y z h k m =
    let v = k.keeps.longer in
    let w = m.keeps.longer in
    let hx = h.within in
    let hy = k.within in
    let xb : x < length b = hx in
    let xc : x < length c = omega arith in
    let xd : x < length d = omega arith in
    let yd : y < length d = omega arith in
    put_line a d (line.Make x y z) (Made made taken full) (keeps_both a b d h.keeps (keeps_both b c d k.keeps m.keeps)) (xd, yd, m.within)
    (ap (λ t. Made t (tree_at d y) (tree_at d z)) (m.keeps.same x xc ∙ k.keeps.same x xb ∙ h.begins) ∙ ap₂ (Made made) (m.keeps.same y hy ∙ k.begins) m.begins)

-- the same of a line that was put
at_put : (a b d : List (Line TestText)) (l : Line TestText) (at : ℕ) (tree : Tree TestText) → IsPut b l d at → IsLaidOut a (b ++ l ∷ []) (length b) tree → IsLaidOut a d at tree
at_put a b d l at tree p h = subst (λ n. IsLaidOut a d n tree) (sym p.behind) (subst (λ (x : List (Line TestText)). IsLaidOut a x (length b) tree) (sym p.more) h)

pub if_put : {E : Type 0} (r : Result ℕ E) (a b d : List (Line TestText)) (l : Line TestText) (tree : Tree TestText) → IsLaidOut a (b ++ l ∷ []) (length b) tree → IfOk r (λ at. IsPut b l d at) → IfOk r (λ at. IsLaidOut a d at tree)
if_put r a b d l tree h i = IfOk-weaker r (λ at. IsPut b l d at) (λ at. IsLaidOut a d at tree) (λ at p. at_put a b d l at tree p h) i

-- the lines of a question, each part behind the one before it
pub ask_lines : (a b c : List (Line TestText)) (q : Question) (hit miss : Block) (exit hits misses : ℕ) → exit < length a → IsLaidOut a b hits (unfolded hit (tree_at a exit)) → IsLaidOut b c misses (unfolded miss (tree_at b exit)) →
    IsLaidOut a (c ++ question_line q hits misses ∷ []) (length c) (asking q (unfolded hit (tree_at a exit)) (unfolded miss (tree_at a exit)))
ask_lines a b c q hit miss exit hits misses w h m =
    asks a b c q (unfolded hit (tree_at a exit)) (unfolded miss (tree_at a exit)) hits misses h (record { begins = m.begins ∙ ap (unfolded miss) (h.keeps.same exit w); within = m.within; keeps = m.keeps })

pub make_lines : (a b c d : List (Line TestText)) (made taken full : Block) (exit x y z : ℕ) → exit < length a → IsLaidOut a b x (unfolded made (tree_at a exit)) → IsLaidOut b c y (unfolded taken (tree_at b exit)) → IsLaidOut c d z (unfolded full (tree_at c exit)) →
    IsLaidOut a (d ++ line.Make x y z ∷ []) (length d) (Made (unfolded made (tree_at a exit)) (unfolded taken (tree_at a exit)) (unfolded full (tree_at a exit)))
make_lines a b c d made taken full exit x y z w h k m =
    let v = h.keeps.longer in
    let u : exit < length b = omega arith in
    makes a b c d (unfolded made (tree_at a exit)) (unfolded taken (tree_at a exit)) (unfolded full (tree_at a exit)) x y z h
    (record { begins = k.begins ∙ ap (unfolded taken) (h.keeps.same exit w); within = k.within; keeps = k.keeps })
    (record { begins = m.begins ∙ ap (unfolded full) (k.keeps.same exit u ∙ h.keeps.same exit w); within = m.within; keeps = m.keeps })

-- a statement in front of what is laid out already
pub one_statement : (a b d : List (Line TestText)) (first rest : Block) (exit at to : ℕ) → exit < length a → IsLaidOut a b at (unfolded rest (tree_at a exit)) →
    IsLaidOut b d to (statement_tree first (tree_at b exit) (tree_at b at)) → IsLaidOut a d to (unfolded (before first rest) (tree_at a exit))
one_statement a b d first rest exit at to w h k = record {
  begins = k.begins ∙ ap₂ (statement_tree first) (h.keeps.same exit w) h.begins ∙ statement_first first rest (tree_at a exit);
  within = k.within;
  keeps = keeps_both a b d h.keeps k.keeps;
}
