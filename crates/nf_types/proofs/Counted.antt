-- A checked block has as many look-ups as its text, and as many blocks open in one another.
use Rattle.std.proofs.Common.{◌≡◌, ℕ, suc, ◌+◌, ◌≤◌, max, List, [], ◌∷◌, ◌++◌, Bool, cond, arith, refl}
use Rattle.std.specs.List.{count_by}
use Rattle.std.proofs.lemmas.List.Sums.{sum_by-cons, sum_by-append}
use Rattle.nf_base.specs.Text.{Block}
use Rattle.nf_base.specs.Statements.{Statement, Does, Asks, Makes, statements, is_new, is_lookup, open_blocks}
use Rattle.nf_base.specs.declared.decl.MapDecl.{MapDecl}
use Rattle.nf_base.specs.declared.decl.ChainDecl.{ChainDecl}
use Rattle.std.proofs.Common.{Option, Some, None}
use Rattle.nf_tree.specs.declared.place.Name.{Name}
use Rattle.nf_tree.specs.Tree as tree
use Rattle.nf_tree.specs.Depth.{depth}
use Rattle.nf_types.specs.declared.objects.Objects.{Objects}
use Rattle.nf_types.specs.Variables.{Variable}
use Rattle.nf_types.specs.Statements.{chain_named, map_named, asked}
use Rattle.nf_types.specs.Places.{operation_places, question_places, creation_places, places}
use Rattle.nf_types.specs.Counts.{news, lookups, question_lookups}
use Rattle.nf_types.specs.Small.{IsSmall}
use Rattle.nf_types.specs.Blocks.{bound, bound_by, checked_operation, checked_get_in, checked_get, checked_find, checked_question, checked_creation, checked_block}

-- 1 for a statement that is counted, or 0
abbrev weight : (Statement → Bool) → Statement → ℕ
weight p s = cond (p s) 1 0

count_one : (p : Statement → Bool) (s : Statement) (a : List Statement) →
    count_by p (s ∷ a) ≡ weight p s + count_by p a
count_one p s a = sum_by-cons (weight p) s a

count_ask : (p : Statement → Bool) (s : Statement) (a b c : List Statement) →
    count_by p (s ∷ (a ++ (b ++ c))) ≡ weight p s + count_by p a + count_by p b + count_by p c
count_ask p s a b c =
    omega (arith, sum_by-cons (weight p) s (a ++ (b ++ c)), sum_by-append (weight p) a (b ++ c), sum_by-append (weight p) b c)

count_make : (p : Statement → Bool) (s : Statement) (a b c d : List Statement) →
    count_by p (s ∷ (a ++ (b ++ (c ++ d)))) ≡ weight p s + count_by p a + count_by p b + count_by p c + count_by p d
count_make p s a b c d =
    omega (arith, sum_by-cons (weight p) s (a ++ (b ++ (c ++ d))), sum_by-append (weight p) a (b ++ (c ++ d)), sum_by-append (weight p) b (c ++ d), sum_by-append (weight p) c d)

-- a checked question is a look-up where its text is
get_in_counted : (place : ℕ) (o : Objects) (xs : List Variable) (i : ℕ) (d : ChainDecl) (found : Option (ℕ × MapDecl)) (key : List tree.Expression) →
    weight is_lookup (Asks (checked_get_in place o xs i d found key)) ≡ 1
get_in_counted place o xs i d None key = refl
get_in_counted place o xs i d (Some found) key = refl

get_counted : (place : ℕ) (o : Objects) (xs : List Variable) (found : Option (ℕ × ChainDecl)) (m : Name) (key : List tree.Expression) →
    weight is_lookup (Asks (checked_get place o xs found m key)) ≡ 1
get_counted place o xs None m key = refl
get_counted place o xs (Some found) m key = get_in_counted place o xs found.0 found.1 (map_named found.1 m.bytes) key

find_counted : (place : ℕ) (o : Objects) (xs : List Variable) (found : Option (ℕ × ChainDecl)) (i : tree.Expression) (gs : List tree.Given) →
    weight is_lookup (Asks (checked_find place o xs found i gs)) ≡ 1
find_counted place o xs None i gs = refl
find_counted place o xs (Some found) i gs = refl

question_counted : (place : ℕ) (o : Objects) (xs : List Variable) (q : tree.Question) →
    weight is_lookup (Asks (checked_question place o xs q)) ≡ question_lookups q
question_counted place o xs (tree.Get at x c m key close) = get_counted place o xs (chain_named o.chains c.bytes) m key
question_counted place o xs (tree.Find at x c i gs) = find_counted place o xs (chain_named o.chains c.bytes) i (asked gs)
question_counted place o xs (tree.Test l comparison r) = refl

record IsCounted (b : tree.Block) (made : Block) : Type 0 where
  news : count_by is_new (statements made) ≡ news b
  lookups : count_by is_lookup (statements made) ≡ lookups b
  depth : open_blocks made ≡ depth b

deeper_ask : (a b c d e f : ℕ) → a ≡ b → c ≡ d → e ≡ f → max (suc (max a c)) e ≡ max (suc (max b d)) f
deeper_ask a b c d e f p q r = cc

max_three : (a b c : ℕ) → max a (max b c) ≡ max (max a b) c
max_three a b c = omega arith

deeper_make : (a b c d e f g h : ℕ) → a ≡ b → c ≡ d → e ≡ f → g ≡ h →
    max (suc (max a (max c e))) g ≡ max (suc (max (max b d) f)) h
deeper_make a b c d e f g h p q r s =
    let inner : max a (max c e) ≡ max (max a c) e = max_three a c e in
    cc

counted : (place : ℕ) (o : Objects) (xs : List Variable) (b : tree.Block) → IsCounted b (checked_block place o xs b)
counted place o xs (tree.End e) = record { news = refl; lookups = refl; depth = refl }
counted place o xs (tree.Do op next) =
    let n = counted (place + operation_places op) o xs next in
    let made = statements (checked_block (place + operation_places op) o xs next) in
    let s = Does (checked_operation place o xs op) in
    record {
      news = omega (arith, count_one is_new s made, n.news);
      lookups = omega (arith, count_one is_lookup s made, n.lookups);
      depth = n.depth;
    }
counted place o xs (tree.Ask q hit miss next) =
    let at = place + question_places q in
    let h = counted at o (bound_by o xs q) hit in
    let m = counted (at + places hit) o xs miss in
    let n = counted (at + places hit + places miss) o xs next in
    let hits = statements (checked_block at o (bound_by o xs q) hit) in
    let misses = statements (checked_block (at + places hit) o xs miss) in
    let behind = statements (checked_block (at + places hit + places miss) o xs next) in
    let s = Asks (checked_question place o xs q) in
    record {
      news = omega (arith, count_ask is_new s hits misses behind, h.news, m.news, n.news);
      lookups = omega (arith, count_ask is_lookup s hits misses behind, question_counted place o xs q, h.lookups, m.lookups, n.lookups);
      depth = deeper_ask _ _ _ _ _ _ h.depth m.depth n.depth;
    }
counted place o xs (tree.Make c first taken full next) =
    let at = place + creation_places c in
    let p = counted at o (bound o xs c.variable c.chain) first in
    let t = counted (at + places first) o xs taken in
    let f = counted (at + places first + places taken) o xs full in
    let n = counted (at + places first + places taken + places full) o xs next in
    let made = statements (checked_block at o (bound o xs c.variable c.chain) first) in
    let takens = statements (checked_block (at + places first) o xs taken) in
    let fulls = statements (checked_block (at + places first + places taken) o xs full) in
    let behind = statements (checked_block (at + places first + places taken + places full) o xs next) in
    let s = Makes (checked_creation place o xs c) in
    record {
      news = omega (arith, count_make is_new s made takens fulls behind, p.news, t.news, f.news, n.news);
      lookups = omega (arith, count_make is_lookup s made takens fulls behind, p.lookups, t.lookups, f.lookups, n.lookups);
      depth = deeper_make _ _ _ _ _ _ _ _ p.depth t.depth f.depth n.depth;
    }

-- the limits of a handler, from those of its text
pub within : (place : ℕ) (o : Objects) (b : tree.Block) (made : Block) → made ≡ checked_block place o [] b → IsSmall b → depth b ≤ 64 →
    (count_by is_new (statements made) ≤ 16) × (count_by is_lookup (statements made) ≤ 32) × (open_blocks made ≤ 64)
within place o b made e small shallow =
    let p = counted place o [] b in
    rw e (omega (arith, p.news, small.news), omega (arith, p.lookups, small.lookups), omega (arith, p.depth, shallow))
