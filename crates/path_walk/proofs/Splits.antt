-- The first statement of a block, and what follows it.
use Rattle.std.proofs.Common.{◌≡◌, ℕ, suc, ◌<◌, ◌==◌, not, true, Bor, Bool, List, [], ◌∷◌, ◌++◌, length, map, Option, refl, sym, ap, ◌∙◌, arith, append_assoc}
use Rattle.std.proofs.lemmas.List.{append-nil, map-append}
use Rattle.std.proofs.lemmas.Bool.Decides.{nat_tests}
use Rattle.nf_base.specs.declared.block.Block as block
use Rattle.nf_base.specs.Text.{Question, Creation, Block, End, Do, Ask, Make}
use Rattle.nf_base.specs.Statements.{Statement, Asks, Makes, statements}
use Rattle.nf_base.specs.View.{block_of}
use Rattle.nf_base.specs.Laid.{block_seen}
use Rattle.nf_base.specs.Paths.{Branch}
use Rattle.path_walk.specs.Order.{head_of, head_seen, waiting}
use Rattle.path_walk.specs.Alive.{into_first, into_second, into_third, those, is_any, past, alive, past_one, alive_one, next_of, past_rest, alive_rest}

-- the marks of a block are those of its first statement, and of what follows it
pub alive_split :
    (b : Block) (live : List (List Branch)) → alive b live ≡ alive_one b live ++ alive_rest (next_of b) (past_one b live)
alive_split (End e) live = refl
alive_split (Do op next) live = refl
alive_split (Ask q hit miss next) live =
    let f = those into_first live in
    let m = those into_second live in
    let on = past hit f ++ past miss m in
    ap (λ r. is_any live ∷ r) (sym (append_assoc (alive hit f) (alive miss m) (alive next on)))
alive_split (Make n made taken full next) live =
    let f = those into_first live in
    let m = those into_second live in
    let l = those into_third live in
    let on = past made f ++ (past taken m ++ past full l) in
    ap (λ r. is_any live ∷ r)
    (ap (λ r. alive made f ++ r) (sym (append_assoc (alive taken m) (alive full l) (alive next on)))
    ∙ sym (append_assoc (alive made f) (alive taken m ++ alive full l) (alive next on)))

pub past_split : (b : Block) (live : List (List Branch)) → past b live ≡ past_rest (next_of b) (past_one b live)
past_split (End e) live = refl
past_split (Do op next) live = refl
past_split (Ask q hit miss next) live = refl
past_split (Make n made taken full next) live = refl

-- one statement is marked more
pub marks_more :
    (a b c whole : List Bool) (block : Block) (live on : List (List Branch)) (rest : Option Block) →
    b ++ alive block live ≡ whole → c ≡ b ++ alive_one block live → on ≡ past_one block live → rest ≡ next_of block →
    c ++ alive_rest rest on ≡ whole
marks_more a b c whole block live on rest p q r s =
    ap (λ x. x ++ alive_rest rest on) q
    ∙ append_assoc b (alive_one block live) (alive_rest rest on)
    ∙ ap (λ x. b ++ (alive_one block live ++ alive_rest x on)) s
    ∙ ap (λ x. b ++ (alive_one block live ++ alive_rest (next_of block) x)) r
    ∙ ap (λ x. b ++ x) (sym (alive_split block live)) ∙ p

waiting-push : (bs : List Block) (b : Block) → waiting (bs ++ b ∷ []) ≡ statements b ++ waiting bs
waiting-push [] b = sym (append-nil (statements b))
waiting-push (x ∷ bs) b =
    ap (λ r. r ++ statements x) (waiting-push bs b) ∙ append_assoc (statements b) (waiting bs) (statements x)

-- one block more waits
pub one_waits :
    (old new : List (Bor block.Block)) (b : Bor block.Block) → new ≡ old ++ b ∷ [] →
    waiting (map block_seen new) ≡ statements (block_of b.now) ++ waiting (map block_seen old)
one_waits old new b e =
    ap (λ r. waiting (map block_seen r)) e ∙ ap waiting (map-append block_seen old (b ∷ []))
    ∙ waiting-push (map block_seen old) (block_of b.now)

pub two_wait :
    (q : Question) (h m n : List Statement) (a b c w : List Statement) → c ≡ h ++ b → b ≡ m ++ a → a ≡ n ++ w →
    Asks q ∷ c ≡ Asks q ∷ ((h ++ (m ++ n)) ++ w)
two_wait q h m n a b c w e f g =
    ap (λ r. Asks q ∷ r)
    (e ∙ ap (λ r. h ++ r) (f ∙ ap (λ r. m ++ r) g ∙ sym (append_assoc m n w)) ∙ sym (append_assoc h (m ++ n) w))

pub three_wait :
    (k : Creation) (h m l n : List Statement) (a b c d w : List Statement) → d ≡ h ++ c → c ≡ m ++ b → b ≡ l ++ a → a ≡ n ++ w →
    Makes k ∷ d ≡ Makes k ∷ ((h ++ (m ++ (l ++ n))) ++ w)
three_wait k h m l n a b c d w e f g i =
    ap (λ r. Makes k ∷ r)
    (e ∙ ap (λ r. h ++ r) (f ∙ ap (λ r. m ++ r) (g ∙ ap (λ r. l ++ r) i ∙ sym (append_assoc l n w)) ∙ sym (append_assoc m (l ++ n) w))
    ∙ sym (append_assoc h (m ++ (l ++ n)) w))

-- one statement is listed more
pub listed_more :
    (all more left popped new : List (Bor block.Block)) (one : Bor block.Block) (whole : List Statement) →
    map head_seen all ++ waiting (map block_seen left) ≡ whole → left ≡ popped ++ one ∷ [] → more ≡ all ++ one ∷ [] →
    head_of (block_of one.now) ∷ waiting (map block_seen new) ≡ statements (block_of one.now) ++ waiting (map block_seen popped) →
    map head_seen more ++ waiting (map block_seen new) ≡ whole
listed_more all more left popped new one whole p q r s =
    ap (λ x. map head_seen x ++ waiting (map block_seen new)) r
    ∙ ap (λ x. x ++ waiting (map block_seen new)) (map-append head_seen all (one ∷ []))
    ∙ append_assoc (map head_seen all) (head_seen one ∷ []) (waiting (map block_seen new))
    ∙ ap (λ x. map head_seen all ++ x) (s ∙ sym (one_waits popped left one q)) ∙ p

-- and one less is left
pub listed_less :
    (left popped new : List (Bor block.Block)) (one : Bor block.Block) → left ≡ popped ++ one ∷ [] →
    head_of (block_of one.now) ∷ waiting (map block_seen new) ≡ statements (block_of one.now) ++ waiting (map block_seen popped) →
    length (waiting (map block_seen new)) < length (waiting (map block_seen left))
listed_less left popped new one q s =
    let same : suc (length (waiting (map block_seen new))) ≡ length (waiting (map block_seen left)) =
    ap length (s ∙ sym (one_waits popped left one q)) in
    omega arith

not_none : (n : ℕ) → 0 < n → not (n == 0) ≡ true
not_none n h = grind (arith, nat_tests)

-- whether there are some, by how many there are
pub any_some : {A B : Type 0} (v : A → B) (xs : List A) (n : ℕ) → n ≡ length xs → not (n == 0) ≡ is_any (map v xs)
any_some v [] n e = ap (λ m. not (m == 0)) e
any_some v (x ∷ xs) n e = not_none n (omega arith)

-- a `new` and the statements in its blocks are marked
pub make_marks :
    (m a b c d : List Bool) (any : Bool) (made taken full : Block) (live f s t : List (List Branch)) →
    any ≡ is_any live → a ≡ m ++ any ∷ [] → b ≡ a ++ alive made f → c ≡ b ++ alive taken s → d ≡ c ++ alive full t →
    f ≡ those into_first live → s ≡ those into_second live → t ≡ those into_third live →
    d ≡ m ++ (is_any live ∷ (alive made (those into_first live) ++ (alive taken (those into_second live) ++ alive full (those into_third live))))
make_marks m a b c d any made taken full live f s t e p q u w x y z =
    w ∙ ap (λ i. i ++ alive full t) (u ∙ ap (λ i. i ++ alive taken s) (q ∙ ap (λ i. i ++ alive made f) p))
    ∙ ap (λ i. (i ++ alive taken s) ++ alive full t) (append_assoc m (any ∷ []) (alive made f))
    ∙ ap (λ i. i ++ alive full t) (append_assoc m (any ∷ alive made f) (alive taken s))
    ∙ append_assoc m (any ∷ (alive made f ++ alive taken s)) (alive full t)
    ∙ ap (λ i. m ++ (any ∷ i)) (append_assoc (alive made f) (alive taken s) (alive full t))
    ∙ ap (λ i. m ++ (i ∷ (alive made f ++ (alive taken s ++ alive full t)))) e
    ∙ ap (λ i. m ++ (is_any live ∷ (alive made i ++ (alive taken s ++ alive full t)))) x
    ∙ ap (λ i. m ++ (is_any live ∷ (alive made (those into_first live) ++ (alive taken i ++ alive full t)))) y
    ∙ ap (λ i. m ++ (is_any live ∷ (alive made (those into_first live) ++ (alive taken (those into_second live) ++ alive full i)))) z
