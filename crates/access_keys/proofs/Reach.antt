-- What paths come to is what the statements that they come to have.
use Rattle.std.proofs.Common.{◌≡◌, suc, ◌+◌, arith, Bool, true, false, ◌&&◌, ◌||◌, List, [], ◌∷◌, ◌++◌, length, refl, sym, ap, ◌∙◌}
use Rattle.std.specs.List.{list_any}
use Rattle.std.proofs.lemmas.List.{length-append}
use Rattle.nf_base.specs.Text.{Ending, FallsOff, Flood, Discard, Forward, Operation, Question, Creation, Block, End, Do, Ask, Make}
use Rattle.nf_base.specs.Statements.{Statement, Ends, Does, Asks, Makes, statements}
use Rattle.nf_base.specs.Paths as path
use Rattle.nf_base.specs.Paths.{Branch, PathStep, Doing, Asking, Making, Closing}
use Rattle.path_walk.specs.Alive.{into_first, into_second, into_third, those, is_any, past, alive}
use Rattle.access_keys.proofs.Replay.{replay, asked_way, made_way}

-- a test of statements, and the same of steps, which passes at no end that falls off
pub record Agree (t : Statement → Bool) (s : PathStep → Bool) : Type 0 where
  pub does : (op : Operation) → s (Doing op) ≡ t (Does op)
  pub asks : (q : Question) (b : Branch) → s (Asking q b) ≡ t (Asks q)
  pub makes : (n : Creation) (b : Branch) → s (Making n b) ≡ t (Makes n)
  pub closes : (e : Ending) → s (Closing e) ≡ t (Ends e)
  pub falls : t (Ends FallsOff) ≡ false

-- whether a statement that is marked passes
abbrev pub marked : (Statement → Bool) → List Statement → List Bool → Bool
marked t [] ms = false
marked t (s ∷ ss) [] = false
marked t (s ∷ ss) (m ∷ ms) = (m && t s) || marked t ss ms

-- whether a step passes of what follows branches
abbrev pub comes : (PathStep → Bool) → (List Branch → List PathStep) → List Branch → Bool
comes s k bs = list_any s (k bs)

pub or_assoc : (a b c : Bool) → (a || b) || c ≡ a || (b || c)
or_assoc true b c = refl
or_assoc false b c = refl

pub or_false : (a : Bool) → a || false ≡ a
or_false true = refl
or_false false = refl

pub any-append : {A : Type 0} (t : A → Bool) (xs ys : List A) → list_any t (xs ++ ys) ≡ list_any t xs || list_any t ys
any-append t [] ys = refl
any-append t (x ∷ xs) ys =
    ap (λ r. t x || r) (any-append t xs ys) ∙ sym (or_assoc (t x) (list_any t xs) (list_any t ys))

marked-append :
    (t : Statement → Bool) (ss rs : List Statement) (ms ns : List Bool) → length ss ≡ length ms →
    marked t (ss ++ rs) (ms ++ ns) ≡ marked t ss ms || marked t rs ns
marked-append t [] rs [] ns e = refl
marked-append t [] rs (m ∷ ms) ns e = absurd (omega arith)
marked-append t (s ∷ ss) rs [] ns e = absurd (omega arith)
marked-append t (s ∷ ss) rs (m ∷ ms) ns e =
    ap (λ r. (m && t s) || r) (marked-append t ss rs ms ns (omega arith))
    ∙ sym (or_assoc (m && t s) (marked t ss ms) (marked t rs ns))

lengths :
    {A B : Type 0} (a b : List A) (c d : List B) → length a ≡ length c → length b ≡ length d →
    length (a ++ b) ≡ length (c ++ d)
lengths a b c d e f = length-append a b ∙ ap (λ n. n + length b) e ∙ ap (λ n. length c + n) f ∙ sym (length-append c d)

-- there is one mark for each statement
pub length-alive : (b : Block) (live : List (List Branch)) → length (statements b) ≡ length (alive b live)
length-alive (End e) live = refl
length-alive (Do op next) live = ap suc (length-alive next live)
length-alive (Ask q hit miss next) live =
    let f = those into_first live in
    let m = those into_second live in
    let on = past hit f ++ past miss m in
    ap suc
    (lengths (statements hit) (statements miss ++ statements next) (alive hit f) (alive miss m ++ alive next on) (length-alive hit f)
    (lengths (statements miss) (statements next) (alive miss m) (alive next on) (length-alive miss m) (length-alive next on)))
length-alive (Make n made taken full next) live =
    let f = those into_first live in
    let m = those into_second live in
    let l = those into_third live in
    let on = past made f ++ (past taken m ++ past full l) in
    ap suc
    (lengths (statements made) (statements taken ++ (statements full ++ statements next)) (alive made f) (alive taken m ++ (alive full l ++ alive next on)) (length-alive made f)
    (lengths (statements taken) (statements full ++ statements next) (alive taken m) (alive full l ++ alive next on) (length-alive taken m)
    (lengths (statements full) (statements next) (alive full l) (alive next on) (length-alive full l) (length-alive next on))))

with_more : (a f i r l : Bool) → r ≡ (i && a) || l → (a || f) || r ≡ a || (f || l)
with_more true f i r l e = refl
with_more false true i r l e = refl
with_more false false true r l e = e
with_more false false false r l e = e

any_with :
    {A : Type 0} (a : Bool) (f : A → Bool) (xs : List A) →
    list_any (λ x. a || f x) xs ≡ (is_any xs && a) || list_any f xs
any_with a f [] = refl
any_with a f (x ∷ xs) =
    with_more a (f x) (is_any xs) (list_any (λ y. a || f y) xs) (list_any f xs) (any_with a f xs)

pub any_none : {A : Type 0} (xs : List A) → list_any (λ (x : A). false) xs ≡ false
any_none [] = refl
any_none (x ∷ xs) = any_none xs

-- a path that goes one of two ways, in front of others
one_first : (a x i h m r : Bool) → r ≡ (i && a) || (h || m) → (a || x) || r ≡ a || ((x || h) || m)
one_first true x i h m r e = refl
one_first false true i h m r e = refl
one_first false false true h m r e = e
one_first false false false h m r e = e

one_second : (a x i h m r : Bool) → r ≡ (i && a) || (h || m) → (a || x) || r ≡ a || (h || (x || m))
one_second true x i h m r e = refl
one_second false true i true m r e = refl
one_second false true i false m r e = refl
one_second false false true h m r e = e
one_second false false false h m r e = e

one_none : (a i h m r : Bool) → r ≡ (i && a) || (h || m) → (a || false) || r ≡ a || (h || m)
one_none true i h m r e = refl
one_none false true h m r e = e
one_none false false h m r e = e

asked_any :
    (s : PathStep → Bool) (a : Bool) (q : Question) → ((b : Branch) → s (Asking q b) ≡ a) →
    (hit miss : List Branch → List PathStep) (live : List (List Branch)) →
    list_any (comes s (λ bs. asked_way q bs hit miss)) live
    ≡ (is_any live && a) || (list_any (comes s hit) (those into_first live) || list_any (comes s miss) (those into_second live))
asked_any s a q e hit miss [] = refl
asked_any s a q e hit miss ([] ∷ live) =
    rw (e path.Misses) (one_none a (is_any live) (list_any (comes s hit) (those into_first live)) (list_any (comes s miss) (those into_second live)) (list_any (comes s (λ bs. asked_way q bs hit miss)) live) (asked_any s a q e hit miss live))
asked_any s a q e hit miss ((path.Hits ∷ bs) ∷ live) =
    rw (e path.Hits) (one_first a (list_any s (hit bs)) (is_any live) (list_any (comes s hit) (those into_first live)) (list_any (comes s miss) (those into_second live)) (list_any (comes s (λ cs. asked_way q cs hit miss)) live) (asked_any s a q e hit miss live))
asked_any s a q e hit miss ((path.Makes ∷ bs) ∷ live) =
    rw (e path.Makes) (one_first a (list_any s (hit bs)) (is_any live) (list_any (comes s hit) (those into_first live)) (list_any (comes s miss) (those into_second live)) (list_any (comes s (λ cs. asked_way q cs hit miss)) live) (asked_any s a q e hit miss live))
asked_any s a q e hit miss ((path.Misses ∷ bs) ∷ live) =
    rw (e path.Misses) (one_second a (list_any s (miss bs)) (is_any live) (list_any (comes s hit) (those into_first live)) (list_any (comes s miss) (those into_second live)) (list_any (comes s (λ cs. asked_way q cs hit miss)) live) (asked_any s a q e hit miss live))
asked_any s a q e hit miss ((path.IsTaken ∷ bs) ∷ live) =
    rw (e path.IsTaken) (one_second a (list_any s (miss bs)) (is_any live) (list_any (comes s hit) (those into_first live)) (list_any (comes s miss) (those into_second live)) (list_any (comes s (λ cs. asked_way q cs hit miss)) live) (asked_any s a q e hit miss live))
asked_any s a q e hit miss ((path.IsFull ∷ bs) ∷ live) =
    rw (e path.IsFull) (one_none a (is_any live) (list_any (comes s hit) (those into_first live)) (list_any (comes s miss) (those into_second live)) (list_any (comes s (λ cs. asked_way q cs hit miss)) live) (asked_any s a q e hit miss live))

one_third : (a x i h m f r : Bool) → r ≡ (i && a) || (h || (m || f)) → (a || x) || r ≡ a || (h || (m || (x || f)))
one_third true x i h m f r e = refl
one_third false true i true m f r e = refl
one_third false true i false true f r e = refl
one_third false true i false false f r e = refl
one_third false false true h m f r e = e
one_third false false false h m f r e = e

second_of_three : (a x i h m f r : Bool) → r ≡ (i && a) || (h || (m || f)) → (a || x) || r ≡ a || (h || ((x || m) || f))
second_of_three true x i h m f r e = refl
second_of_three false true i true m f r e = refl
second_of_three false true i false m f r e = refl
second_of_three false false true h m f r e = e
second_of_three false false false h m f r e = e

made_any :
    (s : PathStep → Bool) (a : Bool) (n : Creation) → ((b : Branch) → s (Making n b) ≡ a) →
    (made taken full : List Branch → List PathStep) (live : List (List Branch)) →
    list_any (comes s (λ bs. made_way n bs made taken full)) live
    ≡ (is_any live && a)
    || (list_any (comes s made) (those into_first live)
    || (list_any (comes s taken) (those into_second live) || list_any (comes s full) (those into_third live)))
made_any s a n e made taken full [] = refl
made_any s a n e made taken full ([] ∷ live) =
    rw (e path.IsFull) (one_none a (is_any live) (list_any (comes s made) (those into_first live)) (list_any (comes s taken) (those into_second live) || list_any (comes s full) (those into_third live)) (list_any (comes s (λ cs. made_way n cs made taken full)) live) (made_any s a n e made taken full live))
made_any s a n e made taken full ((path.Hits ∷ bs) ∷ live) =
    rw (e path.Hits) (one_first a (list_any s (made bs)) (is_any live) (list_any (comes s made) (those into_first live)) (list_any (comes s taken) (those into_second live) || list_any (comes s full) (those into_third live)) (list_any (comes s (λ cs. made_way n cs made taken full)) live) (made_any s a n e made taken full live))
made_any s a n e made taken full ((path.Makes ∷ bs) ∷ live) =
    rw (e path.Makes) (one_first a (list_any s (made bs)) (is_any live) (list_any (comes s made) (those into_first live)) (list_any (comes s taken) (those into_second live) || list_any (comes s full) (those into_third live)) (list_any (comes s (λ cs. made_way n cs made taken full)) live) (made_any s a n e made taken full live))
made_any s a n e made taken full ((path.Misses ∷ bs) ∷ live) =
    rw (e path.Misses) (second_of_three a (list_any s (taken bs)) (is_any live) (list_any (comes s made) (those into_first live)) (list_any (comes s taken) (those into_second live)) (list_any (comes s full) (those into_third live)) (list_any (comes s (λ cs. made_way n cs made taken full)) live) (made_any s a n e made taken full live))
made_any s a n e made taken full ((path.IsTaken ∷ bs) ∷ live) =
    rw (e path.IsTaken) (second_of_three a (list_any s (taken bs)) (is_any live) (list_any (comes s made) (those into_first live)) (list_any (comes s taken) (those into_second live)) (list_any (comes s full) (those into_third live)) (list_any (comes s (λ cs. made_way n cs made taken full)) live) (made_any s a n e made taken full live))
made_any s a n e made taken full ((path.IsFull ∷ bs) ∷ live) =
    rw (e path.IsFull) (one_third a (list_any s (full bs)) (is_any live) (list_any (comes s made) (those into_first live)) (list_any (comes s taken) (those into_second live)) (list_any (comes s full) (those into_third live)) (list_any (comes s (λ cs. made_way n cs made taken full)) live) (made_any s a n e made taken full live))

two_blocks : (a h m n x y e : Bool) → x || y ≡ n || e → a || ((h || x) || (m || y)) ≡ (a || (h || (m || n))) || e
two_blocks true h m n x y e p = refl
two_blocks false true m n x y e p = refl
two_blocks false false true n true y e p = refl
two_blocks false false true n false y e p = refl
two_blocks false false false n x y e p = p

three_blocks :
    (a h m f n x y z e : Bool) → x || (y || z) ≡ n || e →
    a || ((h || x) || ((m || y) || (f || z))) ≡ (a || (h || (m || (f || n)))) || e
three_blocks true h m f n x y z e p = refl
three_blocks false true m f n x y z e p = refl
three_blocks false false true f n true y z e p = refl
three_blocks false false true f n false y z e p = refl
three_blocks false false false true n true y z e p = refl
three_blocks false false false true n false true z e p = refl
three_blocks false false false true n false false z e p = refl
three_blocks false false false false n x y z e p = p

ends :
    (t : Statement → Bool) (s : PathStep → Bool) (e : Ending) → s (Closing e) ≡ t (Ends e) → (live : List (List Branch)) →
    list_any (λ (bs : List Branch). s (Closing e) || false) live ≡ ((is_any live && t (Ends e)) || false) || false
ends t s e h live =
    any_with (s (Closing e)) (λ (bs : List Branch). false) live
    ∙ ap (λ r. (is_any live && s (Closing e)) || r) (any_none live)
    ∙ ap (λ r. (is_any live && r) || false) h
    ∙ sym (or_false ((is_any live && t (Ends e)) || false))

falls_off : (i r : Bool) → ((i && false) || false) || r ≡ r
falls_off true r = refl
falls_off false r = refl

ending_reach :
    (t : Statement → Bool) (s : PathStep → Bool) → Agree t s → (e : Ending) (k : List Branch → List PathStep) (live : List (List Branch)) →
    list_any (comes s (replay (End e) k)) live
    ≡ marked t (statements (End e)) (alive (End e) live) || list_any (comes s k) (past (End e) live)
ending_reach t s g FallsOff k live =
    rw g.falls (sym (falls_off (is_any live) (list_any (comes s k) live)))
ending_reach t s g Flood k live = ends t s Flood (g.closes Flood) live
ending_reach t s g Discard k live = ends t s Discard (g.closes Discard) live
ending_reach t s g (Forward port) k live = ends t s (Forward port) (g.closes (Forward port)) live

-- the paths from a block come to what its marked statements have, and to what they come to behind it
pub reach :
    (t : Statement → Bool) (s : PathStep → Bool) → Agree t s → (b : Block) (k : List Branch → List PathStep) (live : List (List Branch)) →
    list_any (comes s (replay b k)) live
    ≡ marked t (statements b) (alive b live) || list_any (comes s k) (past b live)
reach t s g (End e) k live = ending_reach t s g e k live
reach t s g (Do op next) k live =
    any_with (s (Doing op)) (comes s (replay next k)) live
    ∙ ap (λ r. (is_any live && r) || list_any (comes s (replay next k)) live) (g.does op)
    ∙ ap (λ r. (is_any live && t (Does op)) || r) (reach t s g next k live)
    ∙ sym (or_assoc (is_any live && t (Does op)) (marked t (statements next) (alive next live)) (list_any (comes s k) (past next live)))
reach t s g (Ask q hit miss next) k live =
    let f = those into_first live in
    let m = those into_second live in
    let kn = replay next k in
    let on = past hit f ++ past miss m in
    let split = any-append (comes s kn) (past hit f) (past miss m) in
    asked_any s (t (Asks q)) q (g.asks q) (replay hit kn) (replay miss kn) live
    ∙ ap (λ r. (is_any live && t (Asks q)) || (r || list_any (comes s (replay miss kn)) m)) (reach t s g hit kn f)
    ∙ ap (λ r. (is_any live && t (Asks q)) || ((marked t (statements hit) (alive hit f) || list_any (comes s kn) (past hit f)) || r)) (reach t s g miss kn m)
    ∙ two_blocks (is_any live && t (Asks q)) (marked t (statements hit) (alive hit f)) (marked t (statements miss) (alive miss m)) (marked t (statements next) (alive next on)) (list_any (comes s kn) (past hit f)) (list_any (comes s kn) (past miss m)) (list_any (comes s k) (past next on))
    (sym split ∙ reach t s g next k on)
    ∙ ap (λ r. ((is_any live && t (Asks q)) || r) || list_any (comes s k) (past next on))
    (sym
    (marked-append t (statements hit) (statements miss ++ statements next) (alive hit f) (alive miss m ++ alive next on) (length-alive hit f)
    ∙ ap (λ r. marked t (statements hit) (alive hit f) || r)
    (marked-append t (statements miss) (statements next) (alive miss m) (alive next on) (length-alive miss m))))
reach t s g (Make n made taken full next) k live =
    let f = those into_first live in
    let m = those into_second live in
    let l = those into_third live in
    let kn = replay next k in
    let on = past made f ++ (past taken m ++ past full l) in
    let split =
    any-append (comes s kn) (past made f) (past taken m ++ past full l)
    ∙ ap (λ r. list_any (comes s kn) (past made f) || r) (any-append (comes s kn) (past taken m) (past full l)) in
    made_any s (t (Makes n)) n (g.makes n) (replay made kn) (replay taken kn) (replay full kn) live
    ∙ ap (λ r. (is_any live && t (Makes n)) || (r || (list_any (comes s (replay taken kn)) m || list_any (comes s (replay full kn)) l))) (reach t s g made kn f)
    ∙ ap (λ r. (is_any live && t (Makes n)) || ((marked t (statements made) (alive made f) || list_any (comes s kn) (past made f)) || (r || list_any (comes s (replay full kn)) l))) (reach t s g taken kn m)
    ∙ ap (λ r. (is_any live && t (Makes n)) || ((marked t (statements made) (alive made f) || list_any (comes s kn) (past made f)) || ((marked t (statements taken) (alive taken m) || list_any (comes s kn) (past taken m)) || r))) (reach t s g full kn l)
    ∙ three_blocks (is_any live && t (Makes n)) (marked t (statements made) (alive made f)) (marked t (statements taken) (alive taken m)) (marked t (statements full) (alive full l)) (marked t (statements next) (alive next on))
    (list_any (comes s kn) (past made f)) (list_any (comes s kn) (past taken m)) (list_any (comes s kn) (past full l)) (list_any (comes s k) (past next on))
    (sym split ∙ reach t s g next k on)
    ∙ ap (λ r. ((is_any live && t (Makes n)) || r) || list_any (comes s k) (past next on))
    (sym
    (marked-append t (statements made) (statements taken ++ (statements full ++ statements next)) (alive made f) (alive taken m ++ (alive full l ++ alive next on)) (length-alive made f)
    ∙ ap (λ r. marked t (statements made) (alive made f) || r)
    (marked-append t (statements taken) (statements full ++ statements next) (alive taken m) (alive full l ++ alive next on) (length-alive taken m)
    ∙ ap (λ r. marked t (statements taken) (alive taken m) || r)
    (marked-append t (statements full) (statements next) (alive full l) (alive next on) (length-alive full l)))))
