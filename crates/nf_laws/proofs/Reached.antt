-- Each statement that a course comes to is told.
use Rattle.std.proofs.Common.{◌≡◌, ℕ, List, [], Contains, Option, Some, None, refl, sym, subst}
use Rattle.nf_base.specs.Text.{Ending, FallsOff, Flood, Discard, Forward, Operation, Question, Block, End, Do, Ask, Make}
use Rattle.nf_base.specs.Statements.{Statement, Ends, Does, Asks}
use Rattle.nf_base.specs.Context.{Context, Input}
use Rattle.nf_base.specs.Operations.{Stops, NewResult, Made, Taken, Full, Illegal, Stopped, new_result, with_new, answer, after}
use Rattle.nf_base.specs.Events.{Event, did, asked}
use Rattle.nf_base.specs.Course.{Completion, Normal, Ended, NoStep, StoppedAt, and_then, if_hit, if_new, exec, events}
use Rattle.nf_laws.specs.Courses.{Comes, to_end, to_do, to_ask, to_make, behind_do, into_hit, into_miss, behind_hit, behind_miss, into_made, into_taken, into_full, behind_made, behind_taken, behind_full}
use Rattle.nf_laws.specs.Telling.{Tells, ends, does, asks, EachStatementIsTold}
use Rattle.nf_laws.proofs.Telling.{operations, questions, news, ending, behind_did, behind_asked, behind_new}

-- what follows a block that falls off is told
hit_then : (o : Option Context) (d : Context) (f : Context → Completion) (x : Completion) (g : Context → Completion) (es : Context → List Event) (fs : List Event) (e : Event) →
    ((b : Context) → and_then (f b) g ≡ Normal d → Contains (es b) e) → (and_then x g ≡ Normal d → Contains fs e) → and_then (if_hit o f x) g ≡ Normal d → Contains (if_hit o es fs) e
hit_then (Some b) d f x g es fs e h m w = h b w
hit_then None d f x g es fs e h m w = m w

new_then : (to : NewResult) (chain : ℕ) (left : List ℕ) (d : Context) (f : ℕ → Completion) (x y : Completion) (g : Context → Completion) (es : ℕ → List Event) (fs hs : List Event) (e : Event) →
    ((i : ℕ) → and_then (f i) g ≡ Normal d → Contains (es i) e) → (and_then x g ≡ Normal d → Contains fs e) → (and_then y g ≡ Normal d → Contains hs e) →
    and_then (if_new to f x y NoStep (StoppedAt chain left)) g ≡ Normal d → Contains (if_new to es fs hs [] []) e
new_then (Made i) chain left d f x y g es fs hs e m t u w = m i w
new_then Taken chain left d f x y g es fs hs e m t u w = t w
new_then Full chain left d f x y g es fs hs e m t u w = u w
new_then Illegal chain left d f x y g es fs hs e m t u w = cc
new_then Stopped chain left d f x y g es fs hs e m t u w = cc

-- a block that falls off in some context, and what follows from there
falls_both : (w : Completion) (g : Context → Completion) (d : Context) (A : Type 0) → ((b : Context) → w ≡ Normal b → g b ≡ Normal d → A) → and_then w g ≡ Normal d → A
falls_both (Normal b) g d A h e = h b refl e
falls_both (Ended a b) g d A h e = cc
falls_both NoStep g d A h e = cc
falls_both (StoppedAt chain left) g d A h e = cc

falls_told : (stops : Stops) (p : Input) (b : Block) (c d : Context) (k : Context → List Event) (e : Event) → exec stops p b c ≡ Normal d → Contains (k d) e → Contains (events stops p b c k) e
falls_told stops p (End FallsOff) c d k e w h = subst (λ (x : Context). Contains (k x) e) (same c d w) h
  where
    same : (c d : Context) → Normal c ≡ Normal d → d ≡ c
    same c d q = cc
falls_told stops p (End Flood) c d k e w h = cc
falls_told stops p (End Discard) c d k e w h = cc
falls_told stops p (End (Forward port)) c d k e w h = cc
falls_told stops p (Do op next) c d k e w h = behind_did p c op (events stops p next (after p c op) k) e (falls_told stops p next (after p c op) d k e w h)
falls_told stops p (Ask q hit miss next) c d k e w h =
    let go = λ (x : Context). events stops p next x k in
    let follows : (x : Context) → exec stops p next x ≡ Normal d → Contains (go x) e = λ x v. falls_told stops p next x d k e v h in
    behind_asked p c q (if_hit (answer p c q) (λ x. events stops p hit x go) (events stops p miss c go)) e
    (hit_then (answer p c q) d (exec stops p hit) (exec stops p miss c) (exec stops p next) (λ x. events stops p hit x go) (events stops p miss c go) e
    (λ b v. falls_both (exec stops p hit b) (exec stops p next) d (Contains (events stops p hit b go) e) (λ x u y. falls_told stops p hit b x go e u (follows x y)) v)
    (λ v. falls_both (exec stops p miss c) (exec stops p next) d (Contains (events stops p miss c go) e) (λ x u y. falls_told stops p miss c x go e u (follows x y)) v) w)
falls_told stops p (Make n made taken full next) c d k e w h =
    let go = λ (x : Context). events stops p next x k in
    let follows : (x : Context) → exec stops p next x ≡ Normal d → Contains (go x) e = λ x v. falls_told stops p next x d k e v h in
    behind_new stops p c n (if_new (new_result stops p c n) (λ i. events stops p made (with_new p c n i) go) (events stops p taken c go) (events stops p full c go) [] []) e
    (new_then (new_result stops p c n) n.chain c.left d (λ i. exec stops p made (with_new p c n i)) (exec stops p taken c) (exec stops p full c) (exec stops p next)
    (λ i. events stops p made (with_new p c n i) go) (events stops p taken c go) (events stops p full c go) e
    (λ i v. falls_both (exec stops p made (with_new p c n i)) (exec stops p next) d (Contains (events stops p made (with_new p c n i) go) e) (λ x u y. falls_told stops p made (with_new p c n i) x go e u (follows x y)) v)
    (λ v. falls_both (exec stops p taken c) (exec stops p next) d (Contains (events stops p taken c go) e) (λ x u y. falls_told stops p taken c x go e u (follows x y)) v)
    (λ v. falls_both (exec stops p full c) (exec stops p next) d (Contains (events stops p full c go) e) (λ x u y. falls_told stops p full c x go e u (follows x y)) v) w)

-- what the end of a block reads
end_told : (stops : Stops) (p : Input) (c : Context) (x : Ending) (k : Context → List Event) (e : Event) → Tells stops p c (Ends x) e → Contains (events stops p (End x) c k) e
end_told stops p c x k e (ends port d r) = ending stops p c port k d (ends port d r)

does_told : (stops : Stops) (p : Input) (c : Context) (op : Operation) (rest : List Event) (e : Event) → Tells stops p c (Does op) e → Contains (did p c op rest) e
does_told stops p c op rest e (does x d t) = operations p c op rest d t

asks_told : (stops : Stops) (p : Input) (c : Context) (q : Question) (rest : List Event) (e : Event) → Tells stops p c (Asks q) e → Contains (asked p c q rest) e
asks_told stops p c q rest e (asks x d t) = questions p c q rest d t

at_hit : (o : Option Context) (b : Context) (es : Context → List Event) (fs : List Event) (e : Event) → o ≡ Some b → Contains (es b) e → Contains (if_hit o es fs) e
at_hit o b es fs e q h = subst (λ (x : Option Context). Contains (if_hit x es fs) e) (sym q) h

at_miss : (o : Option Context) (es : Context → List Event) (fs : List Event) (e : Event) → o ≡ None → Contains fs e → Contains (if_hit o es fs) e
at_miss o es fs e q h = subst (λ (x : Option Context). Contains (if_hit x es fs) e) (sym q) h

at_new : (to result : NewResult) (es : ℕ → List Event) (fs hs : List Event) (e : Event) → to ≡ result → Contains (if_new result es fs hs [] []) e → Contains (if_new to es fs hs [] []) e
at_new to result es fs hs e q h = subst (λ (x : NewResult). Contains (if_new x es fs hs [] []) e) (sym q) h

reached : (stops : Stops) (p : Input) (block : Block) (c : Context) (s : Statement) (d : Context) (e : Event) (k : Context → List Event) → Comes stops p block c s d → Tells stops p d s e → Contains (events stops p block c k) e
reached stops p block c s d e k (to_end x b) t = end_told stops p b x k e t
reached stops p block c s d e k (to_do op next b) t = does_told stops p b op (events stops p next (after p b op) k) e t
reached stops p block c s d e k (to_ask q hit miss next b) t = asks_told stops p b q _ e t
reached stops p block c s d e k (to_make n made taken full next b) t = news stops p b n _ e t
reached stops p block c s d e k (behind_do op next b u x h) t = behind_did p b op (events stops p next (after p b op) k) e (reached stops p next (after p b op) u x e k h t)
reached stops p block c s d e k (into_hit q hit miss next b y u x a h) t =
    let go = λ (z : Context). events stops p next z k in
    behind_asked p b q (if_hit (answer p b q) (λ z. events stops p hit z go) (events stops p miss b go)) e (at_hit (answer p b q) y (λ z. events stops p hit z go) (events stops p miss b go) e a (reached stops p hit y u x e go h t))
reached stops p block c s d e k (into_miss q hit miss next b u x a h) t =
    let go = λ (z : Context). events stops p next z k in
    behind_asked p b q (if_hit (answer p b q) (λ z. events stops p hit z go) (events stops p miss b go)) e (at_miss (answer p b q) (λ z. events stops p hit z go) (events stops p miss b go) e a (reached stops p miss b u x e go h t))
reached stops p block c s d e k (behind_hit q hit miss next b y w u x a v h) t =
    let go = λ (z : Context). events stops p next z k in
    behind_asked p b q (if_hit (answer p b q) (λ z. events stops p hit z go) (events stops p miss b go)) e
    (at_hit (answer p b q) y (λ z. events stops p hit z go) (events stops p miss b go) e a (falls_told stops p hit y w go e v (reached stops p next w u x e k h t)))
reached stops p block c s d e k (behind_miss q hit miss next b w u x a v h) t =
    let go = λ (z : Context). events stops p next z k in
    behind_asked p b q (if_hit (answer p b q) (λ z. events stops p hit z go) (events stops p miss b go)) e
    (at_miss (answer p b q) (λ z. events stops p hit z go) (events stops p miss b go) e a (falls_told stops p miss b w go e v (reached stops p next w u x e k h t)))
reached stops p block c s d e k (into_made n made taken full next b i u x a h) t =
    let go = λ (z : Context). events stops p next z k in
    behind_new stops p b n _ e (at_new (new_result stops p b n) (Made i) (λ j. events stops p made (with_new p b n j) go) (events stops p taken b go) (events stops p full b go) e a (reached stops p made (with_new p b n i) u x e go h t))
reached stops p block c s d e k (into_taken n made taken full next b u x a h) t =
    let go = λ (z : Context). events stops p next z k in
    behind_new stops p b n _ e (at_new (new_result stops p b n) Taken (λ j. events stops p made (with_new p b n j) go) (events stops p taken b go) (events stops p full b go) e a (reached stops p taken b u x e go h t))
reached stops p block c s d e k (into_full n made taken full next b u x a h) t =
    let go = λ (z : Context). events stops p next z k in
    behind_new stops p b n _ e (at_new (new_result stops p b n) Full (λ j. events stops p made (with_new p b n j) go) (events stops p taken b go) (events stops p full b go) e a (reached stops p full b u x e go h t))
reached stops p block c s d e k (behind_made n made taken full next b i w u x a v h) t =
    let go = λ (z : Context). events stops p next z k in
    behind_new stops p b n _ e (at_new (new_result stops p b n) (Made i) (λ j. events stops p made (with_new p b n j) go) (events stops p taken b go) (events stops p full b go) e a (falls_told stops p made (with_new p b n i) w go e v (reached stops p next w u x e k h t)))
reached stops p block c s d e k (behind_taken n made taken full next b w u x a v h) t =
    let go = λ (z : Context). events stops p next z k in
    behind_new stops p b n _ e (at_new (new_result stops p b n) Taken (λ j. events stops p made (with_new p b n j) go) (events stops p taken b go) (events stops p full b go) e a (falls_told stops p taken b w go e v (reached stops p next w u x e k h t)))
reached stops p block c s d e k (behind_full n made taken full next b w u x a v h) t =
    let go = λ (z : Context). events stops p next z k in
    behind_new stops p b n _ e (at_new (new_result stops p b n) Full (λ j. events stops p made (with_new p b n j) go) (events stops p taken b go) (events stops p full b go) e a (falls_told stops p full b w go e v (reached stops p next w u x e k h t)))

pub each_told : EachStatementIsTold
each_told stops p block c s d e h t = reached stops p block c s d e (λ _. []) h t
