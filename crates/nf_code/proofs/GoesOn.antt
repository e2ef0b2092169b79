-- How a block goes with another one behind it.
use Rattle.std.proofs.Common.{◌≡◌, ℕ, List, [], ◌∷◌, Option, None, Some, refl, ap, ◌∙◌}
use Rattle.std.proofs.Math.Path.{fun_ext}
use Rattle.nf_base.specs.Text.{Ending, FallsOff, Forward, Flood, Discard, Block, End, Do, Ask, Make}
use Rattle.nf_base.specs.Context.{Context, Input}
use Rattle.nf_base.specs.Operations.{Stops, NewResult, Made, Taken, Full, Illegal, Stopped, new_result, with_new, answer, after}
use Rattle.nf_base.specs.Events.{Event, did, asked, asked_new, ended_by}
use Rattle.nf_base.specs.Paths.{PathStep, Doing, Asking, Making}
use Rattle.nf_base.specs.Course.{Completion, Normal, Ended, NoStep, StoppedAt, and_then, if_hit, if_new, exec, events, route, ended, ending_route, answer_branch, new_branch}
use Rattle.nf_code.specs.Followed.{followed, end_followed}
use Rattle.nf_code.specs.Alike.{Alike}

falls : (r : Completion) → and_then r (λ c. Normal c) ≡ r
falls (Normal c) = refl
falls (Ended a c) = refl
falls NoStep = refl
falls (StoppedAt chain left) = refl

-- what stands behind a branch goes on in it
branch : (r : Completion) (k f g : Context → Completion) → ((c : Context) → k c ≡ and_then (f c) g) → and_then (and_then r k) (λ c. Normal c) ≡ and_then (and_then r f) g
branch (Normal c) k f g same = falls (k c) ∙ same c
branch (Ended a c) k f g same = refl
branch NoStep k f g same = refl
branch (StoppedAt chain left) k f g same = refl

ending_goes : (stops : Stops) (p : Input) (e : Ending) (next : Block) (c : Context) → exec stops p (end_followed e next) c ≡ and_then (ended p c e) (exec stops p next)
ending_goes stops p FallsOff next c = refl
ending_goes stops p Flood next c = refl
ending_goes stops p Discard next c = refl
ending_goes stops p (Forward port) next c = refl

on_hit : (o : Option Context) (h h' : Context → Completion) (m m' : Completion) (f g : Context → Completion) →
    ((d : Context) → and_then (h d) (λ e. Normal e) ≡ and_then (and_then (h' d) f) g) → and_then m (λ e. Normal e) ≡ and_then (and_then m' f) g →
    and_then (if_hit o h m) (λ e. Normal e) ≡ and_then (and_then (if_hit o h' m') f) g
on_hit (Some d) h h' m m' f g hit miss = hit d
on_hit None h h' m m' f g hit miss = miss

on_new : (o : NewResult) (h h' : ℕ → Completion) (t t' l l' : Completion) (chain : ℕ) (left : List ℕ) (f g : Context → Completion) →
    ((i : ℕ) → and_then (h i) (λ e. Normal e) ≡ and_then (and_then (h' i) f) g) →
    and_then t (λ e. Normal e) ≡ and_then (and_then t' f) g →
    and_then l (λ e. Normal e) ≡ and_then (and_then l' f) g →
    and_then (if_new o h t l NoStep (StoppedAt chain left)) (λ e. Normal e) ≡ and_then (and_then (if_new o h' t' l' NoStep (StoppedAt chain left)) f) g
on_new (Made i) h h' t t' l l' chain left f g made taken full = made i
on_new Taken h h' t t' l l' chain left f g made taken full = taken
on_new Full h h' t t' l l' chain left f g made taken full = full
on_new Illegal h h' t t' l l' chain left f g made taken full = refl
on_new Stopped h h' t t' l l' chain left f g made taken full = refl

-- it goes on there where it falls off
pub goes_on : (stops : Stops) (p : Input) (b next : Block) (c : Context) → exec stops p (followed b next) c ≡ and_then (exec stops p b c) (exec stops p next)
goes_on stops p (End e) next c = ending_goes stops p e next c
goes_on stops p (Do op rest) next c = goes_on stops p rest next (after p c op)
goes_on stops p (Ask q hit miss rest) next c =
    let on : (b : Block) (d : Context) → exec stops p (followed b (followed rest next)) d ≡ and_then (exec stops p b d) (exec stops p (followed rest next)) → and_then (exec stops p (followed b (followed rest next)) d) (λ e. Normal e) ≡ and_then (and_then (exec stops p b d) (exec stops p rest)) (exec stops p next) =
    λ b d same. ap (λ r. and_then r (λ e. Normal e)) same ∙ branch (exec stops p b d) (exec stops p (followed rest next)) (exec stops p rest) (exec stops p next) (goes_on stops p rest next) in
    on_hit (answer p c q) (exec stops p (followed hit (followed rest next))) (exec stops p hit) (exec stops p (followed miss (followed rest next)) c) (exec stops p miss c) (exec stops p rest) (exec stops p next)
    (λ d. on hit d (goes_on stops p hit (followed rest next) d)) (on miss c (goes_on stops p miss (followed rest next) c))
goes_on stops p (Make n made taken full rest) next c =
    let on : (b : Block) (d : Context) → exec stops p (followed b (followed rest next)) d ≡ and_then (exec stops p b d) (exec stops p (followed rest next)) → and_then (exec stops p (followed b (followed rest next)) d) (λ e. Normal e) ≡ and_then (and_then (exec stops p b d) (exec stops p rest)) (exec stops p next) =
    λ b d same. ap (λ r. and_then r (λ e. Normal e)) same ∙ branch (exec stops p b d) (exec stops p (followed rest next)) (exec stops p rest) (exec stops p next) (goes_on stops p rest next) in
    on_new (new_result stops p c n) (λ i. exec stops p (followed made (followed rest next)) (with_new p c n i)) (λ i. exec stops p made (with_new p c n i))
    (exec stops p (followed taken (followed rest next)) c) (exec stops p taken c)
    (exec stops p (followed full (followed rest next)) c) (exec stops p full c)
    n.chain c.left (exec stops p rest) (exec stops p next)
    (λ i. on made (with_new p c n i) (goes_on stops p made (followed rest next) (with_new p c n i)))
    (on taken c (goes_on stops p taken (followed rest next) c))
    (on full c (goes_on stops p full (followed rest next) c))

ending_tells : (stops : Stops) (p : Input) (e : Ending) (next : Block) (c : Context) (k : Context → List Event) → events stops p (end_followed e next) c k ≡ ended_by p c e (λ d. events stops p next d k)
ending_tells stops p FallsOff next c k = refl
ending_tells stops p Flood next c k = refl
ending_tells stops p Discard next c k = refl
ending_tells stops p (Forward port) next c k = refl

hit_alike : {A : Type 0} (o : Option Context) (h h' : Context → A) (m m' : A) → ((d : Context) → h d ≡ h' d) → m ≡ m' → if_hit o h m ≡ if_hit o h' m'
hit_alike (Some d) h h' m m' hit miss = hit d
hit_alike None h h' m m' hit miss = miss

new_alike : {A : Type 0} (o : NewResult) (h h' : ℕ → A) (t t' l l' x x' y y' : A) → ((i : ℕ) → h i ≡ h' i) → t ≡ t' → l ≡ l' → x ≡ x' → y ≡ y' → if_new o h t l x y ≡ if_new o h' t' l' x' y'
new_alike (Made i) h h' t t' l l' x x' y y' made taken full illegal stopped = made i
new_alike Taken h h' t t' l l' x x' y y' made taken full illegal stopped = taken
new_alike Full h h' t t' l l' x x' y y' made taken full illegal stopped = full
new_alike Illegal h h' t t' l l' x x' y y' made taken full illegal stopped = illegal
new_alike Stopped h h' t t' l l' x x' y y' made taken full illegal stopped = stopped

-- what it does is told in order
pub tells_on : (stops : Stops) (p : Input) (b next : Block) (c : Context) (k : Context → List Event) → events stops p (followed b next) c k ≡ events stops p b c (λ d. events stops p next d k)
tells_on stops p (End e) next c k = ending_tells stops p e next c k
tells_on stops p (Do op rest) next c k = ap (did p c op) (tells_on stops p rest next (after p c op) k)
tells_on stops p (Ask q hit miss rest) next c k =
    let go : Context → List Event = λ d. events stops p rest d (λ e. events stops p next e k) in
    let same : (λ (d : Context). events stops p (followed rest next) d k) ≡ go = fun_ext (λ d. tells_on stops p rest next d k) in
    ap (asked p c q) (hit_alike (answer p c q) (λ d. events stops p (followed hit (followed rest next)) d k) (λ d. events stops p hit d go)
    (events stops p (followed miss (followed rest next)) c k) (events stops p miss c go)
    (λ d. tells_on stops p hit (followed rest next) d k ∙ ap (λ (g : Context → List Event). events stops p hit d g) same)
    (tells_on stops p miss (followed rest next) c k ∙ ap (λ (g : Context → List Event). events stops p miss c g) same))
tells_on stops p (Make n made taken full rest) next c k =
    let go : Context → List Event = λ d. events stops p rest d (λ e. events stops p next e k) in
    let same : (λ (d : Context). events stops p (followed rest next) d k) ≡ go = fun_ext (λ d. tells_on stops p rest next d k) in
    ap (asked_new stops p c n) (new_alike (new_result stops p c n) (λ i. events stops p (followed made (followed rest next)) (with_new p c n i) k) (λ i. events stops p made (with_new p c n i) go)
    (events stops p (followed taken (followed rest next)) c k) (events stops p taken c go)
    (events stops p (followed full (followed rest next)) c k) (events stops p full c go)
    [] [] [] []
    (λ i. tells_on stops p made (followed rest next) (with_new p c n i) k ∙ ap (λ (g : Context → List Event). events stops p made (with_new p c n i) g) same)
    (tells_on stops p taken (followed rest next) c k ∙ ap (λ (g : Context → List Event). events stops p taken c g) same)
    (tells_on stops p full (followed rest next) c k ∙ ap (λ (g : Context → List Event). events stops p full c g) same)
    refl refl)

ending_takes : (stops : Stops) (p : Input) (e : Ending) (next : Block) (c : Context) (k : Context → List PathStep) → route stops p (end_followed e next) c k ≡ ending_route c e (λ d. route stops p next d k)
ending_takes stops p FallsOff next c k = refl
ending_takes stops p Flood next c k = refl
ending_takes stops p Discard next c k = refl
ending_takes stops p (Forward port) next c k = refl

-- the path goes on there
pub takes_on : (stops : Stops) (p : Input) (b next : Block) (c : Context) (k : Context → List PathStep) → route stops p (followed b next) c k ≡ route stops p b c (λ d. route stops p next d k)
takes_on stops p (End e) next c k = ending_takes stops p e next c k
takes_on stops p (Do op rest) next c k = ap (λ steps. Doing op ∷ steps) (takes_on stops p rest next (after p c op) k)
takes_on stops p (Ask q hit miss rest) next c k =
    let go : Context → List PathStep = λ d. route stops p rest d (λ e. route stops p next e k) in
    let same : (λ (d : Context). route stops p (followed rest next) d k) ≡ go = fun_ext (λ d. takes_on stops p rest next d k) in
    ap (λ steps. Asking q (answer_branch (answer p c q)) ∷ steps) (hit_alike (answer p c q) (λ d. route stops p (followed hit (followed rest next)) d k) (λ d. route stops p hit d go)
    (route stops p (followed miss (followed rest next)) c k) (route stops p miss c go)
    (λ d. takes_on stops p hit (followed rest next) d k ∙ ap (λ (g : Context → List PathStep). route stops p hit d g) same)
    (takes_on stops p miss (followed rest next) c k ∙ ap (λ (g : Context → List PathStep). route stops p miss c g) same))
takes_on stops p (Make n made taken full rest) next c k =
    let go : Context → List PathStep = λ d. route stops p rest d (λ e. route stops p next e k) in
    let same : (λ (d : Context). route stops p (followed rest next) d k) ≡ go = fun_ext (λ d. takes_on stops p rest next d k) in
    let on_full : route stops p (followed full (followed rest next)) c k ≡ route stops p full c go = takes_on stops p full (followed rest next) c k ∙ ap (λ (g : Context → List PathStep). route stops p full c g) same in
    ap (λ steps. Making n (new_branch (new_result stops p c n)) ∷ steps) (new_alike (new_result stops p c n) (λ i. route stops p (followed made (followed rest next)) (with_new p c n i) k) (λ i. route stops p made (with_new p c n i) go)
    (route stops p (followed taken (followed rest next)) c k) (route stops p taken c go)
    (route stops p (followed full (followed rest next)) c k) (route stops p full c go)
    (route stops p (followed full (followed rest next)) c k) (route stops p full c go)
    (route stops p (followed full (followed rest next)) c k) (route stops p full c go)
    (λ i. takes_on stops p made (followed rest next) (with_new p c n i) k ∙ ap (λ (g : Context → List PathStep). route stops p made (with_new p c n i) g) same)
    (takes_on stops p taken (followed rest next) c k ∙ ap (λ (g : Context → List PathStep). route stops p taken c g) same)
    on_full on_full on_full)

-- a block with nothing behind it goes as it does alone
pub alone : (b : Block) → Alike (followed b (End FallsOff)) b
alone b = record {
  goes = λ stops p c. goes_on stops p b (End FallsOff) c ∙ falls (exec stops p b c);
  tells = λ stops p c k. tells_on stops p b (End FallsOff) c k;
  takes = λ stops p c k. takes_on stops p b (End FallsOff) c k;
}
