-- A path again, from how it branches.
use Rattle.std.proofs.Common.{◌≡◌, List, [], ◌∷◌, refl, ap}
use Rattle.std.specs.List.{All}
use Rattle.std.proofs.lemmas.List.Elements.{All-nil, All-cons, All-append, All-map, All-weaker}
use Rattle.nf_base.specs.Text.{Ending, FallsOff, Flood, Discard, Forward, Question, Creation, Block, End, Do, Ask, Make}
use Rattle.nf_base.specs.Paths.{Branch, Hits, Misses, Makes, IsTaken, IsFull, PathStep, Doing, Asking, Making, Closing, each_after, paths}
use Rattle.path_walk.specs.Feasible.{branches_along}

-- the end of a block, and what follows where it falls off
abbrev pub replay_ending : Ending → List Branch → (List Branch → List PathStep) → List PathStep
replay_ending FallsOff bs k = k bs
replay_ending Flood bs k = Closing Flood ∷ []
replay_ending Discard bs k = Closing Discard ∷ []
replay_ending (Forward port) bs k = Closing (Forward port) ∷ []

-- by the way that a question branches
abbrev pub asked_way : Question → List Branch → (hit miss : List Branch → List PathStep) → List PathStep
asked_way q [] hit miss = Asking q Misses ∷ []
asked_way q (Hits ∷ bs) hit miss = Asking q Hits ∷ hit bs
asked_way q (Makes ∷ bs) hit miss = Asking q Makes ∷ hit bs
asked_way q (Misses ∷ bs) hit miss = Asking q Misses ∷ miss bs
asked_way q (IsTaken ∷ bs) hit miss = Asking q IsTaken ∷ miss bs
asked_way q (IsFull ∷ bs) hit miss = Asking q IsFull ∷ []

-- by the way that a `new` branches
abbrev pub made_way : Creation → List Branch → (made taken full : List Branch → List PathStep) → List PathStep
made_way n [] made taken full = Making n IsFull ∷ []
made_way n (Hits ∷ bs) made taken full = Making n Hits ∷ made bs
made_way n (Makes ∷ bs) made taken full = Making n Makes ∷ made bs
made_way n (Misses ∷ bs) made taken full = Making n Misses ∷ taken bs
made_way n (IsTaken ∷ bs) made taken full = Making n IsTaken ∷ taken bs
made_way n (IsFull ∷ bs) made taken full = Making n IsFull ∷ full bs

-- the path of a block that branches so
abbrev pub replay : Block → (List Branch → List PathStep) → List Branch → List PathStep
replay (End e) k bs = replay_ending e bs k
replay (Do op next) k bs = Doing op ∷ replay next k bs
replay (Ask q hit miss next) k bs = asked_way q bs (replay hit (replay next k)) (replay miss (replay next k))
replay (Make n made taken full next) k bs =
    made_way n bs (replay made (replay next k)) (replay taken (replay next k)) (replay full (replay next k))

-- a path that is replayed as it is
abbrev pub IsSame : (List Branch → List PathStep) → List PathStep → Type 0
IsSame f path = f (branches_along path) ≡ path

ahead :
    (s : PathStep) (f g : List Branch → List PathStep) (ps : List (List PathStep)) →
    ((p : List PathStep) → IsSame f p → IsSame g (s ∷ p)) → All (IsSame f) ps → All (IsSame g) (each_after s ps)
ahead s f g ps step all =
    All-map (IsSame g) (λ p. s ∷ p) ps (All-weaker (IsSame f) (λ p. IsSame g (s ∷ p)) step ps all)

same_ending :
    (e : Ending) (rest : List (List PathStep)) (k : List Branch → List PathStep) → All (IsSame k) rest →
    All (IsSame (replay (End e) k)) (paths (End e) rest)
same_ending FallsOff rest k all = all
same_ending Flood rest k all =
    let here : IsSame (replay (End Flood) k) (Closing Flood ∷ []) = refl in
    All-cons (IsSame (replay (End Flood) k)) (Closing Flood ∷ []) [] here (All-nil (IsSame (replay (End Flood) k)))
same_ending Discard rest k all =
    let here : IsSame (replay (End Discard) k) (Closing Discard ∷ []) = refl in
    All-cons (IsSame (replay (End Discard) k)) (Closing Discard ∷ []) [] here (All-nil (IsSame (replay (End Discard) k)))
same_ending (Forward port) rest k all =
    let here : IsSame (replay (End (Forward port)) k) (Closing (Forward port) ∷ []) = refl in
    All-cons (IsSame (replay (End (Forward port)) k)) (Closing (Forward port) ∷ []) [] here
    (All-nil (IsSame (replay (End (Forward port)) k)))

-- each path of a block is replayed as it is
pub replayed :
    (b : Block) (rest : List (List PathStep)) (k : List Branch → List PathStep) → All (IsSame k) rest →
    All (IsSame (replay b k)) (paths b rest)
replayed (End e) rest k all = same_ending e rest k all
replayed (Do op next) rest k all =
    ahead (Doing op) (replay next k) (replay (Do op next) k) (paths next rest) (λ p e. ap (λ q. Doing op ∷ q) e)
    (replayed next rest k all)
replayed (Ask q hit miss next) rest k all =
    let go = replayed next rest k all in
    let f = replay (Ask q hit miss next) k in
    All-append (IsSame f) _ _
    (ahead (Asking q Hits) (replay hit (replay next k)) f _ (λ p e. ap (λ r. Asking q Hits ∷ r) e) (replayed hit (paths next rest) (replay next k) go))
    (ahead (Asking q Misses) (replay miss (replay next k)) f _ (λ p e. ap (λ r. Asking q Misses ∷ r) e) (replayed miss (paths next rest) (replay next k) go))
replayed (Make n made taken full next) rest k all =
    let go = replayed next rest k all in
    let f = replay (Make n made taken full next) k in
    All-append (IsSame f) _ _
    (ahead (Making n Makes) (replay made (replay next k)) f _ (λ p e. ap (λ r. Making n Makes ∷ r) e) (replayed made (paths next rest) (replay next k) go))
    (All-append (IsSame f) _ _
    (ahead (Making n IsTaken) (replay taken (replay next k)) f _ (λ p e. ap (λ r. Making n IsTaken ∷ r) e) (replayed taken (paths next rest) (replay next k) go))
    (ahead (Making n IsFull) (replay full (replay next k)) f _ (λ p e. ap (λ r. Making n IsFull ∷ r) e) (replayed full (paths next rest) (replay next k) go)))
