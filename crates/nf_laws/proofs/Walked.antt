-- The path that a course takes is one of its text, and the outcomes of a legal record are along it.
use Rattle.std.proofs.Common.{◌≡◌, ℕ, Bool, true, false, List, [], ◌∷◌, ◌++◌, map, Contains, Option, Some, None, slice_get, if◌then◌else◌, refl, ap, sym, ◌∙◌, subst, inl, inr}
use Rattle.std.specs.Option.{option_map}
use Rattle.std.proofs.lemmas.List.Elements.{Contains-append_left, Contains-append_right}
use Rattle.nf_base.specs.Doors.{handler_at}
use Rattle.nf_base.specs.Families.{door_of}
use Rattle.nf_base.specs.declared.packet.Packet.{Packet}
use Rattle.nf_base.specs.declared.packet.Fields.{Fields}
use Rattle.nf_base.specs.declared.state.State.{State}
use Rattle.nf_base.specs.Text.{FallsOff, Flood, Discard, Forward, Operation, Question, Get, Find, Test, Creation, Block, End, Do, Ask, Make, Function}
use Rattle.nf_base.specs.Values.{compares}
use Rattle.nf_base.specs.Context.{Context, Input, value, given}
use Rattle.nf_base.specs.Operations.{Stops, never, NewResult, Made, Taken, Full, Illegal, Stopped, new_result, with_new, answer, after, bound, key_found, index_found}
use Rattle.nf_base.specs.Events.{Event, AskedNew}
use Rattle.nf_base.specs.Paths.{PathStep, Branch, Doing, Asking, Making, Closing, Hits, Misses, Makes, IsTaken, IsFull, each_after, paths, Outcome, outcome_of, outcomes_along}
use Rattle.nf_base.specs.Course.{if_hit, if_new, answer_branch, new_branch, events, route}
use Rattle.nf_base.specs.Record.{is_legal, hit_branch, test_branch, outcomes}
use Rattle.nf_base.specs.Step.{input, start_context, records, routes, record_of, route_of}
use Rattle.nf_laws.specs.Paths.{CoursesTakePaths, PacketsTakePaths, OutcomesAreAlongPaths}
use Rattle.nf_laws.proofs.Listed.{here, there, has, has_none}
use Rattle.nf_laws.proofs.Plain.{IsPlain, plain_reads, plain_all, plain_did, plain_asked, question_event}

after_step : (s : PathStep) (all : List (List PathStep)) (path : List PathStep) → Contains all path → Contains (each_after s all) (s ∷ path)
after_step s [] path h = absurd (has_none path h)
after_step s (x ∷ all) path h = elim (has x all path h) [
  | inl e ↦ subst (λ (y : List PathStep). Contains (each_after s (x ∷ all)) (s ∷ y)) e (here (s ∷ x) (each_after s all))
  | inr i ↦ there (s ∷ x) (each_after s all) (s ∷ path) (after_step s all path i)
]

hit_paths : (q : Question) (o : Option Context) (x : Context → List PathStep) (y : List PathStep) (xs ys : List (List PathStep)) → ((d : Context) → Contains xs (x d)) → Contains ys y →
    Contains (each_after (Asking q Hits) xs ++ each_after (Asking q Misses) ys) (Asking q (answer_branch o) ∷ if_hit o x y)
hit_paths q (Some d) x y xs ys h m = Contains-append_left (each_after (Asking q Hits) xs) _ _ (after_step (Asking q Hits) xs (x d) (h d))
hit_paths q None x y xs ys h m = Contains-append_right (each_after (Asking q Hits) xs) _ _ (after_step (Asking q Misses) ys y m)

on_full : (n : Creation) (z : List PathStep) (xs ys zs : List (List PathStep)) → Contains zs z →
    Contains (each_after (Making n Makes) xs ++ (each_after (Making n IsTaken) ys ++ each_after (Making n IsFull) zs)) (Making n IsFull ∷ z)
on_full n z xs ys zs u = Contains-append_right (each_after (Making n Makes) xs) _ _ (Contains-append_right (each_after (Making n IsTaken) ys) _ _ (after_step (Making n IsFull) zs z u))

new_paths : (n : Creation) (to : NewResult) (x : ℕ → List PathStep) (y z : List PathStep) (xs ys zs : List (List PathStep)) → ((i : ℕ) → Contains xs (x i)) → Contains ys y → Contains zs z →
    Contains (each_after (Making n Makes) xs ++ (each_after (Making n IsTaken) ys ++ each_after (Making n IsFull) zs)) (Making n (new_branch to) ∷ if_new to x y z z z)
new_paths n (Made i) x y z xs ys zs m t u = Contains-append_left (each_after (Making n Makes) xs) _ _ (after_step (Making n Makes) xs (x i) (m i))
new_paths n Taken x y z xs ys zs m t u = Contains-append_right (each_after (Making n Makes) xs) _ _ (Contains-append_left (each_after (Making n IsTaken) ys) _ _ (after_step (Making n IsTaken) ys y t))
new_paths n Full x y z xs ys zs m t u = on_full n z xs ys zs u
new_paths n Illegal x y z xs ys zs m t u = on_full n z xs ys zs u
new_paths n Stopped x y z xs ys zs m t u = on_full n z xs ys zs u

pub route_paths : (stops : Stops) (p : Input) (b : Block) (c : Context) (k : Context → List PathStep) (rest : List (List PathStep)) → ((d : Context) → Contains rest (k d)) → Contains (paths b rest) (route stops p b c k)
route_paths stops p (End FallsOff) c k rest h = h c
route_paths stops p (End Flood) c k rest h = here (Closing Flood ∷ []) []
route_paths stops p (End Discard) c k rest h = here (Closing Discard ∷ []) []
route_paths stops p (End (Forward port)) c k rest h = here (Closing (Forward port) ∷ []) []
route_paths stops p (Do op next) c k rest h = after_step (Doing op) (paths next rest) (route stops p next (after p c op) k) (route_paths stops p next (after p c op) k rest h)
route_paths stops p (Ask q hit miss next) c k rest h =
    let go = λ (d : Context). route stops p next d k in
    let follows : (d : Context) → Contains (paths next rest) (go d) = λ d. route_paths stops p next d k rest h in
    hit_paths q (answer p c q) (λ d. route stops p hit d go) (route stops p miss c go) (paths hit (paths next rest)) (paths miss (paths next rest))
    (λ d. route_paths stops p hit d go (paths next rest) follows) (route_paths stops p miss c go (paths next rest) follows)
route_paths stops p (Make n made taken full next) c k rest h =
    let go = λ (d : Context). route stops p next d k in
    let follows : (d : Context) → Contains (paths next rest) (go d) = λ d. route_paths stops p next d k rest h in
    new_paths n (new_result stops p c n) (λ i. route stops p made (with_new p c n i) go) (route stops p taken c go) (route stops p full c go) (paths made (paths next rest)) (paths taken (paths next rest)) (paths full (paths next rest))
    (λ i. route_paths stops p made (with_new p c n i) go (paths next rest) follows) (route_paths stops p taken c go (paths next rest) follows) (route_paths stops p full c go (paths next rest) follows)

pub courses_walk : CoursesTakePaths
courses_walk stops p block c = route_paths stops p block c (λ _. []) ([] ∷ []) (λ d. here [] [])

pub packets_walk : PacketsTakePaths
packets_walk f s packet fields choices block e at = rw (e, at) (courses_walk never (input f packet.time fields) block (start_context f s packet.time choices))

-- outcomes
legal_plain : IsPlain is_legal
legal_plain = record { reads_ = record { use_ = λ chain i es. refl; load_ = λ place array i es. refl }; touch_ = λ chain i es. refl; free_ = λ chain i es. refl; store_ = λ place array i changed es. refl }

outcomes_plain : IsPlain outcomes
outcomes_plain = record { reads_ = record { use_ = λ chain i es. refl; load_ = λ place array i es. refl }; touch_ = λ chain i es. refl; free_ = λ chain i es. refl; store_ = λ place array i changed es. refl }

-- a record is told along a path, where it is legal
record Along (es : List Event) (path : List PathStep) : Type 0 where
  pub told : is_legal es ≡ true → outcomes es ≡ outcomes_along path

same_along : (es fs : List Event) (path : List PathStep) → is_legal es ≡ is_legal fs → outcomes es ≡ outcomes fs → Along fs path → Along es path
same_along es fs path l o h = record { told = λ legal. o ∙ h.told (sym l ∙ legal) }

doing : (op : Operation) (es : List Event) (path : List PathStep) → Along es path → Along es (Doing op ∷ path)
doing op es path h = record { told = h.told }

-- a question hits or misses as its event says
record Answers (q : Question) (e : Event) (b : Branch) : Type 0 where
  pub legal : (es : List Event) → is_legal (e ∷ es) ≡ is_legal es
  pub told : (es : List Event) → outcomes (e ∷ es) ≡ outcome_of (Asking q b) (outcomes es)

abbrev outcome_at : ℕ → Branch → Outcome
outcome_at place b = record { place = place; branch = b }

led : (place : ℕ) (b d : Branch) (es : List Event) → b ≡ d → (outcome_at place b ∷ outcomes es) ≡ (outcome_at place d ∷ outcomes es)
led place b d es e = ap (λ (x : Branch). outcome_at place x ∷ outcomes es) e

told_map : (f : ℕ → Context) (o : Option ℕ) → hit_branch o ≡ answer_branch (option_map f o)
told_map f None = refl
told_map f (Some i) = refl

pub told_test : (b : Bool) (c : Context) → test_branch b ≡ answer_branch (if b then Some c else None)
told_test true c = refl
told_test false c = refl

answers : (p : Input) (c : Context) (q : Question) → Answers q (question_event p c q) (answer_branch (answer p c q))
answers p c (Get place chain m key var) = record { legal = λ es. refl; told = λ es. led place _ _ es (told_map (bound var chain c) (key_found p c chain m (map (given p c) key))) }
answers p c (Find place chain at guards var) = record { legal = λ es. refl; told = λ es. led place _ _ es (told_map (bound var chain c) (index_found p c chain (value p c at) guards)) }
answers p c (Test place comparison a b) = record { legal = λ es. refl; told = λ es. led place _ _ es (told_test (compares comparison (value p c a) (value p c b)) c) }

asking : (q : Question) (e : Event) (b : Branch) (es : List Event) (path : List PathStep) → Answers q e b → Along es path → Along (e ∷ es) (Asking q b ∷ path)
asking q e b es path a h = record { told = λ legal. a.told es ∙ ap (outcome_of (Asking q b)) (h.told (sym (a.legal es) ∙ legal)) }

hit_along : (q : Question) (e : Event) (o : Option Context) (es : Context → List Event) (fs : List Event) (x : Context → List PathStep) (y : List PathStep) → Answers q e (answer_branch o) →
    ((d : Context) → Along (es d) (x d)) → Along fs y → Along (e ∷ if_hit o es fs) (Asking q (answer_branch o) ∷ if_hit o x y)
hit_along q e (Some d) es fs x y a h m = asking q e Hits (es d) (x d) a (h d)
hit_along q e None es fs x y a h m = asking q e Misses fs y a m

new_along : (n : Creation) (labels : List ℕ) (to : NewResult) (es : ℕ → List Event) (fs hs : List Event) (x : ℕ → List PathStep) (y z : List PathStep) →
    ((i : ℕ) → Along (es i) (x i)) → Along fs y → Along hs z → Along (AskedNew n.place n.chain labels to ∷ if_new to es fs hs [] []) (Making n (new_branch to) ∷ if_new to x y z z z)
new_along n labels (Made i) es fs hs x y z m t u = record { told = λ legal. ap (λ os. outcome_at n.place Makes ∷ os) ((m i).told legal) }
new_along n labels Taken es fs hs x y z m t u = record { told = λ legal. ap (λ os. outcome_at n.place IsTaken ∷ os) (t.told legal) }
new_along n labels Full es fs hs x y z m t u = record { told = λ legal. ap (λ os. outcome_at n.place IsFull ∷ os) (u.told legal) }
new_along n labels Illegal es fs hs x y z m t u = record { told = λ legal. cc }
new_along n labels Stopped es fs hs x y z m t u = record { told = λ legal. cc }

along : (stops : Stops) (p : Input) (b : Block) (c : Context) (k : Context → List Event) (r : Context → List PathStep) → ((d : Context) → Along (k d) (r d)) → Along (events stops p b c k) (route stops p b c r)
along stops p (End FallsOff) c k r h = h c
along stops p (End Flood) c k r h = record { told = λ legal. refl }
along stops p (End Discard) c k r h = record { told = λ legal. refl }
along stops p (End (Forward port)) c k r h = record { told = λ legal. plain_reads outcomes outcomes_plain.reads_ p c port [] }
along stops p (Do op next) c k r h =
    same_along _ (events stops p next (after p c op) k) (Doing op ∷ route stops p next (after p c op) r) (plain_did is_legal legal_plain p c op _) (plain_did outcomes outcomes_plain p c op _)
    (doing op (events stops p next (after p c op) k) (route stops p next (after p c op) r) (along stops p next (after p c op) k r h))
along stops p (Ask q hit miss next) c k r h =
    let go = λ (d : Context). events stops p next d k in
    let to = λ (d : Context). route stops p next d r in
    let follows : (d : Context) → Along (go d) (to d) = λ d. along stops p next d k r h in
    let es = if_hit (answer p c q) (λ d. events stops p hit d go) (events stops p miss c go) in
    same_along _ (question_event p c q ∷ es) (Asking q (answer_branch (answer p c q)) ∷ if_hit (answer p c q) (λ d. route stops p hit d to) (route stops p miss c to))
    (plain_asked is_legal legal_plain.reads_ p c q _) (plain_asked outcomes outcomes_plain.reads_ p c q _)
    (hit_along q (question_event p c q) (answer p c q) (λ d. events stops p hit d go) (events stops p miss c go) (λ d. route stops p hit d to) (route stops p miss c to) (answers p c q)
    (λ d. along stops p hit d go to follows) (along stops p miss c go to follows))
along stops p (Make n made taken full next) c k r h =
    let go = λ (d : Context). events stops p next d k in
    let to = λ (d : Context). route stops p next d r in
    let follows : (d : Context) → Along (go d) (to d) = λ d. along stops p next d k r h in
    let labels = map (given p c) n.labels in
    let full_path = route stops p full c to in
    let es = if_new (new_result stops p c n) (λ i. events stops p made (with_new p c n i) go) (events stops p taken c go) (events stops p full c go) [] [] in
    same_along _ (AskedNew n.place n.chain labels (new_result stops p c n) ∷ es)
    (Making n (new_branch (new_result stops p c n)) ∷ if_new (new_result stops p c n) (λ i. route stops p made (with_new p c n i) to) (route stops p taken c to) full_path full_path full_path)
    (plain_all is_legal legal_plain.reads_ p c n.labels _) (plain_all outcomes outcomes_plain.reads_ p c n.labels _)
    (new_along n labels (new_result stops p c n) (λ i. events stops p made (with_new p c n i) go) (events stops p taken c go) (events stops p full c go) (λ i. route stops p made (with_new p c n i) to) (route stops p taken c to) full_path
    (λ i. along stops p made (with_new p c n i) go to follows) (along stops p taken c go to follows) (along stops p full c go to follows))

at_handler : (f : Function) (s : State) (time : ℕ) (fields : Fields) (choices : List ℕ) (handler : Option Block) → Along (records never f s time fields choices handler) (routes never f s time fields choices handler)
at_handler f s time fields choices None = record { told = λ legal. refl }
at_handler f s time fields choices (Some block) = along never (input f time fields) block (start_context f s time choices) (λ _. []) (λ _. []) (λ d. record { told = λ legal. refl })

of_fields : (f : Function) (s : State) (packet : Packet) (choices : List ℕ) (fields : Option Fields) → Along (record_of never f s packet choices fields) (route_of never f s packet choices fields)
of_fields f s packet choices None = record { told = λ legal. refl }
of_fields f s packet choices (Some fields) = at_handler f s packet.time fields choices (handler_at f (door_of packet.id.port fields))

pub outcomes_walk : OutcomesAreAlongPaths
outcomes_walk f s packet choices = (of_fields f s packet choices packet.fields).told
