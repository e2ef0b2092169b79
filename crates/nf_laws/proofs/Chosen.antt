-- At every state some choices are legal: a free index at each `new` that is to make an entry.
use Rattle.std.proofs.Common.{◌≡◌, ℕ, suc, Bool, true, false, ◌&&◌, List, [], ◌∷◌, map, Option, Some, None, slice_get, slice_set, if◌then◌else◌, refl, ap, ap₂, sym, ◌∙◌, subst}
use Rattle.std.specs.Option.{option_map}
use Rattle.std.proofs.lemmas.Option.{same_Some}
use Rattle.nf_base.specs.Doors.{handler_at}
use Rattle.nf_base.specs.Families.{door_of}
use Rattle.nf_base.specs.declared.state.Entry.{Entry}
use Rattle.nf_base.specs.declared.state.State.{State}
use Rattle.nf_base.specs.declared.packet.Packet.{Packet}
use Rattle.nf_base.specs.declared.packet.Fields.{Fields}
use Rattle.nf_base.specs.declared.width.Width.TheVariants.{W16}
use Rattle.nf_base.specs.Text.{Expression, Number, Read, Index, Label, Column, Cell, Both, Given, Guard, FallsOff, Forward, Flood, Discard, Operation, Touch, Free, Set, Write, Store, Question, Get, Find, Test, Creation, Block, End, Do, Ask, Make, Function}
use Rattle.nf_base.specs.Values.{narrowed, compares, result_of}
use Rattle.nf_base.specs.Chains.{chain_at, array_at, maps_of, is_taken, is_full, is_vacant, entry_at, written, zeros_of, fresh, stamped}
use Rattle.nf_base.specs.Context.{Context, Input, var_at, or_zero, value, given, is_given, has_labels}
use Rattle.nf_base.specs.Operations.{never, NewResult, Taken, Full, new_result, chosen, with_new, bound, answer, after, key_found, index_found, index_if, edited, with_chains, on_var}
use Rattle.nf_base.specs.Course.{Completion, Normal, NoStep, StoppedAt, and_then, if_hit, if_new, exec}
use Rattle.nf_base.specs.Step.{StepResult, step_of, input, start_context, completes}
use Rattle.nf_laws.specs.Steps.{HasHandler, skips, handles, SomeChoicesAreLegal}
use Rattle.nf_laws.proofs.Consumed.{left_of, then_then}
use Rattle.nf_laws.proofs.Legal.{has_some, settles_back, then_normal}

-- a context with other choices left
abbrev pub leaving : List ℕ → Context → Context
leaving left c = record c { left = left }

same_value : (p : Input) (c : Context) (left : List ℕ) (e : Expression) → value p (leaving left c) e ≡ value p c e
same_value p c left (Number n) = refl
same_value p c left (Read field) = refl
same_value p c left (Index var) = refl
same_value p c left (Label var label) = refl
same_value p c left (Column var column) = refl
same_value p c left (Cell place array at) = ap (λ i. or_zero (slice_get (array_at c.state.arrays array) (narrowed W16 i))) (same_value p c left at)
same_value p c left (Both operator a b) = ap₂ (result_of operator) (same_value p c left a) (same_value p c left b)

same_given : (p : Input) (c : Context) (left : List ℕ) (g : Given) → given p (leaving left c) g ≡ given p c g
same_given p c left g = ap (narrowed g.width) (same_value p c left g.value)

same_all : (p : Input) (c : Context) (left : List ℕ) (gs : List Given) → map (given p (leaving left c)) gs ≡ map (given p c) gs
same_all p c left [] = refl
same_all p c left (g ∷ gs) = ap₂ (λ x xs. x ∷ xs) (same_given p c left g) (same_all p c left gs)

same_labels : (p : Input) (c : Context) (left : List ℕ) (gs : List Guard) (entry : Entry) → has_labels p (leaving left c) gs entry ≡ has_labels p c gs entry
same_labels p c left [] entry = refl
same_labels p c left (g ∷ gs) entry = ap₂ (λ x y. x && y) (ap (λ v. is_given v (slice_get entry.labels g.label)) (same_given p c left g.given)) (same_labels p c left gs entry)

same_index : (p : Input) (c : Context) (left : List ℕ) (gs : List Guard) (i : ℕ) (o : Option Entry) → index_if p (leaving left c) gs i o ≡ index_if p c gs i o
same_index p c left gs i None = refl
same_index p c left gs i (Some entry) = ap (λ b. if b then Some i else None) (same_labels p c left gs entry)

hit_leaving : (var chain : ℕ) (c : Context) (left : List ℕ) (o : Option ℕ) → option_map (bound var chain (leaving left c)) o ≡ option_map (leaving left) (option_map (bound var chain c) o)
hit_leaving var chain c left None = refl
hit_leaving var chain c left (Some i) = refl

test_leaving : (b : Bool) (c : Context) (left : List ℕ) → (if b then Some (leaving left c) else None) ≡ option_map (leaving left) (if b then Some c else None)
test_leaving true c left = refl
test_leaving false c left = refl

same_answer : (p : Input) (c : Context) (left : List ℕ) (q : Question) → answer p (leaving left c) q ≡ option_map (leaving left) (answer p c q)
same_answer p c left (Get place chain m key var) =
    ap (λ ks. option_map (bound var chain (leaving left c)) (key_found p c chain m ks)) (same_all p c left key) ∙ hit_leaving var chain c left (key_found p c chain m (map (given p c) key))
same_answer p c left (Find place chain at guards var) =
    ap (option_map (bound var chain (leaving left c))) (ap (λ i. index_found p (leaving left c) chain i guards) (same_value p c left at) ∙ same_index p c left guards (value p c at) (entry_at (chain_at c.state.chains chain).slots (value p c at)))
    ∙ hit_leaving var chain c left (index_found p c chain (value p c at) guards)
same_answer p c left (Test place comparison a b) =
    ap₂ (λ x y. if compares comparison x y then Some (leaving left c) else None) (same_value p c left a) (same_value p c left b) ∙ test_leaving (compares comparison (value p c a) (value p c b)) c left

same_after : (p : Input) (c : Context) (left : List ℕ) (op : Operation) → after p (leaving left c) op ≡ leaving left (after p c op)
same_after p c left (Touch var) = refl
same_after p c left (Free var) = refl
same_after p c left (Set field g) = ap (λ v. record (leaving left c) { edits = edited field v c.edits }) (same_given p c left g)
same_after p c left (Write var column g) = ap (λ v. with_chains (on_var (written column v) (var_at c.vars var) c.state.chains) (leaving left c)) (same_given p c left g)
same_after p c left (Store place array at g) =
    ap₂ (λ i v. record (leaving left c) { state = record { chains = c.state.chains; arrays = slice_set c.state.arrays array (slice_set (array_at c.state.arrays array) (narrowed W16 i) v) } }) (same_value p c left at) (same_given p c left g)

-- choices that a course takes to its end, with none left over
abbrev pub Ends : (List ℕ → Completion) → Type 0
Ends course = (choices : List ℕ) × (left_of (course choices) ≡ Some [])

some_vacant : (slots : List (Option Entry)) → is_full slots ≡ false → (i : ℕ) × (is_vacant (slice_get slots i) ≡ true)
some_vacant [] e = cc
some_vacant (None ∷ slots) e = (0, refl)
some_vacant (Some x ∷ slots) e = let w = some_vacant slots e in (suc w.0, w.1)

hit_case : (o : Option Context) (hit : Context → Completion) (miss : List ℕ → Completion) (g : Context → Completion) → ((d : Context) → Ends (λ left. and_then (hit (leaving left d)) g)) → Ends (λ left. and_then (miss left) g) →
    Ends (λ left. and_then (if_hit (option_map (leaving left) o) hit (miss left)) g)
hit_case (Some d) hit miss g h m = h d
hit_case None hit miss g h m = m

-- what a `new` comes to, by its tests
abbrev tests : Bool → Bool → NewResult → NewResult
tests a b to = if a then Taken else if b then Full else to

abbrev made_here : Input → Context → Creation → ℕ → List ℕ → Context
made_here p c n i left = leaving left (with_new p c n i)

same_new : (p : Input) (c : Context) (n : Creation) (i : ℕ) (left : List ℕ) → with_new p (leaving (i ∷ left) c) n i ≡ leaving left (with_new p c n i)
same_new p c n i left =
    ap (λ labels. record (bound n.var n.chain (with_chains (slice_set c.state.chains n.chain (stamped p.time i (fresh labels (zeros_of p.decls n.chain)) (chain_at c.state.chains n.chain))) c) i) { left = left }) (same_all p c (i ∷ left) n.labels)

same_result : (p : Input) (c : Context) (n : Creation) (left : List ℕ) →
    new_result never p (leaving left c) n ≡ tests (is_taken (maps_of p.decls n.chain) (map (given p c) n.labels) (chain_at c.state.chains n.chain).slots) (is_full (chain_at c.state.chains n.chain).slots) (chosen (chain_at c.state.chains n.chain).slots left)
same_result p c n left =
    ap (λ labels. tests (is_taken (maps_of p.decls n.chain) labels (chain_at c.state.chains n.chain).slots) (is_full (chain_at c.state.chains n.chain).slots) (chosen (chain_at c.state.chains n.chain).slots left)) (same_all p c left n.labels)

new_case : (slots : List (Option Entry)) (chain : ℕ) (a b : Bool) (made : List ℕ → ℕ → Completion) (x y : List ℕ → Completion) (g : Context → Completion) → is_full slots ≡ b →
    ((i : ℕ) → Ends (λ left. and_then (made (i ∷ left) i) g)) → Ends (λ left. and_then (x left) g) → Ends (λ left. and_then (y left) g) →
    Ends (λ left. and_then (if_new (tests a b (chosen slots left)) (made left) (x left) (y left) NoStep (StoppedAt chain left)) g)
new_case slots chain true b made x y g f m t u = t
new_case slots chain false true made x y g f m t u = u
new_case slots chain false false made x y g f m t u =
    let vacant = some_vacant slots f in
    let rest = m vacant.0 in
    (vacant.0 ∷ rest.0, rw vacant.1 rest.1)

swap : (f g : List ℕ → Completion) → ((left : List ℕ) → f left ≡ g left) → Ends g → Ends f
swap f g e h = (h.0, ap left_of (e h.0) ∙ h.1)

legal : (p : Input) (b : Block) (c : Context) (g : Context → Completion) → ((d : Context) → Ends (λ left. g (leaving left d))) → Ends (λ left. and_then (exec never p b (leaving left c)) g)
legal p (End FallsOff) c g h = h c
legal p (End Flood) c g h = ([], refl)
legal p (End Discard) c g h = ([], refl)
legal p (End (Forward port)) c g h = ([], refl)
legal p (Do op next) c g h =
    swap (λ left. and_then (exec never p next (after p (leaving left c) op)) g) (λ left. and_then (exec never p next (leaving left (after p c op))) g) (λ left. ap (λ d. and_then (exec never p next d) g) (same_after p c left op)) (legal p next (after p c op) g h)
legal p (Ask q hit miss next) c g h =
    let on = λ (d : Context). and_then (exec never p next d) g in
    let follows : (d : Context) → Ends (λ left. on (leaving left d)) = λ d. legal p next d g h in
    swap (λ left. and_then (and_then (if_hit (answer p (leaving left c) q) (exec never p hit) (exec never p miss (leaving left c))) (exec never p next)) g)
    (λ left. and_then (if_hit (option_map (leaving left) (answer p c q)) (exec never p hit) (exec never p miss (leaving left c))) on)
    (λ left. then_then (if_hit (answer p (leaving left c) q) (exec never p hit) (exec never p miss (leaving left c))) (exec never p next) g
    ∙ ap (λ o. and_then (if_hit o (exec never p hit) (exec never p miss (leaving left c))) on) (same_answer p c left q))
    (hit_case (answer p c q) (exec never p hit) (λ left. exec never p miss (leaving left c)) on (λ d. legal p hit d on follows) (legal p miss c on follows))
legal p (Make n made taken full next) c g h =
    let slots = (chain_at c.state.chains n.chain).slots in
    let on = λ (d : Context). and_then (exec never p next d) g in
    let follows : (d : Context) → Ends (λ left. on (leaving left d)) = λ d. legal p next d g h in
    let goes = λ (left : List ℕ) (to : NewResult). if_new to (λ i. exec never p made (with_new p (leaving left c) n i)) (exec never p taken (leaving left c)) (exec never p full (leaving left c)) NoStep (StoppedAt n.chain left) in
    swap (λ left. and_then (and_then (goes left (new_result never p (leaving left c) n)) (exec never p next)) g)
    (λ left. and_then (goes left (tests (is_taken (maps_of p.decls n.chain) (map (given p c) n.labels) slots) (is_full slots) (chosen slots left))) on)
    (λ left. then_then (goes left (new_result never p (leaving left c) n)) (exec never p next) g ∙ ap (λ to. and_then (goes left to) on) (same_result p c n left))
    (new_case slots n.chain (is_taken (maps_of p.decls n.chain) (map (given p c) n.labels) slots) (is_full slots) (λ left i. exec never p made (with_new p (leaving left c) n i)) (λ left. exec never p taken (leaving left c)) (λ left. exec never p full (leaving left c)) on refl
    (λ i. swap (λ left. and_then (exec never p made (with_new p (leaving (i ∷ left) c) n i)) on) (λ left. and_then (exec never p made (leaving left (with_new p c n i))) on) (λ left. ap (λ d. and_then (exec never p made d) on) (same_new p c n i left)) (legal p made (with_new p c n i) on follows))
    (legal p taken c on follows) (legal p full c on follows))

on_port : (f : Function) (s : State) (packet : Packet) (fields : Option Fields) → HasHandler f packet → packet.fields ≡ fields → (choices : List ℕ) × ((r : StepResult) × (step_of never f s packet choices fields ≡ Some r))
on_port f s packet None h q = ([], (_, refl))
on_port f s packet (Some fields) (skips none) q = cc
on_port f s packet (Some fields) (handles fs q2 has) q =
    let same : fs ≡ fields = same_Some _ _ (sym q2 ∙ q) in
    let there = subst (λ (x : Fields). (block : Block) × (handler_at f (door_of packet.id.port x) ≡ Some block)) same (has_some (handler_at f (door_of packet.id.port fs)) has) in
    let block = there.0 in
    let at = there.1 in
    let w = legal (input f packet.time fields) block (start_context f s packet.time []) Normal (λ d. ([], refl)) in
    let ends : left_of (completes never f s packet.time fields w.0 (Some block)) ≡ Some [] = ap left_of (sym (then_normal (completes never f s packet.time fields w.0 (Some block)))) ∙ w.1 in
    (w.0, rw at (settles_back w.0 (completes never f s packet.time fields w.0 (Some block)) ends))

pub some_choices : SomeChoicesAreLegal
some_choices f s packet h = on_port f s packet packet.fields h refl
