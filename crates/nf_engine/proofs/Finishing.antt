-- What a handler's run comes to, as a step.
use Rattle.std.proofs.Common.{◌≡◌, ◌∙◌, ℕ, zero, suc, ◌≤◌, ◌<◌, Bool, false, IsTrue, List, [], ◌∷◌, length, take, drop, refl, ap, sym, subst, arith, Bor, Option, Some, None, IfSome, ◌⊎◌, inl, inr, get_or}
use Rattle.std.proofs.Math.Seq.{take-length, drop-length}
use Rattle.std.proofs.lemmas.List.Sums.{AllPass-from_list_all, list_all-from_AllPass}
use Rattle.std.proofs.lemmas.List.{length-map}
use Rattle.std.proofs.lemmas.Bool.{ltb-true}
use Rattle.nf_base.specs.Handlers.{blocks_of}
use Rattle.nf_base.specs.Doors.{handler_at}
use Rattle.nf_base.specs.Families.{door_of}
use Rattle.nf_base.specs.declared.done.Done.{Done}
use Rattle.nf_base.specs.declared.func.Func.{Func}
use Rattle.nf_base.specs.declared.handler.Handler.{Handler}
use Rattle.nf_base.specs.Functions.{function_of}
use Rattle.nf_base.specs.View.{block_of}
use Rattle.nf_base.specs.declared.packet.Packet.{Packet}
use Rattle.nf_base.specs.declared.packet.Fields.{Fields}
use Rattle.nf_base.specs.declared.share.Share.{Share}
use Rattle.nf_base.specs.declared.state.State.{State}
use Rattle.nf_base.specs.Context as meant
use Rattle.nf_base.specs.Course.{Completion, StoppedAt, exec}
use Rattle.nf_base.specs.Shares.{AreOwn, owns}
use Rattle.nf_base.specs.Step.{step_result, input, start_context, expired_state, no_edits}
use Rattle.nf_base.specs.Text.{Block, Function}
use Rattle.vig_tables.specs.TablesState.{TablesState}
use Rattle.nf_engine.specs.declared.context.Context.{Context}
use Rattle.nf_engine.specs.Input.{Input, packet_of}
use Rattle.nf_engine.specs.declared.context.Flow.{Flow}
use Rattle.nf_engine.specs.declared.context.Flow.TheVariants.{Falls, Drop, Flood, To}
use Rattle.nf_engine.specs.declared.context.BlockResult.{BlockResult}
use Rattle.nf_engine.specs.declared.context.BlockResult.TheVariants as went
use Rattle.nf_engine.specs.declared.context.Outcome.{Outcome}
use Rattle.nf_engine.specs.declared.context.Outcome.TheVariants as outcome
use Rattle.nf_base.specs.declared.done.Action.{Action}
use Rattle.nf_base.specs.declared.done.Action.TheVariants as action
use Rattle.nf_engine.specs.Choices.{are_own, context_by}
use Rattle.nf_engine.specs.Stops.{stops_of}
use Rattle.nf_engine.specs.Course.{Comes, Goes}
use Rattle.nf_engine.specs.Handlings.{Finishes, EndsSo, Runs, StopsAt, completes_for, done_of, end_of, finished, handled_of, IfDone, IfEnds, IfShareFull, IfStops, IsChosen, outcome_of}
use Rattle.nf_engine.specs.View.{context_of, input_of, completion_of, action_of}
use Rattle.nf_engine.proofs.Vacant.{owns_all}

-- what the run of a handler begins with
pub record Begins (p : Input) (f : Function) (s : State) (packet : Packet) (fields : Fields) (b : Block) (t : TablesState) (start : Context) : Type 0 where
  pub input_is : input_of p ≡ input f packet.time fields
  pub handler : handler_at f (door_of packet.id.port fields) ≡ Some b
  pub picks : start.picks ≡ []
  pub context : (left : List ℕ) → context_of t left start ≡ start_context f s packet.time left

pub begins : (p : Input) (f : Func) (s : State) (packet : Packet) (fields : Fields) (h : Handler) (t : TablesState) (start : Context) → p.decls ≡ f.chains → p.ports ≡ length f.handlers → p.time ≡ packet.time → p.fields ≡ fields → handler_at (function_of f) (door_of packet.id.port fields) ≡ Some (block_of h.block) → start ≡ record { vars = []; edits = no_edits; picks = [] } → t.state ≡ expired_state (function_of f) packet.time s → Begins p (function_of f) s packet fields (block_of h.block) t start
begins p f s packet fields h t start decls ports time handled at fresh expired = record {
  input_is = rw (decls, ports, time, handled, length-map f.handlers blocks_of) refl;
  handler = at;
  picks = ap (λ (c : Context). c.picks) fresh;
  context = λ left. rw (fresh, expired) refl;
}

-- how the handler completes, by how its block goes
begun : (p : Input) (f : Function) (s : State) (packet : Packet) (fields : Fields) (b : Block) (t : TablesState) (start : Context) (all : List ℕ) → Begins p f s packet fields b t start → completes_for p.strict p.share f s packet fields all ≡ exec (stops_of p) (input_of p) b (context_by all t start)
begun p f s packet fields b t start all h =
    rw (h.handler, h.picks)
    (ap (λ (q : meant.Input). exec (stops_of p) q b (start_context f s packet.time all)) (sym h.input_is)
    ∙ ap (λ (c : meant.Context). exec (stops_of p) (input_of p) b c) (sym (h.context all)))

-- before the first choice none is taken
none_taken : (p : Input) (start : Context) (all : List ℕ) → start.picks ≡ [] → IsTrue (are_own p.share (take (length start.picks) all))
none_taken p start all none = rw none refl

-- the answer of a handler that ended
pub ended : (all left : List ℕ) (flow : Flow) (u : TablesState) (c : Context) → step_result all (completion_of flow (context_of u left c)) ≡ finished all left u.state (done_of (action_of flow) c)
ended all [] Falls u c = refl
ended all [] Drop u c = refl
ended all [] Flood u c = refl
ended all [] (To port) u c = refl
ended all (i ∷ left) Falls u c = refl
ended all (i ∷ left) Drop u c = refl
ended all (i ∷ left) Flood u c = refl
ended all (i ∷ left) (To port) u c = refl

ends_so : (p : Input) (f : Function) (s : State) (packet : Packet) (fields : Fields) (b : Block) (t u : TablesState) (start new : Context) (flow : Flow) → Begins p f s packet fields b t start → Comes p b t start u new (completion_of flow) → EndsSo (action_of flow) new p.share p.choices (completes_for p.strict p.share f s packet fields) u.state
ends_so p f s packet fields b t u start new flow h comes = λ all may.
    let g = comes all may in
    record {
      own = g.0.own (none_taken p start all h.picks);
      step = ap (step_result all) (begun p f s packet fields b t start all h ∙ g.1) ∙ ended all (drop (length new.picks) all) flow u new;
    }

pub runs_so : (p : Input) (f : Function) (s : State) (packet : Packet) (fields : Fields) (b : Block) (t u : TablesState) (start new : Context) (to : BlockResult) → Begins p f s packet fields b t start → Goes to p b t start u new → Runs to new p.strict p.share p.choices (completes_for p.strict p.share f s packet fields) u.state
runs_so p f s packet fields b t u start new went.Falls h goes = ends_so p f s packet fields b t u start new Falls h goes
runs_so p f s packet fields b t u start new went.Drop h goes = ends_so p f s packet fields b t u start new Drop h goes
runs_so p f s packet fields b t u start new went.Flood h goes = ends_so p f s packet fields b t u start new Flood h goes
runs_so p f s packet fields b t u start new (went.To port) h goes = ends_so p f s packet fields b t u start new (To port) h goes
runs_so p f s packet fields b t u start new (went.ShareFull chain) h goes = (
  goes.0,
  λ all may.
      let g = goes.1 all may in
      record {
        own = g.0.own (none_taken p start all h.picks);
        stops = begun p f s packet fields b t start all h ∙ g.1;
      },
)
runs_so p f s packet fields b t u start new went.BadChoice h goes = (
  goes.0,
  λ all may own. begun p f s packet fields b t start all h ∙ goes.1 all may own,
)

-- all that were taken
all_own : (share : Share) (xs : List ℕ) → IsTrue (are_own share (take (length xs) xs)) → AreOwn share xs
all_own share xs own = AllPass-from_list_all (owns share) xs (subst (λ ys. IsTrue (are_own share ys)) (take-length xs) own)

-- a step where nothing is left
finishes_all : (share : Share) (done : Done) (s : State) (meant : Completion) → Finishes share done.picks done s meant → (step_result done.picks meant ≡ Some (record { state = s; done = done })) × AreOwn share done.picks
finishes_all share done s meant h =
    (h.step ∙ ap (λ left. finished done.picks left s done) (drop-length done.picks), all_own share done.picks h.own)

-- a handler that was not given choices ends with those that it took
ends_own : (a : Action) (c : Context) (share : Share) (s : State) (meant : List ℕ → Completion) → EndsSo a c share None meant s → (step_result c.picks (meant c.picks) ≡ Some (record { state = s; done = done_of a c })) × AreOwn share c.picks
ends_own a c share s meant ends = finishes_all share (done_of a c) s (meant c.picks) (ends c.picks (take-length c.picks))

-- without choices
pub runs_own : (to : BlockResult) (c : Context) (strict : Bool) (share : Share) (s : State) (meant : List ℕ → Completion) → Runs to c strict share None meant s → IfEnds (outcome_of to) (λ a. (step_result c.picks (meant c.picks) ≡ Some (record { state = s; done = done_of a c })) × AreOwn share c.picks)
runs_own went.Falls c strict share s meant runs = ends_own action.Drop c share s meant runs
runs_own went.Drop c strict share s meant runs = ends_own action.Drop c share s meant runs
runs_own went.Flood c strict share s meant runs = ends_own action.Flood c share s meant runs
runs_own (went.To port) c strict share s meant runs = ends_own (action.To port) c share s meant runs
runs_own (went.ShareFull chain) c strict share s meant runs = tt
runs_own went.BadChoice c strict share s meant runs = absurd runs.0

pub chosen_own : (to : BlockResult) (c : Context) (strict : Bool) (share : Share) (s : State) (meant : List ℕ → Completion) → Runs to c strict share None meant s → IsChosen to
chosen_own went.Falls c strict share s meant runs = tt
chosen_own went.Drop c strict share s meant runs = tt
chosen_own went.Flood c strict share s meant runs = tt
chosen_own (went.To port) c strict share s meant runs = tt
chosen_own (went.ShareFull chain) c strict share s meant runs = tt
chosen_own went.BadChoice c strict share s meant runs = runs.0

stop_own : (c : Context) (share : Share) (f : Function) (s : State) (packet : Packet) (fields : Fields) (chain : ℕ) (new : State) → packet.fields ≡ Some fields → Runs (went.ShareFull chain) c false share None (completes_for false share f s packet fields) new → StopsAt share f s packet chain
stop_own c share f s packet fields chain new has runs =
    let stops = runs.1 c.picks (take-length c.picks) in
    record {
      fields = fields;
      choices = c.picks;
      stop = record {
        handled = has;
        own = all_own share c.picks stops.own;
        stops = stops.stops ∙ ap (StoppedAt chain) (drop-length c.picks);
      };
    }

pub stops_own : (to : BlockResult) (c : Context) (share : Share) (f : Function) (s : State) (packet : Packet) (fields : Fields) (new : State) → packet.fields ≡ Some fields → Runs to c false share None (completes_for false share f s packet fields) new → IfStops (outcome_of to) (λ chain. StopsAt share f s packet chain)
stops_own went.Falls c share f s packet fields new has runs = tt
stops_own went.Drop c share f s packet fields new has runs = tt
stops_own went.Flood c share f s packet fields new has runs = tt
stops_own (went.To port) c share f s packet fields new has runs = tt
stops_own (went.ShareFull chain) c share f s packet fields new has runs = stop_own c share f s packet fields chain new has runs
stops_own went.BadChoice c share f s packet fields new has runs = tt

-- where there are several shares
pub shares_own : (to : BlockResult) (c : Context) (share : Share) (s : State) (meant : List ℕ → Completion) → Runs to c false share None meant s → IfStops (outcome_of to) (λ chain. 2 ≤ share.of)
shares_own went.Falls c share s meant runs = tt
shares_own went.Drop c share s meant runs = tt
shares_own went.Flood c share s meant runs = tt
shares_own (went.To port) c share s meant runs = tt
shares_own (went.ShareFull chain) c share s meant runs = ltb-true 1 share.of runs.0
shares_own went.BadChoice c share s meant runs = tt

-- what holds of each action holds of another
pub if_ends : (P Q : Action → Type 0) (o : Outcome) → ((a : Action) → P a → Q a) → IfEnds o P → IfEnds o Q
if_ends P Q outcome.Drop h x = h action.Drop x
if_ends P Q outcome.Flood h x = h action.Flood x
if_ends P Q (outcome.To port) h x = h (action.To port) x
if_ends P Q (outcome.ShareFull chain) h x = tt

-- what holds of the context's answer
pub if_done : (P : Done → Type 0) (o : Outcome) (c : Context) → IfEnds o (λ a. P (done_of a c)) → IfDone (handled_of o c) P
if_done P outcome.Drop c h = h
if_done P outcome.Flood c h = h
if_done P (outcome.To port) c h = h
if_done P (outcome.ShareFull chain) c h = tt

pub if_full : (P : ℕ → Type 0) (o : Outcome) (c : Context) → IfStops o P → IfShareFull (handled_of o c) P
if_full P outcome.Drop c h = tt
if_full P outcome.Flood c h = tt
if_full P (outcome.To port) c h = tt
if_full P (outcome.ShareFull chain) c h = h

past_all : (xs : List ℕ) (n : ℕ) → length xs ≤ n → (take n xs ≡ xs) × (drop n xs ≡ [])
past_all [] zero le = (refl, refl)
past_all [] (suc n) le = (refl, refl)
past_all (x ∷ xs) zero le = absurd (omega arith)
past_all (x ∷ xs) (suc n) le = let rest = past_all xs n (omega arith) in (ap (λ ys. x ∷ ys) rest.0, rest.1)

-- with choices, all of which were taken
ends_all : (a : Action) (c : Context) (share : Share) (choices : Bor (List ℕ)) (s : State) (meant : List ℕ → Completion) → EndsSo a c share (Some choices) meant s → length choices.now ≤ length c.picks → (step_result choices.now (meant choices.now) ≡ Some (record { state = s; done = record { action = a; edits = c.edits; picks = choices.now } })) × AreOwn share choices.now
ends_all a c share choices s meant ends all =
    let h = ends choices.now refl in
    let past = past_all choices.now (length c.picks) all in
    (h.step ∙ ap (λ left. finished choices.now left s (done_of a c)) past.1, AllPass-from_list_all (owns share) choices.now (rw past.0 at h.own))

pub runs_all : (to : BlockResult) (c : Context) (strict : Bool) (share : Share) (choices : Bor (List ℕ)) (s : State) (meant : List ℕ → Completion) → Runs to c strict share (Some choices) meant s → length choices.now ≤ length c.picks → IfSome (end_of to) (λ a. (step_result choices.now (meant choices.now) ≡ Some (record { state = s; done = record { action = a; edits = c.edits; picks = choices.now } })) × AreOwn share choices.now)
runs_all went.Falls c strict share choices s meant runs all = ends_all action.Drop c share choices s meant runs all
runs_all went.Drop c strict share choices s meant runs all = ends_all action.Drop c share choices s meant runs all
runs_all went.Flood c strict share choices s meant runs all = ends_all action.Flood c share choices s meant runs all
runs_all (went.To port) c strict share choices s meant runs all = ends_all (action.To port) c share choices s meant runs all
runs_all (went.ShareFull chain) c strict share choices s meant runs all = tt
runs_all went.BadChoice c strict share choices s meant runs all = tt

more_left : (xs : List ℕ) (n : ℕ) → n < length xs → (i : ℕ) × (rest : List ℕ) × (drop n xs ≡ i ∷ rest)
more_left [] n lt = absurd (omega arith)
more_left (x ∷ xs) zero lt = (x, xs, refl)
more_left (x ∷ xs) (suc n) lt = more_left xs n (omega arith)

-- with choices, some of which are left over
ends_short : (a : Action) (c : Context) (share : Share) (choices : Bor (List ℕ)) (s : State) (meant : List ℕ → Completion) → EndsSo a c share (Some choices) meant s → length c.picks < length choices.now → step_result choices.now (meant choices.now) ≡ None
ends_short a c share choices s meant ends lt =
    let h = ends choices.now refl in
    let more = more_left choices.now (length c.picks) lt in
    h.step ∙ ap (λ left. finished choices.now left s (done_of a c)) more.2

-- with choices, where the handler comes to no end, or some of which are left over
pub runs_none : (to : BlockResult) (c : Context) (strict : Bool) (share : Share) (choices : Bor (List ℕ)) (s : State) (meant : List ℕ → Completion) → Runs to c strict share (Some choices) meant s → (end_of to ≡ None) ⊎ (length c.picks < length choices.now) → AreOwn share choices.now → step_result choices.now (meant choices.now) ≡ None
runs_none went.Falls c strict share choices s meant runs (inr lt) own = ends_short action.Drop c share choices s meant runs lt
runs_none went.Drop c strict share choices s meant runs (inr lt) own = ends_short action.Drop c share choices s meant runs lt
runs_none went.Flood c strict share choices s meant runs (inr lt) own = ends_short action.Flood c share choices s meant runs lt
runs_none (went.To port) c strict share choices s meant runs (inr lt) own = ends_short (action.To port) c share choices s meant runs lt
runs_none went.Falls c strict share choices s meant runs (inl none) own = cc
runs_none went.Drop c strict share choices s meant runs (inl none) own = cc
runs_none went.Flood c strict share choices s meant runs (inl none) own = cc
runs_none (went.To port) c strict share choices s meant runs (inl none) own = cc
runs_none (went.ShareFull chain) c strict share choices s meant runs why own = ap (step_result choices.now) (runs.1 choices.now refl).stops
runs_none went.BadChoice c strict share choices s meant runs why own = ap (step_result choices.now) (runs.1 choices.now refl (list_all-from_AllPass (owns share) choices.now own))

-- the whole share owns all choices
pub all_are_own : (share : Share) → share.of ≡ 1 → (xs : List ℕ) → AreOwn share xs
all_are_own share whole xs k d lt = owns_all share whole (get_or xs k d)

-- a packet whose fields are known
pub seen_is : (packet : Packet) (fields : Fields) → packet.fields ≡ Some fields → packet_of (record { id = packet.id; time = packet.time; fields = fields }) ≡ packet
seen_is packet fields has = ap (λ (o : Option Fields). record packet { fields = o }) (sym has)

-- the choices are own where all were taken
pub own_all : (to : BlockResult) (a : Action) (c : Context) (strict : Bool) (share : Share) (choices : Bor (List ℕ)) (s : State) (meant : List ℕ → Completion) → Runs to c strict share (Some choices) meant s → end_of to ≡ Some a → length choices.now ≤ length c.picks → AreOwn share choices.now
own_all to a c strict share choices s meant runs is all =
    (subst (λ (o : Option Action). IfSome o (λ b. (step_result choices.now (meant choices.now) ≡ Some (record { state = s; done = record { action = b; edits = c.edits; picks = choices.now } })) × AreOwn share choices.now)) is
    (runs_all to c strict share choices s meant runs all)).1
