-- Where the run of each queue's packets has a meaning, so has the undivided one.
use Rattle.shard_laws.proofs.Traced.{steps_trace, entries_trace, marks_trace}
use Rattle.nf_base.specs.Record.{NewEntry}
use Rattle.shard_laws.specs.Marks.{Marks, all_marks, marks_if, marks_of, marks_at}
use Rattle.shard_laws.proofs.Taken.{takes_make}
use Rattle.std.proofs.Common.{◌≡◌, ◌≢◌, ℕ, ◌<◌, ◌≤◌, Bool, true, false, ◌==◌, eq-eqb, ne_eqb, List, [], ◌∷◌, Option, Some, None, slice_get, if◌then◌else◌, refl, ap, ap₂, sym, ◌∙◌, subst, inl, inr}
use Rattle.std.proofs.lemmas.Option.{same_Some, none-some}
use Rattle.std.proofs.lemmas.Bool.{cases_eq}
use Rattle.nf_base.specs.Doors.{blocks, handler_at}
use Rattle.nf_base.specs.Families.{door_of}
use Rattle.nf_base.specs.declared.packet.Packet.{Packet}
use Rattle.nf_base.specs.declared.packet.Fields.{Fields}
use Rattle.nf_base.specs.declared.state.State.{State}
use Rattle.nf_base.specs.declared.done.Action.{Action}
use Rattle.nf_base.specs.declared.done.Action.TheVariants.{Drop}
use Rattle.nf_base.specs.declared.done.Done.{Done}
use Rattle.nf_base.specs.Text.{Function, Block}
use Rattle.nf_base.specs.Chains.{chain_at}
use Rattle.nf_base.specs.Context.{Context}
use Rattle.nf_base.specs.Operations.{Stops, never}
use Rattle.nf_base.specs.Course.{Completion, Normal, Ended, NoStep, StoppedAt, exec}
use Rattle.nf_base.specs.Locations.{Numbers, no_numbers, locations, all_numbers}
use Rattle.nf_base.specs.Step.{StepResult, if_none_left, step_result, input, skipped, completes, records, step_of, step_by, record_of, recorded, opening, recorded_by, step}
use Rattle.nf_base.specs.Runs.{Handling, RunResult, run_by, numbers_if, numbers_of}
use Rattle.shard_laws.specs.Homes.{Homes, AllAt, KnowsWritten, AllTold, entries_made, MadeOwn}
use Rattle.shard_laws.specs.Agreement.{Scene, Agree, Alike}
use Rattle.shard_laws.specs.Queues.{time_of, time_after, last_time, NeverFall, of_queue, answers_of, TakeOwn, Throughout, StayHome, queue_by, MakeOwn}
use Rattle.shard_laws.specs.Parts.{Whole, Part, at_time, RiseAlike, HaltsOwn, opened_of}
use Rattle.shard_laws.specs.Laws.{HasTop, Undivided, UndividedRuns}
use Rattle.nf_laws.proofs.Parted.{Begins, begins}
use Rattle.shard_laws.proofs.Courses.{exec_alike}
use Rattle.shard_laws.proofs.Handled.{After, after_part, after_whole, answer_is, part_beside, told}
use Rattle.shard_laws.proofs.Living.{goes_from, greatest_at, whole_later}
use Rattle.shard_laws.proofs.Opening.{part_opening, whole_opening}
use Rattle.shard_laws.proofs.Queued.{run_from}
use Rattle.shard_laws.proofs.Starting.{StartsOn, course_of, part_begins, start_agree}

left_back : (s : Scene) (z : Numbers) (choices : List ℕ) (a b : Action) (c d : Context) (q : StepResult) (left : List ℕ) → b ≡ a → Agree s z c d → if_none_left choices left d b ≡ Some q → (r : StepResult) × (if_none_left choices left c a ≡ Some r) × After s z r q
left_back s z choices a b c d q [] e g h =
    let same : ◌≡◌ {A = StepResult} (record { state = d.state; done = record { action = b; edits = d.edits; picks = choices } }) q = same_Some _ _ h in (
      record { state = c.state; done = record { action = a; edits = c.edits; picks = choices } },
      refl,
      subst (λ (x : StepResult). After s z (record { state = c.state; done = record { action = a; edits = c.edits; picks = choices } }) x) same (record { done = answer_is a b c.edits d.edits choices e g.edits; chains = g.chains; arrays = g.arrays }),
    )
left_back s z choices a b c d q (i ∷ left) e g h = absurd (none-some _ h)

settled_back : (s : Scene) (z : Numbers) (choices : List ℕ) (f g : Completion) (q : StepResult) → s.by_part ≡ true → Alike s z (λ c. []) (λ c. []) f g → step_result choices g ≡ Some q → (r : StepResult) × (step_result choices f ≡ Some r) × After s z r q
settled_back s z choices (Normal c) (Normal d) q part h e =
    let g : Agree s z c d = subst (λ (m : Numbers). Agree s m c d) h.2 h.1 in
    left_back s z choices Drop Drop c d q c.left refl g (ap (λ (l : List ℕ). if_none_left choices l d Drop) (sym g.left.same) ∙ e)
settled_back s z choices (Normal c) (Ended a d) q part h e = absurd h
settled_back s z choices f NoStep q part h e = absurd (none-some _ e)
settled_back s z choices f (StoppedAt k left) q part h e = absurd (none-some _ e)
settled_back s z choices (Ended a c) (Normal d) q part h e = absurd h
settled_back s z choices (Ended a c) (Ended b d) q part h e = left_back s z choices a b c d q c.left h.0 h.1 (ap (λ (l : List ℕ). if_none_left choices l d b) (sym h.1.left.same) ∙ e)
settled_back s z choices NoStep (Normal d) q part h e = let b : true ≡ false = sym part ∙ h in cc
settled_back s z choices NoStep (Ended b d) q part h e = let b : true ≡ false = sym part ∙ h in cc
settled_back s z choices (StoppedAt k left) (Normal d) q part h e = absurd h
settled_back s z choices (StoppedAt k left) (Ended b d) q part h e = absurd h

-- one packet's step on the part of its queue gives one on the undivided state
pub record BackOn (h : Homes) (opened : ℕ → ℕ → ℕ) (f : Function) (time u : ℕ) (ns : Numbers) (m part : State) (packet : Packet) (choices : List ℕ) (fields : Option Fields) (q : StepResult) : Type 0 where
  pub first : StepResult
  pub is : step_of never f m packet choices fields ≡ Some first
  pub done : q.done ≡ first.done
  pub whole : Whole h opened f.chains (time_of time packet.time fields) (all_numbers ns (record_of never f m packet choices fields)) first.state
  pub own : Part h opened f.chains (time_of time packet.time fields) u first.state q.state
  pub other : (v : ℕ) (part : State) → v ≢ u → Part h opened f.chains time v m part → Part h opened f.chains (time_of time packet.time fields) v first.state part
  pub rise : (k : ℕ) → RiseAlike packet.time (chain_at m.chains k).greatest (chain_at first.state.chains k).greatest (chain_at part.chains k).greatest (chain_at q.state.chains k).greatest

fields_back : (h : Homes) (opened : ℕ → ℕ → ℕ) (stops : Stops) (f : Function) (time b : ℕ) (ns : Numbers) (m part : State) (packet : Packet) (choices : List ℕ) (fields : Fields) (o : Option Block) (q : StepResult) → handler_at f (door_of packet.id.port fields) ≡ o → KnowsWritten h f → HaltsOwn h.owner (h.at b) stops → Whole h opened f.chains time ns m → Part h opened f.chains time (h.at b) m part → time ≤ packet.time
    → AllAt h b (locations f.chains ns (records never f m packet.time fields choices o)) → AllTold h ns (records never f m packet.time fields choices o) → MadeOwn h.owner (h.at b) (entries_made (records stops f part packet.time fields choices o)) → step_result choices (completes stops f part packet.time fields choices o) ≡ Some q → BackOn h opened f time (h.at b) ns m part packet choices (Some fields) q
fields_back h opened stops f time b ns m part packet choices fields None q is knows halts whole a le home told_all own e = absurd (none-some _ e)
fields_back h opened stops f time b ns m part packet choices fields (Some block) q is knows halts whole a le home told_all own e =
    let now = packet.time in
    let p = input f now fields in
    let m_now = at_time now f.chains m in
    let es = records never f m now fields choices (Some block) in
    let z = all_numbers ns es in
    let s : Scene = record { homes = h; strict = false; tight = false; by_part = true; bucket = b; is = refl; firm = λ x. cc; lax = λ x. refl; over = never; follows = λ k c d e q. cc; leads = λ t. cc; roomy = λ t. cc; stops = stops; opened = opened; queue = h.at b; packet = p; whole = m_now; part = at_time now f.chains part; halts = halts } in
    let begun : StartsOn h opened (h.at b) m_now (at_time now f.chains part) = part_begins h opened f.chains time now (h.at b) m part a le in
    let r = settled_back s z choices (exec never p block (course_of m_now choices)) (exec stops p block (course_of (at_time now f.chains part) choices)) q refl
    (exec_alike s z block ns (course_of m_now choices) (course_of (at_time now f.chains part) choices) (λ _. []) (λ _. []) (told h f (door_of packet.id.port fields) block knows is) (start_agree s ns choices (whole_later h opened f.chains time now ns m whole le) begun) (goes_from s ns es home told_all (λ x. cc) (λ x. cc)) (λ x. own)) e in
    record {
      first = r.0;
      is = ap (λ (o : Option Block). step_result choices (completes never f m packet.time fields choices o)) is ∙ r.1;
      done = r.2.done;
      whole = subst (λ (o : Option Block). Whole h opened f.chains packet.time (all_numbers ns (records never f m packet.time fields choices o)) r.0.state) (sym is) (after_whole s z r.0 q r.2);
      own = after_part s z r.0 q r.2 begun.low;
      other = λ v other_part ne c. part_beside s time v m other_part z r.0 q refl c le whole.low ne r.2;
      rise = λ k. subst (λ (g : ℕ). RiseAlike now g (chain_at r.0.state.chains k).greatest (chain_at part.chains k).greatest (chain_at q.state.chains k).greatest) (greatest_at now f.chains m.chains k)
          (subst (λ (g : ℕ). RiseAlike now (chain_at m_now.chains k).greatest (chain_at r.0.state.chains k).greatest g (chain_at q.state.chains k).greatest) (greatest_at now f.chains part.chains k) (r.2.chains.each k).stamps.top);
    }

skip_back : (h : Homes) (opened : ℕ → ℕ → ℕ) (f : Function) (time u : ℕ) (ns : Numbers) (m part : State) (packet : Packet) (choices : List ℕ) (q : StepResult) → Whole h opened f.chains time ns m → Part h opened f.chains time u m part → skipped part choices ≡ Some q → BackOn h opened f time u ns m part packet choices None q
skip_back h opened f time u ns m part packet [] q whole a e =
    subst (λ (x : StepResult). BackOn h opened f time u ns m part packet [] None x) (same_Some _ _ e)
    (record { first = record { state = m; done = _ }; is = refl; done = refl; whole = whole; own = a; other = λ v other_part ne c. c; rise = λ k. inl (refl, refl) })
skip_back h opened f time u ns m part packet (i ∷ choices) q whole a e = absurd (none-some _ e)

pub back_on : (h : Homes) (opened : ℕ → ℕ → ℕ) (stops : Stops) (f : Function) (time b : ℕ) (ns : Numbers) (m part : State) (packet : Packet) (choices : List ℕ) (o : Option Fields) (q : StepResult) → KnowsWritten h f → HaltsOwn h.owner (h.at b) stops → Whole h opened f.chains time ns m → Part h opened f.chains time (h.at b) m part → time ≤ time_of time packet.time o
    → AllAt h b (locations f.chains ns (record_of never f m packet choices o)) → AllTold h ns (record_of never f m packet choices o) → MadeOwn h.owner (h.at b) (entries_made (record_of stops f part packet choices o)) → step_of stops f part packet choices o ≡ Some q → BackOn h opened f time (h.at b) ns m part packet choices o q
back_on h opened stops f time b ns m part packet choices None q knows halts whole a le home told_all own e = skip_back h opened f time (h.at b) ns m part packet choices q whole a e
back_on h opened stops f time b ns m part packet choices (Some fields) q knows halts whole a le home told_all own e = fields_back h opened stops f time b ns m part packet choices fields (handler_at f (door_of packet.id.port fields)) q refl knows halts whole a le home told_all own e

-- one queue's value changed
abbrev pub changed : {A : Type 0} → (ℕ → A) → ℕ → A → ℕ → A
changed xs u x v = if u == v then x else xs v

-- after the step of queue u some part has the greatest stamp still
top_step : (time n u : ℕ) (m r q : State) (parts : ℕ → State) → u < n → ((k : ℕ) → RiseAlike time (chain_at m.chains k).greatest (chain_at r.chains k).greatest (chain_at (parts u).chains k).greatest (chain_at q.chains k).greatest) → HasTop n parts m → HasTop n (changed parts u q) r
top_step time n u m r q parts lt rise top k = elim (rise k) [
  | inl s ↦
      let w = top k in (
        w.0,
        w.1,
        (elim (cases_eq u w.0) [
          | inl same ↦
              let b : (u == w.0) ≡ true = eq-eqb _ _ same in
              subst (λ (c : Bool). (chain_at (if c then q else parts w.0).chains k).greatest ≡ (chain_at r.chains k).greatest) (sym b) (s.1 ∙ ap (λ (j : ℕ). (chain_at (parts j).chains k).greatest) same ∙ w.2 ∙ sym s.0)
          | inr other ↦
              let b : (u == w.0) ≡ false = ne_eqb _ _ other in
              subst (λ (c : Bool). (chain_at (if c then q else parts w.0).chains k).greatest ≡ (chain_at r.chains k).greatest) (sym b) (w.2 ∙ sym s.0)
        ]),
      )
  | inr s ↦
      let b : (u == u) ≡ true = eq-eqb _ _ refl in
      (u, lt, subst (λ (c : Bool). (chain_at (if c then q else parts u).chains k).greatest ≡ (chain_at r.chains k).greatest) (sym b) (s.1 ∙ sym s.0))
]

-- what a step of a queue on its part gives of its packet at the whole state
abbrev pub Gives : Homes → (ℕ → Stops) → (State → Handling → Type 0) → (ℕ → ℕ → ℕ) → (Packet → ℕ) → Function → Type 0
Gives h stops P opened bucket f = (time : ℕ) (ns : Numbers) (m part : State) (t : Handling) (q : StepResult) → Whole h opened f.chains time ns m → Part h opened f.chains time (queue_by h bucket t.packet) m part → time ≤ time_after time t.packet
    → AllAt h (bucket t.packet) (locations f.chains ns (recorded f m t.packet t.choices)) → AllTold h ns (recorded f m t.packet t.choices) → MadeOwn h.owner (queue_by h bucket t.packet) (entries_made (recorded_by (stops (queue_by h bucket t.packet)) f part t.packet t.choices))
    → step_by (stops (queue_by h bucket t.packet)) f part t.packet t.choices ≡ Some q → P m t

-- the run of all packets, and what is given of each
pub record Lined (stops : ℕ → Stops) (P : State → Handling → Type 0) (h : Homes) (opened : ℕ → ℕ → ℕ) (bucket queue : Packet → ℕ) (f : Function) (time : ℕ) (m : State) (parts : ℕ → State) (ns : Numbers) (ts : List Handling) (runs : ℕ → RunResult) : Type 0 where
  pub lines : Throughout P f m ts
  pub undivided : Undivided h opened queue f time m parts ns ts runs
  pub made : MakeOwn h.owner queue never f m ts
  pub marks : (v : ℕ) (ms : Marks) → marks_of (stops v) bucket f (parts v) ms (of_queue queue v ts) ≡ marks_at queue v bucket f m ms ts

pub runs_back : (h : Homes) (stops : ℕ → Stops) (P : State → Handling → Type 0) (opened : ℕ → ℕ → ℕ) (bucket : Packet → ℕ) (f : Function) (ts : List Handling) (time : ℕ) (ns : Numbers) (m : State) (parts : ℕ → State) (runs : ℕ → RunResult) → KnowsWritten h f → ((v : ℕ) → HaltsOwn h.owner v (stops v)) → Gives h stops P opened bucket f → Whole h opened f.chains time ns m → ((v : ℕ) → Part h opened f.chains time v m (parts v)) → NeverFall time ts → StayHome h bucket f m ns ts → ((v : ℕ) → MakeOwn h.owner (queue_by h bucket) (stops v) f (parts v) (of_queue (queue_by h bucket) v ts))
    → ((v : ℕ) → run_by (stops v) f (parts v) (of_queue (queue_by h bucket) v ts) ≡ Some (runs v)) → Lined stops P h opened bucket (queue_by h bucket) f time m parts ns ts runs
runs_back h stops P opened bucket f [] time ns m parts runs knows halts gives whole a rising stays own each = record {
  lines = tt;
  made = tt;
  marks = λ v ms. refl;
  undivided = record {
    ran = record { state = m; answers = [] };
    is = refl;
    whole = whole;
    answers = λ v. ap (λ (r : RunResult). r.answers) (sym (same_Some _ _ (each v)));
    each = λ v. subst (λ (r : RunResult). Part h opened f.chains time v m r.state) (same_Some _ _ (each v)) (a v);
    tops = λ n below top k. let w = top k in (w.0, w.1, ap (λ (r : RunResult). (chain_at r.state.chains k).greatest) (sym (same_Some _ _ (each w.0))) ∙ w.2);
  };
}
runs_back h stops P opened bucket f (t ∷ ts) time ns m parts runs knows halts gives whole a rising stays own each =
    let u = queue_by h bucket t.packet in
    let now = time_after time t.packet in
    let z = all_numbers ns (recorded f m t.packet t.choices) in
    let here : (u == u) ≡ true = eq-eqb _ _ refl in
    let own_run : run_by (stops u) f (parts u) (t ∷ of_queue (queue_by h bucket) u ts) ≡ Some (runs u) = subst (λ (b : Bool). run_by (stops u) f (parts u) (if b then t ∷ of_queue (queue_by h bucket) u ts else of_queue (queue_by h bucket) u ts) ≡ Some (runs u)) here (each u) in
    let cut : Begins (stops u) f (parts u) t (of_queue (queue_by h bucket) u ts) (runs u) = begins (stops u) f (parts u) t (of_queue (queue_by h bucket) u ts) (runs u) own_run in
    let own_here : MakeOwn h.owner (queue_by h bucket) (stops u) f (parts u) (t ∷ of_queue (queue_by h bucket) u ts) = subst (λ (b : Bool). MakeOwn h.owner (queue_by h bucket) (stops u) f (parts u) (if b then t ∷ of_queue (queue_by h bucket) u ts else of_queue (queue_by h bucket) u ts)) here (own u) in
    let own_next : MakeOwn h.owner (queue_by h bucket) (stops u) f cut.next.state (of_queue (queue_by h bucket) u ts) = own_here.1 cut.next cut.stepped in
    let one : BackOn h opened f time u ns m (parts u) t.packet t.choices t.packet.fields cut.next = back_on h opened (stops u) f time (bucket t.packet) ns m (parts u) t.packet t.choices t.packet.fields cut.next knows (halts u) whole (a u) rising.0 stays.0.0 stays.0.1 own_here.0 cut.stepped in
    let lined : Lined stops P h opened bucket (queue_by h bucket) f now one.first.state (changed parts u cut.next.state) z ts (changed runs u cut.rest) =
    runs_back h stops P opened bucket f ts now z one.first.state (changed parts u cut.next.state) (changed runs u cut.rest) knows halts gives one.whole
    (λ v. elim (cases_eq u v) [
      | inl same ↦ let b : (u == v) ≡ true = eq-eqb _ _ same in
          subst (λ (c : Bool). Part h opened f.chains now v one.first.state (if c then cut.next.state else parts v)) (sym b) (subst (λ (k : ℕ). Part h opened f.chains now k one.first.state cut.next.state) same one.own)
      | inr other ↦ let b : (u == v) ≡ false = ne_eqb _ _ other in
          subst (λ (c : Bool). Part h opened f.chains now v one.first.state (if c then cut.next.state else parts v)) (sym b) (one.other v (parts v) (λ q. other (sym q)) (a v))
    ])
    rising.1 (stays.1 one.first one.is)
    (λ v. elim (cases_eq u v) [
      | inl same ↦ let b : (u == v) ≡ true = eq-eqb _ _ same in
          subst (λ (c : Bool). MakeOwn h.owner (queue_by h bucket) (stops v) f (if c then cut.next.state else parts v) (of_queue (queue_by h bucket) v ts)) (sym b) (subst (λ (k : ℕ). MakeOwn h.owner (queue_by h bucket) (stops k) f cut.next.state (of_queue (queue_by h bucket) k ts)) same own_next)
      | inr other ↦ let b : (u == v) ≡ false = ne_eqb _ _ other in
          subst (λ (c : Bool). MakeOwn h.owner (queue_by h bucket) (stops v) f (if c then cut.next.state else parts v) (of_queue (queue_by h bucket) v ts)) (sym b)
          (subst (λ (c : Bool). MakeOwn h.owner (queue_by h bucket) (stops v) f (parts v) (if c then t ∷ of_queue (queue_by h bucket) v ts else of_queue (queue_by h bucket) v ts)) b (own v))
    ])
    (λ v. elim (cases_eq u v) [
      | inl same ↦ let b : (u == v) ≡ true = eq-eqb _ _ same in
          subst (λ (c : Bool). run_by (stops v) f (if c then cut.next.state else parts v) (of_queue (queue_by h bucket) v ts) ≡ Some (if c then cut.rest else runs v)) (sym b) (subst (λ (k : ℕ). run_by (stops k) f cut.next.state (of_queue (queue_by h bucket) k ts) ≡ Some cut.rest) same cut.ran)
      | inr other ↦ let b : (u == v) ≡ false = ne_eqb _ _ other in
          subst (λ (c : Bool). run_by (stops v) f (if c then cut.next.state else parts v) (of_queue (queue_by h bucket) v ts) ≡ Some (if c then cut.rest else runs v)) (sym b)
          (subst (λ (c : Bool). run_by (stops v) f (parts v) (if c then t ∷ of_queue (queue_by h bucket) v ts else of_queue (queue_by h bucket) v ts) ≡ Some (runs v)) b (each v))
    ]) in
    let rest = lined.undivided in
    let b = bucket t.packet in
    let traced_entries : entries_made (recorded f m t.packet t.choices) ≡ entries_made (recorded_by (stops u) f (parts u) t.packet t.choices) =
    steps_trace entries_made entries_trace true h b (stops u) opened f time ns m (parts u) t.packet t.choices t.packet.fields one.first cut.next knows (halts u) whole (a u) rising.0 stays.0.0 stays.0.1 ((λ x. cc), λ x. own_here.0) one.is cut.stepped in
    let traced_marks : ◌≡◌ {A = Marks → Marks} (λ ms. all_marks b ms (recorded f m t.packet t.choices)) (λ ms. all_marks b ms (recorded_by (stops u) f (parts u) t.packet t.choices)) =
    steps_trace (λ es ms. all_marks b ms es) (marks_trace b) true h b (stops u) opened f time ns m (parts u) t.packet t.choices t.packet.fields one.first cut.next knows (halts u) whole (a u) rising.0 stays.0.0 stays.0.1 ((λ x. cc), λ x. own_here.0) one.is cut.stepped in
    record {
      made = (subst (λ (es : List NewEntry). MadeOwn h.owner u es) (sym traced_entries) own_here.0, λ next e. subst (λ (x : StepResult). MakeOwn h.owner (queue_by h bucket) never f x.state ts) (same_Some _ _ (sym one.is ∙ e)) lined.made);
      marks = λ v ms. elim (cases_eq u v) [
        | inl same ↦
            let x : (u == v) ≡ true = eq-eqb _ _ same in
            let rec : marks_of (stops v) bucket f cut.next.state (all_marks b ms (recorded f m t.packet t.choices)) (of_queue (queue_by h bucket) v ts) ≡ marks_at (queue_by h bucket) v bucket f one.first.state (all_marks b ms (recorded f m t.packet t.choices)) ts =
            subst (λ (c : Bool). marks_of (stops v) bucket f (if c then cut.next.state else parts v) (all_marks b ms (recorded f m t.packet t.choices)) (of_queue (queue_by h bucket) v ts) ≡ marks_at (queue_by h bucket) v bucket f one.first.state (all_marks b ms (recorded f m t.packet t.choices)) ts) x (lined.marks v (all_marks b ms (recorded f m t.packet t.choices))) in
            let left : marks_of (stops u) bucket f (parts u) ms (t ∷ of_queue (queue_by h bucket) u ts) ≡ marks_of (stops u) bucket f cut.next.state (all_marks b ms (recorded f m t.packet t.choices)) (of_queue (queue_by h bucket) u ts) =
            ap (λ (o : Option StepResult). marks_if (all_marks b ms (recorded_by (stops u) f (parts u) t.packet t.choices)) o (λ next. marks_of (stops u) bucket f next (all_marks b ms (recorded_by (stops u) f (parts u) t.packet t.choices)) (of_queue (queue_by h bucket) u ts))) cut.stepped
            ∙ ap (λ (g : Marks → Marks). marks_of (stops u) bucket f cut.next.state (g ms) (of_queue (queue_by h bucket) u ts)) (sym traced_marks) in
            subst (λ (c : Bool). marks_of (stops v) bucket f (parts v) ms (if c then t ∷ of_queue (queue_by h bucket) v ts else of_queue (queue_by h bucket) v ts)
            ≡ marks_if (if c then all_marks b ms (recorded f m t.packet t.choices) else ms) (step f m t.packet t.choices) (λ next. marks_at (queue_by h bucket) v bucket f next (if c then all_marks b ms (recorded f m t.packet t.choices) else ms) ts)) (sym x)
            (subst (λ (k : ℕ). marks_of (stops k) bucket f (parts k) ms (t ∷ of_queue (queue_by h bucket) k ts) ≡ marks_of (stops k) bucket f cut.next.state (all_marks b ms (recorded f m t.packet t.choices)) (of_queue (queue_by h bucket) k ts)) same left
            ∙ rec
            ∙ sym (ap (λ (o : Option StepResult). marks_if (all_marks b ms (recorded f m t.packet t.choices)) o (λ next. marks_at (queue_by h bucket) v bucket f next (all_marks b ms (recorded f m t.packet t.choices)) ts)) one.is))
        | inr other ↦
            let x : (u == v) ≡ false = ne_eqb _ _ other in
            let rec : marks_of (stops v) bucket f (parts v) ms (of_queue (queue_by h bucket) v ts) ≡ marks_at (queue_by h bucket) v bucket f one.first.state ms ts =
            subst (λ (c : Bool). marks_of (stops v) bucket f (if c then cut.next.state else parts v) ms (of_queue (queue_by h bucket) v ts) ≡ marks_at (queue_by h bucket) v bucket f one.first.state ms ts) x (lined.marks v ms) in
            subst (λ (c : Bool). marks_of (stops v) bucket f (parts v) ms (if c then t ∷ of_queue (queue_by h bucket) v ts else of_queue (queue_by h bucket) v ts)
            ≡ marks_if (if c then all_marks b ms (recorded f m t.packet t.choices) else ms) (step f m t.packet t.choices) (λ next. marks_at (queue_by h bucket) v bucket f next (if c then all_marks b ms (recorded f m t.packet t.choices) else ms) ts)) (sym x)
            (rec ∙ sym (ap (λ (o : Option StepResult). marks_if ms o (λ next. marks_at (queue_by h bucket) v bucket f next ms ts)) one.is))
      ];
      lines = (gives time ns m (parts u) t cut.next whole (a u) rising.0 stays.0.0 stays.0.1 own_here.0 cut.stepped, λ next e. subst (λ (x : StepResult). Throughout P f x.state ts) (same_Some _ _ (sym one.is ∙ e)) lined.lines);
      undivided = record {
        ran = record rest.ran { answers = one.first.done ∷ rest.ran.answers };
        is = run_from never f m t ts one.first rest.ran one.is rest.is;
        whole = subst (λ (o : Option StepResult). Whole h opened f.chains (last_time now ts) (numbers_if z o (λ next. numbers_of f next z ts)) rest.ran.state) (sym one.is) rest.whole;
        answers = λ v. elim (cases_eq u v) [
          | inl same ↦
              let b : (u == v) ≡ true = eq-eqb _ _ same in
              let mine_is : (runs v).answers ≡ cut.next.done ∷ cut.rest.answers = ap (λ (k : ℕ). (runs k).answers) (sym same) ∙ ap (λ (r : RunResult). r.answers) cut.is in
              let deep : cut.rest.answers ≡ answers_of (queue_by h bucket) v ts rest.ran.answers = subst (λ (c : Bool). (if c then cut.rest else runs v).answers ≡ answers_of (queue_by h bucket) v ts rest.ran.answers) b (rest.answers v) in
              subst (λ (c : Bool). (runs v).answers ≡ (if c then one.first.done ∷ answers_of (queue_by h bucket) v ts rest.ran.answers else answers_of (queue_by h bucket) v ts rest.ran.answers)) (sym b) (mine_is ∙ ap₂ (λ (x : Done) (xs : List Done). x ∷ xs) one.done deep)
          | inr other ↦
              let b : (u == v) ≡ false = ne_eqb _ _ other in
              subst (λ (c : Bool). (runs v).answers ≡ (if c then one.first.done ∷ answers_of (queue_by h bucket) v ts rest.ran.answers else answers_of (queue_by h bucket) v ts rest.ran.answers)) (sym b)
              (subst (λ (c : Bool). (if c then cut.rest else runs v).answers ≡ answers_of (queue_by h bucket) v ts rest.ran.answers) b (rest.answers v))
        ];
        each = λ v. elim (cases_eq u v) [
          | inl same ↦
              let b : (u == v) ≡ true = eq-eqb _ _ same in
              let mine_is : (runs v).state ≡ cut.rest.state = ap (λ (k : ℕ). (runs k).state) (sym same) ∙ ap (λ (r : RunResult). r.state) cut.is in
              subst (λ (x : State). Part h opened f.chains (last_time now ts) v rest.ran.state x) (sym mine_is)
              (subst (λ (c : Bool). Part h opened f.chains (last_time now ts) v rest.ran.state (if c then cut.rest else runs v).state) b (rest.each v))
          | inr other ↦
              let b : (u == v) ≡ false = ne_eqb _ _ other in
              subst (λ (c : Bool). Part h opened f.chains (last_time now ts) v rest.ran.state (if c then cut.rest else runs v).state) b (rest.each v)
        ];
        tops = λ n below top k.
            let w = rest.tops n below (top_step t.packet.time n u m one.first.state cut.next.state parts (below t.packet) one.rise top) k in (
              w.0,
              w.1,
              (elim (cases_eq u w.0) [
                | inl same ↦
                    let b : (u == w.0) ≡ true = eq-eqb _ _ same in
                    ap (λ (j : ℕ). (chain_at (runs j).state.chains k).greatest) (sym same) ∙ ap (λ (r : RunResult). (chain_at r.state.chains k).greatest) cut.is
                    ∙ subst (λ (c : Bool). (chain_at (if c then cut.rest else runs w.0).state.chains k).greatest ≡ (chain_at rest.ran.state.chains k).greatest) b w.2
                | inr other ↦
                    let b : (u == w.0) ≡ false = ne_eqb _ _ other in
                    subst (λ (c : Bool). (chain_at (if c then cut.rest else runs w.0).state.chains k).greatest ≡ (chain_at rest.ran.state.chains k).greatest) b w.2
              ]),
            );
      };
    }

-- own choices make own entries, queue by queue
pub takes_each : (owner : ℕ → ℕ → ℕ) (queue : Packet → ℕ) (stops : ℕ → Stops) (f : Function) (v : ℕ) (hs : List Handling) (s : State) → TakeOwn owner queue hs → MakeOwn owner queue (stops v) f s (of_queue queue v hs)
takes_each owner queue stops f v hs s own = takes_make owner queue (stops v) f (of_queue queue v hs) s (take_of_queue hs own)
  where
    of_one : (b : Bool) (h : Handling) (hs : List Handling) → TakeOwn owner queue (h ∷ hs) → TakeOwn owner queue (of_queue queue v hs) → TakeOwn owner queue (if b then h ∷ of_queue queue v hs else of_queue queue v hs)
    of_one true h hs own rest = (own.0, rest)
    of_one false h hs own rest = rest

    take_of_queue : (hs : List Handling) → TakeOwn owner queue hs → TakeOwn owner queue (of_queue queue v hs)
    take_of_queue [] own = tt
    take_of_queue (h ∷ hs) own = of_one (queue h.packet == v) h hs own (take_of_queue hs own.1)

pub undivided_runs : UndividedRuns
undivided_runs h stops bucket f hs runs knows halts rising stays own each =
    (runs_back h stops (λ s one. Unit {0}) (opened_of f) bucket f hs 0 no_numbers (opening f) (λ v. opening f) runs knows halts (λ time ns m part t q whole a le at told_all mine e. tt) (whole_opening h f) (λ v. part_opening h f v) rising stays
    (λ v. takes_each h.owner (queue_by h bucket) stops f v hs (opening f) own) each).undivided
