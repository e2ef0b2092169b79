-- The run over one queue's packets, beside the run over all.
use Rattle.shard_laws.proofs.Traced.{steps_trace, entries_trace}
use Rattle.nf_base.specs.Record.{NewEntry}
use Rattle.std.proofs.Common.{◌≡◌, ℕ, Bool, true, false, ◌==◌, eq-eqb, ne_eqb, List, [], ◌∷◌, Some, if◌then◌else◌, refl, ap, ap₂, sym, ◌∙◌, subst, inl, inr}
use Rattle.std.specs.Option.{option_and_then}
use Rattle.std.proofs.lemmas.Option.{same_Some}
use Rattle.std.proofs.lemmas.Bool.{cases_eq}
use Rattle.nf_base.specs.declared.packet.Packet.{Packet}
use Rattle.nf_base.specs.declared.state.State.{State}
use Rattle.nf_base.specs.declared.done.Done.{Done}
use Rattle.nf_base.specs.Text.{Function}
use Rattle.nf_base.specs.Operations.{Stops, never}
use Rattle.nf_base.specs.Locations.{Numbers, all_numbers}
use Rattle.nf_base.specs.Step.{StepResult, step_by, recorded, record_of}
use Rattle.nf_base.specs.Runs.{Handling, RunResult, with_answer, run_by, run}
use Rattle.nf_laws.proofs.Parted.{Begins, begins}
use Rattle.shard_laws.specs.Homes.{Homes, KnowsWritten, entries_made, MadeOwn}
use Rattle.shard_laws.specs.Queues.{time_after, last_time, NeverFall, of_queue, answers_of, Throughout, MeetsNoFull, StayHome, queue_by, MakeOwn}
use Rattle.shard_laws.specs.Parts.{Whole, Part, HaltsOwn, OneOn}
use Rattle.shard_laws.proofs.Handled.{one_on}

-- a step and the run from where it leads
pub run_from : (stops : Stops) (f : Function) (s : State) (h : Handling) (hs : List Handling) (next : StepResult) (r : RunResult) → step_by stops f s h.packet h.choices ≡ Some next → run_by stops f next.state hs ≡ Some r → run_by stops f s (h ∷ hs) ≡ Some (record r { answers = next.done ∷ r.answers })
run_from stops f s h hs next r e g =
    ap (option_and_then (λ (x : StepResult). with_answer x.done (run_by stops f x.state hs))) e ∙ ap (with_answer next.done) g

-- the whole run beside the part of one queue
pub record EndsIn (h : Homes) (stops : Stops) (opened : ℕ → ℕ → ℕ) (queue : Packet → ℕ) (f : Function) (time w : ℕ) (part : State) (ts : List Handling) (r : RunResult) : Type 0 where
  pub ran : RunResult
  pub is : run_by stops f part (of_queue queue w ts) ≡ Some ran
  pub answers : ran.answers ≡ answers_of queue w ts r.answers
  pub part_of : Part h opened f.chains (last_time time ts) w r.state ran.state
  pub made : MakeOwn h.owner queue stops f part (of_queue queue w ts)

pub runs_on : (h : Homes) (stops : Stops) (opened : ℕ → ℕ → ℕ) (bucket : Packet → ℕ) (f : Function) (w : ℕ) (ts : List Handling) (time : ℕ) (ns : Numbers) (m part : State) (r : RunResult) → KnowsWritten h f → HaltsOwn h.owner w stops → Whole h opened f.chains time ns m → Part h opened f.chains time w m part → NeverFall time ts
    → StayHome h bucket f m ns ts → MakeOwn h.owner (queue_by h bucket) never f m ts → Throughout (MeetsNoFull f) f m ts → run f m ts ≡ Some r → EndsIn h stops opened (queue_by h bucket) f time w part ts r
runs_on h stops opened bucket f w [] time ns m part r knows halts whole a rising stay own full e =
    subst (λ (x : RunResult). EndsIn h stops opened (queue_by h bucket) f time w part [] x) (same_Some _ _ e)
    (record { ran = record { state = part; answers = [] }; is = refl; answers = refl; part_of = a; made = tt })
runs_on h stops opened bucket f w (t ∷ ts) time ns m part r knows halts whole a rising stay own full e =
    let cut : Begins never f m t ts r = begins never f m t ts r e in
    let now = time_after time t.packet in
    let z = all_numbers ns (recorded f m t.packet t.choices) in
    let one : OneOn h opened stops f time (queue_by h bucket t.packet) w ns m part t.packet t.choices t.packet.fields cut.next =
    one_on h opened stops f time (bucket t.packet) w ns m part t.packet t.choices t.packet.fields cut.next knows halts whole a rising.0 stay.0.0 stay.0.1 own.0 full.0 cut.stepped in
    let own_rest : MakeOwn h.owner (queue_by h bucket) never f cut.next.state ts = own.1 cut.next cut.stepped in
    let stay_rest : StayHome h bucket f cut.next.state z ts = stay.1 cut.next cut.stepped in
    let full_rest : Throughout (MeetsNoFull f) f cut.next.state ts = full.1 cut.next cut.stepped in
    subst (λ (x : RunResult). EndsIn h stops opened (queue_by h bucket) f time w part (t ∷ ts) x) (sym cut.is) (elim (cases_eq (queue_by h bucket t.packet) w) [
      | inl same ↦
          let q = one.own same in
          let rest : EndsIn h stops opened (queue_by h bucket) f now w q.next.state ts cut.rest = runs_on h stops opened bucket f w ts now z cut.next.state q.next.state cut.rest knows halts one.whole q.stays rising.1 stay_rest own_rest full_rest cut.ran in
          let here : (queue_by h bucket t.packet == w) ≡ true = eq-eqb _ _ same in
          record {
            ran = record rest.ran { answers = q.next.done ∷ rest.ran.answers };
            is = ap (λ (b : Bool). run_by stops f part (if b then t ∷ of_queue (queue_by h bucket) w ts else of_queue (queue_by h bucket) w ts)) here ∙ run_from stops f part t (of_queue (queue_by h bucket) w ts) q.next rest.ran q.stepped rest.is;
            answers = ap₂ (λ (x : Done) (xs : List Done). x ∷ xs) q.done rest.answers ∙ sym (ap (λ (b : Bool). if b then cut.next.done ∷ answers_of (queue_by h bucket) w ts cut.rest.answers else answers_of (queue_by h bucket) w ts cut.rest.answers) here);
            part_of = rest.part_of;
            made =
                let traced : entries_made (record_of never f m t.packet t.choices t.packet.fields) ≡ entries_made (record_of stops f part t.packet t.choices t.packet.fields) =
                steps_trace entries_made entries_trace false h (bucket t.packet) stops opened f time ns m part t.packet t.choices t.packet.fields cut.next q.next knows (subst (λ (v : ℕ). HaltsOwn h.owner v stops) (sym same) halts) whole
                (subst (λ (v : ℕ). Part h opened f.chains time v m part) (sym same) a) rising.0 stay.0.0 stay.0.1 ((λ x. (own.0, full.0)), λ x. cc) cut.stepped q.stepped in
                subst (λ (b : Bool). MakeOwn h.owner (queue_by h bucket) stops f part (if b then t ∷ of_queue (queue_by h bucket) w ts else of_queue (queue_by h bucket) w ts)) (sym here) (
                  subst (λ (es : List NewEntry). MadeOwn h.owner (queue_by h bucket t.packet) es) traced own.0,
                  λ next e. subst (λ (x : StepResult). MakeOwn h.owner (queue_by h bucket) stops f x.state (of_queue (queue_by h bucket) w ts)) (same_Some _ _ (sym q.stepped ∙ e)) rest.made,
                );
          }
      | inr other ↦
          let rest : EndsIn h stops opened (queue_by h bucket) f now w part ts cut.rest = runs_on h stops opened bucket f w ts now z cut.next.state part cut.rest knows halts one.whole (one.other other) rising.1 stay_rest own_rest full_rest cut.ran in
          let there : (queue_by h bucket t.packet == w) ≡ false = ne_eqb _ _ other in
          record {
            ran = rest.ran;
            is = ap (λ (b : Bool). run_by stops f part (if b then t ∷ of_queue (queue_by h bucket) w ts else of_queue (queue_by h bucket) w ts)) there ∙ rest.is;
            answers = rest.answers ∙ sym (ap (λ (b : Bool). if b then cut.next.done ∷ answers_of (queue_by h bucket) w ts cut.rest.answers else answers_of (queue_by h bucket) w ts cut.rest.answers) there);
            part_of = rest.part_of;
            made = subst (λ (b : Bool). MakeOwn h.owner (queue_by h bucket) stops f part (if b then t ∷ of_queue (queue_by h bucket) w ts else of_queue (queue_by h bucket) w ts)) (sym there) rest.made;
          }
    ])
