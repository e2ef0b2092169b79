-- What a handler's run comes to, as a step.
use Rattle.std.proofs.Common.{◌≡◌, ◌||◌, Bool, true, false, ℕ, zero, suc, ◌<◌, List, [], ◌∷◌, length, drop, get_or, map, Some, None, Err, refl, ap, sym, ◌∙◌, arith, slice_get}
use Rattle.std.proofs.lemmas.Option.{slice_get_read, slice_get-map}
use Rattle.nf_base.specs.declared.done.Action.{Action}
use Rattle.nf_base.specs.declared.packet.Fields.{Fields}
use Rattle.nf_base.specs.declared.state.State.{State}
use Rattle.nf_base.specs.Context as meant
use Rattle.nf_base.specs.Course.{NoStep, exec, events}
use Rattle.nf_base.specs.Record.{answers_full}
use Rattle.nf_base.specs.Operations.{never}
use Rattle.nf_base.specs.Step.{step_result, if_none_left, input, start_context}
use Rattle.nf_base.specs.Text.{Block, Function}
use Rattle.nf_base.specs.View.{block_of}
use Rattle.nf_meaning.specs.declared.context.Context.{Context}
use Rattle.nf_meaning.specs.declared.context.Input.{Input}
use Rattle.nf_meaning.specs.declared.context.Flow.{Flow}
use Rattle.nf_meaning.specs.declared.context.Flow.TheVariants.{Falls, Ends}
use Rattle.nf_meaning.specs.declared.fault.StepFault.{StepFault}
use Rattle.nf_meaning.specs.declared.fault.StepFault.TheVariants.{BadChoice, Memory}
use Rattle.nf_meaning.specs.Choices.{context_by}
use Rattle.nf_meaning.specs.Course.{Went, record_after}
use Rattle.nf_meaning.specs.View.{context_of, input_of, completion_of, action_of}
use Rattle.nf_meaning.specs.Whole.{Starts, Runs, handled, told}

-- a choice is left over
pub left_over : (all left : List ℕ) (n : ℕ) (c : meant.Context) (a : Action) → n < length left → if_none_left all (drop n left) c a ≡ None
left_over all [] n c a lt = absurd (omega arith)
left_over all (i ∷ left) zero c a lt = refl
left_over all (i ∷ left) (suc n) c a lt = left_over all left n c a (omega arith)

-- the answer of a handler that ended
ended : (all left : List ℕ) (flow : Flow) (c : Context) → step_result all (completion_of flow (context_of left c)) ≡ if_none_left all left (context_of [] c) (action_of flow)
ended all [] Falls c = refl
ended all [] (Ends a) c = refl
ended all (i ∷ left) Falls c = refl
ended all (i ∷ left) (Ends a) c = refl

-- the handler begins where it starts
starts : (f : Function) (s : State) (time : ℕ) (start : Context) (all : List ℕ) → Starts start (start_context f s time) → context_by all start ≡ start_context f s time all
starts f s time start all h = rw h.picks (h.same all)

pub comes_to_end : (f : Function) (s : State) (time : ℕ) (fields : Fields) (b : Block) (p : meant.Input) (start new : Context) (flow : Flow) (all : List ℕ) → p ≡ input f time fields → Starts start (start_context f s time) → exec never p b (context_by all start) ≡ completion_of flow (context_by all new) → handled f s time fields b all ≡ if_none_left all (drop (length new.picks) all) (context_of [] new) (action_of flow)
comes_to_end f s time fields b p start new flow all same begins goes =
    ap (λ (q : meant.Input). step_result all (exec never q b (start_context f s time all))) (sym same)
    ∙ ap (λ (c : meant.Context). step_result all (exec never p b c)) (sym (starts f s time start all begins))
    ∙ ap (step_result all) goes
    ∙ ended all (drop (length new.picks) all) flow new

comes_to_none : (f : Function) (s : State) (time : ℕ) (fields : Fields) (b : Block) (p : meant.Input) (start : Context) (all : List ℕ) → p ≡ input f time fields → Starts start (start_context f s time) → exec never p b (context_by all start) ≡ NoStep → handled f s time fields b all ≡ None
comes_to_none f s time fields b p start all same begins goes =
    ap (λ (q : meant.Input). step_result all (exec never q b (start_context f s time all))) (sym same)
    ∙ ap (λ (c : meant.Context). step_result all (exec never p b c)) (sym (starts f s time start all begins))
    ∙ ap (step_result all) goes

pub comes_to_fault : (f : Function) (s : State) (time : ℕ) (fields : Fields) (b : Block) (p : Input) (start new : Context) (fault : StepFault) → input_of p ≡ input f time fields → Starts start (start_context f s time) → Went (Err fault) p b start new → Runs (Err fault) p.choices (handled f s time fields b) (told f s time fields b)
comes_to_fault f s time fields b p start new BadChoice same begins goes =
    (new.picks, goes.given, λ all may. comes_to_none f s time fields b (input_of p) start all same begins (goes.none all may))
comes_to_fault f s time fields b p start new Memory same begins goes = tt

or_nothing : (b : Bool) → (b || false) ≡ b
or_nothing true = refl
or_nothing false = refl

nothing_after : (flow : Flow) → record_after flow [] ≡ []
nothing_after Falls = refl
nothing_after (Ends a) = refl

-- whether some `new` answered full, to the end of the handler
pub tells_full : (f : Function) (s : State) (time : ℕ) (fields : Fields) (b : Block) (p : meant.Input) (start new : Context) (flow : Flow) (all : List ℕ) → p ≡ input f time fields → Starts start (start_context f s time) → (start.full || answers_full (events never p b (context_by all start) (λ c. []))) ≡ (new.full || answers_full (record_after flow [])) → answers_full (told f s time fields b all) ≡ new.full
tells_full f s time fields b p start new flow all same begins tells =
    ap (λ (q : meant.Input). answers_full (events never q b (start_context f s time all) (λ c. []))) (sym same)
    ∙ ap (λ (c : meant.Context). answers_full (events never p b c (λ d. []))) (sym (starts f s time start all begins))
    ∙ ap (λ full. full || answers_full (events never p b (context_by all start) (λ c. []))) (sym begins.full)
    ∙ tells
    ∙ ap (λ es. new.full || answers_full es) (nothing_after flow)
    ∙ or_nothing new.full
