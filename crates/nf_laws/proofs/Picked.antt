-- What a step picks.
use Rattle.std.proofs.Common.{◌≡◌, ℕ, List, [], ◌∷◌, Option, Some, None, slice_get, refl, ap, sym, ◌∙◌}
use Rattle.std.proofs.lemmas.Option.{same_Some}
use Rattle.nf_base.specs.Doors.{handler_at}
use Rattle.nf_base.specs.Families.{door_of}
use Rattle.nf_base.specs.declared.packet.Packet.{Packet}
use Rattle.nf_base.specs.declared.packet.Fields.{Fields}
use Rattle.nf_base.specs.declared.state.State.{State}
use Rattle.nf_base.specs.declared.done.Action.{Action}
use Rattle.nf_base.specs.Text.{Function}
use Rattle.nf_base.specs.Context.{Context}
use Rattle.nf_base.specs.Operations.{Stops}
use Rattle.nf_base.specs.Course.{Completion, Normal, Ended, NoStep, StoppedAt}
use Rattle.nf_base.specs.Step.{StepResult, if_none_left, step_result, skipped, completes, step_of}
use Rattle.nf_laws.specs.Steps.{StepsPickTheirChoices, OneStepAtMost, SkippedIsNothing}

none_left : (choices left : List ℕ) (c : Context) (a : Action) (r : StepResult) → if_none_left choices left c a ≡ Some r → r.done.picks ≡ choices
none_left choices [] c a r e = ap (λ (x : StepResult). x.done.picks) (sym (same_Some _ _ e))
none_left choices (i ∷ left) c a r e = cc

of_completion : (choices : List ℕ) (w : Completion) (r : StepResult) → step_result choices w ≡ Some r → r.done.picks ≡ choices
of_completion choices (Normal c) r e = none_left choices c.left c _ r e
of_completion choices (Ended a c) r e = none_left choices c.left c a r e
of_completion choices NoStep r e = cc
of_completion choices (StoppedAt chain left) r e = cc

of_fields : (stops : Stops) (f : Function) (s : State) (packet : Packet) (choices : List ℕ) (fields : Option Fields) (r : StepResult) → step_of stops f s packet choices fields ≡ Some r → r.done.picks ≡ choices
of_fields stops f s packet [] None r e = ap (λ (x : StepResult). x.done.picks) (sym (same_Some _ _ e))
of_fields stops f s packet (i ∷ choices) None r e = cc
of_fields stops f s packet choices (Some fields) r e = of_completion choices (completes stops f s packet.time fields choices (handler_at f (door_of packet.id.port fields))) r e

pub steps_pick : StepsPickTheirChoices
steps_pick stops f s packet choices r e = of_fields stops f s packet choices packet.fields r e

pub one_step : OneStepAtMost
one_step f s packet choices a b e q = same_Some a b (sym e ∙ q)

skipped_takes : (s : State) (choices : List ℕ) (r : StepResult) → skipped s choices ≡ Some r → choices ≡ []
skipped_takes s [] r e = refl
skipped_takes s (i ∷ choices) r e = cc

pub skipped_nothing : SkippedIsNothing
skipped_nothing f s packet none = record {
  one = rw none refl;
  only = λ choices r q. skipped_takes s choices r (rw none at q);
  untouched = λ numbers choices. rw none refl;
  unnumbered = λ numbers choices. rw none refl;
}
