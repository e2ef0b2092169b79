-- What a `new` makes, by its labels.
use Rattle.std.proofs.Common.{◌≡◌, ℕ, List, [], ◌∷◌, ◌++◌, length, drop, map}
use Rattle.nf_base.specs.Context as meant
use Rattle.nf_base.specs.Context.{given}
use Rattle.nf_base.specs.Operations as step
use Rattle.nf_base.specs.Text.{Creation}
use Rattle.nf_meaning.specs.declared.context.Context.{Context}
use Rattle.nf_meaning.specs.declared.creation.NewResult.TheVariants.{Made}
use Rattle.nf_meaning.specs.View.{context_of}
use Rattle.nf_meaning.specs.Choices.{Choices}
use Rattle.nf_meaning.specs.Course.{ComesTo, Makes, result_with, new_with}

pub is_made : (p : meant.Input) (choices : Choices) (n : Creation) (old new : Context) (labels : List ℕ) (i : ℕ) → labels ≡ map (given p (context_of [] old)) n.labels → ComesTo (Made i) choices old.picks (result_with p (context_of [] old) n.chain labels) → new.picks ≡ old.picks ++ i ∷ [] → new.full ≡ old.full → ((left : List ℕ) → new_with p (context_of (i ∷ left) old) n labels i ≡ context_of left new) → Makes (Made i) choices old new (λ c. step.new_result step.never p c n) (λ c. step.with_new p c n)
is_made p choices n old new labels i are comes picks full made = (
  picks,
  full,
  λ all h.
      let next = comes all (rw picks at h) in
      let left = drop (length new.picks) all in
      let at_left : drop (length old.picks) all ≡ i ∷ left = rw picks next.1 in
      let meant : result_with p (context_of [] old) n.chain labels (drop (length old.picks) all) ≡ step.Made i = next.2 in
      (next.0, rw are at meant, rw at_left (rw are at (made left))),
)
