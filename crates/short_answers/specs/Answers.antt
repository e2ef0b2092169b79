-- What packets came to, as it is kept and as it is told.
use Rattle.std.specs.Prelude.{ℕ, ◌<◌, List, [], slice_index_or}
use Rattle.nf_base.specs.declared.done.Action.{Action}
use Rattle.nf_base.specs.declared.done.Action.TheVariants.{Skip}
use Rattle.nf_base.specs.declared.done.Done.{Done}
use Rattle.nf_base.specs.Step.{no_edits}
use Rattle.short_answers.specs.declared.answer.Answer.{Answer}
use Rattle.short_answers.specs.declared.answer.Answer.TheVariants as kept
use Rattle.short_answers.specs.declared.answer.Told.{Told}
use Rattle.short_answers.specs.declared.answer.Told.TheVariants as told

-- an answer that is an action alone
abbrev pub plain : Action → Done
plain action = record { action = action; edits = no_edits; picks = [] }

-- the answer that is kept so: an action alone, or the one at its place among those that are kept
-- whole
abbrev pub answer_in : List Done → Answer → Done
answer_in whole (kept.Plain action) = plain action
answer_in whole (kept.Whole place) = slice_index_or whole place (plain Skip)

-- of so many that are kept whole it is one
abbrev pub IsThere : ℕ → Answer → Type 0
IsThere count (kept.Plain action) = Unit {0}
IsThere count (kept.Whole place) = place < count

-- the answer that is told so
abbrev pub done_told : Told → Done
done_told (told.Plain action) = plain action
done_told (told.Whole done) = done.now
