use Rattle.std.proofs.Common.{◌<◌, ℕ, get_or}
use Rattle.shard_machine.specs.declared.event.Event.{Event}
use Rattle.shard_core.specs.Plays.{IsValid}
use Rattle.shard_tests.proofs.playing.are_valid.Given as goal

-- the first events are valid
abbrev pub invariant-loop-i : goal.invariant-loop-i
invariant-loop-i l = (k : ℕ) (d : Event) → k < l.i → IsValid l.func l.workers (get_or l.events k d)
