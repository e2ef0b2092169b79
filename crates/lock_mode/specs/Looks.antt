-- What a look of a seat comes to.
use Rattle.nf_base.specs.declared.done.Done as answered
use Rattle.nf_engine.specs.declared.context.Look.{Look}
use Rattle.nf_engine.specs.declared.context.Look.TheVariants as look
use Rattle.lock_mode.specs.declared.look_result.LookResult.{LookResult}
use Rattle.lock_mode.specs.declared.look_result.LookResult.TheVariants.{Done, NeedsWrite, Refused}

-- what a look that was let in comes to
abbrev pub let_in : Look → LookResult
let_in (look.Done done) = Done done
let_in look.NeedsWrite = NeedsWrite

-- where a packet is done
abbrev pub IfDone : LookResult → (answered.Done → Type 0) → Type 0
IfDone (Done done) P = P done
IfDone NeedsWrite P = Unit {0}
IfDone Refused P = Unit {0}

-- where something would be written
abbrev pub IfNeedsWrite : LookResult → Type 0 → Type 0
IfNeedsWrite (Done done) P = Unit {0}
IfNeedsWrite NeedsWrite P = P
IfNeedsWrite Refused P = Unit {0}

-- where the gate refused
abbrev pub IfRefused : LookResult → Type 0 → Type 0
IfRefused (Done done) P = Unit {0}
IfRefused NeedsWrite P = Unit {0}
IfRefused Refused P = P
