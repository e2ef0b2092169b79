-- How the program ends: a run that nothing stopped, what was refused, and what was stopped.
use Rattle.std.specs.Prelude.{ℕ}
use Rattle.call_base.specs.declared.status.TextFault.{TextFault}
use Rattle.call_base.specs.declared.status.End.{End}
use Rattle.call_base.specs.declared.status.End.TheVariants as ends
use Rattle.call_base.specs.declared.status.Refusal.{Refusal}
use Rattle.call_base.specs.declared.status.Refusal.TheVariants as refusals
use Rattle.call_base.specs.declared.status.CallFault.{CallFault}
use Rattle.call_base.specs.declared.status.CallFault.TheVariants as stops
use Rattle.call_base.specs.declared.status.Status.{Status}
use Rattle.call_base.specs.declared.status.Status.TheVariants.{Done, Usage, Refused, FileFault, NotCapture, Torn, ShareFull, TooMany, NoKeys, Memory, Differs, ProofFails}

-- one number for each way to end
abbrev pub number_of_status : Status → ℕ
number_of_status Done = 0
number_of_status Usage = 1
number_of_status (Refused kind line column) = 2
number_of_status (FileFault file) = 3
number_of_status (NotCapture port) = 4
number_of_status (Torn port offset) = 5
number_of_status (ShareFull full) = 6
number_of_status (TooMany most) = 7
number_of_status (NoKeys why) = 8
number_of_status Memory = 9
number_of_status (Differs at) = 10
number_of_status (ProofFails line) = 11

-- the status of a run that ends so
abbrev pub end_status : End → Status
end_status ends.Whole = Done
end_status (ends.Torn port offset) = Torn port offset
end_status (ends.TooMany most) = TooMany most
end_status (ends.ShareFull full) = ShareFull full

-- the status of a call that is refused so
abbrev pub refusal_status : Refusal → Status
refusal_status refusals.Usage = Usage
refusal_status (refusals.Text fault) = Refused fault.kind fault.line fault.column
refusal_status (refusals.NoKeys why) = NoKeys why
refusal_status (refusals.NotCapture port) = NotCapture port

-- the status of a call that is stopped so
abbrev pub stop_status : CallFault → Status
stop_status (stops.File file) = FileFault file
stop_status stops.Memory = Memory
