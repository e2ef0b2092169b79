-- What the program answers: a relation of its words, of the files outside before and after, and of the status.
use Rattle.std.specs.Prelude.{◌≡◌, ◌⊎◌, [], Option, Some, None}
use Rattle.command_words.specs.Commands.{Run as RunAsked, Replay, Gen, Hash, Describe, Certify, Prove, Command, RunCommand, ReplayCommand, GenCommand, HashCommand, DescribeCommand, CertifyCommand, ProveCommand}
use Rattle.call_base.specs.declared.status.Refusal.TheVariants.{Text}
use Rattle.call_base.specs.declared.status.Status.{Status}
use Rattle.call_base.specs.declared.status.Status.TheVariants.{Done, Usage, Memory}
use Rattle.call_base.specs.Statuses.{end_status, refusal_status, stop_status}
use Rattle.call_base.specs.Outside.{Outside, HasOnlyAsked}
use Rattle.run_call.specs.Ending.{IsFinished, IsRefused, IsStopped}
use Rattle.replay_call.specs.ReplayEnd.{IsChecked, checked_status, IsRefused as IsUnjudged, IsStopped as IsCutOff}
use Rattle.gen_call.specs.Ending.{IsFinished as IsMade, IsRefused as IsUnmade, IsStopped as IsBrokenOff}
use Rattle.describe_call.specs.Described.{IsHashed, IsUnhashed, IsDescribed, IsNotDescribed, IsUndescribed}
use Rattle.certify_call.specs.Judgements.{judged_status}
use Rattle.certify_call.specs.Certifying.{IsJudged, IsNotJudged, IsUnjudged as IsStoppedJudging}
use Rattle.prove_call.specs.Proving.{IsProved, IsNotProved, IsUnproved}
use Rattle.call_base.specs.Printed.{Tells}

-- a way to end, which has this status
pub record Ends {E : Type 0} (status_of : E → Status) (Ends_so : E → Type 0) (status : Status) : Type 0 where
  pub how : E
  pub status_is : status ≡ status_of how
  pub ends : Ends_so how

-- what a run comes to: it finished, or was refused before it began, or was stopped
abbrev pub Runs : Type 0 → RunAsked → Outside → Outside → Status → Type 0
Runs Refused c before now status =
    Ends end_status (IsFinished Refused c before now) status
    ⊎ (Ends refusal_status (IsRefused c before now) status ⊎ Ends stop_status (IsStopped Refused c before now) status)

-- what a replay comes to: it ended, or was refused before it judged anything, or was stopped
abbrev pub Replays : Replay → Outside → Outside → Status → Type 0
Replays c before now status =
    Ends checked_status (IsChecked c before now) status
    ⊎ (Ends refusal_status (IsUnjudged c before now) status ⊎ Ends stop_status (IsCutOff c before now) status)

-- what a run over made-up traffic comes to: it finished, or was refused before it began, or was stopped
abbrev pub Gens : Type 0 → Gen → Outside → Outside → Status → Type 0
Gens Refused c before now status =
    Ends end_status (IsMade c Refused before now) status
    ⊎ (Ends refusal_status (IsUnmade c before now) status ⊎ Ends stop_status (IsBrokenOff c Refused before now) status)

-- what a hash comes to
abbrev pub Hashes : Hash → Outside → Outside → Status → Type 0
Hashes c before now status =
    ((status ≡ Done) × IsHashed c before now) ⊎ Ends stop_status (IsUnhashed c before now) status

-- what a text on a function comes to
abbrev pub Describes : Describe → Outside → Outside → Status → Type 0
Describes c before now status =
    ((status ≡ Done) × IsDescribed c before now)
    ⊎ (Ends (λ fault. refusal_status (Text fault)) (IsNotDescribed c before now) status
    ⊎ Ends stop_status (IsUndescribed c before now) status)

-- what judging a certificate comes to: it is right, or wrong at a line, or there is no function, or the
-- call was stopped
abbrev pub Certifies : Certify → Outside → Outside → Status → Type 0
Certifies c before now status =
    Ends judged_status (IsJudged c before now) status
    ⊎ (Ends (λ fault. refusal_status (Text fault)) (IsNotJudged c before now) status
    ⊎ Ends stop_status (IsStoppedJudging c before now) status)

-- what keys with a certificate come to: they were printed and the certificate written, or there is no
-- function, or the call was stopped
abbrev pub Proves : Prove → Outside → Outside → Status → Type 0
Proves c before now status =
    ((status ≡ Done) × IsProved c before now)
    ⊎ (Ends (λ fault. refusal_status (Text fault)) (IsNotProved c before now) status
    ⊎ Ends stop_status (IsUnproved c before now) status)

-- Words that are no command, and words that there was no memory to read: nothing was done.
abbrev pub Declines : Outside → Outside → Status → Status → Type 0
Declines before now due status = (status ≡ due) × HasOnlyAsked [] before now

-- what a command comes to, where the gate to shared tables may have refused, and words that are none
abbrev pub Comes : Type 0 → Option Command → Outside → Outside → Status → Type 0
Comes Refused None before now status = Declines before now Usage status
Comes Refused (Some (RunCommand c)) before now status = Runs Refused c before now status
Comes Refused (Some (ReplayCommand c)) before now status = Replays c before now status
Comes Refused (Some (GenCommand c)) before now status = Gens Refused c before now status
Comes Refused (Some (HashCommand c)) before now status = Hashes c before now status
Comes Refused (Some (DescribeCommand c)) before now status = Describes c before now status
Comes Refused (Some (CertifyCommand c)) before now status = Certifies c before now status
Comes Refused (Some (ProveCommand c)) before now status = Proves c before now status

-- the call came to its end, or memory ran out before the words were read
abbrev pub ComesTo : Type 0 → Option Command → Outside → Outside → Status → Type 0
ComesTo Refused command before now status = Comes Refused command before now status ⊎ Declines before now Memory status

-- The call came to its end, and then that was told on standard error.
pub record Answers (Refused : Type 0) (command : Option Command) (before after : Outside) (status : Status) : Type 0 where
  pub ended : Outside
  pub due : Status
  pub comes : ComesTo Refused command before ended due
  pub tells : Tells ended after due status
