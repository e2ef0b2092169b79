-- What the process ends with.
use Rattle.std.specs.Prelude.{◌≡◌, Option}
use Rattle.std.specs.Process.{exit_status}
use Rattle.std.specs.declared.process.ExitCode.{ExitCode}
use Rattle.command_words.specs.Commands.{Command}
use Rattle.call_base.specs.declared.status.Status.{Status}
use Rattle.call_base.specs.Outside.{Outside}
use Rattle.call_base.specs.Statuses.{number_of_status}
use Rattle.maestro_cli.specs.Answer.{Answers}

-- the number of a status that answers the words
pub record Exits (Refused : Type 0) (command : Option Command) (before after : Outside) (code : ExitCode) : Type 0 where
  pub status : Status
  pub answers : Answers Refused command before after status
  pub number : exit_status code ≡ number_of_status status
