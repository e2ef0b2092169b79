-- Which calls on files failed, by the status of a call.
use Rattle.std.specs.Prelude.{◌≡◌, ℕ, ◌≤◌, List, length, Option, Some, None}
use Rattle.nf_base.specs.Text.{Function}
use Rattle.nf_files.specs.Told.{Told}
use Rattle.nf_files.specs.Causes.{Counted, Rose, FirstAfter}
use Rattle.command_words.specs.Commands.{Command, RunCommand, ReplayCommand, GenCommand, HashCommand, DescribeCommand, CertifyCommand, ProveCommand}
use Rattle.call_base.specs.declared.status.RunFile.{RunFile}
use Rattle.call_base.specs.declared.status.RunFile.TheVariants.{Nf, Capture, Journal, Output, OutJournal, State, Proof, Stdout, Stderr}
use Rattle.call_base.specs.declared.status.Status.{Status}
use Rattle.call_base.specs.declared.status.Status.TheVariants.{Done, Usage, Refused, FileFault, NotCapture, Torn, ShareFull, TooMany, NoKeys, Memory, Differs, ProofFails}
use Rattle.call_base.specs.Layout.{run_numbering}
use Rattle.call_base.specs.Numbers.{Numbering}
use Rattle.call_base.specs.Source.{IsFunctionUnder}
use Rattle.replay_call.specs.Numbers.{numbering as replay_numbering}
use Rattle.gen_call.specs.Numbers.{made_numbering}

-- no fault was counted, and no name is missing that wasn't
pub record CountsNone (old new : Counted) : Type 0 where
  pub faults : new.faults ≡ old.faults
  pub first : new.first ≡ old.first
  pub missing : new.missing ≡ old.missing

-- faults were counted, the first of them on the file of a number
pub record CountsSome (old new : Counted) (number : ℕ) : Type 0 where
  pub later : old.faults ≤ new.faults
  pub rose : Rose old.faults new.faults
  pub first : FirstAfter old.first number new.first

-- which file of a command has which number, where its first file gets this one; made-up traffic has so
-- many ports, which no capture tells
abbrev pub numbering_of : ℕ → ℕ → Option Command → Numbering
numbering_of first ports None = run_numbering first 0
numbering_of first ports (Some (RunCommand c)) = run_numbering first (length c.captures)
numbering_of first ports (Some (ReplayCommand c)) = replay_numbering first (length c.captures)
numbering_of first ports (Some (GenCommand c)) = made_numbering first ports
numbering_of first ports (Some (HashCommand c)) = run_numbering first 0
numbering_of first ports (Some (DescribeCommand c)) = run_numbering first 0
numbering_of first ports (Some (CertifyCommand c)) = run_numbering first 0
numbering_of first ports (Some (ProveCommand c)) = run_numbering first 0

-- A file fault tells the file of the first fault, by its number; at no other status was a fault counted.
abbrev pub HasStatusCause : Numbering → Counted → Counted → Status → Type 0
HasStatusCause numbering old new (FileFault file) = CountsSome old new (numbering.number_of file)
HasStatusCause numbering old new Done = CountsNone old new
HasStatusCause numbering old new Usage = CountsNone old new
HasStatusCause numbering old new (Refused kind line column) = CountsNone old new
HasStatusCause numbering old new (NotCapture port) = CountsNone old new
HasStatusCause numbering old new (Torn port offset) = CountsNone old new
HasStatusCause numbering old new (ShareFull full) = CountsNone old new
HasStatusCause numbering old new (TooMany most) = CountsNone old new
HasStatusCause numbering old new (NoKeys why) = CountsNone old new
HasStatusCause numbering old new Memory = CountsNone old new
HasStatusCause numbering old new (Differs at) = CountsNone old new
HasStatusCause numbering old new (ProofFails line) = CountsNone old new

-- So many ports has a function that stands under a name.
pub record HasSoManyPorts (told : Told) (name : List ℕ) (ports : ℕ) : Type 0 where
  pub function : Function
  pub is_function : IsFunctionUnder told name function
  pub as_many : ports ≡ length function.handlers

-- where a file is one that a run creates, a function stood under its name, and had so many ports
abbrev pub KnowsPorts : Told → List ℕ → ℕ → RunFile → Type 0
KnowsPorts told name ports (Output port) = HasSoManyPorts told name ports
KnowsPorts told name ports OutJournal = HasSoManyPorts told name ports
KnowsPorts told name ports State = HasSoManyPorts told name ports
KnowsPorts told name ports Nf = Unit {0}
KnowsPorts told name ports (Capture port) = Unit {0}
KnowsPorts told name ports Journal = Unit {0}
KnowsPorts told name ports Proof = Unit {0}
KnowsPorts told name ports Stdout = Unit {0}
KnowsPorts told name ports Stderr = Unit {0}

-- the same of a file fault; no other status tells a file
abbrev pub KnowsPortsAt : Told → List ℕ → ℕ → Status → Type 0
KnowsPortsAt told name ports (FileFault file) = KnowsPorts told name ports file
KnowsPortsAt told name ports Done = Unit {0}
KnowsPortsAt told name ports Usage = Unit {0}
KnowsPortsAt told name ports (Refused kind line column) = Unit {0}
KnowsPortsAt told name ports (NotCapture port) = Unit {0}
KnowsPortsAt told name ports (Torn port offset) = Unit {0}
KnowsPortsAt told name ports (ShareFull full) = Unit {0}
KnowsPortsAt told name ports (TooMany most) = Unit {0}
KnowsPortsAt told name ports (NoKeys why) = Unit {0}
KnowsPortsAt told name ports Memory = Unit {0}
KnowsPortsAt told name ports (Differs at) = Unit {0}
KnowsPortsAt told name ports (ProofFails line) = Unit {0}

-- made-up traffic has the ports of its function; those of other commands are told by their captures
abbrev pub ArePortsOf : Told → Option Command → ℕ → Status → Type 0
ArePortsOf told (Some (GenCommand c)) ports status = KnowsPortsAt told c.function ports status
ArePortsOf told None ports status = Unit {0}
ArePortsOf told (Some (RunCommand c)) ports status = Unit {0}
ArePortsOf told (Some (ReplayCommand c)) ports status = Unit {0}
ArePortsOf told (Some (HashCommand c)) ports status = Unit {0}
ArePortsOf told (Some (DescribeCommand c)) ports status = Unit {0}
ArePortsOf told (Some (CertifyCommand c)) ports status = Unit {0}
ArePortsOf told (Some (ProveCommand c)) ports status = Unit {0}

-- So it is with the numbers of a command's files, as it was told before.
pub record HasCallCause (told : Told) (command : Option Command) (old new : Counted) (status : Status) : Type 0 where
  pub ports : ℕ
  pub of_function : ArePortsOf told command ports status
  pub cause : HasStatusCause (numbering_of told.next ports command) old new status
