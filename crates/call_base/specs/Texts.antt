-- What is printed.
use Rattle.std.specs.Prelude.{ℕ, List, [], ◌++◌, codes, decimal}
use Rattle.nf_syntax.specs.declared.fault.SyntaxKind.TheVariants as syntax
use Rattle.nf_types.specs.declared.fault.TypingKind.TheVariants as typing
use Rattle.call_base.specs.Named.{name_bytes}
use Rattle.call_base.specs.declared.status.Fault.{Fault}
use Rattle.call_base.specs.declared.status.Fault.TheVariants as kinds
use Rattle.call_base.specs.declared.status.RunFile.{RunFile}
use Rattle.call_base.specs.declared.status.RunFile.TheVariants.{Nf, Capture, Journal, Output, OutJournal, State, Proof, Stdout, Stderr}
use Rattle.nf_base.specs.declared.packet.PacketId.{PacketId}
use Rattle.run_history.specs.declared.line.Mode.{Mode}
use Rattle.run_history.specs.Line.{mode_word}
use Rattle.shard_rules.specs.Rules.{rule_word}
use Rattle.call_base.specs.declared.status.FullShare.{FullShare}
use Rattle.call_base.specs.declared.status.NoKeys.{NoKeys as Cause}
use Rattle.call_base.specs.declared.status.NoKeys.TheVariants as cause
use Rattle.call_base.specs.declared.status.Difference.{Difference}
use Rattle.call_base.specs.declared.status.Difference.TheVariants as differing
use Rattle.call_base.specs.declared.status.Status.{Status}
use Rattle.call_base.specs.declared.status.Status.TheVariants.{Done, Usage, Refused, FileFault, NotCapture, Torn, ShareFull, TooMany, NoKeys, Memory, Differs, ProofFails}

-- how a file of a run is called in a fault's line
abbrev pub file_text : RunFile → List ℕ
file_text Nf = codes "nf"
file_text (Capture port) = codes "capture " ++ decimal port
file_text Journal = codes "journal"
file_text (Output port) = codes "output " ++ decimal port
file_text OutJournal = codes "out journal"
file_text State = codes "state"
file_text Proof = codes "proof"
file_text Stdout = codes "stdout"
file_text Stderr = codes "stderr"

-- what a file fault begins with
unfoldable pub fault_title : List ℕ
fault_title = codes "file fault: "

-- the name of a kind of fault
abbrev pub kind_text : Fault → List ℕ
kind_text (kinds.Syntax syntax.Byte) = codes "S1"
kind_text (kinds.Syntax syntax.Number) = codes "S2"
kind_text (kinds.Syntax syntax.Token) = codes "S3"
kind_text (kinds.Syntax syntax.End) = codes "S4"
kind_text (kinds.Syntax syntax.Limit) = codes "S5"
kind_text (kinds.Typing typing.Unknown) = codes "T01"
kind_text (kinds.Typing typing.Twice) = codes "T02"
kind_text (kinds.Typing typing.Amount) = codes "T03"
kind_text (kinds.Typing typing.FreeColumn) = codes "T04"
kind_text (kinds.Typing typing.ReadOnly) = codes "T05"
kind_text (kinds.Typing typing.NotInScope) = codes "T06"
kind_text (kinds.Typing typing.Limit) = codes "T07"
kind_text (kinds.Typing typing.NoHandler) = codes "T08"
kind_text (kinds.Typing typing.OtherFamily) = codes "T09"
kind_text kinds.TooManyPaths = codes "P1"

-- a packet, by its port and its number there
abbrev pub packet_text : PacketId → List ℕ
packet_text id = decimal id.port ++ codes " " ++ decimal id.seq

-- a packet of a queue
abbrev pub queued_text : ℕ → PacketId → List ℕ
queued_text queue id = codes ", queue " ++ decimal queue ++ codes ", packet " ++ packet_text id

-- where a share of a chain is full
abbrev pub full_text : FullShare → List ℕ
full_text full =
    codes "share full: chain " ++ name_bytes full.chain ++ queued_text full.queue full.packet

-- why there are no keys
abbrev pub cause_text : Cause → List ℕ
cause_text (cause.Object name rule) = name_bytes name ++ codes " " ++ rule_word rule
cause_text cause.Hash = codes "hash"

-- where a journal or the outputs beside it differ
abbrev pub difference_text : Difference → List ℕ
difference_text (differing.Line line) = codes "line " ++ decimal line
difference_text (differing.Output port) = codes "output " ++ decimal port

-- what a status says
abbrev pub status_words : Status → List ℕ
status_words Done = []
status_words Usage = codes "bad command line"
status_words (Refused kind line column) = codes "refused " ++ kind_text kind ++ codes " at " ++ decimal line ++ codes ":" ++ decimal column
status_words (FileFault file) = fault_title ++ file_text file
status_words (NotCapture port) = codes "capture " ++ decimal port ++ codes " has no pcap header"
status_words (Torn port offset) = codes "capture " ++ decimal port ++ codes " is torn at byte " ++ decimal offset
status_words (ShareFull full) = full_text full
status_words (TooMany most) = codes "more than " ++ decimal most ++ codes " packets"
status_words (NoKeys why) = codes "no keys: " ++ cause_text why
status_words Memory = codes "out of memory"
status_words (Differs at) = codes "replay differs at " ++ difference_text at
status_words (ProofFails line) = codes "proof fails at line " ++ decimal line

-- the line on standard error of a status that is no success
abbrev pub error_line : Status → List ℕ
error_line status = codes "maestro: " ++ status_words status ++ codes "\n"

-- what an end says on standard error: its line, and nothing where it is a success
abbrev pub said_of : Status → List ℕ
said_of Done = []
said_of status = error_line status

-- the line on standard output of a run of so many packets, in a mode, by so many workers
abbrev pub ran_line : ℕ → Mode → ℕ → List ℕ
ran_line packets mode workers =
    codes "ran " ++ decimal packets ++ codes " " ++ mode_word mode
    ++ codes " " ++ decimal workers ++ codes "\n"
