-- The text of a journal's line.
use Rattle.std.specs.Prelude.{ℕ, List, [], ◌∷◌, ◌++◌, codes, decimal}
use Rattle.nf_base.specs.declared.done.Action.{Action}
use Rattle.nf_base.specs.declared.done.Action.TheVariants.{Skip, Drop, To, Flood}
use Rattle.nf_base.specs.declared.packet.PacketId.{PacketId}
use Rattle.nf_base.specs.declared.card.Card.{Card}
use Rattle.nf_base.specs.Cards.{entries, key_bytes}
use Rattle.run_history.specs.declared.version.Version.{Version}
use Rattle.run_history.specs.declared.version.Version.TheVariants.{First, Second}
use Rattle.run_history.specs.Headings.{version_of}
use Rattle.run_history.specs.declared.line.Mode.{Mode}
use Rattle.run_history.specs.declared.line.Mode.TheVariants.{One, Shard, Lock}
use Rattle.run_history.specs.declared.line.JournalLine.{JournalLine}
use Rattle.run_history.specs.declared.line.JournalLine.TheVariants.{Header, Packet}

abbrev pub mode_word : Mode → List ℕ
mode_word One = codes "one"
mode_word Shard = codes "shard"
mode_word Lock = codes "lock"

abbrev pub action_word : Action → List ℕ
action_word Skip = codes "skip"
action_word Drop = codes "drop"
action_word Flood = codes "flood"
action_word (To port) = codes "to:" ++ decimal port

abbrev pub more_choices : List ℕ → List ℕ
more_choices [] = []
more_choices (i ∷ is) = codes "," ++ decimal i ++ more_choices is

-- the indices joined by commas, or a dash
abbrev pub choices_word : List ℕ → List ℕ
choices_word [] = codes "-"
choices_word (i ∷ is) = decimal i ++ more_choices is

-- what every journal begins with: its name, and the number of its format
unfoldable pub journal_title : Version → List ℕ
journal_title First = codes "maestro journal 1 "
journal_title Second = codes "maestro journal 2 "

-- how many entries the table of a card has, and how many bytes its keys
abbrev pub card_words : Card → List ℕ
card_words card = decimal (entries card.table) ++ (codes " " ++ decimal (key_bytes card.key))

-- what a version tells of the card
abbrev pub sizes_words : Version → Card → List ℕ
sizes_words First card = []
sizes_words Second card = codes " " ++ card_words card

abbrev pub header_line : Mode → ℕ → Card → List ℕ
header_line mode workers card =
    journal_title (version_of card) ++ mode_word mode ++ codes " " ++ decimal workers ++ sizes_words (version_of card) card ++ codes "\n"

-- which packet it was, and who handled it
abbrev pub numbers_word : PacketId → ℕ → List ℕ
numbers_word id worker = decimal id.port ++ codes " " ++ decimal id.seq ++ codes " " ++ decimal worker ++ codes " "

abbrev pub packet_line : PacketId → ℕ → Action → List ℕ → List ℕ
packet_line id worker action picks = numbers_word id worker ++ action_word action ++ codes " " ++ choices_word picks ++ codes "\n"

abbrev pub line_bytes : JournalLine → List ℕ
line_bytes (Header heading) = header_line heading.mode heading.workers heading.card
line_bytes (Packet id worker action picks) = packet_line id worker action picks
