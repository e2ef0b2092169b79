-- How long a line can be.
use Rattle.std.proofs.Common.{◌≡◌, ℕ, ◌*◌, ◌<◌, ◌≤◌, ◌^◌, List, [], ◌∷◌, ◌++◌, length, refl, length-append, arith}
use Rattle.std.specs.Prelude.{codes, decimal}
use Rattle.std.specs.List.{AllByRecursion}
use Rattle.std.proofs.lemmas.Fmt.{length-decimal-le}
use Rattle.nf_base.specs.declared.done.Action.{Action}
use Rattle.nf_base.specs.declared.done.Action.TheVariants.{Skip, Drop, To, Flood}
use Rattle.nf_base.specs.declared.card.Card.{Card}
use Rattle.nf_base.specs.Cards.{entries, key_bytes}
use Rattle.run_history.specs.declared.version.Version.{Version}
use Rattle.run_history.specs.declared.version.Version.TheVariants.{First, Second}
use Rattle.run_history.specs.declared.line.Mode.{Mode}
use Rattle.run_history.specs.declared.line.Mode.TheVariants.{One, Shard, Lock}
use Rattle.run_history.specs.declared.line.JournalLine.{JournalLine}
use Rattle.run_history.specs.declared.line.JournalLine.TheVariants.{Header, Packet}
use Rattle.run_history.specs.Headings.{version_of}
use Rattle.run_history.specs.Line.{journal_title, sizes_words, mode_word, action_word, choices_word, more_choices, line_bytes}
use Rattle.run_history.specs.Lines.{IsShort, IsAction, IsLine}
use Rattle.run_history.proofs.Cards.{entries_short, bytes_short}

decimal_short : (n : ℕ) → n < 2 ^ 32 → length (decimal n) ≤ 10
decimal_short n h = length-decimal-le 10 n (omega arith) (omega arith) (omega arith)

title_long : (version : Version) → length (journal_title version) ≡ 18
unfolding journal_title
title_long First = refl
title_long Second = refl

sizes_short : (version : Version) (c : Card) → length (sizes_words version c) ≤ 22
sizes_short First c = omega arith
sizes_short Second c =
    omega (arith, length-append (decimal (entries c.table)) (codes " " ++ decimal (key_bytes c.key)), decimal_short (entries c.table) (entries_short c.table), decimal_short (key_bytes c.key) (bytes_short c.key))

mode_short : (m : Mode) → length (mode_word m) ≤ 5
mode_short One = omega arith
mode_short Shard = omega arith
mode_short Lock = omega arith

action_short : (a : Action) → IsAction a → length (action_word a) ≤ 13
action_short Skip h = omega arith
action_short Drop h = omega arith
action_short Flood h = omega arith
action_short (To port) h = omega (arith, length-append (codes "to:") (decimal port), decimal_short port h)

more_short : (is : List ℕ) → AllByRecursion IsShort is → length (more_choices is) ≤ 11 * length is
more_short [] h = omega arith
more_short (i ∷ is) h = omega (arith, length-append (codes ",") (decimal i ++ more_choices is), length-append (decimal i) (more_choices is), decimal_short i h.0, more_short is h.1)

choices_short : (is : List ℕ) → length is ≤ 16 → AllByRecursion IsShort is → length (choices_word is) ≤ 175
choices_short [] few h = omega arith
choices_short (i ∷ is) few h = omega (arith, length-append (decimal i) (more_choices is), decimal_short i h.0, more_short is h.1)

-- a line has fewer bytes than this
pub line_short : (line : JournalLine) → IsLine line → length (line_bytes line) < 512
line_short (Header h) p = simp length-append (omega (arith, title_long (version_of h.card), mode_short h.mode, decimal_short h.workers (omega (arith, p.most)), sizes_short (version_of h.card) h.card))
line_short (Packet id worker action picks) p =
    simp length-append (omega (arith, decimal_short id.port p.port, decimal_short id.seq p.seq, decimal_short worker p.handled_by, action_short action p.goes, choices_short picks p.choices.few p.choices.short))
