-- The summary of a run over made-up traffic.
use Rattle.std.specs.Prelude.{ℕ, zero, suc, ◌+◌, ◌/◌, ◌%◌, List, [], ◌∷◌, ◌++◌, Option, Some, None, nat_lt, if◌then◌else◌, codes, decimal}
use Rattle.nf_base.specs.declared.decl.ChainDecl.{ChainDecl}
use Rattle.nf_base.specs.declared.state.Entry.{Entry}
use Rattle.nf_base.specs.declared.state.Chain.{Chain}
use Rattle.nf_base.specs.declared.state.State.{State}
use Rattle.nf_base.specs.Text.{Function}
use Rattle.run_history.specs.declared.line.Mode.{Mode}
use Rattle.run_history.specs.Line.{mode_word}

-- how many of so many packets come in at a port, where the ports take turns
abbrev pub count_at : ℕ → ℕ → ℕ → ℕ
count_at packets ports port = packets / ports + (if nat_lt port (packets % ports) then 1 else 0)

abbrev pub port_line : ℕ → ℕ → ℕ → List ℕ
port_line packets ports port = codes "port " ++ decimal port ++ codes " " ++ decimal (count_at packets ports port) ++ codes "\n"

-- the lines of so many ports from one on
abbrev pub port_lines : ℕ → ℕ → ℕ → ℕ → List ℕ
port_lines packets ports port zero = []
port_lines packets ports port (suc n) = port_line packets ports port ++ port_lines packets ports (port + 1) n

-- how many packets there were, and at each port, and how they were handled
abbrev pub numbers_text : ℕ → ℕ → Mode → ℕ → List ℕ
numbers_text packets ports mode workers =
    codes "packets " ++ decimal packets ++ codes "\n"
    ++ port_lines packets ports 0 ports
    ++ (codes "mode " ++ mode_word mode ++ codes " " ++ decimal workers ++ codes "\n")

-- how many indices of a chain have an entry
abbrev pub live : List (Option Entry) → ℕ
live [] = 0
live (None ∷ slots) = live slots
live (Some entry ∷ slots) = 1 + live slots

abbrev pub entries_line : ChainDecl → Chain → List ℕ
entries_line decl chain = codes "entries " ++ decl.name ++ codes " " ++ decimal (live chain.slots) ++ codes "\n"

abbrev pub entries_lines : List ChainDecl → List Chain → List ℕ
entries_lines [] chains = []
entries_lines (decl ∷ decls) [] = []
entries_lines (decl ∷ decls) (chain ∷ chains) = entries_line decl chain ++ entries_lines decls chains

-- how many records there are in all outputs, and how many entries in each chain
abbrev pub left_text : Function → ℕ → State → List ℕ
left_text f sent state = codes "sent " ++ decimal sent ++ codes "\n" ++ entries_lines f.chains state.chains
