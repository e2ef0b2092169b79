-- Which file of a run over made-up traffic a number is, and why the call could not go on.
use Rattle.std.specs.Prelude.{ℕ, List}
use Rattle.nf_files.specs.Causes.{Counted, Asked}
use Rattle.call_base.specs.declared.layout.FileOrder.TheVariants.{Created}
use Rattle.call_base.specs.declared.status.CallFault.{CallFault}
use Rattle.call_base.specs.Layout.{numbering}
use Rattle.call_base.specs.Numbers.{Numbering, StopsBy}

-- Of so many ports the outputs are created in port order behind the text, then the journal, and the
-- state last: no capture is opened.
abbrev pub made_numbering : ℕ → ℕ → Numbering
made_numbering first ports = numbering Created first 0 ports

-- A call was stopped; the names that it had asked for then are the first of a list.
abbrev pub Stops : ℕ → ℕ → List Asked → Counted → Counted → CallFault → Type 0
Stops first ports = StopsBy (made_numbering first ports)
