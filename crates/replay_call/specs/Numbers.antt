-- Which file of a replay a number is.
use Rattle.std.specs.Prelude.{ℕ}
use Rattle.call_base.specs.declared.layout.FileOrder.TheVariants.{Read}
use Rattle.call_base.specs.Numbers.{Numbering}
use Rattle.call_base.specs.Layout as layout

-- Of so many ports the journal is opened behind the captures, and then the outputs in port order.
abbrev pub numbering : ℕ → ℕ → Numbering
numbering first ports = layout.numbering Read first ports ports
