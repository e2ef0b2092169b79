use Rattle.std.proofs.Common.{◌≡◌, take}
use Rattle.toeplitz_hash.specs.Toeplitz.{toeplitz_of}
use Rattle.rss_table.proofs.byte_tables.KeyTable.hash.Given as goal

abbrev pub invariant-loop-i : goal.invariant-loop-i
invariant-loop-i l = l.hash ≡ toeplitz_of l.self (take l.i l.input)
