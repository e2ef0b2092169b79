use Rattle.std.proofs.Common.{◌≡◌, take}
use Rattle.rss_table.proofs.byte_tables.ByteTables.new.Given as goal

-- those so far
abbrev pub invariant-loop-port : goal.invariant-loop-port
invariant-loop-port l = l.ports ≡ take l.port l.keys.ports
