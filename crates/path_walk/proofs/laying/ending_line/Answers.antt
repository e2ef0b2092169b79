use Rattle.path_walk.specs.declared.line.Line.TheVariants as line
use Rattle.path_walk.specs.Seen.{lines_seen}
use Rattle.path_walk.specs.Trees.{Leaf}
use Rattle.path_walk.proofs.LaidOut.{stop, if_put}
use Rattle.path_walk.proofs.laying.ending_line.Goals as goal

pub returns-in-Forward : goal.returns-in-Forward
returns-in-Forward c =
    let a = lines_seen c.args.lines.now.items in
    rw (c.in-Forward.is) (if_put c.put.result a a (lines_seen c.put.new.lines.items) line.Stop Leaf (stop a c.requires.laid) c.put.ensures)

pub returns-in-Flood : goal.returns-in-Flood
returns-in-Flood c =
    let a = lines_seen c.args.lines.now.items in
    rw (c.in-Flood.is) (if_put c.put-in-Flood.result a a (lines_seen c.put-in-Flood.new.lines.items) line.Stop Leaf (stop a c.requires.laid) c.put-in-Flood.ensures)

pub returns-in-Discard : goal.returns-in-Discard
returns-in-Discard c =
    let a = lines_seen c.args.lines.now.items in
    rw (c.in-Discard.is) (if_put c.put-in-Discard.result a a (lines_seen c.put-in-Discard.new.lines.items) line.Stop Leaf (stop a c.requires.laid) c.put-in-Discard.ensures)
