use Rattle.std.proofs.Common.{arith}
use Rattle.nf_sites.specs.Sites.{statement_sites}
use Rattle.path_walk.specs.Order.{head_seen}
use Rattle.access_keys.proofs.Putting.{puts_all}
use Rattle.access_keys.proofs.statement.put_statements.Goals as goal

pub returns : goal.returns
returns c =
    let here = c.args.here.now in
    puts_all here c.args.sites.now.items c.loop-one.sites.items (statement_sites here.decls.now here.door) head_seen c.args.statements.now c.loop-one.one-index (omega arith) c.loop-one.invariant
