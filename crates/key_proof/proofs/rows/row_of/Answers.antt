use Rattle.std.proofs.Common.{arith}
use Rattle.key_proof.proofs.Named.{row_there, row_none, get_there, get_none}
use Rattle.key_proof.proofs.rows.row_of.Goals as goal

pub returns-in_ok-row-in-Some-clause-value : goal.returns-in_ok-row-in-Some-clause-value
returns-in_ok-row-in-Some-clause-value c =
    row_there c.args.ports c.args.sites.now c.args.named.now c.in-Some.a.now c.in_ok-row-in-Some.row (omega (arith, c.if-named.false))
    (get_there c.args.sites.now c.args.named.now.first c.in-Some.a.now c.in-Some.ensures.lookup.3.0 c.in-Some.ensures.lookup.1) c.in_ok-row-in-Some.ensures.value

pub returns-in-None-clause-value : goal.returns-in-None-clause-value
returns-in-None-clause-value c =
    row_none c.args.ports c.args.sites.now c.args.named.now (omega (arith, c.if-named.false)) (get_none c.args.sites.now c.args.named.now.first c.in-None.ensures.lookup.3)
