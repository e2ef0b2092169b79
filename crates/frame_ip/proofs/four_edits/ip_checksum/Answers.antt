use Rattle.std.proofs.Common.{arith}
use Rattle.frame_ip.proofs.FourKeeping.{ip_keeps}
use Rattle.frame_ip.proofs.FourUnedited.{ip_none}
use Rattle.frame_ip.proofs.four_edits.ip_checksum.Goals as goal

pub returns-clause-right : goal.returns-clause-right
returns-clause-right c = ip_keeps c.args.edits.now c.args.frame.now (λ i. omega (arith, c.type_inv.frame i))

pub returns-clause-unchanged : goal.returns-clause-unchanged
returns-clause-unchanged c = ip_none c.args.edits.now c.args.frame.now (λ i. omega (arith, c.type_inv.frame i))
