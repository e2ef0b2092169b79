use Rattle.key_rows.specs.Rows.{IsEvenAt}
use Rattle.key_rows.proofs.Added.{adds_more}
use Rattle.key_rows.proofs.equations.add_class.Goals as goal

pub loop-u-preserved : goal.loop-u-preserved
loop-u-preserved c =
    adds_more c.args.ports (λ keys u. IsEvenAt keys c.args.windows.now c.args.k u) c.loop-u.u c.args.system.now c.loop-u.system c.add_bit.new.system c.loop-u.invariant c.in_ok-add_bit.ensures
