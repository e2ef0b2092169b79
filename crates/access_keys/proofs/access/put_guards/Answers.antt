use Rattle.std.proofs.Common.{arith}
use Rattle.nf_base.specs.Text as text
use Rattle.nf_base.specs.View.{guard_of}
use Rattle.nf_sites.specs.Sites.{expression_sites}
use Rattle.access_keys.proofs.Putting.{puts_all}
use Rattle.access_keys.proofs.access.put_guards.Goals as goal

pub returns : goal.returns
returns c =
    puts_all c.args.here.now c.args.sites.now.items c.loop-one.sites.items (λ (g : text.Guard). expression_sites c.args.here.now.door g.given.value) guard_of c.args.guards.now c.loop-one.one-index (omega arith) c.loop-one.invariant
