use Rattle.std.proofs.Common.{arith}
use Rattle.nf_base.specs.Text as text
use Rattle.nf_base.specs.TextPlaces.{expression_places}
use Rattle.nf_base.specs.View.{guard_of}
use Rattle.access_keys.proofs.Gathering.{more_all}
use Rattle.access_keys.proofs.places.Places.add_guards.Goals as goal

pub returns : goal.returns
returns c =
    more_all c.args.self.now c.loop-one.self (λ (g : text.Guard). expression_places g.given.value) guard_of c.args.guards.now c.loop-one.one-index (omega arith) c.loop-one.invariant
