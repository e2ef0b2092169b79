use Rattle.std.proofs.Common.{arith}
use Rattle.nf_base.specs.Text as text
use Rattle.nf_base.specs.TextPlaces.{expression_places}
use Rattle.nf_base.specs.View.{given_of}
use Rattle.access_keys.proofs.Gathering.{more_all}
use Rattle.access_keys.proofs.places.Places.add_given.Goals as goal

pub returns : goal.returns
returns c =
    more_all c.args.self.now c.loop-one.self (λ (g : text.Given). expression_places g.value) given_of c.args.given.now c.loop-one.one-index (omega arith) c.loop-one.invariant
