-- those of the values so far
use Rattle.std.proofs.Common.{take}
use Rattle.std.specs.List.{flat_map}
use Rattle.nf_base.specs.declared.expr.Guard as guard
use Rattle.nf_base.specs.TextPlaces.{expression_places}
use Rattle.nf_base.specs.View.{expression_of}
use Rattle.access_keys.specs.Reached.{HasMore}
use Rattle.access_keys.proofs.places.Places.add_guards.Given as goal

abbrev pub invariant-loop-one : goal.invariant-loop-one
invariant-loop-one l =
    HasMore l.fn.self l.self (flat_map (λ (g : guard.Guard). expression_places (expression_of g.given.value)) (take l.one-index l.guards))
