use Rattle.nf_base.specs.Functions.{function_of}
use Rattle.lock_workers.proofs.Joined.{seats_below, counts_are, handled_of}
use Rattle.lock_workers.proofs.running.joined.Goals as goal

pub places_of-requires-clause-below : goal.places_of-requires-clause-below
places_of-requires-clause-below c =
    seats_below (function_of c.args.func.now) c.args.packets.now c.args.own.now c.args.closed.order c.args.closed.tables c.requires.shared

pub places_of-requires-clause-each : goal.places_of-requires-clause-each
places_of-requires-clause-each c = λ w places at.
    counts_are (function_of c.args.func.now) c.args.packets.now c.args.own.now c.args.closed.order c.args.closed.tables c.requires.shared w places at

pub returns-clause-handled : goal.returns-clause-handled
returns-clause-handled c =
    handled_of (function_of c.args.func.now) c.args.workers c.args.packets.now c.args.own.now c.args.closed.order c.in_ok-places.places.items c.args.closed.tables c.in_ok-state.state c.requires.some c.requires.dealt c.requires.shared
    c.in_ok-places.ensures.as_many c.in_ok-places.ensures.each c.in_ok-state.ensures
