use Rattle.std.proofs.Common.{◌∙◌, ap}
use Rattle.gen_traffic.specs.Traffic.{Giving}
use Rattle.made_captures.proofs.Walks.{was_left, next_here, next_elsewhere, early, fewer_left}
use Rattle.made_captures.proofs.capture.next_at.Goals as goal

pub returns-then-sent-port-clause-next : goal.returns-then-sent-port-clause-next
returns-then-sent-port-clause-next c =
    let g = c.packets.traffic in
    let s = c.in-Some.sent in
    next_here c.args.port c.args.traffic.now g c.next.new.self s c.packets.invariant.left (was_left g s c.in-Some.ensures.next) c.in-Some.ensures.some c.next.ensures.goes_on c.if-sent-port.true

pub returns-then-sent-port-clause-time : goal.returns-then-sent-port-clause-time
returns-then-sent-port-clause-time c =
    let g = c.packets.traffic in
    let s = c.in-Some.sent in
    early g c.next.new.self s c.args.traffic.now.recipe (was_left g s c.in-Some.ensures.next) c.in-Some.ensures.some c.packets.invariant.same c.requires.few

pub packets-smaller : goal.packets-smaller
packets-smaller c =
    let g = c.packets.traffic in
    fewer_left g c.next.new.self (was_left g c.in-Some.sent c.in-Some.ensures.next) c.next.ensures.goes_on

pub packets-preserved : goal.packets-preserved
packets-preserved c =
    let g = c.packets.traffic in
    let s = c.in-Some.sent in
    record {
      same = ap (λ (x : Giving). x.recipe) c.next.ensures.goes_on ∙ c.packets.invariant.same;
      left = next_elsewhere c.args.port c.args.traffic.now g c.next.new.self s c.packets.invariant.left (was_left g s c.in-Some.ensures.next) c.in-Some.ensures.some c.next.ensures.goes_on c.if-sent-port.false;
    }
