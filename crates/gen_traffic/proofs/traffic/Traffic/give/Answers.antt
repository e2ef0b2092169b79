use Rattle.std.proofs.Common.{ap, ◌∙◌}
use Rattle.gen_traffic.specs.Traffic.{Giving, sent_at}
use Rattle.gen_traffic.proofs.Streams.{given_is}
use Rattle.gen_traffic.proofs.traffic.Traffic.give.Goals as goal

pub returns-clause-sent : goal.returns-clause-sent
returns-clause-sent c =
    let t = c.self.inside in
    given_is (record { seed = t.seed; count = t.count; flows = t.flows; ports = t.ports }) t.given _ _ _ _ _ _ _ _
    c.self.invariant.0 c.next_number-number.ensures c.flow_of-flow.ensures c.source-from.ensures c.destination-to.ensures c.from.ensures c.fields_between.ensures c.frame_between.ensures
    ∙ ap (λ (g : Giving). sent_at g.recipe g.given) c.self.view_is
