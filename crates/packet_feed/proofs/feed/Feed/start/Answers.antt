use Rattle.packet_feed.proofs.Ordering.{is_ordered}
use Rattle.packet_feed.proofs.Starting.{none_counted}
use Rattle.packet_feed.proofs.feed.Feed.start.Goals as goal

pub returns-in_err-sources-clause-ordered : goal.returns-in_err-sources-clause-ordered
returns-in_err-sources-clause-ordered g c = is_ordered

pub invariant_of-result : goal.invariant_of-result
invariant_of-result g c =
    (none_counted c.args.captures.now c.in_ok-sources.sources c.args.most c.requires.ports c.requires.apart c.in_ok-sources.ensures.opens.1 c.in_ok-sources.ensures.opens.2, λ is. absurd cc)

pub returns-clause-ordered : goal.returns-clause-ordered
returns-clause-ordered g c = is_ordered
