use Rattle.std.proofs.Common.{List, Option, subst}
use Rattle.packet_feed.specs.Arrivals.{Arrival}
use Rattle.packet_feed.specs.Feeding.{AreAll}
use Rattle.replay_run.proofs.Fetching.{same_packets}
use Rattle.replay_run.proofs.packets.next_of_all.Goals as goal

pub returns-in-Ok-Packet-clause-fetches : goal.returns-in-Ok-Packet-clause-fetches
returns-in-Ok-Packet-clause-fetches g c = (tt, λ start given h. (rw c.in-Ok-Packet.field-0-is at c.in-Ok-Packet.ensures.feeds) start given h)

pub returns-in-Ok-Packet-clause-counts : goal.returns-in-Ok-Packet-clause-counts
returns-in-Ok-Packet-clause-counts g c =
    let counts = rw c.in-Ok-Packet.field-0-is at c.in-Ok-Packet.ensures.counts in
    (counts.0, counts.2)

pub returns-in-Ok-End-clause-fetches : goal.returns-in-Ok-End-clause-fetches
returns-in-Ok-End-clause-fetches g c = λ start given h.
    let feeds = (rw c.in-Ok-End.field-0-is at c.in-Ok-End.ensures.feeds) start given h in
    subst (λ (all : Option (List Arrival)). AreAll all given) (same_packets c.next.new.self c.args.feed.now start c.next.ensures.same.files c.next.ensures.same.six) feeds.1
