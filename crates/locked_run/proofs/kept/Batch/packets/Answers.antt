use Rattle.std.proofs.Common.{map, ap, ◌∙◌}
use Rattle.packet_feed.specs.Arrivals.{packet_of}
use Rattle.locked_run.proofs.Batching.{packets_are}
use Rattle.locked_run.proofs.kept.Batch.packets.Goals as goal

pub returns : goal.returns
returns c =
    let b = c.self.inside in
    c.as_slice.ensures.value ∙ (packets_are b.pieces b.packets.items b.frames.items c.self.invariant.as_many ∙ ap (map packet_of) c.self.view_is)
