use Rattle.std.proofs.Common.{◌≡◌, ◌∙◌, ℕ, ◌+◌, ap, arith}
use Rattle.nf_base.specs.declared.packet.Packet.{Packet}
use Rattle.packet_feed.specs.declared.ahead.Ahead.TheVariants.{Unread}
use Rattle.packet_feed.specs.Streams.{Stream, last_given, last_read}
use Rattle.packet_feed.proofs.Streaming.{came_at}
use Rattle.packet_feed.proofs.Nexts.{last_was_read}
use Rattle.packet_feed.proofs.source.Source.give.Goals as goal

is_last : (port : ℕ) (packet : Packet) (old new : Stream) → packet ≡ last_given port new → new ≡ record old { ahead = Unread; seq = old.seq + 1 } → packet ≡ (last_read port old).packet
is_last port packet old new last given = last ∙ ap (last_given port) given ∙ last_was_read port old

pub returns-clause-packet : goal.returns-clause-packet
returns-clause-packet c = is_last c.args.port c.last.result c.args.self.now c.pass.new.self c.last.ensures c.pass.ensures.given

pub returns-clause-time : goal.returns-clause-time
returns-clause-time c =
    let s = c.args.self.now in
    let is = is_last c.args.port c.last.result s c.pass.new.self c.last.ensures c.pass.ensures.given in
    omega (arith, ap (λ (p : Packet). p.time) is, came_at s.six c.args.port s.seq s.latest s.is_ethernet s.original s.frame, c.pass.ensures.time)
