use Rattle.std.proofs.Common.{◌≡◌, List, length}
use Rattle.nf_base.specs.declared.packet.Packet.{Packet}
use Rattle.shard_machine.specs.Machine.{Setup}
use Rattle.shard_core.specs.declared.collected.Collected.{Collected}
use Rattle.ring_line.specs.Lines.{LineStands}
use Rattle.ring_line.proofs.line.Line.await_first.Given as goal

-- it stands for the same
abbrev pub invariant-loop : goal.invariant-loop
invariant-loop g l = record {
  stands : (x : Setup) (packets : List Packet) (got : List Collected) → LineStands l.fn.self x packets got → LineStands l.self x packets got;
  order : l.self.order ≡ l.fn.self.order;
  queues : length l.self.queue_workers ≡ length l.fn.self.queue_workers;
}
