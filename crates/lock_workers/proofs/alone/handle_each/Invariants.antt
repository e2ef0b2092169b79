use Rattle.std.proofs.Common.{◌≡◌, ◌+◌, ◌≤◌, length, map, take, All}
use Rattle.nf_base.specs.Functions.{function_of}
use Rattle.nf_base.specs.Step.{opening}
use Rattle.nf_engine.specs.View.{fixed_of}
use Rattle.lock_core.specs.declared.call.Ordered.{Ordered}
use Rattle.lock_core.proofs.Going.{Goes}
use Rattle.lock_log.specs.Turns.{ordered_by}
use Rattle.lock_workers.proofs.alone.handle_each.Given as goal

-- the first packets were handled, one after another
abbrev pub invariant-loop-i : goal.invariant-loop-i
invariant-loop-i l = record {
  goes : Goes (function_of l.func) (opening (function_of l.func)) (map (ordered_by 0) l.log.calls) l.tables.state;
  all : map (λ (x : Ordered). x.packet) (map (ordered_by 0) l.log.calls) ≡ take l.i l.packets;
  alone : All (λ (x : Ordered). x.seat ≡ 0) (map (ordered_by 0) l.log.calls);
  room : length l.packets ≤ l.log.room + l.i;
  same : fixed_of l.tables ≡ fixed_of l.fn.tables;
}
