-- Workers with a thread and without, alike.
use Rattle.std.proofs.Common.{◌≡◌, length, ap, sym, subst, arith}
use Rattle.std.proofs.lemmas.List.{length-map}
use Rattle.nf_base.specs.declared.func.Func.{Func}
use Rattle.nf_base.specs.declared.packet.Packet.{Packet}
use Rattle.nf_base.specs.Doors.{IsServed}
use Rattle.nf_base.specs.Functions.{function_of}
use Rattle.nf_base.specs.Handlers.{blocks_of}
use Rattle.nf_base.specs.Text.{Function}
use Rattle.ring_line.specs.Handled.{CanServe}
use Rattle.ring_line.specs.QueueWorkers.{CanHandle}

pub can_serve : (func : Func) (f : Function) (p : Packet) → function_of func ≡ f → CanHandle f p → CanServe func p
can_serve func f p same can = record {
  port = omega (arith, can.port, ap (λ (h : Function). length h.handlers) same, length-map func.handlers blocks_of);
  served = subst (λ (h : Function). IsServed h p) (sym same) can.served;
}
