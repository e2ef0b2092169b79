-- Packets that were read have a handler, where they have fields.
use Rattle.std.proofs.Common.{◌≡◌, ℕ, Bool, List, length, All, ap, ◌∙◌, arith}
use Rattle.std.specs.List.{AllByRecursion}
use Rattle.std.proofs.lemmas.List.{length-map}
use Rattle.std.proofs.lemmas.List.Elements.{All-from_recursion, All-weaker}
use Rattle.nf_base.specs.declared.func.Func.{Func}
use Rattle.nf_base.specs.declared.packet.Packet.{Packet}
use Rattle.nf_base.specs.Doors.{six_ports, six_at, served_fields, IsServed}
use Rattle.nf_base.specs.Functions.{function_of}
use Rattle.nf_base.specs.Handlers.{blocks_of}
use Rattle.nf_base.proofs.Served.{seen_is_served}
use Rattle.sharded_run.specs.Reading.{Fits}

one_served : (func : Func) (ports : ℕ) (six : List Bool) (p : Packet) → ports ≡ length func.handlers → six ≡ six_ports (function_of func) → Fits ports six p → IsServed (function_of func) p
one_served func ports six p many same h =
    seen_is_served (function_of func) p h.seen.0 (omega (arith, h.port, many, length-map func.handlers blocks_of))
    (h.seen.1 ∙ ap (λ (bs : List Bool). served_fields (six_at bs p.id.port) h.seen.0) same)

pub are_served : (func : Func) (ports : ℕ) (six : List Bool) (ps : List Packet) → ports ≡ length func.handlers → six ≡ six_ports (function_of func) → AllByRecursion (Fits ports six) ps → All (IsServed (function_of func)) ps
are_served func ports six ps many same h =
    All-weaker (Fits ports six) (IsServed (function_of func)) (λ p k. one_served func ports six p many same k) ps (All-from_recursion (Fits ports six) ps h)
