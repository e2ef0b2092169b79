use Rattle.std.proofs.Common.{◌<◌, ℕ, length, subst, sym}
use Rattle.nf_base.specs.Doors.{six_ports, six_at}
use Rattle.nf_base.proofs.Served.{seen_is_served}
use Rattle.locked_tests.proofs.reading_back.read_back.Goals as goal

pub look_twice-seen-requires-clause-served : goal.look_twice-seen-requires-clause-served
look_twice-seen-requires-clause-served g c =
    let f = g.J.Naming.function in
    let p = c.packet.result in
    seen_is_served f p p.fields (subst (λ (n : ℕ). n < length f.handlers) (sym c.packet.ensures.port) c.requires.ports) (c.packet.ensures.fields (six_at (six_ports f) p.id.port))
