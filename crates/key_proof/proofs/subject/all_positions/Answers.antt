use Rattle.std.proofs.Common.{◌≡◌, ◌∙◌, ap, length, arith}
use Rattle.std.proofs.lemmas.List.FromFn.{length-map-range_with_len}
use Rattle.nf_base.specs.Doors.{six_ports}
use Rattle.nf_base.specs.Functions.{function_of}
use Rattle.key_rows.specs.Positions.{positions_at}
use Rattle.key_proof.proofs.subject.all_positions.Goals as goal

pub returns-clause-few : goal.returns-clause-few
returns-clause-few c =
    let long : length c.loop-port.positions ≡ c.loop-port.port =
    ap length c.loop-port.invariant ∙ length-map-range_with_len (positions_at (six_ports (function_of c.args.func.now)) c.args.objects.now) 0 c.loop-port.port in
    omega (arith, long, c.loop-port.auto.port-end, c.len-port-end.ensures.within)
