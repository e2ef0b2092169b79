use Rattle.std.proofs.Common.{◌≡◌, ◌≤◌, ◌∙◌, ℕ, Bool, ◌+◌, length, get_or, List, map, subst, sym, ap, arith}
use Rattle.std.proofs.lemmas.List.{take_all}
use Rattle.std.proofs.lemmas.Option.{slice_get-get_or}
use Rattle.nf_base.specs.Functions.{function_of}
use Rattle.nf_base.specs.Doors.{six_ports}
use Rattle.packet_feed.specs.Streams.{Stream}
use Rattle.packet_feed.specs.Sources.{IsOpened}
use Rattle.packet_feed.proofs.Standing.{faulted_at}
use Rattle.packet_feed.proofs.Starting.{length_sixes, AreOpenedSoFar, opened_more, opened_all, opens_bad}
use Rattle.packet_feed.proofs.ByPort.{opened_by_port}
use Rattle.packet_feed.proofs.sources.open_all.Goals as goal

pub open-requires : goal.open-requires
open-requires g c =
    let all = c.args.captures.now in
    let port = c.loop-port.port in
    record { opened = c.loop-port.invariant.opened.kept.kinds (get_or all port 0) ∙ c.requires.opened port (get_or all port 0) (slice_get-get_or all port 0 (omega arith)) }

pub returns-in-Err-clause-opens : goal.returns-in-Err-clause-opens
returns-in-Err-clause-opens g c =
    let told = g.F.Files.told in
    let all = c.args.captures.now in
    let port = c.loop-port.port in
    let f = get_or all port 0 in
    let at = slice_get-get_or all port 0 (omega arith) in
    opens_bad all (six_ports (function_of c.args.func.now)) port f (told c.args.files.now) (told c.loop-port.files) (told c.open.new.files) c.loop-port.sources c.in-Err.fault c.at.result ((told c.open.new.files).rest f) c.at.ensures at c.in-Err.ensures.opens c.loop-port.invariant.opened

pub returns-in-Err-clause-cause : goal.returns-in-Err-clause-cause
returns-in-Err-clause-cause g c =
    let all = c.args.captures.now in
    let port = c.loop-port.port in
    let at = slice_get-get_or all port 0 (omega arith) in
    faulted_at (List Stream) Stream (g.F.Files.counted c.args.files.now) (g.F.Files.counted c.loop-port.files) (g.F.Files.counted c.open.new.files) all port (get_or all port 0) c.in-Err.fault c.at.result at c.at.ensures c.loop-port.invariant.count c.in-Err.ensures.cause

pub loop-port-preserved : goal.loop-port-preserved
loop-port-preserved g c =
    let told = g.F.Files.told in
    let all = c.args.captures.now in
    let port = c.loop-port.port in
    let f = get_or all port 0 in
    let inv = c.loop-port.invariant in
    let at = slice_get-get_or all port 0 (omega arith) in
    let six = six_ports (function_of c.args.func.now) in
    let as_many : length all ≡ length six = omega (arith, c.requires.ports_of, length_sixes c.args.func.now) in
    record {
      opened = subst (λ (xs : List Stream). AreOpenedSoFar all six (port + 1) (told c.args.files.now) xs (told c.open.new.files)) (sym c.in-Ok-push.ensures.ok)
          (opened_more all six port f (told c.args.files.now) (told c.loop-port.files) (told c.open.new.files) c.loop-port.sources c.in-Ok.source c.requires.apart at as_many (subst (λ (b : Bool). IsOpened f b ((told c.loop-port.files).rest f) c.in-Ok.source ((told c.open.new.files).rest f)) c.has_six.ensures c.in-Ok.ensures.opens) c.open.ensures.kept inv.opened);
      count = c.in-Ok.ensures.cause ∙ inv.count;
    }

pub returns-clause-opens : goal.returns-clause-opens
returns-clause-opens g c =
    let told = g.F.Files.told in
    let all = c.args.captures.now in
    let port = c.loop-port.port in
    let h = c.loop-port.invariant.opened in
    let past : length all ≤ port = omega arith in
    let six = six_ports (function_of c.args.func.now) in (
      opened_all all six port (told c.args.files.now) c.loop-port.sources (told c.loop-port.files) past h,
      h.files ∙ take_all port all past,
      h.counts ∙ ap (map (λ (file : ℕ). 0)) (take_all port all past),
      h.sixes ∙ take_all port six (omega (arith, c.requires.ports_of, length_sixes c.args.func.now)),
    )

pub returns-clause-by_port : goal.returns-clause-by_port
returns-clause-by_port g c =
    let told = g.F.Files.told in
    opened_by_port c.args.captures.now (six_ports (function_of c.args.func.now)) c.loop-port.port (told c.args.files.now) c.loop-port.sources (told c.loop-port.files) (omega arith) c.loop-port.invariant.opened
