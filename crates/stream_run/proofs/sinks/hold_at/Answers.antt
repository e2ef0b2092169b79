use Rattle.std.proofs.Common.{◌<◌, ◌≤◌, length, refl, arith, inl, inr}
use Rattle.std.proofs.lemmas.Option.{slice_get_read}
use Rattle.packet_feed.proofs.Gathering.{map_kept}
use Rattle.stream_run.specs.Texts.{sent_in}
use Rattle.stream_run.specs.Writing.{Holding}
use Rattle.stream_run.proofs.Grown.{grown_none, sent_astray}
use Rattle.stream_run.proofs.sinks.hold_at.Goals as goal
use Rattle.stream_run.proofs.sinks.hold_at.Goals.{else-port-ports-via-then-port-ports+else-k-len, else-port-ports-via-else-port-ports}

pub returns-then-k-len-clause-same_files : goal.returns-then-k-len-clause-same_files
returns-then-k-len-clause-same_files c =
    let old = c.args.sinks.now in
    let k = c.args.port in
    let s = c.item_mut-sink.result.now in
    let lt : k < length old = omega (arith, c.if-k-len.true, c.len.ensures) in
    let at = slice_get_read old (length old) k s refl lt c.item_mut-sink.ensures.value in
    map_kept (λ (x : Holding). x.file) old k s c.hold_record.new.self at c.hold_record.ensures.same_file

pub returns-else-port-ports-clause-ok : goal.returns-else-port-ports-clause-ok
returns-else-port-ports-clause-ok c =
    let old = c.args.sinks.now in
    let ports = c.args.ports in
    let port = c.args.port in
    let h = c.args.handled.now in
    elim c.else-port-ports.branch [
      | else-port-ports-via-then-port-ports+else-k-len w ↦
          let past : length old ≤ port = omega (arith, w.if-k-len.false, w.len.ensures) in
          grown_none (sent_in ports h) old (sent_astray ports h port (length old) c.requires.out (inr past))
      | else-port-ports-via-else-port-ports w ↦
          let past : ports ≤ port = w.if-port-ports.false in
          grown_none (sent_in ports h) old (sent_astray ports h port (length old) c.requires.out (inl past))
    ]
