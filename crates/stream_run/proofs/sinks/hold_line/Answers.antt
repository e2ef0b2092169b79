use Rattle.std.proofs.Common.{◌≡◌, ◌<◌, ◌≤◌, ◌∙◌, ◌++◌, ℕ, List, length, sym, ap, refl, arith}
use Rattle.std.proofs.lemmas.Option.{slice_get_read}
use Rattle.packet_feed.proofs.Gathering.{map_kept}
use Rattle.stream_run.specs.Texts.{told_in}
use Rattle.stream_run.specs.Writing.{Holding}
use Rattle.stream_run.proofs.Held.{same_length}
use Rattle.stream_run.proofs.Grown.{none_grown, grown_more, all_grown, told_front, told_line}
use Rattle.stream_run.proofs.sinks.hold_line.Goals as goal

pub loop-k-init : goal.loop-k-init
loop-k-init c = record { grown = none_grown (told_in c.args.ports c.args.handled.now) c.args.sinks.now c.args.ports (λ j format lt. told_front c.args.ports c.args.handled.now j format lt); same_files = refl }

pub loop-k-preserved : goal.loop-k-preserved
loop-k-preserved c =
    let now = c.loop-k.sinks in
    let k = c.loop-k.k in
    let s = c.item_mut-sink.result.now in
    let inv = c.loop-k.invariant in
    let h = c.args.handled.now in
    let ports = c.args.ports in
    let lt : k < length now = omega (arith, c.loop-k-test.true, same_length now c.args.sinks.now inv.same_files) in
    let past : ports ≤ k = omega (arith, c.loop-k.auto.k) in
    let at = slice_get_read now (length now) k s refl lt c.item_mut-sink.ensures.value in
    let put : c.hold_line.new.self.held ≡ s.held ++ told_in ports h k s.format = c.in-Ok.ensures.held ∙ ap (λ (t : List ℕ). s.held ++ t) (sym (told_line ports h k s.format past)) in
    record {
      grown = grown_more (told_in ports h) c.args.sinks.now now k s c.hold_line.new.self at c.hold_line.ensures.same_file c.hold_line.ensures.same_format put inv.grown;
      same_files = map_kept (λ (x : Holding). x.file) now k s c.hold_line.new.self at c.hold_line.ensures.same_file ∙ inv.same_files;
    }

pub returns-in-Err-clause-same_files : goal.returns-in-Err-clause-same_files
returns-in-Err-clause-same_files c =
    let now = c.loop-k.sinks in
    let k = c.loop-k.k in
    let s = c.item_mut-sink.result.now in
    let inv = c.loop-k.invariant in
    let h = c.args.handled.now in
    let ports = c.args.ports in
    let lt : k < length now = omega (arith, c.loop-k-test.true, same_length now c.args.sinks.now inv.same_files) in
    let at = slice_get_read now (length now) k s refl lt c.item_mut-sink.ensures.value in
    map_kept (λ (x : Holding). x.file) now k s c.hold_line.new.self at c.hold_line.ensures.same_file ∙ inv.same_files

pub returns-clause-ok : goal.returns-clause-ok
returns-clause-ok c =
    let now = c.loop-k.sinks in
    let inv = c.loop-k.invariant in
    all_grown (told_in c.args.ports c.args.handled.now) c.args.sinks.now now c.loop-k.k
    (λ j format le lt. absurd (omega (arith, c.loop-k-test.false, le, lt, same_length now c.args.sinks.now inv.same_files)))
    inv.grown
