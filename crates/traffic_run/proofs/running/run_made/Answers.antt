use Rattle.std.proofs.Common.{◌≡◌, ◌∙◌, ℕ, List, length, true, sym, subst, arith}
use Rattle.std.proofs.lemmas.Option.{slice_get_within}
use Rattle.nf_base.specs.Doors.{six_ports}
use Rattle.nf_base.specs.Functions.{function_of}
use Rattle.made_captures.specs.Told.{with_made}
use Rattle.made_captures.specs.Outputs.{Counting, counts_right, is_known, journal_of, mark_of, told_if}
use Rattle.stream_run.specs.Given.{HasTargets}
use Rattle.traffic_run.specs.TrafficSpecs.{asked_for}
use Rattle.traffic_run.specs.Runs.{ArePackets}
use Rattle.traffic_run.proofs.Known.{starts_right}
use Rattle.traffic_run.proofs.running.run_made.Goals as goal

pub run_beside-result-requires-clause-right : goal.run_beside-result-requires-clause-right
run_beside-result-requires-clause-right g c κs within =
    let told = g.F.Files.told in
    let start = starts_right (told c.args.files.now) c.args.targets.now c.args.first c.len.result (omega (arith, c.requires.as_many, c.len.ensures.value)) c.requires.numbers c.requires.empty in
    subst (λ files. counts_right c.beside-beside.result.outputs (told files) ≡ true) (sym c.beside-beside.ensures.files)
    (subst (λ (o : Counting). counts_right o (told c.args.files.now) ≡ true) (sym (c.beside-beside.ensures.outputs ∙ c.new-outputs.ensures)) start)

pub run_beside-result-requires-clause-made : goal.run_beside-result-requires-clause-made
run_beside-result-requires-clause-made g c κs within =
    let beside = c.beside-beside.result in
    let told = g.F.Files.told beside.files.now in
    let right = counts_right beside.outputs told in
    let known = is_known (journal_of beside.outputs) (g.F.Files.counted beside.files.now).first in
    let mark = mark_of beside.files.ghost_name right known beside.outputs.first beside.outputs.count in
    let six = six_ports (function_of c.args.func.now) in
    let all = asked_for c.args.asked.now (length c.args.func.now.handlers) in
    let are = subst (λ (made : List (List ℕ)). ArePackets six c.args.captures.now (with_made made mark (told_if right told)) all) (sym c.beside-beside.ensures.captures) (c.requires.made mark (told_if right told)) in
    record { all = are.all; packets = are.packets; order = are.order }

pub run_beside-result-requires-clause-before : goal.run_beside-result-requires-clause-before
run_beside-result-requires-clause-before g c κs within k file e =
    let outputs = c.beside-beside.ensures.outputs ∙ c.new-outputs.ensures in
    rw outputs (omega (arith, c.requires.numbers k file e, slice_get_within c.args.targets.now k file e, c.requires.as_many, c.len.ensures.value))

pub run_beside-result-requires-clause-low : goal.run_beside-result-requires-clause-low
run_beside-result-requires-clause-low g c κs within =
    let outputs = c.beside-beside.ensures.outputs ∙ c.new-outputs.ensures in
    rw (outputs, c.beside-beside.ensures.captures) (omega (arith, c.requires.fit, c.len.ensures.value))

pub run_beside-result-requires-clause-targets : goal.run_beside-result-requires-clause-targets
run_beside-result-requires-clause-targets g c κs within =
    let told = g.F.Files.told in
    let targets = c.args.targets.now in
    let numbers = c.requires.numbers in
    subst (λ files. HasTargets c.args.func.now targets (told files)) (sym c.beside-beside.ensures.files)
    (record {
      writable = record { created = c.requires.created; apart = λ i j f k p q ne e. ne (omega (arith, numbers i f p, numbers j k q, e)) };
      as_many = c.requires.as_many;
      few = omega (arith, c.requires.as_many, c.requires.ports, c.requires.few_ports);
      empty = c.requires.empty;
    })
