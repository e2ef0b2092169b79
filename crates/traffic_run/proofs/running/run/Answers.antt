use Rattle.std.proofs.Common.{◌≡◌, ◌∙◌, ◌+◌, ◌^◌, ℕ, [], length, sym, ap, subst, arith, Result, ltb-true}
use Rattle.std.proofs.lemmas.List.{length-map}
use Rattle.nf_base.specs.declared.func.Func.{Func}
use Rattle.nf_base.specs.Handlers.{blocks_of}
use Rattle.nf_base.specs.Functions.{function_of}
use Rattle.nf_base.specs.Doors.{six_ports}
use Rattle.lock_mode.specs.Gates.{Rose}
use Rattle.stream_run.specs.Writing.{IsStopCause, StopsAmong}
use Rattle.stream_run.specs.declared.fault.RunFault.{RunFault}
use Rattle.traffic_run.specs.declared.result.TrafficResult.{TrafficResult}
use Rattle.traffic_run.specs.TrafficSpecs.{recipe_of, asked_for}
use Rattle.traffic_run.specs.Beside.{came_of}
use Rattle.traffic_run.specs.Runs.{Runs}
use Rattle.traffic_run.proofs.Over.{arrivals_long, none_by}
use Rattle.traffic_run.proofs.Making.{made_at, as_many, numbered, are_packets}
use Rattle.traffic_run.proofs.Known.{came_causes, came_among, came_runs}
use Rattle.traffic_run.proofs.running.run.Goals as goal

-- the ports of a function are counted by its handlers
handlers_are : (func : Func) → length (function_of func).handlers ≡ length func.handlers
handlers_are func = length-map func.handlers blocks_of

pub returns-then-not-is_low-clause-runs : goal.returns-then-not-is_low-clause-runs
returns-then-not-is_low-clause-runs g c =
    let Refused = Rose (g.G.Gate.refused c.args.gate.now) (g.G.Gate.refused c.args.gate.now) in
    none_by c.args.worker_plan.now c.args.asked.card c.args.asked.format Refused (function_of c.args.func.now) (asked_for c.args.asked (length c.args.func.now.handlers)) (g.F.Files.told c.args.files.now) c.args.targets.now c.requires.empty

pub returns-in-Err-clause-runs : goal.returns-in-Err-clause-runs
returns-in-Err-clause-runs g c =
    let Refused = Rose (g.G.Gate.refused c.args.gate.now) (g.G.Gate.refused c.args.gate.now) in
    none_by c.args.worker_plan.now c.args.asked.card c.args.asked.format Refused (function_of c.args.func.now) (asked_for c.args.asked (length c.args.func.now.handlers)) (g.F.Files.told c.args.files.now) c.args.targets.now c.requires.empty

pub returns-in-Err-numbers-clause-runs : goal.returns-in-Err-numbers-clause-runs
returns-in-Err-numbers-clause-runs g c =
    let Refused = Rose (g.G.Gate.refused c.args.gate.now) (g.G.Gate.refused c.args.gate.now) in
    none_by c.args.worker_plan.now c.args.asked.card c.args.asked.format Refused (function_of c.args.func.now) (asked_for c.args.asked (length c.args.func.now.handlers)) (g.F.Files.told c.args.files.now) c.args.targets.now c.requires.empty

pub run_made-handled-requires-clause-made : goal.run_made-handled-requires-clause-made
run_made-handled-requires-clause-made g c = λ κs lives.
    let n = length c.args.func.now.handlers in
    let made = made_at c.args.asked n c.len-ports.result c.count.result c.in-Ok.captures c.len-ports.ensures.value c.count.ensures.value c.in-Ok.ensures in
    are_packets (six_ports (function_of c.args.func.now)) c.args.asked n c.in-Ok.captures c.as_slice-numbers.result.now c.captures_are_traffic.ensures (omega (arith, c.count.ensures.value, c.count.ensures.within)) c.requires.some_port c.requires.few_ports made
    (c.as_slice-numbers.ensures.value ∙ c.in-Ok-numbers.ensures.value)

pub run_made-handled-requires-clause-ports : goal.run_made-handled-requires-clause-ports
run_made-handled-requires-clause-ports g c = λ κs lives.
    let n = length c.args.func.now.handlers in
    let made = made_at c.args.asked n c.len-ports.result c.count.result c.in-Ok.captures c.len-ports.ensures.value c.count.ensures.value c.in-Ok.ensures in
    omega (arith, as_many c.args.asked n c.in-Ok.captures made, c.in-Ok-numbers.ensures.count, c.as_slice-numbers.ensures.len)

pub run_made-handled-requires-clause-few_ports : goal.run_made-handled-requires-clause-few_ports
run_made-handled-requires-clause-few_ports g c = λ κs lives.
    let n = length c.args.func.now.handlers in
    let made = made_at c.args.asked n c.len-ports.result c.count.result c.in-Ok.captures c.len-ports.ensures.value c.count.ensures.value c.in-Ok.ensures in
    omega (arith, as_many c.args.asked n c.in-Ok.captures made, c.in-Ok-numbers.ensures.count, c.as_slice-numbers.ensures.len, c.requires.few_ports)

pub run_made-handled-requires-clause-fit : goal.run_made-handled-requires-clause-fit
run_made-handled-requires-clause-fit g c = λ κs lives.
    let n = length c.args.func.now.handlers in
    let made = made_at c.args.asked n c.len-ports.result c.count.result c.in-Ok.captures c.len-ports.ensures.value c.count.ensures.value c.in-Ok.ensures in
    let low = ltb-true (c.args.first + c.len-ports.result + c.len-ports.result) (2 ^ 32) (sym c.is_low.ensures ∙ c.if-not-is_low.false) in
    omega (arith, low, as_many c.args.asked n c.in-Ok.captures made, c.len-ports.ensures.value)

pub returns-clause-runs : goal.returns-clause-runs
returns-clause-runs g c =
    let told = g.F.Files.told in
    let n = length c.args.func.now.handlers in
    let r = recipe_of c.args.asked n in
    let Refused = Rose (g.G.Gate.refused c.args.gate.now) (g.G.Gate.refused c.run_made-handled.new.gate) in
    let handled = c.run_made-handled.result in
    let count : c.len-ports.result ≡ n = c.len-ports.ensures.value in
    let came : c.came_of.result ≡ came_of c.args.asked.format c.args.first n handled.bytes handled.result = c.came_of.ensures ∙ ap (λ (p : ℕ). came_of c.args.asked.format c.args.first p handled.bytes handled.result) count in
    subst (λ (x : Result TrafficResult RunFault). Runs c.args.worker_plan.now c.args.asked.card c.args.asked.format Refused (function_of c.args.func.now) (asked_for c.args.asked n) (told c.run_made-handled.new.files) c.args.targets.now c.args.first x) (sym came)
    (came_runs c.args.worker_plan.now c.args.asked.card c.args.asked.format Refused (function_of c.args.func.now) r (told c.run_made-handled.new.files) c.args.targets.now c.args.first n handled.bytes handled.result (omega (arith, arrivals_long r, c.count.ensures.value, c.count.ensures.within)) (handlers_are c.args.func.now) c.requires.few_ports c.requires.as_many c.requires.numbers
    c.run_made-handled.ensures.counts c.run_made-handled.ensures.leaves)

pub returns-clause-went : goal.returns-clause-went
returns-clause-went g c =
    let counted = g.F.Files.counted in
    let n = length c.args.func.now.handlers in
    let handled = c.run_made-handled.result in
    let count : c.len-ports.result ≡ n = c.len-ports.ensures.value in
    let made = made_at c.args.asked n c.len-ports.result c.count.result c.in-Ok.captures c.len-ports.ensures.value c.count.ensures.value c.in-Ok.ensures in
    let low = ltb-true (c.args.first + c.len-ports.result + c.len-ports.result) (2 ^ 32) (sym c.is_low.ensures ∙ c.if-not-is_low.false) in
    let came : c.came_of.result ≡ came_of c.args.asked.format c.args.first n handled.bytes handled.result = c.came_of.ensures ∙ ap (λ (p : ℕ). came_of c.args.asked.format c.args.first p handled.bytes handled.result) count in
    record {
      kept = c.run_made-handled.ensures.went.kept;
      cause = subst (λ (x : Result TrafficResult RunFault). IsStopCause (counted c.args.files.now) (counted c.run_made-handled.new.files) x) (sym came)
          (came_causes c.args.asked.format c.as_slice-numbers.result.now c.args.targets.now c.args.first n handled.bytes (counted c.args.files.now) (counted c.run_made-handled.new.files) handled.result
          (c.as_slice-numbers.ensures.value ∙ numbered c.args.asked n c.in-Ok.captures c.in-Ok-numbers.numbers.items made c.in-Ok-numbers.ensures.value) c.requires.as_many c.requires.numbers (omega (arith, low, count)) c.run_made-handled.ensures.known c.run_made-handled.ensures.went.among c.run_made-handled.ensures.went.cause);
      among = subst (λ (x : Result TrafficResult RunFault). StopsAmong [] c.args.targets.now x) (sym came)
          (came_among c.args.asked.format c.as_slice-numbers.result.now c.args.targets.now c.args.first n handled.bytes handled.result
          (c.as_slice-numbers.ensures.value ∙ numbered c.args.asked n c.in-Ok.captures c.in-Ok-numbers.numbers.items made c.in-Ok-numbers.ensures.value) c.requires.as_many c.requires.numbers (omega (arith, low, count)) c.run_made-handled.ensures.went.among);
    }
