use Rattle.std.proofs.Common.{◌<◌, ◌∙◌, ℕ, List, Ok, Err, length, map, refl, sym, ap, subst, arith}
use Rattle.nf_base.specs.Functions.{function_of}
use Rattle.packet_feed.specs.Arrivals.{packet_of}
use Rattle.vig_tables.specs.TablesState.{TablesState}
use Rattle.vig_tables.specs.Union.{AreOf}
use Rattle.stream_run.specs.declared.fault.RunFault.{RunFault}
use Rattle.stream_run.specs.declared.fault.RunFault.TheVariants as fault
use Rattle.stream_run.specs.Writing.{files_of}
use Rattle.sharded_run.specs.declared.result.RunEnd.TheVariants as over
use Rattle.sharded_run.specs.Setups.{setup_of}
use Rattle.sharded_run.specs.Going.{IsMadeOf}
use Rattle.sharded_run.proofs.Begun.{share_by, is_setup, halts_begun}
use Rattle.sharded_run.proofs.Complete.{counted, cut_short_at}
use Rattle.sharded_run.proofs.Concluded.{new_flows, parts_of_one, runs_cut, runs_full, runs_over, runs_whole}
use Rattle.stream_run.proofs.Went.{went_none, went_ok, went_memory}
use Rattle.sharded_run.proofs.running.stream.Goals as goal

pub returns-in-Err-clause-runs : goal.returns-in-Err-clause-runs
returns-in-Err-clause-runs g c = λ card format held.
    let told = g.F.Files.told in
    cut_short_at (function_of c.args.func.now) (length c.args.func.now.handlers) c.args.keys.now c.args.workers card format c.args.feed.now (told c.args.files.now) (told c.args.files.now) (files_of c.args.sinks.now) (counted c.args.func.now)
    (halts_begun (function_of c.args.func.now) c.args.keys.now c.args.workers card format (length c.args.func.now.handlers) c.args.feed.now (told c.args.files.now) c.args.sinks.now held)

pub returns-in-Err-clause-went : goal.returns-in-Err-clause-went
returns-in-Err-clause-went g c =
    let told = g.F.Files.told c.args.files.now in
    let count = g.F.Files.counted c.args.files.now in
    let captures = c.args.captures.now in
    let files = files_of c.args.sinks.now in
    went_memory captures files told told count count (tt {0}) fault.Memory refl (went_none captures files told count (tt {0}))

pub flow-ended-requires-clause-keyed : goal.flow-ended-requires-clause-keyed
flow-ended-requires-clause-keyed g c = omega (arith, c.requires.keyed, c.requires.captures.ports, ap (λ k. length k.ports) c.in-Ok.ensures.keys_are)

pub returns-in-Ok-Full-clause-runs : goal.returns-in-Ok-Full-clause-runs
returns-in-Ok-Full-clause-runs g c = λ card format held.
    let told = g.F.Files.told in
    let func = c.args.func.now in
    let keys = c.args.keys.now in
    let workers = c.args.workers in
    let begun = c.args.feed.now in
    let start = told c.args.files.now in
    let now = told c.flow-ended.new.files in
    let files = files_of c.args.sinks.now in
    let n = length c.args.captures.now in
    let some : 0 < workers = omega (arith, c.requires.several) in
    let share = share_by workers some c.requires.most in
    let x = setup_of (function_of func) keys workers share in
    let is = is_setup (function_of func) keys workers some c.requires.most in
    let long = ap (λ (fs : List ℕ). length fs) c.requires.captures.reads.files in
    let h = new_flows {E = RunFault} func keys workers n card format some c.requires.most begun c.flow-ended.new.feed start now c.args.sinks.now c.in-Ok.crew c.flow-ended.new.crew files (Ok (over.Full c.in-Ok-Full.full)) c.in-Ok.ensures c.requires.captures.ports c.requires.captures.six long held (rw c.in-Ok-Full.field-0-is at c.in-Ok-Full.ensures.flows) in
    runs_full func keys workers share card format begun start now files c.flow-ended.new.crew c.finish-parts.result.0.items is c.requires.several c.requires.alike n (c.requires.captures.ports ∙ counted func) c.requires.new c.in-Ok-Full.full h (c.finish-parts.ensures.finishes x (map packet_of h.all) h.got h.stands)

pub returns-in-Ok-Full-clause-went : goal.returns-in-Ok-Full-clause-went
returns-in-Ok-Full-clause-went g c = went_ok c.args.captures.now _ _ _ _ _ _ _ c.in-Ok-Full.ensures.went

pub conclude-requires-clause-some : goal.conclude-requires-clause-some
conclude-requires-clause-some g c =
    let told = g.F.Files.told in
    let func = c.args.func.now in
    let keys = c.args.keys.now in
    let workers = c.args.workers in
    let begun = c.args.feed.now in
    let start = told c.args.files.now in
    let now = told c.flow-ended.new.files in
    let files = files_of c.args.sinks.now in
    let n = length c.args.captures.now in
    let some : 0 < workers = omega (arith, c.requires.several) in
    let share = share_by workers some c.requires.most in
    let x = setup_of (function_of func) keys workers share in
    let is = is_setup (function_of func) keys workers some c.requires.most in
    let long = ap (λ (fs : List ℕ). length fs) c.requires.captures.reads.files in
    let h = new_flows {E = RunFault} func keys workers n c.requires.heads.0 c.requires.heads.1 some c.requires.most begun c.flow-ended.new.feed start now c.args.sinks.now c.in-Ok.crew c.flow-ended.new.crew files (Ok (over.Over c.in-Ok-Over.ending)) c.in-Ok.ensures c.requires.captures.ports c.requires.captures.six long c.requires.heads.2 (rw c.in-Ok-Over.field-0-is at c.in-Ok-Over.ensures.flows) in
    let fin = (c.finish-parts.ensures.finishes x (map packet_of h.all) h.got h.stands) in
    omega (arith, fin.count, c.requires.several, ap (λ (ps : List TablesState). length ps) c.as_slice.ensures.value)

pub conclude-requires-clause-of_one : goal.conclude-requires-clause-of_one
conclude-requires-clause-of_one g c =
    let told = g.F.Files.told in
    let func = c.args.func.now in
    let keys = c.args.keys.now in
    let workers = c.args.workers in
    let begun = c.args.feed.now in
    let start = told c.args.files.now in
    let now = told c.flow-ended.new.files in
    let files = files_of c.args.sinks.now in
    let n = length c.args.captures.now in
    let some : 0 < workers = omega (arith, c.requires.several) in
    let share = share_by workers some c.requires.most in
    let x = setup_of (function_of func) keys workers share in
    let is = is_setup (function_of func) keys workers some c.requires.most in
    let long = ap (λ (fs : List ℕ). length fs) c.requires.captures.reads.files in
    let h = new_flows {E = RunFault} func keys workers n c.requires.heads.0 c.requires.heads.1 some c.requires.most begun c.flow-ended.new.feed start now c.args.sinks.now c.in-Ok.crew c.flow-ended.new.crew files (Ok (over.Over c.in-Ok-Over.ending)) c.in-Ok.ensures c.requires.captures.ports c.requires.captures.six long c.requires.heads.2 (rw c.in-Ok-Over.field-0-is at c.in-Ok-Over.ensures.flows) in
    subst (AreOf func.chains) (sym c.as_slice.ensures.value) (parts_of_one func keys workers share c.flow-ended.new.crew h.all h.got c.finish-parts.result.0.items (c.finish-parts.ensures.finishes x (map packet_of h.all) h.got h.stands))

pub returns-in-Ok-conclude-clause-runs : goal.returns-in-Ok-conclude-clause-runs
returns-in-Ok-conclude-clause-runs g c = λ card format held.
    let told = g.F.Files.told in
    let func = c.args.func.now in
    let keys = c.args.keys.now in
    let workers = c.args.workers in
    let begun = c.args.feed.now in
    let start = told c.args.files.now in
    let now = told c.flow-ended.new.files in
    let files = files_of c.args.sinks.now in
    let n = length c.args.captures.now in
    let some : 0 < workers = omega (arith, c.requires.several) in
    let share = share_by workers some c.requires.most in
    let x = setup_of (function_of func) keys workers share in
    let is = is_setup (function_of func) keys workers some c.requires.most in
    let long = ap (λ (fs : List ℕ). length fs) c.requires.captures.reads.files in
    let h = new_flows {E = RunFault} func keys workers n card format some c.requires.most begun c.flow-ended.new.feed start now c.args.sinks.now c.in-Ok.crew c.flow-ended.new.crew files (Ok (over.Over c.in-Ok-Over.ending)) c.in-Ok.ensures c.requires.captures.ports c.requires.captures.six long held (rw c.in-Ok-Over.field-0-is at c.in-Ok-Over.ensures.flows) in
    let tables = c.as_slice.result.now in
    runs_over func keys workers share card format begun start now files c.flow-ended.new.crew c.finish-parts.result.0.items is c.requires.several c.requires.alike n (c.requires.captures.ports ∙ counted func) c.requires.new c.flow-ended.new.feed c.in-Ok-Over.ending c.in-Ok-conclude.ran c.given.result h (c.finish-parts.ensures.finishes x (map packet_of h.all) h.got h.stands) c.given.ensures
    (λ hs v worked made. c.in-Ok-conclude.ensures keys workers hs v c.requires.several c.requires.alike worked
    (subst (λ (t : ℕ). IsMadeOf v func tables t) (sym c.finish-parts.ensures.time) (subst (λ (ps : List TablesState). IsMadeOf v func ps c.flow-ended.new.crew.line.time) (sym c.as_slice.ensures.value) made)))

pub returns-in-Ok-conclude-clause-went : goal.returns-in-Ok-conclude-clause-went
returns-in-Ok-conclude-clause-went g c = went_ok c.args.captures.now _ _ _ _ _ _ _ c.in-Ok-Over.ensures.went

pub returns-in-Ok-Over-clause-runs : goal.returns-in-Ok-Over-clause-runs
returns-in-Ok-Over-clause-runs g c = λ card format held.
    let told = g.F.Files.told in
    let func = c.args.func.now in
    let keys = c.args.keys.now in
    let workers = c.args.workers in
    let begun = c.args.feed.now in
    let start = told c.args.files.now in
    let now = told c.flow-ended.new.files in
    let files = files_of c.args.sinks.now in
    let n = length c.args.captures.now in
    let some : 0 < workers = omega (arith, c.requires.several) in
    let share = share_by workers some c.requires.most in
    let x = setup_of (function_of func) keys workers share in
    let is = is_setup (function_of func) keys workers some c.requires.most in
    let long = ap (λ (fs : List ℕ). length fs) c.requires.captures.reads.files in
    let h = new_flows {E = RunFault} func keys workers n card format some c.requires.most begun c.flow-ended.new.feed start now c.args.sinks.now c.in-Ok.crew c.flow-ended.new.crew files (Ok (over.Over c.in-Ok-Over.ending)) c.in-Ok.ensures c.requires.captures.ports c.requires.captures.six long held (rw c.in-Ok-Over.field-0-is at c.in-Ok-Over.ensures.flows) in
    runs_whole func keys workers share card format begun start now files c.flow-ended.new.crew c.finish-parts.result.0.items is c.requires.several c.requires.alike n (c.requires.captures.ports ∙ counted func) c.requires.new c.flow-ended.new.feed c.in-Ok-Over.ending h (c.finish-parts.ensures.finishes x (map packet_of h.all) h.got h.stands)

pub returns-clause-runs : goal.returns-clause-runs
returns-clause-runs g c = λ card format held.
    let told = g.F.Files.told in
    let func = c.args.func.now in
    let keys = c.args.keys.now in
    let workers = c.args.workers in
    let begun = c.args.feed.now in
    let start = told c.args.files.now in
    let now = told c.flow-ended.new.files in
    let files = files_of c.args.sinks.now in
    let n = length c.args.captures.now in
    let some : 0 < workers = omega (arith, c.requires.several) in
    let share = share_by workers some c.requires.most in
    let x = setup_of (function_of func) keys workers share in
    let is = is_setup (function_of func) keys workers some c.requires.most in
    let long = ap (λ (fs : List ℕ). length fs) c.requires.captures.reads.files in
    let h = new_flows {E = RunFault} func keys workers n card format some c.requires.most begun c.flow-ended.new.feed start now c.args.sinks.now c.in-Ok.crew c.flow-ended.new.crew files (Err c.in-Err-ended.stop) c.in-Ok.ensures c.requires.captures.ports c.requires.captures.six long held c.in-Err-ended.ensures.flows in
    runs_cut func keys workers share card format begun start now files c.flow-ended.new.crew c.finish-parts.result.0.items is c.requires.several c.requires.alike n (c.requires.captures.ports ∙ counted func) c.requires.new h.0 h.1 h.2 (c.finish-parts.ensures.finishes x (map packet_of h.0) h.1 h.2) h.3 h.4
