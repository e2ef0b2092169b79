use Rattle.std.proofs.Common.{◌≡◌, ◌∙◌, ◌++◌, ◌∷◌, [], length, refl, sym, subst}
use Rattle.stream_run.specs.Writing.{files_of}
use Rattle.sharded_run.specs.declared.result.ShareFull.{ShareFull}
use Rattle.sharded_run.specs.Passing.{MeetsStop}
use Rattle.stream_run.proofs.Went.{went_none, went_ok, went_err, went_then, still_writable, still_reads}
use Rattle.sharded_run.proofs.Flowed.{suits_on, flows_as, stops_in, held_at, fronts_at, some_met, cut_short}
use Rattle.sharded_run.proofs.streaming.pass_all.Goals as goal

pub loop-init : goal.loop-init
loop-init g c =
    let told = g.F.Files.told in
    record {
      passing = λ x card format begun start all suits ports st h. (all, st, h);
      router = refl;
      ports_same = refl;
      captures = c.requires.captures.files;
      six = refl;
      fewer = c.requires.fewer;
      same_files = refl;
      went = went_none c.args.captures.now (files_of c.args.sinks.now) (told c.args.files.now) (g.F.Files.counted c.args.files.now) (tt {0});
    }

pub loop-preserved : goal.loop-preserved
loop-preserved g c =
    let inv = c.loop.invariant in
    let on = c.pass_one.ensures in
    let n = length c.args.captures.now in
    record {
      passing = λ x card format begun start all suits ports st h.
          let p = inv.passing x card format begun start all suits ports st h in
          let here = suits_on x n c.args.crew.now c.loop.crew c.args.feed.now c.loop.feed inv.router inv.six suits in
          let q = (rw c.in-Ok-On.field-0-is at c.in-Ok-On.ensures.passed) x card format begun start p.0 here ports p.1 p.2 in
          (p.0 ++ q.0 ∷ [], q.1, q.2);
      router = on.same.router ∙ inv.router;
      ports_same = on.same.ports ∙ inv.ports_same;
      captures = on.fed.files ∙ inv.captures;
      six = on.fed.six ∙ inv.six;
      fewer = on.fewer;
      same_files = on.same_files ∙ inv.same_files;
      went = went_then c.args.captures.now _ _ _ _ _ _ _ _ (tt {0}) _ inv.same_files inv.went (went_ok c.args.captures.now _ _ _ _ _ _ (tt {0}) c.in-Ok-On.ensures.went);
    }

pub returns-in-Ok-End-clause-flows : goal.returns-in-Ok-End-clause-flows
returns-in-Ok-End-clause-flows g c = λ x card format begun start all suits ports st h.
    let told = g.F.Files.told in
    let inv = c.loop.invariant in
    let n = length c.args.captures.now in
    let p = inv.passing x card format begun start all suits ports st h in
    let here = suits_on x n c.args.crew.now c.loop.crew c.args.feed.now c.loop.feed inv.router inv.six suits in
    let q = (rw c.in-Ok-End.field-0-is at c.in-Ok-End.ensures.passed) x card format begun start p.0 here ports p.1 p.2 in
    let now = told c.drain.new.files in
    let crew = c.drain.new.crew in
    let as_many : crew.ports ≡ c.args.crew.now.ports = c.drain.ensures.same.ports ∙ c.pass_one.ensures.same.ports ∙ inv.ports_same in
    let alike = c.drain.ensures.same_files ∙ c.pass_one.ensures.same_files ∙ inv.same_files in
    flows_as x n begun c.pass_one.new.feed start now crew _ _ _ _ c.drain.result (held_at x card format crew.ports c.args.crew.now.ports now c.drain.new.sinks as_many) (fronts_at x card format crew.ports c.args.crew.now.ports now (files_of c.drain.new.sinks) (files_of c.args.sinks.now) as_many alike)
    (c.drain.ensures.flows x card format n begun start p.0 q.0 q.1 q.2)

pub returns-in-Ok-End-clause-went : goal.returns-in-Ok-End-clause-went
returns-in-Ok-End-clause-went g c =
    let inv = c.loop.invariant in
    let captures = c.args.captures.now in
    let read = went_then captures _ _ _ _ _ _ _ _ (tt {0}) _ inv.same_files inv.went (went_ok captures _ _ _ _ _ _ (tt {0}) c.in-Ok-End.ensures.went) in
    went_then captures _ _ _ _ _ _ _ _ (tt {0}) c.drain.result (c.pass_one.ensures.same_files ∙ inv.same_files) read (c.drain.ensures.went captures)

pub returns-in-Ok-Met-clause-flows : goal.returns-in-Ok-Met-clause-flows
returns-in-Ok-Met-clause-flows g c = λ x card format begun start all suits ports st h.
    let told = g.F.Files.told in
    let inv = c.loop.invariant in
    let n = length c.args.captures.now in
    let p = inv.passing x card format begun start all suits ports st h in
    let here = suits_on x n c.args.crew.now c.loop.crew c.args.feed.now c.loop.feed inv.router inv.six suits in
    let met = (rw c.in-Ok-Met.field-0-is at c.in-Ok-Met.ensures.passed) x card format begun start p.0 here ports p.1 p.2 in
    let now = told c.pass_one.new.files in
    let crew = c.pass_one.new.crew in
    let as_many : crew.ports ≡ c.args.crew.now.ports = c.pass_one.ensures.same.ports ∙ inv.ports_same in
    let full = c.share_full.result in
    let meets = subst (λ (f : ShareFull). MeetsStop x card format n begun start now crew c.pass_one.new.sinks p.0 f) (sym (c.share_full.ensures met.0 met.1)) met.2 in
    stops_in x n begun start crew full _ _ (held_at x card format crew.ports c.args.crew.now.ports now c.pass_one.new.sinks as_many) (some_met x card format n begun start now crew c.pass_one.new.sinks p.0 full meets)

pub returns-in-Ok-Met-clause-went : goal.returns-in-Ok-Met-clause-went
returns-in-Ok-Met-clause-went g c =
    let inv = c.loop.invariant in
    went_then c.args.captures.now _ _ _ _ _ _ _ _ (tt {0}) _ inv.same_files inv.went (went_ok c.args.captures.now _ _ _ _ _ _ _ c.in-Ok-Met.ensures.went)

pub returns-in-Err-clause-flows : goal.returns-in-Err-clause-flows
returns-in-Err-clause-flows g c = λ x card format begun start all suits ports st h.
    let told = g.F.Files.told in
    let inv = c.loop.invariant in
    let n = length c.args.captures.now in
    let p = inv.passing x card format begun start all suits ports st h in
    let here = suits_on x n c.args.crew.now c.loop.crew c.args.feed.now c.loop.feed inv.router inv.six suits in
    let cut = c.in-Err.ensures.passed x card format begun start p.0 here ports p.1 p.2 in
    let now = told c.pass_one.new.files in
    let crew = c.pass_one.new.crew in
    let as_many : crew.ports ≡ c.args.crew.now.ports = c.pass_one.ensures.same.ports ∙ inv.ports_same in
    let alike = c.pass_one.ensures.same_files ∙ inv.same_files in
    let flows = cut_short x card format n begun c.pass_one.new.feed start now crew (files_of c.pass_one.new.sinks) p.0 c.in-Err.stop cut.0 cut.1 in
    (flows.0, flows.1, flows.2, flows.3, fronts_at x card format crew.ports c.args.crew.now.ports now (files_of c.pass_one.new.sinks) (files_of c.args.sinks.now) as_many alike _ flows.4)

pub returns-in-Err-clause-went : goal.returns-in-Err-clause-went
returns-in-Err-clause-went g c =
    let inv = c.loop.invariant in
    went_then c.args.captures.now _ _ _ _ _ _ _ _ (tt {0}) _ inv.same_files inv.went (went_err c.args.captures.now _ _ _ _ _ c.in-Err.stop c.in-Err.ensures.went)

pub pass_one-requires-clause-writable : goal.pass_one-requires-clause-writable
pass_one-requires-clause-writable g c =
    let told = g.F.Files.told in
    let inv = c.loop.invariant in
    still_writable (files_of c.args.sinks.now) (files_of c.loop.sinks) (told c.args.files.now) (told c.loop.files) inv.went.kept inv.same_files c.requires.writable

pub pass_one-requires-clause-captures : goal.pass_one-requires-clause-captures
pass_one-requires-clause-captures g c =
    let told = g.F.Files.told in
    let inv = c.loop.invariant in
    still_reads (files_of c.args.sinks.now) c.args.captures.now c.args.feed.now c.loop.feed (told c.args.files.now) (told c.loop.files) inv.went.kept inv.captures c.requires.captures
