use Rattle.std.proofs.Common.{◌≡◌, ◌≢◌, ◌++◌, ◌∷◌, [], ℕ, List, length, map, Some, None, Ok, sym, ap, subst, ◌∙◌, rules}
use Rattle.std.specs.List.{slice_get}
use Rattle.nf_base.specs.Functions.{function_of}
use Rattle.nf_base.specs.Step.{StepResult}
use Rattle.packet_feed.specs.Arrivals.{Arrival}
use Rattle.packet_feed.specs.Sources.{files_in}
use Rattle.packet_feed.specs.Feeding.{shown}
use Rattle.packet_feed.proofs.Served.{shown_served}
use Rattle.run_history.specs.declared.line.Mode.{Mode}
use Rattle.journal_check.specs.Judging.{Steps, line_of}
use Rattle.stream_run.specs.Streaming.{arrival_of}
use Rattle.stream_run.specs.declared.fault.RunFault.{RunFault}
use Rattle.replay_run.specs.Outputs.{files_of}
use Rattle.replay_run.specs.Queues.{keys_in}
use Rattle.replay_run.specs.Replaying.{IsRun}
use Rattle.replay_run.specs.Turns.{StandsIn, packets_at, Fetches}
use Rattle.replay_run.proofs.Compared.{file_at}
use Rattle.replay_run.proofs.Kept.{others_both, others_left, others_right}
use Rattle.replay_run.proofs.Runs.{handled_so, goes_on, no_next}
use Rattle.replay_run.proofs.Ends.{other_line, none_left, shown_is, compares_after, stands_in_while, first_in}
use Rattle.replay_run.proofs.turn.one_turn.Goals as goal

pub judge-requires-clause-served : goal.judge-requires-clause-served
judge-requires-clause-served g c =
    let counts = rw c.in-Ok-Some.field-0-is at c.in-Ok-Some.ensures.counts in
    let files : files_in c.packet_for.new.feed.sources ≡ c.args.captures.now = c.packet_for.ensures.same.files ∙ c.requires.captures.reads.files in
    shown_served c.args.func.now c.in-Ok-Some.packet c.packet_for.new.feed counts.1 (c.packet_for.ensures.same.six ∙ c.requires.captures.six) (ap (λ (fs : List ℕ). length fs) files ∙ c.requires.captures.ports)

pub returns-in-Err-clause-read : goal.returns-in-Err-clause-read
returns-in-Err-clause-read g c =
    let told = g.F.Files.told in
    record {
      kept = others_left c.args.captures.now (files_of c.args.outputs.now) (told c.args.files.now) (told c.packet_for.new.files) c.packet_for.ensures.kept;
      cause = search rules;
      among = search rules;
    }

pub returns-in-Ok-None-clause-turns : goal.returns-in-Ok-None-clause-turns
returns-in-Ok-None-clause-turns g c = λ start hs run stands.
    let told = g.F.Files.told in
    let j = c.args.judge.now in
    let line = c.args.line.now in
    let fetches = subst (λ (m : Mode). Fetches {E = RunFault} m line c.args.feed.now c.packet_for.new.feed (told c.args.files.now) (told c.packet_for.new.files) (Ok None)) (sym c.requires.judges.mode_is) (rw c.in-Ok-None.field-0-is at c.in-Ok-None.ensures.fetches) in
    none_left (IsRun (function_of c.args.func.now) (keys_in c.args.keys) j.heading) j.heading.mode (packets_at c.args.feed.now start) hs line (fetches start (map arrival_of hs) stands)

pub returns-in-Ok-None-clause-read : goal.returns-in-Ok-None-clause-read
returns-in-Ok-None-clause-read g c =
    let told = g.F.Files.told in
    record {
      kept = others_left c.args.captures.now (files_of c.args.outputs.now) (told c.args.files.now) (told c.packet_for.new.files) c.packet_for.ensures.kept;
      cause = search rules;
      among = search rules;
    }

pub returns-in-None-clause-turns : goal.returns-in-None-clause-turns
returns-in-None-clause-turns g c = λ start hs run stands.
    let told = g.F.Files.told in
    let f = function_of c.args.func.now in
    let j = c.args.judge.now in
    let p = c.in-Ok-Some.packet in
    let keys = c.args.keys in
    let line = c.args.line.now in
    let a = shown p c.packet_for.new.feed in
    let queue = c.queue_of-queue.ensures j.heading.workers c.requires.judges.table_is in
    let none = subst (λ (q : ℕ). (next : StepResult) → Steps f j.heading q j.tables.state p next → line ≢ line_of j.heading q (record { packet = p; done = next.done })) queue c.in-None.ensures.none in
    let fetches = subst (λ (m : Mode). Fetches {E = RunFault} m line c.args.feed.now c.packet_for.new.feed (told c.args.files.now) (told c.packet_for.new.files) (Ok (Some p))) (sym c.requires.judges.mode_is) (rw c.in-Ok-Some.field-0-is at c.in-Ok-Some.ensures.fetches) in
    other_line (IsRun f (keys_in keys) j.heading) j.heading.mode (packets_at c.args.feed.now start) hs a line
    (no_next f keys j.heading hs j.tables.state p line c.requires.judges.some c.requires.judges.keyed run none)
    fetches.0
    (first_in j.heading.mode start (map arrival_of hs ++ a ∷ []) c.packet_for.new.feed c.args.feed.now (told c.packet_for.new.files) c.packet_for.ensures.same.files c.packet_for.ensures.same.six (fetches.1 start (map arrival_of hs) stands))

pub returns-in-None-clause-read : goal.returns-in-None-clause-read
returns-in-None-clause-read g c =
    let told = g.F.Files.told in
    record {
      kept = others_left c.args.captures.now (files_of c.args.outputs.now) (told c.args.files.now) (told c.packet_for.new.files) c.packet_for.ensures.kept;
      cause = search rules;
      among = search rules;
    }

pub returns-in-Ok-clause-turns : goal.returns-in-Ok-clause-turns
returns-in-Ok-clause-turns g c =
    let told = g.F.Files.told in
    let f = function_of c.args.func.now in
    let j = c.args.judge.now in
    let p = c.in-Ok-Some.packet in
    let original = c.original-original.result in
    let frame = c.frame-frame.result.now in
    let done = c.in-Some.done in
    let keys = c.args.keys in
    let line = c.args.line.now in
    let queue = c.queue_of-queue.ensures j.heading.workers c.requires.judges.table_is in
    let after = c.judge.new.self.tables.state in
    let steps = subst (λ (q : ℕ). Steps f j.heading q j.tables.state p (record { state = after; done = done })) queue c.in-Some.ensures.steps in
    let tells = subst (λ (q : ℕ). line ≡ line_of j.heading q (record { packet = p; done = done })) queue c.in-Some.ensures.tells in
    let h = handled_so j.heading keys p original frame done in
    let all = c.args.captures.now in
    let old = told c.args.files.now in
    let read = told c.packet_for.new.files in
    let new = told c.compare_all.new.files in
    let next = c.packet_for.new.feed in
    let fetches = subst (λ (m : Mode). Fetches {E = RunFault} m line c.args.feed.now next old read (Ok (Some p))) (sym c.requires.judges.mode_is) (rw c.in-Ok-Some.field-0-is at c.in-Ok-Some.ensures.fetches) in
    let files : files_in next.sources ≡ all = c.packet_for.ensures.same.files ∙ c.requires.captures.reads.files in
    record {
      packet = p;
      original = original;
      frame = frame;
      done = done;
      worker = h.worker;
      is_line = sym tells;
      runs = λ hs run. goes_on f keys j.heading hs j.tables.state after p original frame done c.requires.judges.some c.requires.judges.keyed steps run;
      feeds = λ start given b.
          stands_in_while j.heading.mode start (given ++ arrival_of h ∷ []) next read new
          (λ port n e. c.compare_all.ensures.kept.rests n (c.requires.beside.clear.behind port n (sym (ap (λ (fs : List ℕ). slice_get fs port) files) ∙ e)))
          (subst (λ (a : Arrival). StandsIn j.heading.mode start (given ++ a ∷ []) next read) (sym (shown_is p original frame next c.original-original.ensures c.frame-frame.ensures)) (fetches.1 start given b));
      compares =
          compares_after c.args.format h c.args.outputs.now c.compare_all.new.all old read new
          (λ k o e. c.packet_for.ensures.kept.rests o.file (c.requires.beside.clear.ahead k o.file (file_at c.args.outputs.now k o e)))
          (c.in-Ok.ensures.compares h.worker);
    }

pub returns-in-Ok-clause-read : goal.returns-in-Ok-clause-read
returns-in-Ok-clause-read g c =
    let told = g.F.Files.told in
    let outputs = files_of c.args.outputs.now in
    record {
      kept = others_both (c.args.captures.now ++ outputs) (told c.args.files.now) (told c.packet_for.new.files) (told c.compare_all.new.files) (others_left c.args.captures.now outputs (told c.args.files.now) (told c.packet_for.new.files) c.packet_for.ensures.kept) (others_right c.args.captures.now outputs (told c.packet_for.new.files) (told c.compare_all.new.files) c.compare_all.ensures.kept);
      cause = search rules;
      among = search rules;
    }

pub returns-in-Err-compare_all-clause-read : goal.returns-in-Err-compare_all-clause-read
returns-in-Err-compare_all-clause-read g c =
    let told = g.F.Files.told in
    let outputs = files_of c.args.outputs.now in
    record {
      kept = others_both (c.args.captures.now ++ outputs) (told c.args.files.now) (told c.packet_for.new.files) (told c.compare_all.new.files) (others_left c.args.captures.now outputs (told c.args.files.now) (told c.packet_for.new.files) c.packet_for.ensures.kept) (others_right c.args.captures.now outputs (told c.packet_for.new.files) (told c.compare_all.new.files) c.compare_all.ensures.kept);
      cause = search rules;
      among = search rules;
    }
