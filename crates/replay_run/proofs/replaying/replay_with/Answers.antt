use Rattle.std.proofs.Common.{◌≢◌, ◌++◌, ◌∷◌, [], ℕ, List, Ok, length, sym, ap, subst, ◌∙◌, rules}
use Rattle.std.specs.List.{All}
use Rattle.packet_feed.specs.Told.{IsApart, KeepsOthers}
use Rattle.stream_run.specs.Writing.{StopsAmong}
use Rattle.nf_base.specs.Functions.{function_of}
use Rattle.run_history.specs.Headings.{Heading}
use Rattle.vig_tables.specs.TablesState.{TablesState}
use Rattle.replay_run.specs.Outputs.{files_of}
use Rattle.replay_run.specs.Queues.{keys_in}
use Rattle.replay_run.specs.Replaying.{IsRun, Finishes, sent}
use Rattle.replay_run.specs.Turns.{AreClear}
use Rattle.replay_run.specs.declared.lines.End.TheVariants as end
use Rattle.replay_run.proofs.Finishing.{read_as, finished}
use Rattle.replay_run.specs.declared.result.ReplayResult.{ReplayResult}
use Rattle.replay_run.proofs.Apart.{apart_right, clear_of, without, not_left, not_right, tail_apart}
use Rattle.replay_run.proofs.Runs.{begins_so}
use Rattle.replay_run.proofs.Kept.{others_both, others_outputs, among_any}
use Rattle.replay_run.specs.Given.{AreRead}
use Rattle.replay_run.proofs.replaying.replay_with.Goals as goal

pub read_lines-requires-clause-opens : goal.read_lines-requires-clause-opens
read_lines-requires-clause-opens g c =
    let f = function_of c.args.func.now in
    let h = c.args.header in
    let judge = c.in-Ok.judge in
    subst (λ (x : Heading). IsRun f (keys_in c.args.keys) x [] judge.tables.state) (sym c.in-Ok.ensures.heading)
    (begins_so f c.args.keys h judge.tables.state c.table_of-table.ensures.heading c.table_of-table.ensures.some c.requires.keyed (ap (λ (t : TablesState). t.state) c.in-Ok.ensures.tables))

pub finish-requires-clause-apart : goal.finish-requires-clause-apart
finish-requires-clause-apart g c =
    let outputs = c.args.outputs.now in
    let j = c.args.journal.now.file in
    subst (λ (fs : List ℕ). IsApart fs) (sym (c.read_lines.ensures.same_outputs ∙ c.in-Ok-begin.ensures.files)) (tail_apart j outputs (apart_right c.args.captures.now (j ∷ outputs) c.requires.files.apart))

pub returns-clause-read : goal.returns-clause-read
returns-clause-read g c =
    let told = g.F.Files.told in
    let start = told c.args.files.now in
    let mid = told c.read_lines.new.files in
    let new = told c.finish.new.files in
    let captures = c.args.captures.now in
    let outputs = c.args.outputs.now in
    let j = c.args.journal.now.file in
    let one = subst (λ (fs : List ℕ). KeepsOthers (captures ++ j ∷ fs) start mid) c.in-Ok-begin.ensures.files c.read_lines.ensures.read.kept in
    let two = subst (λ (fs : List ℕ). KeepsOthers fs mid new) (c.read_lines.ensures.same_outputs ∙ c.in-Ok-begin.ensures.files) c.finish.ensures.kept in
    record {
      kept = others_both (captures ++ j ∷ outputs) start mid new one (others_outputs captures j outputs mid new two);
      cause = search rules;
      among = among_any ReplayResult c.args.captures.now outputs c.args.journal.now.file c.finish.result
          (subst (λ (fs : List ℕ). StopsAmong [] fs c.finish.result) (c.read_lines.ensures.same_outputs ∙ c.in-Ok-begin.ensures.files) c.finish.ensures.among);
    }

pub returns-in-Wrong-clause-replays : goal.returns-in-Wrong-clause-replays
returns-in-Wrong-clause-replays g c = λ start bytes b.
    let told = g.F.Files.told in
    let reads = rw c.in-Wrong.is at c.in-Ok-read_lines.ensures.reads_all in
    read_as c.args.format (function_of c.args.func.now) (keys_in c.args.keys) c.in-Ok.judge.heading c.args.header (length c.args.captures.now) c.args.feed.now c.args.journal.now (files_of c.in-Ok-begin.compared) c.args.outputs.now (told c.args.files.now) (told c.read_lines.new.files) c.args.most
    c.read_lines.new.outputs c.read_lines.new.judge.tables.state (Ok (end.Wrong c.in-Wrong.line)) c.in-Ok.ensures.heading c.in-Ok-begin.ensures.files reads start bytes b

pub returns-in-TooMany-clause-replays : goal.returns-in-TooMany-clause-replays
returns-in-TooMany-clause-replays g c = λ start bytes b.
    let told = g.F.Files.told in
    let reads = rw c.in-TooMany.is at c.in-Ok-read_lines.ensures.reads_all in
    read_as c.args.format (function_of c.args.func.now) (keys_in c.args.keys) c.in-Ok.judge.heading c.args.header (length c.args.captures.now) c.args.feed.now c.args.journal.now (files_of c.in-Ok-begin.compared) c.args.outputs.now (told c.args.files.now) (told c.read_lines.new.files) c.args.most
    c.read_lines.new.outputs c.read_lines.new.judge.tables.state (Ok end.TooMany) c.in-Ok.ensures.heading c.in-Ok-begin.ensures.files reads start bytes b

pub returns-clause-replays : goal.returns-clause-replays
returns-clause-replays g c = λ start bytes b.
    let told = g.F.Files.told in
    let old = told c.args.files.now in
    let f = IsRun (function_of c.args.func.now) (keys_in c.args.keys) c.args.header in
    let ports = length c.args.captures.now in
    let reads = rw c.in-Over.is at c.in-Ok-read_lines.ensures.reads_all in
    let files = c.read_lines.ensures.same_outputs ∙ c.in-Ok-begin.ensures.files in
    let over = read_as c.args.format (function_of c.args.func.now) (keys_in c.args.keys) c.in-Ok.judge.heading c.args.header ports c.args.feed.now c.args.journal.now (files_of c.in-Ok-begin.compared) c.args.outputs.now old (told c.read_lines.new.files) c.args.most
    c.read_lines.new.outputs c.read_lines.new.judge.tables.state (Ok end.Over) c.in-Ok.ensures.heading c.in-Ok-begin.ensures.files reads start bytes b in
    let r = c.finish.result in
    let finishes = subst (λ (fs : List ℕ). Finishes (sent c.args.format c.args.header ports over.hs) old.rest fs c.read_lines.new.judge.tables.state r) files (c.finish.ensures.finishes old.rest (sent c.args.format c.args.header ports over.hs) over.compared) in
    finished f c.args.header c.args.format ports c.args.feed.now start bytes c.args.outputs.now old c.args.most (told c.read_lines.new.files) c.read_lines.new.outputs c.read_lines.new.judge.tables.state r (sym c.requires.files.as_many) over finishes

pub read_lines-requires-clause-files : goal.read_lines-requires-clause-files
read_lines-requires-clause-files g c =
    let told = g.F.Files.told c.args.files.now in
    subst (λ (fs : List ℕ). AreRead c.args.captures.now c.args.journal.now.file fs told) (sym c.in-Ok-begin.ensures.files) c.requires.files
