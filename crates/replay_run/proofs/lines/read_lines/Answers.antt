use Rattle.std.proofs.Common.{◌≡◌, ◌≢◌, ◌≤◌, ◌++◌, ◌∷◌, [], ℕ, List, Option, Bool, Err, length, map, Some, sym, ap, refl, subst, ◌∙◌, arith, rules}
use Rattle.std.specs.List.{All, slice_get}
use Rattle.std.proofs.lemmas.List.Elements.{All-append}
use Rattle.nf_base.specs.Functions.{function_of}
use Rattle.nf_files.specs.Told.{Told}
use Rattle.nf_files.specs.Reads.{Keeps}
use Rattle.packet_feed.specs.Told.{KeepsOthers}
use Rattle.packet_feed.proofs.Standing.{at_file}
use Rattle.run_history.specs.Headings.{Heading}
use Rattle.run_history.specs.declared.line.JournalLine.{JournalLine}
use Rattle.run_history.specs.Lines.{IsLine}
use Rattle.journal_read.specs.Journals.{Reading, Stands, AreAllLines}
use Rattle.journal_read.specs.Journals as journals
use Rattle.stream_run.specs.declared.fault.RunFault.{RunFault}
use Rattle.stream_run.specs.Writing.{StopsAmong}
use Rattle.file_match.specs.Comparing.{Comparing}
use Rattle.stream_run.specs.Runs.{Handled}
use Rattle.stream_run.specs.Streaming.{arrival_of}
use Rattle.stream_run.specs.Texts.{bytes_of}
use Rattle.replay_run.specs.Outputs.{files_of, AreFound}
use Rattle.replay_run.specs.Queues.{keys_in}
use Rattle.replay_run.specs.Replaying.{IsRun, NoneGoesOn}
use Rattle.replay_run.specs.Turns.{StandsIn, packets_at, IsTurn, IsEnd}
use Rattle.replay_run.specs.declared.lines.End.{End}
use Rattle.replay_run.proofs.Compared.{file_at, same_length}
use Rattle.replay_run.proofs.Kept.{others_both, others_around, others_outputs, others_one, among_more, among_of}
use Rattle.replay_run.proofs.Ends.{reached_none, reached_more, over_at, ends_at, wrong_at, wrong_turn}
use Rattle.replay_run.specs.Given.{AreBeside}
use Rattle.replay_run.proofs.Apart.{are_beside, beside_on, no_capture, no_output}
use Rattle.replay_run.proofs.Judged.{judges_on, output_count}
use Rattle.replay_run.proofs.lines.read_lines.Goals as goal

-- a file that is another is not in a list
apart_from : (files : List ℕ) (file k f : ℕ) → slice_get files k ≡ Some f → All (λ x. x ≢ file) files → f ≢ file
apart_from files file k f e h = at_file (λ x. x ≢ file) files k f e h

-- the outputs while the journal is read
outputs_while : (all begun : List Comparing) (file : ℕ) (old new : Told) → files_of all ≡ files_of begun → All (λ x. x ≢ file) (files_of begun) → Keeps old new file → (k : ℕ) (c : Comparing) → slice_get all k ≡ Some c → new.rest c.file ≡ old.rest c.file
outputs_while all begun file old new same others kept k c e = kept.rests c.file (apart_from (files_of begun) file k c.file (sym (ap (λ (fs : List ℕ). slice_get fs k) same) ∙ file_at all k c e) others)

-- captures while the journal is read
captures_while : (captures : List ℕ) (file : ℕ) (old new : Told) → All (λ x. x ≢ file) captures → Keeps old new file → (port f : ℕ) → slice_get captures port ≡ Some f → new.rest f ≡ old.rest f
captures_while captures file old new others kept port f e = kept.rests f (apart_from captures file port f e others)

-- what comes next of the journal, by another number of its file
gives_at : (journal read : Reading) (old mid : Told) (n file : ℕ) (line : JournalLine) → n ≡ file
    → ((at : Option (List ℕ)) (lines : List JournalLine) → Stands at lines journal (old.rest n) → IsLine line × Stands at (lines ++ line ∷ []) read (mid.rest n))
    → (at : Option (List ℕ)) (lines : List JournalLine) → Stands at lines journal (old.rest file) → IsLine line × Stands at (lines ++ line ∷ []) read (mid.rest file)
gives_at journal read old mid n file line same gives =
    subst (λ (m : ℕ). (at : Option (List ℕ)) (lines : List JournalLine) → Stands at lines journal (old.rest m) → IsLine line × Stands at (lines ++ line ∷ []) read (mid.rest m)) same gives

pub lines-init : goal.lines-init
lines-init g c =
    let told = g.F.Files.told in
    let old = told c.args.files.now in
    let now = told c.compare_headers.new.files in
    let captures = c.args.captures.now in
    let outputs = files_of c.args.outputs.now in
    let j = c.args.judge.now in
    let kept = c.compare_headers.ensures.kept in
    record {
      reached = λ start bytes b. reached_none (IsRun (function_of c.args.func.now) (keys_in c.args.keys) j.heading) j.heading c.args.format (length captures) start bytes c.args.feed.now c.args.journal.now old now c.compare_headers.new.all j.tables.state c.requires.opens c.requires.new
          (λ port f e. kept.rests f ((are_beside _ _ _ _ c.requires.files).clear.behind port f (sym (ap (λ (fs : List ℕ). slice_get fs port) c.requires.captures.reads.files) ∙ e)))
          (kept.rests c.args.journal.now.file (no_output _ _ _ _ c.requires.files))
          (subst (λ (n : ℕ). AreFound (λ k. bytes_of j.heading.mode j.heading.workers j.heading.card c.args.format n k []) old.rest c.compare_headers.new.all now) (output_count c.args.outputs.now _ c.requires.files.as_many) (c.in-Ok.ensures.compares j.heading.mode j.heading.workers j.heading.card))
          b;
      captures = c.requires.captures.reads.files;
      six = refl;
      most = c.requires.most;
      within = omega (arith, c.requires.new);
      same = refl;
      same_heading = refl;
      same_file = refl;
      same_outputs = c.compare_headers.ensures.same_files;
      kept = others_outputs captures c.args.journal.now.file outputs old now kept;
      count = c.in-Ok.ensures.cause;
    }

pub lines-preserved : goal.lines-preserved
lines-preserved g c =
    let told = g.F.Files.told in
    let first = told c.args.files.now in
    let old = told c.lines.files in
    let mid = told c.next_line.new.files in
    let new = told c.one_turn.new.files in
    let captures = c.args.captures.now in
    let begun = c.args.outputs.now in
    let outputs = files_of begun in
    let file = c.args.journal.now.file in
    let inv = c.lines.invariant in
    let j = c.args.judge.now in
    let read : Keeps old mid file = subst (λ (n : ℕ). Keeps old mid n) inv.same_file c.next_line.ensures.kept in
    let turned : KeepsOthers (captures ++ outputs) mid new = subst (λ (fs : List ℕ). KeepsOthers (captures ++ fs) mid new) inv.same_outputs c.one_turn.ensures.read.kept in
    let gives = rw c.in-Ok-Line.field-0-is at c.in-Ok-Line.ensures.gives in
    let turn = subst (λ (h : Heading). IsTurn (IsRun (function_of c.args.func.now) (keys_in c.args.keys) h) h.mode c.args.format c.in-Ok-Line.line c.lines.judge.tables.state c.one_turn.new.judge.tables.state c.lines.feed c.one_turn.new.feed mid new c.lines.outputs c.one_turn.new.outputs) inv.same_heading (rw c.in-Ok-true.field-0-test at c.in-Ok-true.ensures.turns) in
    let counts = rw c.in-Ok-true.field-0-test at c.in-Ok-true.ensures.counts in
    let few : length c.lines.outputs ≤ length captures = omega (arith, same_length c.lines.outputs begun inv.same_outputs, output_count c.args.outputs.now _ c.requires.files.as_many) in
    record {
      reached = λ start bytes b. reached_more (IsRun (function_of c.args.func.now) (keys_in c.args.keys) j.heading) j.heading c.args.format (length captures) start bytes first.rest file old mid new c.lines.feed c.one_turn.new.feed c.lines.journal c.next_line.new.journal c.lines.outputs c.one_turn.new.outputs c.lines.judge.tables.state c.one_turn.new.judge.tables.state c.in-Ok-Line.line
          (inv.reached start bytes b)
          (λ at lines stands. gives_at c.lines.journal c.next_line.new.journal old mid c.lines.journal.file file c.in-Ok-Line.line inv.same_file gives at lines stands)
          turn
          (λ port f e. captures_while captures file old mid (no_capture _ _ _ _ c.requires.files) read port f (sym (ap (λ (fs : List ℕ). slice_get fs port) inv.captures) ∙ e))
          (outputs_while c.lines.outputs begun file old mid inv.same_outputs (no_output _ _ _ _ c.requires.files) read)
          (turned.rests file (All-append (λ f. f ≢ file) captures outputs (no_capture _ _ _ _ c.requires.files) (no_output _ _ _ _ c.requires.files)))
          few counts;
      captures = c.one_turn.ensures.same_feed.files ∙ inv.captures;
      six = c.one_turn.ensures.same_feed.six ∙ inv.six;
      most = c.one_turn.ensures.same_feed.most ∙ inv.most;
      within = omega (arith, counts, inv.within, c.if-given-most.false, c.given.ensures);
      same = c.one_turn.ensures.same.tables ∙ inv.same;
      same_heading = c.one_turn.ensures.same.heading ∙ inv.same_heading;
      same_file = c.next_line.ensures.same_file ∙ inv.same_file;
      same_outputs = c.one_turn.ensures.same_outputs ∙ inv.same_outputs;
      kept = others_both (captures ++ file ∷ outputs) first mid new (others_both (captures ++ file ∷ outputs) first old mid inv.kept (others_one captures file outputs old mid read)) (others_around captures file outputs mid new turned);
      count = c.in-Ok-true.ensures.read.cause ∙ c.in-Ok-Line.ensures.cause ∙ inv.count;
    }

pub returns-in-Err-clause-read : goal.returns-in-Err-clause-read
returns-in-Err-clause-read g c =
    let told = g.F.Files.told in
    record {
      kept = others_outputs c.args.captures.now c.args.journal.now.file (files_of c.args.outputs.now) (told c.args.files.now) (told c.compare_headers.new.files) c.compare_headers.ensures.kept;
      cause = search rules;
      among = among_more End End c.args.captures.now (files_of c.args.outputs.now) c.args.journal.now.file c.in-Err.stop (among_of End c.args.captures.now (files_of c.args.outputs.now) c.compare_headers.result c.in-Err.stop c.in-Err.is c.compare_headers.ensures.among);
    }

pub returns-then-given-most-clause-reads_all : goal.returns-then-given-most-clause-reads_all
returns-then-given-most-clause-reads_all g c =
    let told = g.F.Files.told in
    let first = told c.args.files.now in
    let old = told c.lines.files in
    let captures = c.args.captures.now in
    let begun = c.args.outputs.now in
    let outputs = files_of begun in
    let file = c.args.journal.now.file in
    let inv = c.lines.invariant in
    let heading = c.args.judge.now.heading in
    let f = IsRun (function_of c.args.func.now) (keys_in c.args.keys) heading in
    let same = inv.captures ∙ sym c.requires.captures.reads.files in
    let new = told c.end_of.new.files in
    let read : Keeps old new file = subst (λ (n : ℕ). Keeps old new n) inv.same_file c.end_of.ensures.kept in
    let ends = subst (λ (m : ℕ). (at : Option (List ℕ)) (lines : List JournalLine) → Stands at lines c.lines.journal (old.rest m) → IsEnd at lines c.end_of.result) inv.same_file c.end_of.ensures.ends in
    λ start bytes b.
    ends_at f heading c.args.format (length captures) start bytes c.args.feed.now outputs first c.args.most RunFault old new c.lines.feed c.lines.journal file c.lines.outputs c.lines.judge.tables.state c.end_of.result (inv.reached start bytes b) same inv.six (omega (arith, c.if-given-most.true, c.given.ensures))
    ends c.end_of.ensures.right (outputs_while c.lines.outputs begun file old new inv.same_outputs (no_output _ _ _ _ c.requires.files) read)

pub returns-then-given-most-clause-read : goal.returns-then-given-most-clause-read
returns-then-given-most-clause-read g c =
    let told = g.F.Files.told in
    let first = told c.args.files.now in
    let old = told c.lines.files in
    let captures = c.args.captures.now in
    let begun = c.args.outputs.now in
    let outputs = files_of begun in
    let file = c.args.journal.now.file in
    let inv = c.lines.invariant in
    let heading = c.args.judge.now.heading in
    let f = IsRun (function_of c.args.func.now) (keys_in c.args.keys) heading in
    let same = inv.captures ∙ sym c.requires.captures.reads.files in
    let new = told c.end_of.new.files in
    let read : Keeps old new file = subst (λ (n : ℕ). Keeps old new n) inv.same_file c.end_of.ensures.kept in
    record {
      kept = others_both (captures ++ file ∷ outputs) first old new inv.kept (others_one captures file outputs old new read);
      cause = search rules;
      among = search rules;
    }

pub returns-in-Ok-End-clause-reads_all : goal.returns-in-Ok-End-clause-reads_all
returns-in-Ok-End-clause-reads_all g c =
    let told = g.F.Files.told in
    let first = told c.args.files.now in
    let old = told c.lines.files in
    let captures = c.args.captures.now in
    let begun = c.args.outputs.now in
    let outputs = files_of begun in
    let file = c.args.journal.now.file in
    let inv = c.lines.invariant in
    let heading = c.args.judge.now.heading in
    let f = IsRun (function_of c.args.func.now) (keys_in c.args.keys) heading in
    let same = inv.captures ∙ sym c.requires.captures.reads.files in
    let mid = told c.next_line.new.files in
    let read : Keeps old mid file = subst (λ (n : ℕ). Keeps old mid n) inv.same_file c.next_line.ensures.kept in
    let gives = rw c.in-Ok-End.field-0-is at c.in-Ok-End.ensures.gives in
    let all = subst (λ (m : ℕ). (at : Option (List ℕ)) (lines : List JournalLine) → Stands at lines c.lines.journal (old.rest m) → AreAllLines at lines) inv.same_file gives in
    λ start bytes b.
    over_at f heading c.args.format (length captures) start bytes c.args.feed.now outputs first c.args.most old mid c.lines.feed c.lines.journal file c.lines.outputs c.lines.judge.tables.state (inv.reached start bytes b) same inv.six inv.within all (outputs_while c.lines.outputs begun file old mid inv.same_outputs (no_output _ _ _ _ c.requires.files) read)

pub returns-in-Ok-Wrong-clause-reads_all : goal.returns-in-Ok-Wrong-clause-reads_all
returns-in-Ok-Wrong-clause-reads_all g c =
    let told = g.F.Files.told in
    let first = told c.args.files.now in
    let old = told c.lines.files in
    let captures = c.args.captures.now in
    let begun = c.args.outputs.now in
    let outputs = files_of begun in
    let file = c.args.journal.now.file in
    let inv = c.lines.invariant in
    let heading = c.args.judge.now.heading in
    let f = IsRun (function_of c.args.func.now) (keys_in c.args.keys) heading in
    let same = inv.captures ∙ sym c.requires.captures.reads.files in
    let gives = rw c.in-Ok-Wrong.field-0-is at c.in-Ok-Wrong.ensures.gives in
    let wrong = subst (λ (m : ℕ). (at : Option (List ℕ)) (lines : List JournalLine) → Stands at lines c.lines.journal (old.rest m) → journals.IsWrong at lines) inv.same_file gives in
    λ start bytes b.
    wrong_at f heading c.args.format (length captures) start bytes c.args.feed.now outputs first c.args.most old c.lines.feed c.lines.journal file c.lines.outputs c.lines.judge.tables.state _ (inv.reached start bytes b) same inv.six (omega (arith, inv.within, c.if-given-most.false, c.given.ensures)) (grind arith) wrong

pub returns-in-Ok-false-clause-reads_all : goal.returns-in-Ok-false-clause-reads_all
returns-in-Ok-false-clause-reads_all g c =
    let told = g.F.Files.told in
    let first = told c.args.files.now in
    let old = told c.lines.files in
    let captures = c.args.captures.now in
    let begun = c.args.outputs.now in
    let outputs = files_of begun in
    let file = c.args.journal.now.file in
    let inv = c.lines.invariant in
    let heading = c.args.judge.now.heading in
    let f = IsRun (function_of c.args.func.now) (keys_in c.args.keys) heading in
    let same = inv.captures ∙ sym c.requires.captures.reads.files in
    let mid = told c.next_line.new.files in
    let read : Keeps old mid file = subst (λ (n : ℕ). Keeps old mid n) inv.same_file c.next_line.ensures.kept in
    let gives = rw c.in-Ok-Line.field-0-is at c.in-Ok-Line.ensures.gives in
    let none = subst (λ (h : Heading). (before : Told) (hs : List Handled) → IsRun (function_of c.args.func.now) (keys_in c.args.keys) h hs c.lines.judge.tables.state → StandsIn h.mode before (map arrival_of hs) c.lines.feed mid → NoneGoesOn (IsRun (function_of c.args.func.now) (keys_in c.args.keys) h) h.mode (packets_at c.lines.feed before) hs (λ l. l ≡ c.in-Ok-Line.line)) inv.same_heading (rw c.in-Ok-false.field-0-test at c.in-Ok-false.ensures.turns) in
    λ start bytes b.
    wrong_turn f heading c.args.format (length captures) start bytes c.args.feed.now outputs first c.args.most old mid c.lines.feed c.lines.journal c.next_line.new.journal file c.lines.outputs c.lines.judge.tables.state c.in-Ok-Line.line _ (inv.reached start bytes b) same inv.six (omega (arith, inv.within, c.if-given-most.false, c.given.ensures)) (grind arith)
    (λ at lines stands. gives_at c.lines.journal c.next_line.new.journal old mid c.lines.journal.file file c.in-Ok-Line.line inv.same_file gives at lines stands)
    (λ port n e. captures_while captures file old mid (no_capture _ _ _ _ c.requires.files) read port n (sym (ap (λ (fs : List ℕ). slice_get fs port) inv.captures) ∙ e))
    none

pub returns-in-Ok-End-clause-read : goal.returns-in-Ok-End-clause-read
returns-in-Ok-End-clause-read g c =
    let told = g.F.Files.told in
    let first = told c.args.files.now in
    let old = told c.lines.files in
    let captures = c.args.captures.now in
    let begun = c.args.outputs.now in
    let outputs = files_of begun in
    let file = c.args.journal.now.file in
    let inv = c.lines.invariant in
    let heading = c.args.judge.now.heading in
    let f = IsRun (function_of c.args.func.now) (keys_in c.args.keys) heading in
    let same = inv.captures ∙ sym c.requires.captures.reads.files in
    let mid = told c.next_line.new.files in
    let read : Keeps old mid file = subst (λ (n : ℕ). Keeps old mid n) inv.same_file c.next_line.ensures.kept in
    record {
      kept = others_both (captures ++ file ∷ outputs) first old mid inv.kept (others_one captures file outputs old mid read);
      cause = search rules;
      among = search rules;
    }

pub returns-in-Ok-Wrong-clause-read : goal.returns-in-Ok-Wrong-clause-read
returns-in-Ok-Wrong-clause-read g c =
    let told = g.F.Files.told in
    let first = told c.args.files.now in
    let old = told c.lines.files in
    let captures = c.args.captures.now in
    let begun = c.args.outputs.now in
    let outputs = files_of begun in
    let file = c.args.journal.now.file in
    let inv = c.lines.invariant in
    let heading = c.args.judge.now.heading in
    let f = IsRun (function_of c.args.func.now) (keys_in c.args.keys) heading in
    let same = inv.captures ∙ sym c.requires.captures.reads.files in
    let mid = told c.next_line.new.files in
    let read : Keeps old mid file = subst (λ (n : ℕ). Keeps old mid n) inv.same_file c.next_line.ensures.kept in
    record {
      kept = others_both (captures ++ file ∷ outputs) first old mid inv.kept (others_one captures file outputs old mid read);
      cause = search rules;
      among = search rules;
    }

pub returns-in-Err-next_line-clause-read : goal.returns-in-Err-next_line-clause-read
returns-in-Err-next_line-clause-read g c =
    let told = g.F.Files.told in
    let first = told c.args.files.now in
    let old = told c.lines.files in
    let captures = c.args.captures.now in
    let begun = c.args.outputs.now in
    let outputs = files_of begun in
    let file = c.args.journal.now.file in
    let inv = c.lines.invariant in
    let heading = c.args.judge.now.heading in
    let f = IsRun (function_of c.args.func.now) (keys_in c.args.keys) heading in
    let same = inv.captures ∙ sym c.requires.captures.reads.files in
    let mid = told c.next_line.new.files in
    let read : Keeps old mid file = subst (λ (n : ℕ). Keeps old mid n) inv.same_file c.next_line.ensures.kept in
    record {
      kept = others_both (captures ++ file ∷ outputs) first old mid inv.kept (others_one captures file outputs old mid read);
      cause = search rules;
      among = search rules;
    }

pub returns-in-Ok-false-clause-read : goal.returns-in-Ok-false-clause-read
returns-in-Ok-false-clause-read g c =
    let told = g.F.Files.told in
    let first = told c.args.files.now in
    let old = told c.lines.files in
    let captures = c.args.captures.now in
    let begun = c.args.outputs.now in
    let outputs = files_of begun in
    let file = c.args.journal.now.file in
    let inv = c.lines.invariant in
    let heading = c.args.judge.now.heading in
    let f = IsRun (function_of c.args.func.now) (keys_in c.args.keys) heading in
    let same = inv.captures ∙ sym c.requires.captures.reads.files in
    let mid = told c.next_line.new.files in
    let read : Keeps old mid file = subst (λ (n : ℕ). Keeps old mid n) inv.same_file c.next_line.ensures.kept in
    let new = told c.one_turn.new.files in
    let turned : KeepsOthers (captures ++ outputs) mid new = subst (λ (fs : List ℕ). KeepsOthers (captures ++ fs) mid new) inv.same_outputs c.one_turn.ensures.read.kept in
    record {
      kept = others_both (captures ++ file ∷ outputs) first mid new (others_both (captures ++ file ∷ outputs) first old mid inv.kept (others_one captures file outputs old mid read)) (others_around captures file outputs mid new turned);
      cause = search rules;
      among = search rules;
    }

pub returns-in-Err-one_turn-clause-read : goal.returns-in-Err-one_turn-clause-read
returns-in-Err-one_turn-clause-read g c =
    let told = g.F.Files.told in
    let first = told c.args.files.now in
    let old = told c.lines.files in
    let captures = c.args.captures.now in
    let begun = c.args.outputs.now in
    let outputs = files_of begun in
    let file = c.args.journal.now.file in
    let inv = c.lines.invariant in
    let heading = c.args.judge.now.heading in
    let f = IsRun (function_of c.args.func.now) (keys_in c.args.keys) heading in
    let same = inv.captures ∙ sym c.requires.captures.reads.files in
    let mid = told c.next_line.new.files in
    let read : Keeps old mid file = subst (λ (n : ℕ). Keeps old mid n) inv.same_file c.next_line.ensures.kept in
    let new = told c.one_turn.new.files in
    let turned : KeepsOthers (captures ++ outputs) mid new = subst (λ (fs : List ℕ). KeepsOthers (captures ++ fs) mid new) inv.same_outputs c.one_turn.ensures.read.kept in
    record {
      kept = others_both (captures ++ file ∷ outputs) first mid new (others_both (captures ++ file ∷ outputs) first old mid inv.kept (others_one captures file outputs old mid read)) (others_around captures file outputs mid new turned);
      cause = search rules;
      among = among_more Bool End c.args.captures.now (files_of c.args.outputs.now) c.args.journal.now.file c.in-Err-one_turn.stop
          (subst (λ (fs : List ℕ). StopsAmong {T = Bool} c.args.captures.now fs (Err c.in-Err-one_turn.stop)) inv.same_outputs c.in-Err-one_turn.ensures.read.among);
    }

pub compare_headers-requires-clause-apart : goal.compare_headers-requires-clause-apart
compare_headers-requires-clause-apart g c = (are_beside _ _ _ _ c.requires.files).apart

pub one_turn-requires-clause-judges : goal.one_turn-requires-clause-judges
one_turn-requires-clause-judges g c =
    let inv = c.lines.invariant in
    judges_on c.args.func.now c.args.keys c.args.table.now c.args.mode c.args.judge.now c.lines.judge (record { tables = inv.same; heading = inv.same_heading }) c.requires.judges

pub one_turn-requires-clause-captures : goal.one_turn-requires-clause-captures
one_turn-requires-clause-captures g c =
    let inv = c.lines.invariant in
    let given = c.requires.captures in
    record {
      reads = record { files = inv.captures; opened = λ k file e. c.next_line.ensures.kept.kinds file ∙ inv.kept.kinds file ∙ given.reads.opened k file e };
      six = inv.six ∙ given.six;
      ports = given.ports;
    }

pub one_turn-requires-clause-beside : goal.one_turn-requires-clause-beside
one_turn-requires-clause-beside g c =
    let told = g.F.Files.told in
    let inv = c.lines.invariant in
    let captures = c.args.captures.now in
    let mid = told c.next_line.new.files in
    subst (λ (fs : List ℕ). AreBeside captures fs mid) (sym inv.same_outputs)
    (beside_on captures (files_of c.args.outputs.now) (told c.args.files.now) mid (λ file. c.next_line.ensures.kept.kinds file ∙ inv.kept.kinds file) (are_beside _ _ _ _ c.requires.files))
