use Rattle.std.proofs.Common.{◌+◌, List, Vec, Global, length, ap, sym, ◌∙◌, subst}
use Rattle.stream_run.specs.declared.fault.RunFault.{RunFault}
use Rattle.locked_run.specs.declared.chunk.Chunk.{Chunk}
use Rattle.locked_run.specs.Handled.{joined}
use Rattle.locked_run.specs.Chunks.{AreOf}
use Rattle.locked_run.specs.Rounds.{step_of}
use Rattle.locked_run.proofs.Chunked.{filled_of}
use Rattle.locked_run.proofs.Rounding.{turned, rounds_turned}
use Rattle.locked_run.proofs.rounds.Rounds.turn.Goals as goal

pub returns-in-Ok-clause-goes_on : goal.returns-in-Ok-clause-goes_on
returns-in-Ok-clause-goes_on g c = λ mode workers card format ready whole.
    let old = c.args.self.now in
    let w = c.write_beside.new.self in
    let all = joined c.args.batch.now c.args.worked.now.order c.args.worked.now.places.items in
    let from = c.args.from in
    turned (Unit {0}) RunFault mode workers card format c.args.ports all from (g.F.Files.told c.write_beside.new.files) c.args.targets.now old _ w.made.items w.next.items tt
    c.write_beside.ensures.filled (ap (λ (v : Vec Chunk Global). v.items) c.swap.ensures.x_after) (ap (λ (v : Vec Chunk Global). v.items) c.swap.ensures.y_after) c.write_beside.ensures.size ready
    (c.in-Ok.ensures.given.goes_on mode workers card format c.args.ports all from old.size ready.holds whole)

pub returns-in-Ok-clause-rounds : goal.returns-in-Ok-clause-rounds
returns-in-Ok-clause-rounds g c =
    let old = c.args.self.now in
    let w = c.write_beside.new.self in
    let all = joined c.args.batch.now c.args.worked.now.order c.args.worked.now.places.items in
    let targets = c.args.targets.now in
    let filled = c.write_beside.ensures.filled in
    let given = c.write_beside.ensures.given in
    let x = ap (λ (v : Vec Chunk Global). v.items) c.swap.ensures.x_after in
    let y = ap (λ (v : Vec Chunk Global). v.items) c.swap.ensures.y_after in
    rounds_turned targets old _ c.requires.rounds c.write_beside.ensures.size (ap length x ∙ filled.count ∙ c.requires.rounds.as_many) (ap length y ∙ given.as_many)
    (subst (λ (cs : List Chunk). AreOf targets cs) (sym x) (filled_of c.args.ports all (c.args.from + step_of old) old.size targets old.next.items w.next.items filled c.requires.rounds.next_files))
    (subst (λ (cs : List Chunk). AreOf targets cs) (sym y) given.same_files)

pub returns-in-Err-clause-goes_on : goal.returns-in-Err-clause-goes_on
returns-in-Err-clause-goes_on g c = λ mode workers card format ready whole.
    let all = joined c.args.batch.now c.args.worked.now.order c.args.worked.now.places.items in
    c.in-Err.ensures.given.goes_on mode workers card format c.args.ports all c.args.from c.args.self.now.size ready.holds whole

pub returns-in-Err-clause-rounds : goal.returns-in-Err-clause-rounds
returns-in-Err-clause-rounds g c =
    let old = c.args.self.now in
    let w = c.write_beside.new.self in
    let all = joined c.args.batch.now c.args.worked.now.order c.args.worked.now.places.items in
    let targets = c.args.targets.now in
    let filled = c.write_beside.ensures.filled in
    rounds_turned targets old w c.requires.rounds c.write_beside.ensures.size c.write_beside.ensures.given.as_many (filled.count ∙ c.requires.rounds.as_many) c.write_beside.ensures.given.same_files
    (filled_of c.args.ports all (c.args.from + step_of old) old.size targets old.next.items w.next.items filled c.requires.rounds.next_files)
