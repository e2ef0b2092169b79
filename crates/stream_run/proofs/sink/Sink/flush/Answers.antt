use Rattle.std.proofs.Common.{ℕ, List, sym, subst}
use Rattle.stream_run.specs.Writing.{Holding, Holds, IsFrontIfTold}
use Rattle.stream_run.proofs.Held.{flushed_front}
use Rattle.stream_run.proofs.sink.Sink.flush.Goals as goal

pub returns-in-Err-clause-goes_on : goal.returns-in-Err-clause-goes_on
returns-in-Err-clause-goes_on g c = λ bytes h.
    let old = g.F.Files.told c.args.files.now in
    let new = g.F.Files.told c.write_whole.new.files in
    let w = c.in-Err.ensures.wrote in
    let held : Holds bytes (old.given c.self.inside.file) c.as_slice.result.now =
    subst (λ (xs : List ℕ). Holds bytes (old.given c.self.inside.file) xs) (sym c.as_slice.ensures)
    (subst (λ (s : Holding). Holds bytes (old.given s.file) s.held) (sym c.self.view_is) h) in
    subst (λ (s : Holding). IsFrontIfTold bytes (new.given s.file)) c.self.view_is
    (flushed_front bytes c.as_slice.result.now w.count (old.given c.self.inside.file) (new.given c.self.inside.file) held w.wrote.gained)
