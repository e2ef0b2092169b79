use Rattle.std.proofs.Common.{◌∷◌, ◌++◌, [], subst}
use Rattle.stream_run.specs.Runs.{Handled}
use Rattle.stream_run.specs.Writing.{AllGoOn}
use Rattle.stream_run.proofs.sinks.put_all.Goals as goal

pub returns-clause-goes_on : goal.returns-clause-goes_on
returns-clause-goes_on g c = λ mode workers card format hs held.
    subst (λ (h : Handled). AllGoOn mode workers card format c.args.ports (hs ++ h ∷ []) (g.F.Files.told c.put_parts.new.files) c.put_parts.new.sinks c.put_parts.result) c.parts-told.ensures
    (c.put_parts.ensures.goes_on mode workers card format hs held)
