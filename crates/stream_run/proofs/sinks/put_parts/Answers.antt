use Rattle.std.proofs.Common.{◌∷◌, ◌++◌, []}
use Rattle.stream_run.specs.Writing.{files_of}
use Rattle.stream_run.proofs.Grown.{held_grown, fronts_held}
use Rattle.stream_run.proofs.Held.{kept_none}
use Rattle.stream_run.proofs.sinks.put_parts.Goals as goal

pub returns-in-Ok-clause-goes_on : goal.returns-in-Ok-clause-goes_on
returns-in-Ok-clause-goes_on g c = λ mode workers card format hs held.
    let h = c.args.handled.now in
    c.flush_full.ensures.goes_on mode workers card format c.args.ports (hs ++ h ∷ []) (held_grown mode workers card format c.args.ports hs h (g.F.Files.told c.args.files.now) c.args.sinks.now held c.hold_parts.new.sinks c.in-Ok.ensures.ok)

pub returns-in-Err-clause-goes_on : goal.returns-in-Err-clause-goes_on
returns-in-Err-clause-goes_on g c = λ mode workers card format hs held.
    fronts_held mode workers card format c.args.ports hs c.args.handled.now (g.F.Files.told c.args.files.now) c.args.sinks.now held c.hold_parts.new.sinks c.hold_parts.ensures.same_files

pub returns-in-Err-clause-kept : goal.returns-in-Err-clause-kept
returns-in-Err-clause-kept g c = kept_none (files_of c.args.sinks.now) (g.F.Files.told c.args.files.now)
