use Rattle.std.proofs.Common.{map, string_bytes}
use Rattle.command_words.specs.Commands.{command_of}
use Rattle.lock_mode.specs.Gates.{Rose}
use Rattle.call_base.specs.Outside.{seen}
use Rattle.maestro_cli.proofs.Causing.{cause_of}
use Rattle.maestro_cli.proofs.program.maestro.Goals as goal

pub returns-clause-cause : goal.returns-clause-cause
returns-clause-cause g c =
    let told = g.F.Files.told in
    let counted = g.F.Files.counted in
    cause_of (Rose (g.L.Gate.refused c.args.gate.now) (g.L.Gate.refused c.carry_out-due.new.gate)) (command_of (map string_bytes c.args.words.now)) (seen (told c.args.files.now) (counted c.args.files.now)) (seen (told c.tell.new.files) (counted c.tell.new.files)) c.tell.result
    (record {
      ended = seen (told c.carry_out-due.new.files) (counted c.carry_out-due.new.files);
      due = c.carry_out-due.result;
      comes = c.carry_out-due.ensures;
      tells = c.tell.ensures;
    })
