use Rattle.call_base.specs.Outside.{seen}
use Rattle.maestro_cli.proofs.program.do_run.Given as goal

abbrev pub ghost-run : goal.ghost-run
ghost-run g a = seen (g.F.Files.told a.files.now) (g.F.Files.counted a.files.now)
