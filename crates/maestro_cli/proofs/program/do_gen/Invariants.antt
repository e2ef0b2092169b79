use Rattle.call_base.specs.Outside.{seen}
use Rattle.maestro_cli.proofs.program.do_gen.Given as goal

abbrev pub ghost-generate : goal.ghost-generate
ghost-generate g a = seen (g.F.Files.told a.files.now) (g.F.Files.counted a.files.now)
