use Rattle.gen_call.proofs.running.generate.Given as goal

abbrev pub ghost-run_found : goal.ghost-run_found
ghost-run_found g a = g.before
