use Rattle.run_call.proofs.running.run_fed.Given as goal

abbrev pub ghost-run_ready : goal.ghost-run_ready
ghost-run_ready g a = g.before
