use Rattle.run_call.proofs.running.run_job.Given as goal

abbrev pub ghost-run_fed : goal.ghost-run_fed
ghost-run_fed g a = g.before
