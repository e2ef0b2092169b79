use Rattle.run_call.proofs.running.run_served.Given as goal

abbrev pub ghost-run_job : goal.ghost-run_job
ghost-run_job g a = g.before
