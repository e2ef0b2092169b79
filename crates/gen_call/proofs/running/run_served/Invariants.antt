use Rattle.gen_call.proofs.running.run_served.Given as goal

abbrev pub ghost-run_created : goal.ghost-run_created
ghost-run_created g a = g.before
