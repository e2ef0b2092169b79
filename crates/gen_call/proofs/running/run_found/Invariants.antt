use Rattle.gen_call.proofs.running.run_found.Given as goal

abbrev pub ghost-run_served : goal.ghost-run_served
ghost-run_served g a = g.before
