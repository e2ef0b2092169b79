use Rattle.run_call.proofs.running.run_one.Given as goal

abbrev pub ghost-leave_ran : goal.ghost-leave_ran
ghost-leave_ran g a = g.before
