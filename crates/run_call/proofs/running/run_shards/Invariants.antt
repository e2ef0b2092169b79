use Rattle.run_call.proofs.running.run_shards.Given as goal

abbrev pub ghost-leave_ran : goal.ghost-leave_ran
ghost-leave_ran g a = g.before

abbrev pub ghost-print_ran : goal.ghost-print_ran
ghost-print_ran g a = g.before
