use Rattle.run_call.proofs.running.run_ready.Given as goal

abbrev pub ghost-run_one : goal.ghost-run_one
ghost-run_one g a = g.before

abbrev pub ghost-run_shards : goal.ghost-run_shards
ghost-run_shards g a = g.before

abbrev pub ghost-run_tables : goal.ghost-run_tables
ghost-run_tables g a = g.before
