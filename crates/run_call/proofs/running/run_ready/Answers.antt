use Rattle.std.proofs.Common.{rules}
use Rattle.run_call.proofs.running.run_ready.Goals as goal

pub run_shards-requires : goal.run_shards-requires
run_shards-requires g c κs within =
    let requires = c.requires.1.1.1.1.1.1.1.1.1.1.1 in (
      within.0,
      (within.1.0, (within.1.1, (c.requires.1.1.1.1.0, (c.requires.1.1.1.1.1.0, (c.requires.1.1.1.1.1.1.0, (c.requires.1.1.1.1.1.1.1.0, (c.requires.1.1.1.1.1.1.1.1.1.0, (c.requires.1.1.1.1.1.1.1.1.1.1.0, (requires.0, search rules))))))))),
    )

pub run_tables-requires : goal.run_tables-requires
run_tables-requires g c κs within =
    let requires = c.requires.1.1.1.1.1.1.1.1.1.1.1 in (
      within.0,
      (within.1.0, (within.1.1.0, (within.1.1.1, (c.requires.1.1.1.1.1.1.1.1.0, (c.requires.1.1.1.1.1.1.1.1.1.0, (c.requires.1.1.1.1.1.1.1.1.1.1.0, (requires.0, search rules))))))),
    )

pub returns-in-One : goal.returns-in-One
returns-in-One g c =
    let count = g.L.Gate.refused c.args.gate.now in
    record { runs = c.run_one.ensures.runs count count }

pub returns-in-Shards : goal.returns-in-Shards
returns-in-Shards g c =
    let count = g.L.Gate.refused c.args.gate.now in
    record { runs = c.run_shards.ensures.runs count count }
