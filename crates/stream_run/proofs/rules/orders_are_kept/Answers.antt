use Rattle.stream_run.proofs.Ordered.{frames_keep, ports_kept, first_stay, rules_told}
use Rattle.stream_run.proofs.rules.orders_are_kept.Goals as goal

pub returns-clause-frames : goal.returns-clause-frames
returns-clause-frames c = frames_keep

pub returns-clause-ports : goal.returns-clause-ports
returns-clause-ports c = ports_kept

pub returns-clause-first : goal.returns-clause-first
returns-clause-first c = first_stay

pub returns-clause-told : goal.returns-clause-told
returns-clause-told c = rules_told
