use Rattle.std.proofs.Common.{refl}
use Rattle.pcapng_file.specs.Written.{ng_header_bytes}
use Rattle.capture_format.proofs.Around.{heads_long}
use Rattle.capture_format.proofs.laws.blocks_are_spelled.Goals as goal

pub returns-clause-head : goal.returns-clause-head
unfolding ng_header_bytes
returns-clause-head c = refl

pub returns-clause-long : goal.returns-clause-long
returns-clause-long c = heads_long

pub returns-clause-packet : goal.returns-clause-packet
returns-clause-packet c = refl
