use Rattle.std.proofs.Common.{◌+◌, arith}
use Rattle.gen_traffic.proofs.Headers.{checksum_is}
use Rattle.gen_traffic.proofs.frame.header_checksum.Goals as goal

pub returns : goal.returns
returns c =
    checksum_is c.args.from c.args.to (34093 + c.words.result + c.words-2.result) c.fold.result (record { address = omega arith; port = omega arith }) (record { address = omega arith; port = omega arith })
    (omega (arith, c.words.ensures.value, c.words-2.ensures.value)) c.fold.ensures
