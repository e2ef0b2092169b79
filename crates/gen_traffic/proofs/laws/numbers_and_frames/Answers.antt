use Rattle.std.proofs.Common.{refl}
use Rattle.frame_ip.specs.Checksum.{folded}
use Rattle.frame_ip.specs.Sums.{word_sum}
use Rattle.gen_traffic.proofs.laws.numbers_and_frames.Goals as goal

pub returns-clause-checksum : goal.returns-clause-checksum
unfolding folded word_sum
returns-clause-checksum c = refl

pub returns-clause-frame : goal.returns-clause-frame
unfolding folded word_sum
returns-clause-frame c = refl
