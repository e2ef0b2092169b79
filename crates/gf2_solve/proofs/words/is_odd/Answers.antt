use Rattle.gf2_solve.proofs.SharedLemmas.{count_is_odd}
use Rattle.gf2_solve.proofs.words.is_odd.Goals as goal

pub returns : goal.returns
returns c = count_is_odd 64 c.args.word c.ranges.word.fits
