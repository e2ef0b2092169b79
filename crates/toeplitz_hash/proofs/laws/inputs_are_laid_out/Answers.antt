use Rattle.toeplitz_hash.proofs.InputBits.{inputs_are_laid_out}
use Rattle.toeplitz_hash.proofs.laws.inputs_are_laid_out.Goals as goal

pub returns : goal.returns
returns c = inputs_are_laid_out
