use Rattle.std.proofs.Common.{◌∙◌}
use Rattle.toeplitz_hash.proofs.Defaults.{default_front}
use Rattle.toeplitz_hash.proofs.key.default_key.Goals as goal

pub returns : goal.returns
returns c = c.new.ensures ∙ default_front c.args.size
