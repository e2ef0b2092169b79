use Rattle.std.proofs.Common.{◌≡◌, drop}
use Rattle.nf_tokens.specs.Tokens.{start}
use Rattle.nf_syntax.specs.Language.{last_place}
use Rattle.nf_syntax.proofs.function.last_place.Given as goal

abbrev pub invariant-loop-token : goal.invariant-loop-token
invariant-loop-token l = last_place l.place (drop l.token-index l.tokens) ≡ last_place start l.tokens
