use Rattle.std.proofs.Common.{◌≡◌, refl, arith}
use Rattle.std.proofs.lemmas.Grind.{common_steps}
use Rattle.nf_tokens.specs.declared.token.Sign.TheVariants as signs
use Rattle.nf_tokens.specs.declared.token.Token.TheVariants as tokens
use Rattle.nf_syntax.specs.Machine.{WrittenAt, store_at}
use Rattle.nf_syntax.specs.Statements.{statement_of}
use Rattle.nf_syntax.proofs.Steps.{reads_on}
use Rattle.nf_syntax.proofs.action.written.Goals as goal

pub returns-in-Sign-OpenBracket : goal.returns-in-Sign-OpenBracket
returns-in-Sign-OpenBracket c =
    let t : c.first-item.result.token ≡ tokens.Sign signs.OpenBracket = grind (arith, common_steps, c.in-Sign-OpenBracket.is, c.in-Sign-OpenBracket.field-0-is) in
    reads_on (λ k. WrittenAt c.args.first_name k) (λ k. store_at c.args.first_name k)
    (λ x. statement_of x.0) (λ x. x.1.now) c.store.result c.args.tokens.now c.first-item.result (tokens.Sign signs.OpenBracket)
    c.in-len1-up.len_at_least c.first-item.is t (λ k. refl) c.store.ensures
