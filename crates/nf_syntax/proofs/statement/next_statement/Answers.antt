use Rattle.std.proofs.Common.{◌≡◌, refl, arith}
use Rattle.std.proofs.lemmas.Grind.{common_steps}
use Rattle.nf_tokens.specs.declared.token.Sign.TheVariants as signs
use Rattle.nf_tokens.specs.declared.token.Token.TheVariants as tokens
use Rattle.nf_syntax.specs.Machine.{flood_at, discard_at}
use Rattle.nf_syntax.specs.Statements.{statement_of}
use Rattle.nf_syntax.proofs.Steps.{begins_on}
use Rattle.nf_syntax.proofs.statement.next_statement.Goals as goal

pub returns-in-Sign-Flood : goal.returns-in-Sign-Flood
returns-in-Sign-Flood c =
    let t : c.first-item.result.token ≡ tokens.Sign signs.Flood = grind (arith, common_steps, c.in-Sign-Flood.is, c.in-Sign-Flood.field-0-is) in
    begins_on flood_at (λ x. statement_of x.0) (λ x. x.1.now) c.flood.result c.args.tokens.now c.first-item.result (tokens.Sign signs.Flood)
    c.in-len1-up.len_at_least c.first-item.is t (λ room k. refl) c.flood.ensures

pub returns-in-Sign-Discard : goal.returns-in-Sign-Discard
returns-in-Sign-Discard c =
    let t : c.first-item.result.token ≡ tokens.Sign signs.Discard = grind (arith, common_steps, c.in-Sign-Discard.is, c.in-Sign-Discard.field-0-is) in
    begins_on discard_at (λ x. statement_of x.0) (λ x. x.1.now) c.discard.result c.args.tokens.now c.first-item.result (tokens.Sign signs.Discard)
    c.in-len1-up.len_at_least c.first-item.is t (λ room k. refl) c.discard.ensures
