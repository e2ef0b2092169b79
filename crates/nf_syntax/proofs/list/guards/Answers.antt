use Rattle.std.proofs.Common.{◌≡◌, refl, arith}
use Rattle.std.proofs.lemmas.Grind.{common_steps}
use Rattle.nf_tokens.specs.declared.token.Sign.TheVariants as signs
use Rattle.nf_tokens.specs.declared.token.Token.TheVariants as tokens
use Rattle.nf_tree.specs.View.{guards_of}
use Rattle.nf_syntax.specs.Machine.{WhereAt, guards_at}
use Rattle.nf_syntax.proofs.Steps.{reads_behind}
use Rattle.nf_syntax.proofs.list.guards.Goals as goal

pub returns-in-Sign-Where : goal.returns-in-Sign-Where
returns-in-Sign-Where c =
    let t : c.first-item.result.token ≡ tokens.Sign signs.Where = grind (arith, common_steps, c.in-Sign-Where.is, c.in-Sign-Where.field-0-is) in
    reads_behind (λ k. WhereAt k) guards_at (λ x. guards_of x.0) (λ x. x.1.now) c.some_guards.result c.args.tokens.now c.first-item.result (tokens.Sign signs.Where)
    c.in-len1-up.len_at_least c.first-item.is t (λ k. refl) c.some_guards.ensures
