use Rattle.std.proofs.Common.{◌≡◌, ◌∙◌, ◌++◌, ◌∷◌, [], refl, ap, sym, arith}
use Rattle.std.proofs.lemmas.Grind.{common_steps}
use Rattle.nf_tokens.specs.declared.token.Sign.TheVariants as signs
use Rattle.nf_tokens.specs.declared.token.Token.TheVariants as tokens
use Rattle.nf_tree.specs.declared.tree.Declaration.TheVariants as declared
use Rattle.nf_syntax.specs.Machine.{DeclarationsAt, chain_at, array_at, run}
use Rattle.nf_syntax.proofs.Steps.{gone_on, shorter_behind}
use Rattle.nf_syntax.proofs.declaration.declarations.Goals as goal

pub declarations-preserved-in-Chain-1 : goal.declarations-preserved-in-Chain-1
declarations-preserved-in-Chain-1 c =
    let e = c.in_ok-another-in-Sign-Chain.ensures in
    let t : c.first-item.result.token ≡ tokens.Sign signs.Chain = grind (arith, common_steps, c.in-Sign-Chain.is, c.in-Sign-Chain.field-0-is) in
    let s = shorter_behind c.declarations.rest.now c.in-len1-up.len_at_least in
    record {
      shorter = omega (arith, e.0, s, c.declarations.invariant.shorter);
      so_far = λ k. c.declarations.invariant.so_far k
          ∙ gone_on (DeclarationsAt c.declarations.all k) (chain_at c.first-item.result.place (λ x. DeclarationsAt (c.declarations.all ++ declared.Chain x ∷ []) k)) c.declarations.rest.now c.first-item.result (tokens.Sign signs.Chain)
          c.in-len1-up.len_at_least c.first-item.is t refl
          ∙ e.1 (λ x. DeclarationsAt (c.declarations.all ++ declared.Chain x ∷ []) k)
          ∙ ap (λ all. run (DeclarationsAt all k) c.in_ok-another-in-Sign-Chain.behind.now) (sym c.in_ok-push-in-Sign-Chain.ensures.ok);
    }

pub declarations-preserved : goal.declarations-preserved
declarations-preserved c =
    let e = c.in_ok-another-in-Sign-Array.ensures in
    let t : c.first-item.result.token ≡ tokens.Sign signs.Array = grind (arith, common_steps, c.in-Sign-Array.is, c.in-Sign-Array.field-0-is) in
    let s = shorter_behind c.declarations.rest.now c.in-len1-up.len_at_least in
    record {
      shorter = omega (arith, e.0, s, c.declarations.invariant.shorter);
      so_far = λ k. c.declarations.invariant.so_far k
          ∙ gone_on (DeclarationsAt c.declarations.all k) (array_at c.first-item.result.place (λ x. DeclarationsAt (c.declarations.all ++ declared.Array x ∷ []) k)) c.declarations.rest.now c.first-item.result (tokens.Sign signs.Array)
          c.in-len1-up.len_at_least c.first-item.is t refl
          ∙ e.1 (λ x. DeclarationsAt (c.declarations.all ++ declared.Array x ∷ []) k)
          ∙ ap (λ all. run (DeclarationsAt all k) c.in_ok-another-in-Sign-Array.behind.now) (sym c.in_ok-push-in-Sign-Array.ensures.ok);
    }
