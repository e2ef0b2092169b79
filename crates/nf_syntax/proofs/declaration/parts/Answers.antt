use Rattle.std.proofs.Common.{◌≡◌, ◌∙◌, ◌++◌, ◌∷◌, [], refl, ap, sym, arith}
use Rattle.std.proofs.lemmas.Grind.{common_steps}
use Rattle.nf_tokens.specs.declared.token.Sign.TheVariants as signs
use Rattle.nf_tokens.specs.declared.token.Token.TheVariants as tokens
use Rattle.nf_tree.specs.declared.tree.ColumnKind.TheVariants as columns
use Rattle.nf_tree.specs.declared.tree.Part.TheVariants as part_of
use Rattle.nf_syntax.specs.Machine.{PartsAt, map_at, column_at, run}
use Rattle.nf_syntax.proofs.Steps.{gone_on, shorter_behind}
use Rattle.nf_syntax.proofs.declaration.parts.Goals as goal

pub parts-preserved-in-Map-1 : goal.parts-preserved-in-Map-1
parts-preserved-in-Map-1 c =
    let e = c.in_ok-another-in-Sign-Map.ensures in
    let t : c.first-item.result.token ≡ tokens.Sign signs.Map = grind (arith, common_steps, c.in-Sign-Map.is, c.in-Sign-Map.field-0-is) in
    let s = shorter_behind c.parts.rest.now c.in-len1-up.len_at_least in
    record {
      shorter = omega (arith, e.0, s, c.parts.invariant.shorter);
      so_far = λ k. c.parts.invariant.so_far k
          ∙ gone_on (PartsAt c.parts.all k) (map_at c.first-item.result.place (λ x. PartsAt (c.parts.all ++ part_of.Map x ∷ []) k)) c.parts.rest.now c.first-item.result (tokens.Sign signs.Map)
          c.in-len1-up.len_at_least c.first-item.is t refl
          ∙ e.1 (λ x. PartsAt (c.parts.all ++ part_of.Map x ∷ []) k)
          ∙ ap (λ all. run (PartsAt all k) c.in_ok-another-in-Sign-Map.behind.now) (sym c.in_ok-push-in-Sign-Map.ensures.ok);
    }

pub parts-preserved-in-Fixed-1 : goal.parts-preserved-in-Fixed-1
parts-preserved-in-Fixed-1 c =
    let e = c.in_ok-another-in-Sign-Fixed.ensures in
    let t : c.first-item.result.token ≡ tokens.Sign signs.Fixed = grind (arith, common_steps, c.in-Sign-Fixed.is, c.in-Sign-Fixed.field-0-is) in
    let s = shorter_behind c.parts.rest.now c.in-len1-up.len_at_least in
    record {
      shorter = omega (arith, e.0, s, c.parts.invariant.shorter);
      so_far = λ k. c.parts.invariant.so_far k
          ∙ gone_on (PartsAt c.parts.all k) (column_at columns.Fixed c.first-item.result.place (λ x. PartsAt (c.parts.all ++ part_of.Column x ∷ []) k)) c.parts.rest.now c.first-item.result (tokens.Sign signs.Fixed)
          c.in-len1-up.len_at_least c.first-item.is t refl
          ∙ e.1 (λ x. PartsAt (c.parts.all ++ part_of.Column x ∷ []) k)
          ∙ ap (λ all. run (PartsAt all k) c.in_ok-another-in-Sign-Fixed.behind.now) (sym c.in_ok-push-in-Sign-Fixed.ensures.ok);
    }

pub parts-preserved : goal.parts-preserved
parts-preserved c =
    let e = c.in_ok-another-in-Sign-Free.ensures in
    let t : c.first-item.result.token ≡ tokens.Sign signs.Free = grind (arith, common_steps, c.in-Sign-Free.is, c.in-Sign-Free.field-0-is) in
    let s = shorter_behind c.parts.rest.now c.in-len1-up.len_at_least in
    record {
      shorter = omega (arith, e.0, s, c.parts.invariant.shorter);
      so_far = λ k. c.parts.invariant.so_far k
          ∙ gone_on (PartsAt c.parts.all k) (column_at columns.Free c.first-item.result.place (λ x. PartsAt (c.parts.all ++ part_of.Column x ∷ []) k)) c.parts.rest.now c.first-item.result (tokens.Sign signs.Free)
          c.in-len1-up.len_at_least c.first-item.is t refl
          ∙ e.1 (λ x. PartsAt (c.parts.all ++ part_of.Column x ∷ []) k)
          ∙ ap (λ all. run (PartsAt all k) c.in_ok-another-in-Sign-Free.behind.now) (sym c.in_ok-push-in-Sign-Free.ensures.ok);
    }
