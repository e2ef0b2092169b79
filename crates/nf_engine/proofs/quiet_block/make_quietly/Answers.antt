use Rattle.std.proofs.Common.{◌∙◌, ap, sym, map}
use Rattle.nf_base.specs.View.{creation_of, given_of}
use Rattle.nf_engine.specs.declared.quiet_block.Refusal.TheVariants.{Taken, Full}
use Rattle.nf_engine.specs.View.{all_given}
use Rattle.nf_engine.proofs.Refusing.{refused_taken, refused_full, told_refused, makes_some}
use Rattle.nf_engine.proofs.quiet_block.make_quietly.Goals as goal

pub returns-then-is_taken-clause-told : goal.returns-then-is_taken-clause-told
returns-then-is_taken-clause-told g c =
    let p = c.args.p.now in
    let t = c.args.tables.now in
    let d = c.args.context.now in
    let n = creation_of c.args.creation.now in
    let labels = c.as_slice-2.ensures ∙ c.labels_of-labels.ensures ∙ ap (λ gs. all_given p t d (map given_of gs)) c.as_slice.ensures in
    told_refused Taken p n t d (refused_taken p n t d c.as_slice-2.result.now c.requires.over labels (sym c.is_taken.ensures ∙ c.if-is_taken.true))

pub returns-then-is_full-clause-result : goal.returns-then-is_full-clause-result
returns-then-is_full-clause-result g c =
    let p = c.args.p.now in
    let t = c.args.tables.now in
    let d = c.args.context.now in
    let n = creation_of c.args.creation.now in
    let labels = c.as_slice-2.ensures ∙ c.labels_of-labels.ensures ∙ ap (λ gs. all_given p t d (map given_of gs)) c.as_slice.ensures in
    refused_full p n t d c.as_slice-2.result.now (record {
      over = c.requires.over;
      whole = c.requires.whole;
      given = labels;
      taken = sym c.is_taken.ensures ∙ c.if-is_taken.false;
      full = sym c.is_full.ensures ∙ c.if-is_full.true;
    })

pub returns-then-is_full-clause-told : goal.returns-then-is_full-clause-told
returns-then-is_full-clause-told g c =
    let p = c.args.p.now in
    let t = c.args.tables.now in
    let d = c.args.context.now in
    let n = creation_of c.args.creation.now in
    let labels = c.as_slice-2.ensures ∙ c.labels_of-labels.ensures ∙ ap (λ gs. all_given p t d (map given_of gs)) c.as_slice.ensures in
    told_refused Full p n t d (refused_full p n t d c.as_slice-2.result.now (record {
      over = c.requires.over;
      whole = c.requires.whole;
      given = labels;
      taken = sym c.is_taken.ensures ∙ c.if-is_taken.false;
      full = sym c.is_full.ensures ∙ c.if-is_full.true;
    }))

pub returns-else-is_full-clause-makes : goal.returns-else-is_full-clause-makes
returns-else-is_full-clause-makes g c =
    let p = c.args.p.now in
    let t = c.args.tables.now in
    let d = c.args.context.now in
    let n = creation_of c.args.creation.now in
    let labels = c.as_slice-2.ensures ∙ c.labels_of-labels.ensures ∙ ap (λ gs. all_given p t d (map given_of gs)) c.as_slice.ensures in
    makes_some p n t d c.as_slice-2.result.now (record {
      over = c.requires.over;
      whole = c.requires.whole;
      given = labels;
      taken = sym c.is_taken.ensures ∙ c.if-is_taken.false;
      full = sym c.is_full.ensures ∙ c.if-is_full.false;
    })
