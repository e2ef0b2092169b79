use Rattle.std.proofs.Common.{◌∙◌, ap, sym}
use Rattle.nf_base.specs.Families.{family_of}
use Rattle.frame_ip.specs.Frame.{Seen, fields_at}
use Rattle.frame_ip.proofs.Reading.{family_at, fields_are}
use Rattle.frame_ip.proofs.field.family_of.Goals as goal

pub returns-clause-value : goal.returns-clause-value
returns-clause-value c =
    let v = c.view.inside in
    sym (family_at v.frame.now v.original v.family c.view.invariant)
    ∙ ap (λ (seen : Seen). family_of (fields_at seen.frame seen.original)) c.view.view_is

pub returns-clause-handled : goal.returns-clause-handled
returns-clause-handled c =
    let v = c.view.inside in
    rw (← c.view.view_is) (fields_are v.frame.now v.original v.family c.view.invariant)
