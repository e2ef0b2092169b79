use Rattle.std.proofs.Common.{◌∙◌, ap, sym, Some}
use Rattle.nf_base.specs.declared.packet.Fields.{Fields}
use Rattle.nf_base.specs.Values.{field_of}
use Rattle.frame_ip.specs.Frame.{Seen, fields_at}
use Rattle.frame_ip.proofs.Reading.{four_at, six_at}
use Rattle.frame_ip.proofs.field.field_of.Goals as goal

pub returns-in-Four : goal.returns-in-Four
returns-in-Four c =
    let v = c.view.inside in
    c.four_field.ensures
    ∙ ap (λ (x : Fields). field_of c.args.time x c.args.field) (sym (four_at v.frame.now v.original (c.view.invariant ∙ ap Some c.in-Four.is)))
    ∙ ap (λ (seen : Seen). field_of c.args.time (fields_at seen.frame seen.original) c.args.field) c.view.view_is

pub returns-in-Six : goal.returns-in-Six
returns-in-Six c =
    let v = c.view.inside in
    c.six_field.ensures
    ∙ ap (λ (x : Fields). field_of c.args.time x c.args.field) (sym (six_at v.frame.now v.original (c.view.invariant ∙ ap Some c.in-Six.is)))
    ∙ ap (λ (seen : Seen). field_of c.args.time (fields_at seen.frame seen.original) c.args.field) c.view.view_is
