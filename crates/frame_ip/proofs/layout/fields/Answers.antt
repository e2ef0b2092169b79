use Rattle.std.proofs.Common.{◌∙◌, sym, ap, Some}
use Rattle.frame_ip.specs.Frame.{Seen, fields_in}
use Rattle.frame_ip.proofs.Families.{fields_of_six}
use Rattle.frame_ip.proofs.layout.fields.Goals as goal

pub returns-in-Six : goal.returns-in-Six
returns-in-Six c =
    ap (λ (v : Seen). fields_in v.frame v.original) (sym c.view.view_is)
    ∙ fields_of_six c.view.inside.frame.now c.view.inside.original (c.view.invariant ∙ ap Some c.in-Six.is) ∙ ap Some (sym c.fields-in-Six.ensures)
