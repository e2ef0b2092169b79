use Rattle.std.proofs.Common.{◌∙◌, sym}
use Rattle.frame_ip.proofs.Families.{edited_four, edited_six}
use Rattle.frame_ip.proofs.edits.edit.Goals as goal

pub returns-then-is_ipv4-clause-edited : goal.returns-then-is_ipv4-clause-edited
returns-then-is_ipv4-clause-edited c = c.edit.ensures.edited ∙ edited_four c.args.edits.now c.args.frame.now (sym c.is_ipv4.ensures ∙ c.if-is_ipv4.true)

pub returns-else-is_ipv4-clause-edited : goal.returns-else-is_ipv4-clause-edited
returns-else-is_ipv4-clause-edited c = c.edit-else-is_ipv4.ensures.edited ∙ edited_six c.args.edits.now c.args.frame.now (sym c.is_ipv4.ensures ∙ c.if-is_ipv4.false)
