use Rattle.std.proofs.Common.{sym, ◌∙◌}
use Rattle.key_rows.specs.Rows.{AreEven}
use Rattle.key_rows.specs.Places.{AgreeAt}
use Rattle.key_rows.proofs.Added.{adds_as}
use Rattle.key_rows.proofs.Rowed.{classes_own, even_is_agree}
use Rattle.key_rows.proofs.equations.add_pair.Goals as goal

pub add_windows-requires-clause-own : goal.add_windows-requires-clause-own
add_windows-requires-clause-own c =
    classes_own c.args.first.now c.args.second.now c.windows_of-windows.result (sym c.len.ensures ∙ c.if-len.false ∙ c.len-2.ensures) c.windows_of-windows.ensures

pub returns : goal.returns
returns c =
    adds_as c.args.ports (λ keys. AreEven keys c.windows_of-windows.result) (λ keys. AgreeAt keys c.args.first.now c.args.second.now) c.args.system.now c.add_windows.new.system
    (even_is_agree c.args.first.now c.args.second.now c.windows_of-windows.result (sym c.len.ensures ∙ c.if-len.false ∙ c.len-2.ensures) c.windows_of-windows.ensures) c.in_ok-add_windows.ensures
