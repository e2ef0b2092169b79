use Rattle.std.proofs.Common.{List, ℕ, length, ap, sym, arith}
use Rattle.stream_run.proofs.Edited.{unedited}
use Rattle.stream_run.proofs.piece.edit_handled.Goals as goal

pub returns-then-are_none-clause-edited : goal.returns-then-are_none-clause-edited
returns-then-are_none-clause-edited c =
    sym (unedited c.args.edits.now c.args.frame.now (λ i. omega (arith, c.type_inv.frame i)) (c.are_none.ensures c.if-are_none.true))

pub returns-then-are_none-clause-long : goal.returns-then-are_none-clause-long
returns-then-are_none-clause-long c =
    ap (λ (xs : List ℕ). length xs) (unedited c.args.edits.now c.args.frame.now (λ i. omega (arith, c.type_inv.frame i)) (c.are_none.ensures c.if-are_none.true))
