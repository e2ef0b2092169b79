use Rattle.std.proofs.Common.{sym, ◌∙◌, arith}
use Rattle.run_history.proofs.Decimals.{is_read, too_large, none_read}
use Rattle.run_history.proofs.word.number.Goals as goal

pub returns-in-Some : goal.returns-in-Some
returns-in-Some c = is_read c.args.word.now c.in-Some.number (sym c.decimal.ensures ∙ c.in-Some.is) (omega arith)

pub returns-in_default : goal.returns-in_default
returns-in_default c = too_large c.args.word.now c.in-Some.number (sym c.decimal.ensures ∙ c.in-Some.is) (omega arith)

pub returns-in_default-2 : goal.returns-in_default-2
returns-in_default-2 c = none_read c.args.word.now (sym c.decimal.ensures ∙ c.in_default.is)
