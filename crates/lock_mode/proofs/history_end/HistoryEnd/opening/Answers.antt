use Rattle.std.proofs.Common.{sym, subst, ap, ◌∙◌, length}
use Rattle.std.proofs.lemmas.List.{length-replicate}
use Rattle.lock_core.specs.declared.call.Entry.{Entry}
use Rattle.lock_mode.proofs.Tailing.{opens_history_end}
use Rattle.lock_mode.proofs.history_end.HistoryEnd.opening.Goals as goal

pub invariant_of-result : goal.invariant_of-result
invariant_of-result g c = opens_history_end g.J.Naming.function _ g.J.Naming.seats c.args.seats c.args.tables c.args.prefix _ c.requires.function c.requires.ran c.requires.empty c.requires.seats c.in_ok-counts.ensures
