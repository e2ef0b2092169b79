use Rattle.std.proofs.Common.{sym, ◌∙◌}
use Rattle.ring_line.proofs.InlineWorkers.{ends_halted, ends_worked}
use Rattle.ring_line.proofs.inline_worker.InlineWorker.finish.Goals as goal

pub returns-in-Some : goal.returns-in-Some
returns-in-Some g c = λ func share packets answers st.
    ends_halted c.args.self func share packets answers c.in-Some.field-0 c.into_tables.result (sym c.halt.ensures ∙ c.in-Some.is) c.into_tables.ensures.tables c.into_tables.ensures.decls st

pub returns : goal.returns
returns g c = λ func share packets answers st.
    ends_worked c.args.self func share packets answers c.work_rest.result (sym c.halt.ensures ∙ c.in-None.is) c.work_rest.ensures.decls c.work_rest.ensures.share c.work_rest.ensures.came st
