use Rattle.std.proofs.Common.{sym, subst}
use Rattle.nf_base.specs.Functions.{function_of}
use Rattle.lock_core.specs.Calls.{history}
use Rattle.lock_core.specs.Events.{ComesTo}
use Rattle.lock_core.proofs.log.Log.may_look.Goals as goal

pub sight-requires-clause-comes : goal.sight-requires-clause-comes
sight-requires-clause-comes c =
    let log = c.args.self.now in
    (log.tables.state, subst (λ xs. ComesTo (function_of log.func) (history xs) log.tables.state) (sym c.as_slice.ensures.value) log.comes)
