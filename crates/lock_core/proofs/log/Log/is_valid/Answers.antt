use Rattle.std.proofs.Common.{◌↔◌, IsTrue, IfOk, sym, subst}
use Rattle.nf_base.specs.Functions.{function_of}
use Rattle.lock_core.specs.declared.call.Event.{Event}
use Rattle.lock_core.specs.Events.{IsValid}
use Rattle.lock_core.proofs.log.Log.is_valid.Goals as goal

pub returns-in-Look : goal.returns-in-Look
returns-in-Look c =
    let log = c.args.self.now in
    subst (λ (e : Event). IfOk c.may_look.result (λ valid. IsTrue valid ↔ IsValid (function_of log.func) log.seats log.order.items e)) (sym c.in-Look.is) c.may_look.ensures
