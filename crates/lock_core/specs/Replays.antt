-- Tables that are made anew along an order.
use Rattle.std.specs.Prelude.{◌≡◌, List, Some}
use Rattle.nf_base.specs.declared.state.State.{State}
use Rattle.nf_base.specs.Text.{Function}
use Rattle.nf_base.specs.Step.{step}
use Rattle.vig_tables.specs.TablesState.{TablesState}
use Rattle.lock_core.specs.declared.call.Way.{Way}
use Rattle.lock_core.specs.declared.call.Way.TheVariants.{Look, Alone}
use Rattle.lock_core.specs.declared.call.Entry.{Entry}
use Rattle.lock_core.specs.declared.call.Ordered.{Ordered}
use Rattle.lock_core.specs.Events.{ComesTo}

-- what is handled alone makes a step with its very answer
abbrev pub StepsAlone : Function → State → Way → Ordered → Type 0
StepsAlone f s Look x = Unit {0}
StepsAlone f s Alone x =
    (u : State) × (step f s x.packet x.done.picks ≡ Some (record { state = u; done = x.done }))

-- the state behind it; a look leaves the state
abbrev pub GoesAlone : Function → State → Way → Ordered → State → Type 0
GoesAlone f s Look x u = u ≡ s
GoesAlone f s Alone x u =
    step f s x.packet x.done.picks ≡ Some (record { state = u; done = x.done })

-- tables with the whole share, where a history ends
pub record AreBehind (f : Function) (entries : List Entry) (t : TablesState) : Type 0 where
  pub decls : t.decls ≡ f.chains
  pub whole : t.share.of ≡ 1
  pub comes : ComesTo f entries t.state
