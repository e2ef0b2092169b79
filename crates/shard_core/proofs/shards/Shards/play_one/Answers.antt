use Rattle.std.proofs.Common.{◌∷◌, [], length, sym, subst}
use Rattle.std.specs.Option.{option_to_list}
use Rattle.shard_machine.specs.declared.event.Event.{Event}
use Rattle.shard_core.specs.Plays.{IsValid, Played}
use Rattle.shard_core.proofs.Played.{one_dispatched, one_worked, one_collected}
use Rattle.shard_core.proofs.shards.Shards.play_one.Goals as goal

pub returns-in-Ok-clause-stands : goal.returns-in-Ok-clause-stands
returns-in-Ok-clause-stands c = λ x m h.
    subst (λ (e : Event). Played x m (e ∷ []) [] c.dispatch.new.self) (sym c.in-Dispatch.is) (one_dispatched x m c.in-Dispatch.packet c.dispatch.new.self (c.in-Ok.ensures.stands x m h))

pub returns-in-Work-clause-stands : goal.returns-in-Work-clause-stands
returns-in-Work-clause-stands c = λ x m h.
    let old = c.args.self.now in
    let lt = subst (λ (e : Event). IsValid old.func (length old.workers) e) c.in-Work.is c.requires.valid in
    subst (λ (e : Event). Played x m (e ∷ []) [] c.work.new.self) (sym c.in-Work.is) (one_worked x m c.in-Work.w c.work.result old c.work.new.self h lt (c.work.ensures.stands x m h))

pub returns-in-Collect-clause-stands : goal.returns-in-Collect-clause-stands
returns-in-Collect-clause-stands c = λ x m h.
    subst (λ (e : Event). Played x m (e ∷ []) (option_to_list c.collect.result) c.collect.new.self) (sym c.in-Collect.is) (one_collected x m c.collect.result c.collect.new.self (c.collect.ensures.stands x m h))
