use Rattle.std.proofs.Common.{◌∙◌, ap}
use Rattle.vig_map.specs.Bindings.{Bindings, value_of}
use Rattle.vig_map.proofs.Keeping.{looked_up}
use Rattle.vig_map.proofs.map.Map.get.Goals as goal

pub returns-clause-value : goal.returns-clause-value
returns-clause-value c =
    let stop = rw c.deref.ensures.value at c.search-at.ensures in
    looked_up c.self.inside.slots.items c.deref-2.result.now c.self.inside.held c.self.inside.most c.args.key.now c.search-at.result c.value_at.result c.self.invariant stop c.deref-2.ensures.value c.value_at.ensures ∙ ap (λ (map : Bindings). value_of map.pairs c.args.key.now) c.self.view_is
