use Rattle.std.proofs.Common.{subst}
use Rattle.hash_slots.specs.Tags.{Tags, Holds}
use Rattle.hash_slots.proofs.Members.{listed}
use Rattle.hash_slots.proofs.Finding.{found_held, absent_missed}
use Rattle.hash_slots.proofs.tags.Slots.find.Goals as goal

pub find_from-requires-clause-callable : goal.find_from-requires-clause-callable
find_from-requires-clause-callable g c = λ i p at. c.requires p.tag p.index (subst (λ (t : Tags). Holds t p.tag p.index) c.self.view_is (listed c.self.inside.cells i p at))

pub returns-clause-found : goal.returns-clause-found
returns-clause-found g c =
    rw (← c.self.view_is) (found_held (goal.F-post g c.args.is_key) c.self.inside.cells c.args.tag c.find_from.result.at c.find_from.result.index c.find_from.ensures.some)

pub returns-clause-absent : goal.returns-clause-absent
returns-clause-absent g c =
    let found = rw c.home.ensures.value at c.find_from.ensures in
    rw (← c.self.view_is) (absent_missed (goal.F-post g c.args.is_key) c.self.inside.cells c.self.inside.mask c.args.tag c.find_from.result.at c.find_from.result.index c.self.invariant.met found.from_on found.missed found.none)
