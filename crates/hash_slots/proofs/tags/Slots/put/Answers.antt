use Rattle.std.proofs.Common.{arith, subst}
use Rattle.hash_slots.specs.Tags.{Tags, Holds, pair_of}
use Rattle.hash_slots.proofs.Keeping.{stop_none, stop_within, put_sound, put_is}
use Rattle.hash_slots.proofs.tags.Slots.put.Goals as goal

pub set-requires-clause-within : goal.set-requires-clause-within
set-requires-clause-within c =
    let stop = rw c.home.ensures.value at c.place_of-at.ensures in
    let room = rw (← c.self.view_is) at c.requires.room in
    stop_within c.self.inside.cells c.self.inside.mask c.self.inside.held c.self.inside.most (pair_of c.args.tag c.args.index) c.place_of-at.result c.self.invariant stop (omega (arith, room, c.self.invariant.count))

pub invariant_of-self : goal.invariant_of-self
invariant_of-self c =
    let stop = rw c.home.ensures.value at c.place_of-at.ensures in
    let room = rw (← c.self.view_is) at c.requires.room in
    let none = stop_none c.self.inside.cells (pair_of c.args.tag c.args.index) c.home.result c.place_of-at.result c.place_of-at.ensures (λ h. c.requires.new (subst (λ (t : Tags). Holds t c.args.tag c.args.index) c.self.view_is h)) in
    rw c.set.ensures (put_sound c.self.inside.cells c.self.inside.mask c.self.inside.held c.self.inside.most c.place_of-at.result (pair_of c.args.tag c.args.index) c.self.invariant stop none (omega (arith, room, c.self.invariant.count)))

pub returns : goal.returns
returns c =
    let stop = rw c.home.ensures.value at c.place_of-at.ensures in
    let room = rw (← c.self.view_is) at c.requires.room in
    let none = stop_none c.self.inside.cells (pair_of c.args.tag c.args.index) c.home.result c.place_of-at.result c.place_of-at.ensures (λ h. c.requires.new (subst (λ (t : Tags). Holds t c.args.tag c.args.index) c.self.view_is h)) in
    rw (← c.self.view_is, c.set.ensures) (put_is c.self.inside.cells c.self.inside.most c.place_of-at.result (pair_of c.args.tag c.args.index) none (stop_within c.self.inside.cells c.self.inside.mask c.self.inside.held c.self.inside.most (pair_of c.args.tag c.args.index) c.place_of-at.result c.self.invariant stop (omega (arith, room, c.self.invariant.count))))
