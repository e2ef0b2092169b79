use Rattle.std.proofs.Common.{arith, subst, sym}
use Rattle.std.specs.Prelude.{None}
use Rattle.std.proofs.Math.ListN.{length-set}
use Rattle.hash_slots.specs.Tags.{Tags, Holds, pair_of}
use Rattle.hash_slots.proofs.SlotLemmas.{slot_within}
use Rattle.hash_slots.proofs.Gaps.{gapped}
use Rattle.hash_slots.proofs.Keeping.{stop_there, held_some, erase_sound, erase_is}
use Rattle.hash_slots.proofs.tags.Slots.erase.Goals as goal

pub set-requires-clause-within : goal.set-requires-clause-within
set-requires-clause-within c =
    let stop = rw c.home.ensures.value at c.place_of-at.ensures in
    let there = stop_there c.self.inside.cells c.self.inside.mask (pair_of c.args.tag c.args.index) c.place_of-at.result c.self.invariant.met stop (subst (λ (t : Tags). Holds t c.args.tag c.args.index) (sym c.self.view_is) c.requires) in
    slot_within c.self.inside.cells c.place_of-at.result (pair_of c.args.tag c.args.index) there

pub close_gap-requires-clause-within : goal.close_gap-requires-clause-within
close_gap-requires-clause-within c =
    let stop = rw c.home.ensures.value at c.place_of-at.ensures in
    let there = stop_there c.self.inside.cells c.self.inside.mask (pair_of c.args.tag c.args.index) c.place_of-at.result c.self.invariant.met stop (subst (λ (t : Tags). Holds t c.args.tag c.args.index) (sym c.self.view_is) c.requires) in
    rw c.set.ensures (omega (arith, length-set c.self.inside.cells c.place_of-at.result None, slot_within c.self.inside.cells c.place_of-at.result (pair_of c.args.tag c.args.index) there))

pub close_gap-requires-clause-gap : goal.close_gap-requires-clause-gap
close_gap-requires-clause-gap c =
    let stop = rw c.home.ensures.value at c.place_of-at.ensures in
    let there = stop_there c.self.inside.cells c.self.inside.mask (pair_of c.args.tag c.args.index) c.place_of-at.result c.self.invariant.met stop (subst (λ (t : Tags). Holds t c.args.tag c.args.index) (sym c.self.view_is) c.requires) in
    rw c.set.ensures (gapped c.self.inside.mask c.self.inside.cells c.place_of-at.result c.self.invariant.met (slot_within c.self.inside.cells c.place_of-at.result (pair_of c.args.tag c.args.index) there))

pub overflow_sub-self : goal.overflow_sub-self
overflow_sub-self c =
    let stop = rw c.home.ensures.value at c.place_of-at.ensures in
    let there = stop_there c.self.inside.cells c.self.inside.mask (pair_of c.args.tag c.args.index) c.place_of-at.result c.self.invariant.met stop (subst (λ (t : Tags). Holds t c.args.tag c.args.index) (sym c.self.view_is) c.requires) in
    held_some c.self.inside.cells c.self.inside.mask c.self.inside.held c.self.inside.most c.place_of-at.result (pair_of c.args.tag c.args.index) c.self.invariant there

pub invariant_of-self : goal.invariant_of-self
invariant_of-self c =
    let stop = rw c.home.ensures.value at c.place_of-at.ensures in
    let there = stop_there c.self.inside.cells c.self.inside.mask (pair_of c.args.tag c.args.index) c.place_of-at.result c.self.invariant.met stop (subst (λ (t : Tags). Holds t c.args.tag c.args.index) (sym c.self.view_is) c.requires) in
    let same = rw c.set.ensures at c.close_gap.ensures.same in
    erase_sound c.self.inside.cells c.close_gap.new.cells c.self.inside.mask c.self.inside.held c.self.inside.most c.place_of-at.result (pair_of c.args.tag c.args.index) c.self.invariant there c.close_gap.ensures.met same

pub returns : goal.returns
returns c =
    let stop = rw c.home.ensures.value at c.place_of-at.ensures in
    let there = stop_there c.self.inside.cells c.self.inside.mask (pair_of c.args.tag c.args.index) c.place_of-at.result c.self.invariant.met stop (subst (λ (t : Tags). Holds t c.args.tag c.args.index) (sym c.self.view_is) c.requires) in
    let same = rw c.set.ensures at c.close_gap.ensures.same in
    rw (← c.self.view_is) (erase_is c.self.inside.cells c.close_gap.new.cells c.self.inside.mask c.self.inside.most c.place_of-at.result (pair_of c.args.tag c.args.index) c.self.invariant.met there same)
