use Rattle.std.proofs.Common.{◌≡◌, ◌<◌, ◌+◌, ◌++◌, ◌∷◌, [], ℕ, List, length, replicate, Some, slice_get, slice_set, refl, ap, sym, ◌∙◌, subst, arith}
use Rattle.std.proofs.lemmas.Option.{slice_get_read}
use Rattle.lock_core.specs.declared.call.Ordered.{Ordered}
use Rattle.lock_workers.proofs.Placed.{ArePlaced, next_at, next_within, ordered_at, taken_before, seat_inside, placed_none, placed_more, placed_all}
use Rattle.lock_workers.proofs.joining.places_of.Goals as goal

pub loop-i-init : goal.loop-i-init
loop-i-init c =
    subst (ArePlaced c.args.own.now c.args.order.now 0 c.in_ok-taken.taken.items) (sym c.in_ok-all.ensures.items)
    (placed_none c.args.own.now c.args.order.now c.in_ok-taken.taken.items (c.in_ok-taken.ensures ∙ ap (λ (n : ℕ). replicate n 0) c.len.ensures))

pub index-k-requires : goal.index-k-requires
index-k-requires c =
    let order = c.args.order.now in
    let i = c.loop-i.i in
    let lt : i < length order = omega arith in
    let one = ordered_at order i lt in
    let is = c.seat-w.ensures one.0 one.1 in
    let inside = seat_inside c.args.own.now order i one.0 c.requires.below one.1 in
    let many = c.loop-i.invariant.many in
    omega (arith, is, inside, many, c.loop-i.taken.ok.0)

pub item-requires : goal.item-requires
item-requires c =
    let order = c.args.order.now in
    let i = c.loop-i.i in
    let lt : i < length order = omega arith in
    let one = ordered_at order i lt in
    let is = c.seat-w.ensures one.0 one.1 in
    let inside = seat_inside c.args.own.now order i one.0 c.requires.below one.1 in
    omega (arith, is, inside)

pub item-requires-in-loop-i : goal.item-requires-in-loop-i
item-requires-in-loop-i c =
    let own = c.args.own.now in
    let order = c.args.order.now in
    let i = c.loop-i.i in
    let taken = c.loop-i.taken.items in
    let places = c.loop-i.all.items in
    let w = c.seat-w.result in
    let all = c.item.result.now in
    let k = c.index-k.result.now in
    let lt : i < length order = omega arith in
    let one = ordered_at order i lt in
    let n = next_at own order i k w taken places one.0 all c.loop-i.invariant c.requires.below one.1 (c.seat-w.ensures one.0 one.1) c.item.ensures c.index-k.ensures in
    next_within own order i k taken places one.0 all c.loop-i.invariant lt n.next n.at (c.requires.each one.0.seat all n.at) n.is

pub overflow_add-k : goal.overflow_add-k
overflow_add-k c =
    let own = c.args.own.now in
    let order = c.args.order.now in
    let i = c.loop-i.i in
    let taken = c.loop-i.taken.items in
    let places = c.loop-i.all.items in
    let w = c.seat-w.result in
    let all = c.item.result.now in
    let k = c.index-k.result.now in
    let lt : i < length order = omega arith in
    let one = ordered_at order i lt in
    let n = next_at own order i k w taken places one.0 all c.loop-i.invariant c.requires.below one.1 (c.seat-w.ensures one.0 one.1) c.item.ensures c.index-k.ensures in
    let before = taken_before own order i k taken places one.0 all c.loop-i.invariant n in
    omega (arith, before, lt)

pub index_mut-requires : goal.index_mut-requires
index_mut-requires c =
    let order = c.args.order.now in
    let i = c.loop-i.i in
    let lt : i < length order = omega arith in
    let one = ordered_at order i lt in
    let is = c.seat-w.ensures one.0 one.1 in
    let inside = seat_inside c.args.own.now order i one.0 c.requires.below one.1 in
    let many = c.loop-i.invariant.many in
    omega (arith, is, inside, many, c.loop-i.taken.ok.0)

pub loop-i-preserved : goal.loop-i-preserved
loop-i-preserved c =
    let own = c.args.own.now in
    let order = c.args.order.now in
    let i = c.loop-i.i in
    let taken = c.loop-i.taken.items in
    let places = c.loop-i.all.items in
    let w = c.seat-w.result in
    let all = c.item.result.now in
    let k = c.index-k.result.now in
    let place = c.item-in-loop-i.result.now in
    let lt : i < length order = omega arith in
    let one = ordered_at order i lt in
    let is : w ≡ one.0.seat = c.seat-w.ensures one.0 one.1 in
    let n = next_at own order i k w taken places one.0 all c.loop-i.invariant c.requires.below one.1 is c.item.ensures c.index-k.ensures in
    let within = next_within own order i k taken places one.0 all c.loop-i.invariant lt n.next n.at (c.requires.each one.0.seat all n.at) n.is in
    subst (λ (z : List ℕ). ArePlaced own order (i + 1) (slice_set taken w (k + 1)) z) (sym c.in_ok-push.ensures.items)
    (subst (λ (v : ℕ). ArePlaced own order (i + 1) (slice_set taken v (k + 1)) (places ++ place ∷ [])) (sym is)
    (placed_more own order i k taken places one.0 all place c.loop-i.invariant lt n.next n.at n.is (slice_get_read all (length all) k place refl within c.item-in-loop-i.ensures)))

pub returns-clause-each : goal.returns-clause-each
returns-clause-each c = λ w places at.
    let own = c.args.own.now in
    let order = c.args.order.now in
    let end : c.loop-i.i ≡ length order = omega arith in
    placed_all own order c.loop-i.taken.items c.loop-i.all.items w places (subst (λ (n : ℕ). ArePlaced own order n c.loop-i.taken.items c.loop-i.all.items) end c.loop-i.invariant) at (c.requires.each w places at)
