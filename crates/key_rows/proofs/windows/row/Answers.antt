use Rattle.std.proofs.Common.{◌≡◌, ◌+◌, ◌<◌, ◌*◌, not, Bool, false, List, Vec, Global, replicate, rules, set, ap, sym, subst, arith, length}
use Rattle.std.proofs.lemmas.List.{get_or_read}
use Rattle.key_rows.proofs.Rowed.{IsRowBelow, row_none, row_with, row_without}
use Rattle.key_rows.proofs.windows.row.Goals as goal
use Rattle.key_rows.proofs.windows.row.Goals.{then-windows-n, else-windows-n}

pub loop-n-init : goal.loop-n-init
loop-n-init c =
    let none : c.in_ok-bits.bits.items ≡ replicate 1276 false = search rules in
    row_none c.args.windows.now c.args.k c.args.u c.in_ok-bits.bits.items none

pub index_mut-requires : goal.index_mut-requires
index_mut-requires c =
    let inside : c.bit_number-place.result < 319 * 4 = c.bit_number-place.ensures.within 4 c.requires.first c.requires.second in
    omega (arith, inside, c.loop-n.invariant.long)

pub index-requires : goal.index-requires
index-requires c =
    let inside : c.bit_number-place.result < 319 * 4 = c.bit_number-place.ensures.within 4 c.requires.first c.requires.second in
    omega (arith, inside, c.loop-n.invariant.long)

pub loop-n-preserved : goal.loop-n-preserved
loop-n-preserved c =
    elim c.if-windows-n.branch [
      | then-windows-n w ↦
          let bits : List Bool = c.loop-n.bits.items in
          let inside : w.bit_number-place.result < 319 * 4 = w.bit_number-place.ensures.within 4 c.requires.first c.requires.second in
          let within : w.bit_number-place.result < length c.loop-n.bits.items = omega (arith, inside, c.loop-n.invariant.long) in
          let is : c.if-windows-n.bits.items ≡ set c.loop-n.bits.items w.bit_number-place.result (not w.index.result.now) = ap (λ (v : Vec Bool Global). v.items) w.bits-is in
          subst (λ (l : List Bool). IsRowBelow c.args.windows.now c.args.k c.args.u (c.loop-n.n + 1) l) (sym is)
          (row_with c.args.windows.now c.args.k c.args.u c.loop-n.n w.bit_number-place.result bits w.index.result.now w.if-windows-n.true c.requires.first c.requires.second
          w.bit_number-place.ensures.value w.bit_number-place.ensures.within (get_or_read bits w.bit_number-place.result w.index.result.now within w.index.ensures false) c.loop-n.invariant)
      | else-windows-n w ↦
          let is : c.if-windows-n.bits.items ≡ c.loop-n.bits.items = ap (λ (v : Vec Bool Global). v.items) w.bits-is in
          subst (λ (l : List Bool). IsRowBelow c.args.windows.now c.args.k c.args.u (c.loop-n.n + 1) l) (sym is)
          (row_without c.args.windows.now c.args.k c.args.u c.loop-n.n c.loop-n.bits.items w.if-windows-n.false c.loop-n.invariant)
    ]
