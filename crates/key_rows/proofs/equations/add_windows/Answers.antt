use Rattle.std.proofs.Common.{ℕ, ◌+◌, ◌<◌, sym, subst}
use Rattle.gf2_solve.specs.Kept.{Kept}
use Rattle.key_rows.specs.Rows.{AreEvenAt}
use Rattle.key_rows.specs.Systems.{Adds}
use Rattle.key_rows.proofs.Added.{adds_more, adds_held}
use Rattle.key_rows.proofs.Rowed.{none_of_class}
use Rattle.key_rows.proofs.equations.add_windows.Goals as goal
use Rattle.key_rows.proofs.equations.add_windows.Goals.{then-windows-k+in_ok-add_class, else-windows-k}

pub loop-k-preserved : goal.loop-k-preserved
loop-k-preserved c =
    elim c.if-windows-k.branch [
      | then-windows-k+in_ok-add_class w ↦
          subst (λ (s : Kept). Adds c.args.ports (λ keys. (k : ℕ) → k < c.loop-k.k + 1 → AreEvenAt keys c.args.windows.now k) c.args.system.now s) (sym w.system-is)
          (adds_more c.args.ports (λ keys k. AreEvenAt keys c.args.windows.now k) c.loop-k.k c.args.system.now c.loop-k.system w.add_class.new.system c.loop-k.invariant w.in_ok-add_class.ensures)
      | else-windows-k w ↦
          subst (λ (s : Kept). Adds c.args.ports (λ keys. (k : ℕ) → k < c.loop-k.k + 1 → AreEvenAt keys c.args.windows.now k) c.args.system.now s) (sym w.system-is)
          (adds_held c.args.ports (λ keys k. AreEvenAt keys c.args.windows.now k) c.loop-k.k c.args.system.now c.loop-k.system c.loop-k.invariant
          (λ keys. none_of_class keys c.args.windows.now c.loop-k.k c.requires.own w.if-windows-k.false))
    ]
