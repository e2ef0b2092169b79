-- The kinds of step keep the rule of the published tables.
use Rattle.std.proofs.Common.{◌≡◌, ℕ, zero, suc, ◌≤◌, ◌≢◌, Bool, true, List, [], ◌∷◌, length, ap, refl, subst, ⊎_elim, le_refl, le_trans, zero-le}
use mathlib.Core.Option.{some}
use lib.ListN.{get_elem?}
use Rattle.left_right.specs.Register.{Admits, TurnsAt}
use Rattle.atomic_table.proofs.Lists.{at_set, at_snoc}
use Rattle.lock_core.specs.declared.call.Entry.{Entry}
use Rattle.lock_mode.specs.TableCopies.{Rises, Sees}

pub admits : Admits Rises 0
admits x views h = (h.0, λ seat v at. ⊎_elim (λ (t : get_elem? views seat ≡ some v). h.1 seat v t) (λ (e : 0 ≡ v). subst (λ (z : ℕ). z ≤ length x.0) e zero-le) (at_snoc views 0 v seat at))

-- a step to a whole history that is no shorter
pub sees : (seat v : ℕ) (x y : List Entry × Bool) → (x.1 ≡ true → y.1 ≡ true) → length x.0 ≤ length y.0 → TurnsAt Rises seat v x y Sees
sees seat v x y told up views h at = (
  length y.0,
  (
    told h.0,
    λ j u e. ⊎_elim (λ (t : (j ≡ seat) × (length y.0 ≡ u)). subst (λ (z : ℕ). z ≤ length y.0) t.1 (le_refl (length y.0))) (λ (t : (j ≢ seat) × (get_elem? views j ≡ some u)). le_trans (h.1 j u t.1) up)
        (at_set views seat j (length y.0) u e),
  ),
  (told h.0, le_trans (h.1 seat v at) up, refl),
)

one_view : (seat v : ℕ) → get_elem? (0 ∷ []) seat ≡ some v → 0 ≡ v
one_view zero v e = cc e
one_view (suc seat) v e = cc e

-- tables are opened with one view, which knows of nothing
pub opens : (x : List Entry × Bool) → x.1 ≡ true → Rises x (0 ∷ [])
opens x whole = (whole, λ seat v at. subst (λ (z : ℕ). z ≤ length x.0) (one_view seat v at) zero-le)
