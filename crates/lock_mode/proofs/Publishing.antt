-- One entry more in what is published.
use Rattle.std.proofs.Common.{◌≡◌, ℕ, ◌+◌, ◌≤◌, ◌==◌, ◌&&◌, Bool, true, List, [], ◌∷◌, ◌++◌, length, fold, refl, ap, sym, ◌∙◌, subst, arith, length-append}
use Rattle.std.proofs.lemmas.Bool.{eq-eqb}
use Rattle.left_right.specs.Register.{TurnsAt}
use Rattle.lock_core.specs.declared.call.Entry.{Entry}
use Rattle.lock_mode.specs.TableCopies.{after, Sees}
use Rattle.lock_mode.specs.TableCopies.{Rises}
use Rattle.lock_mode.proofs.Rising.{sees}

-- what is published behind an operation that brings one entry more
pub after_more : (x y : List Entry × Bool) (log new : List Entry) (e : Entry) → x.0 ≡ log → x.1 ≡ true → new ≡ log ++ e ∷ [] → y ≡ after x new → (y.0 ≡ new) × (y.1 ≡ true) × (length x.0 ≤ length y.0)
after_more x y log new e same whole is goes =
    let list : y.0 ≡ new = ap (λ (s : List Entry × Bool). s.0) goes in
    let long : length new ≡ length x.0 + 1 = ap length is ∙ length-append log (e ∷ []) ∙ ap (λ (l : List Entry). length l + 1) (sym same) in
    let told : y.1 ≡ true = ap (λ (s : List Entry × Bool). s.1) goes ∙ ap (λ (b : Bool). x.1 && b) (eq-eqb (length new) (length x.0 + 1) long) ∙ ap (λ (b : Bool). b && true) whole in
    (list, told, omega (arith, long, ap length list))

pub turns : (seat v : ℕ) (x y : List Entry × Bool) (log new : List Entry) (e : Entry) → x.0 ≡ log → x.1 ≡ true → new ≡ log ++ e ∷ [] → y ≡ after x new → TurnsAt Rises seat v x y Sees
turns seat v x y log new e same whole is goes =
    let more = after_more x y log new e same whole is goes in
    sees seat v x y (λ t. more.1) more.2
