-- Tables that are opened, and their seats.
use Rattle.std.proofs.Common.{◌≡◌, ℕ, ◌+◌, List, [], ◌∷◌, ◌++◌, length, Some, Result, Ok, Err, IfOk, slice_get, refl, ap, sym, ◌∙◌, subst, arith, ⊎_elim, length-append}
use Rattle.nf_base.specs.declared.state.State.{State}
use Rattle.nf_base.specs.declared.share.Share.{Share}
use Rattle.nf_base.specs.Text.{Function}
use Rattle.nf_base.specs.Step.{opening}
use Rattle.nf_base.specs.Runs.{RunResult}
use Rattle.vig_tables.specs.TablesState.{TablesState, opened_tables}
use Rattle.lock_core.proofs.Going.{comes_none, comes_once}
use Rattle.lock_mode.specs.Seats.{SeatState}
use Rattle.lock_mode.specs.TableCopies.{RanTo}
use Rattle.lock_mode.specs.declared.opening.Opened.{Opened}
use Rattle.lock_mode.specs.declared.opening.Opened.TheVariants.{Many, OneSeat}
use Rattle.lock_mode.specs.Opening.{IsNew, AreNew, AreOpening, IfOneSeat}
use Rattle.lock_mode.proofs.Making.{last_at}

-- tables that are made are those of an empty history
pub opens_ran : (f g : Function) (share : Share) (t : TablesState) → g ≡ f → share.of ≡ 1 → t ≡ opened_tables g share → RanTo f t []
opens_ran f g share t same whole is = record {
  decls = ap (λ (z : TablesState). z.decls) is ∙ ap (λ (z : Function). z.chains) same;
  whole = ap (λ (z : TablesState). z.share.of) is ∙ whole;
  comes = ap (λ (s : State). Some (record { state = s; answers = [] })) (sym (ap (λ (z : TablesState). z.state) is ∙ ap opening same));
}

-- and those of an empty history are the opening ones
pub ran_opens : (f : Function) (t : TablesState) → RanTo f t [] → AreOpening f t
ran_opens f t ran = record { decls = ran.decls; whole = ran.whole; opens = comes_once f [] t.state (opening f) ran.comes (comes_none f) }

-- one seat more
pub new_more : (count : ℕ) (seats : List SeatState) (s : SeatState) → AreNew count seats → IsNew count s → AreNew (count + 1) (seats ++ s ∷ [])
new_more count seats s all one = record {
  many = length-append seats (s ∷ []) ∙ ap (λ (n : ℕ). n + 1) all.many;
  each = λ k z at.
      ⊎_elim (λ (t : slice_get seats k ≡ Some z). all.each k z t)
      (λ (t : (k ≡ length seats) × (s ≡ z)). subst (IsNew k) t.1 (subst (λ (n : ℕ). IsNew n s) (sym (t.0 ∙ all.many)) one)) (last_at seats s k z at);
}

none_at : (k : ℕ) (s : SeatState) → slice_get [] k ≡ Some s → ⊥
none_at k s at = cc

pub none_new : AreNew 0 []
none_new = record { many = refl; each = λ k s at. absurd (none_at k s at) }

-- what is never one seat's is anything there
pub never_one : {S T E : Type 0} (r : Result (Opened S T) E) (P : TablesState → Type 0) → IfOk r (λ (o : Opened S T). IfOneSeat o (λ (t : TablesState). ⊥)) → IfOk r (λ (o : Opened S T). IfOneSeat o P)
never_one (Ok (Many s t)) P h = tt
never_one (Ok (OneSeat t)) P h = absurd h
never_one (Err e) P h = tt
