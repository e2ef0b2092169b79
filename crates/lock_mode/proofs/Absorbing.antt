-- One entry more in a copy of the tables.
use Rattle.std.proofs.Common.{◌≡◌, ◌⊎◌, ℕ, ◌+◌, ◌≤◌, Bool, true, false, List, [], ◌∷◌, ◌++◌, length, Option, Some, None, IfSome, IfNone, refl, ap, sym, ◌∙◌, subst, ⊎_elim, arith, length-append}
use Rattle.std.proofs.lemmas.Option.{same_Some}
use mathlib.Core.List.{IsPrefix}
use Rattle.nf_base.specs.declared.state.State.{State}
use Rattle.nf_base.specs.declared.done.Done.{Done}
use Rattle.nf_base.specs.Text.{Function}
use Rattle.nf_base.specs.Step.{StepResult, step}
use Rattle.nf_engine.specs.View.{Fixed, fixed_of}
use Rattle.vig_tables.specs.TablesState.{TablesState}
use Rattle.lock_core.specs.declared.call.Entry.{Entry}
use Rattle.lock_core.specs.Events.{ComesTo}
use Rattle.lock_core.proofs.Going.{comes_split}
use Rattle.lock_mode.specs.TableCopies.{RanTo, IsNext}
use Rattle.lock_mode.proofs.Fronts.{prefix_shorter, prefix_whole, prefix_length}

-- of two beginnings of one history, of which one has one entry more, the longer one is the other with
-- that entry
pub one_more : (log op both : List Entry) (f : Function) (e : Entry) (next : IsNext f op e) → IsPrefix log both → IsPrefix op both → (both ≡ log) ⊎ (both ≡ op) → length op ≡ length log + 1 → (both ≡ op) × (log ≡ next.before)
one_more log op both f e next p q which len =
    let all : both ≡ op = ⊎_elim
    (λ (s : both ≡ log). absurd (let n = prefix_length op log (subst (λ (z : List Entry). IsPrefix op z) s q) in omega arith))
    (λ (s : both ≡ op). s) which in
    let mine : IsPrefix log op = subst (λ (z : List Entry). IsPrefix log z) all p in
    let first : IsPrefix next.before op = (e ∷ [], sym next.ends) in
    let long : length op ≡ length next.before + 1 = ap length next.ends ∙ length-append next.before (e ∷ []) in
    (all, prefix_whole log next.before (prefix_shorter log next.before op mine first (omega arith)) (omega arith))

-- the entry's step
pub its_step : (f : Function) (t : TablesState) (log op : List Entry) (e : Entry) (next : IsNext f op e) → log ≡ next.before → RanTo f t log → step f t.state e.packet e.done.picks ≡ Some (record { state = next.state; done = e.done })
its_step f t log op e next same ran =
    comes_split f log e t.state next.state ran.comes (subst (λ (es : List Entry). ComesTo f es next.state) (next.ends ∙ ap (λ (es : List Entry). es ++ e ∷ []) (sym same)) next.comes)

-- so the tables go on
pub ran_more : (f : Function) (t u : TablesState) (log op : List Entry) (e : Entry) (done : Done) (next : IsNext f op e) → log ≡ next.before → RanTo f t log → step f t.state e.packet e.done.picks ≡ Some (record { state = u.state; done = done }) → fixed_of u ≡ fixed_of t → RanTo f u op
ran_more f t u log op e done next same ran stepped fixed =
    let its = its_step f t log op e next same ran in
    let there : u.state ≡ next.state = ap (λ (r : StepResult). r.state) (same_Some _ _ (sym stepped ∙ its)) in
    record {
      decls = ap (λ (z : Fixed). z.decls) fixed ∙ ran.decls;
      whole = ap (λ (z : Fixed). z.share.of) fixed ∙ ran.whole;
      comes = subst (ComesTo f op) (sym there) next.comes;
    }

replay_case : (o : Option Done) (f : Function) (t u : TablesState) (log op : List Entry) (e : Entry) (next : IsNext f op e) → log ≡ next.before → RanTo f t log
    → IfSome o (λ (d : Done). step f t.state e.packet e.done.picks ≡ Some (record { state = u.state; done = d })) → IfNone o (t.share.of ≡ 1 → step f t.state e.packet e.done.picks ≡ None) → fixed_of u ≡ fixed_of t → RanTo f u op
replay_case (Some d) f t u log op e next same ran done none fixed = ran_more f t u log op e d next same ran done fixed
replay_case None f t u log op e next same ran done none fixed =
    let its = its_step f t log op e next same ran in
    let no = none ran.whole in
    absurd (cc (its, no))

-- the entry replayed
pub ran_on : (o : Option Done) (g f : Function) (t u : TablesState) (log op both : List Entry) (e : Entry) (next : IsNext f op e) → g ≡ f → RanTo f t log
    → IfSome o (λ (d : Done). step g t.state e.packet e.done.picks ≡ Some (record { state = u.state; done = d })) → IfNone o (t.share.of ≡ 1 → step g t.state e.packet e.done.picks ≡ None) → fixed_of u ≡ fixed_of t
    → IsPrefix log both → IsPrefix op both → (both ≡ log) ⊎ (both ≡ op) → length op ≡ length log + 1 → RanTo f u both
ran_on o g f t u log op both e next same ran done none fixed p q which len =
    let more = one_more log op both f e next p q which len in
    subst (RanTo f u) (sym more.0)
    (replay_case o f t u log op e next more.1 ran
    (subst (λ (z : Function). IfSome o (λ (d : Done). step z t.state e.packet e.done.picks ≡ Some (record { state = u.state; done = d }))) same done)
    (subst (λ (z : Function). IfNone o (t.share.of ≡ 1 → step z t.state e.packet e.done.picks ≡ None)) same none) fixed)
