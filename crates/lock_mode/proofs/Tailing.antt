-- One entry more at the end of the history.
use Rattle.std.proofs.Common.{◌≡◌, ◌≢◌, ℕ, ◌+◌, ◌≤◌, ◌<◌, ◌==◌, Bool, true, false, List, [], ◌∷◌, ◌++◌, length, filter, cond, set, get_or, replicate, Some, refl, ap, sym, ◌∙◌, subst, arith, length-append, length-set, get_or-set_same, get_or-set_other, append-nil, eqb-true, eq-eqb, ne_eqb, ⊎_elim}
use Rattle.std.proofs.lemmas.List.Elements.{filter-append}
use Rattle.std.proofs.lemmas.List.{length-replicate, get_or-replicate}
use Rattle.std.proofs.lemmas.Bool.{cases_eq}
use Rattle.nf_base.specs.declared.packet.Packet.{Packet}
use Rattle.nf_base.specs.declared.state.State.{State}
use Rattle.nf_base.specs.declared.done.Done.{Done}
use Rattle.nf_base.specs.Text.{Function}
use Rattle.nf_base.specs.Doors.{IsServed}
use Rattle.nf_base.specs.Step.{step}
use Rattle.nf_engine.specs.View.{Fixed, fixed_of}
use Rattle.vig_tables.specs.TablesState.{TablesState}
use Rattle.lock_core.specs.declared.call.Entry.{Entry}
use Rattle.lock_core.specs.Calls.{count_of}
use Rattle.lock_core.specs.Events.{ComesTo, IsStep}
use Rattle.lock_core.proofs.Going.{comes_more}
use Rattle.lock_mode.specs.TableCopies.{RanTo, IsNext}
use Rattle.lock_mode.specs.HistoryEnds.{AreCounts, IsHistoryEnd}

count_case : (own : Bool) (seat : ℕ) (es : List Entry) (e : Entry) → (e.seat == seat) ≡ own → length (filter (λ (x : Entry). x.seat == seat) es ++ cond own (e ∷ []) []) ≡ (cond own (count_of seat es + 1) (count_of seat es))
count_case true seat es e q = length-append (filter (λ (x : Entry). x.seat == seat) es) (e ∷ [])
count_case false seat es e q = ap length (append-nil (filter (λ (x : Entry). x.seat == seat) es))

count_more : (seat : ℕ) (es : List Entry) (e : Entry) → count_of seat (es ++ e ∷ []) ≡ cond (e.seat == seat) (count_of seat es + 1) (count_of seat es)
count_more seat es e = ap length (filter-append (λ (x : Entry). x.seat == seat) es (e ∷ [])) ∙ count_case (e.seat == seat) seat es e refl

short_case : {A : Type 0} (b : Bool) (x : A) (xs rest : List A) → length rest ≤ length xs → length (cond b (x ∷ rest) rest) ≤ length (x ∷ xs)
short_case true x xs rest le = omega (arith, le)
short_case false x xs rest le = omega (arith, le)

filter_short : {A : Type 0} (test : A → Bool) (xs : List A) → length (filter test xs) ≤ length xs
filter_short test [] = omega arith
filter_short test (x ∷ xs) = short_case (test x) x xs (filter test xs) (filter_short test xs)

-- a seat has no more entries than there are
pub count_within : (seat : ℕ) (es : List Entry) → count_of seat es ≤ length es
count_within seat es = filter_short (λ (e : Entry). e.seat == seat) es

count_own : (own : Bool) (seat : ℕ) (es : List Entry) (e : Entry) → (e.seat == seat) ≡ own → own ≡ true → count_of seat (es ++ e ∷ []) ≡ count_of seat es + 1
count_own own seat es e q is = count_more seat es e ∙ ap (λ (b : Bool). cond b (count_of seat es + 1) (count_of seat es)) (q ∙ is)

count_other : (own : Bool) (seat : ℕ) (es : List Entry) (e : Entry) → (e.seat == seat) ≡ own → own ≡ false → count_of seat (es ++ e ∷ []) ≡ count_of seat es
count_other own seat es e q is = count_more seat es e ∙ ap (λ (b : Bool). cond b (count_of seat es + 1) (count_of seat es)) (q ∙ is)

-- the counts, one on at the entry's seat
pub counts_more : (es : List Entry) (counts : List ℕ) (e : Entry) (n : ℕ) → AreCounts es counts → n ≡ count_of e.seat es → e.seat < length counts → AreCounts (es ++ e ∷ []) (set counts e.seat (n + 1))
counts_more es counts e n counted is lt seat d within =
    let le : seat < length counts = subst (λ (k : ℕ). seat < k) (length-set counts e.seat (n + 1)) within in
    ⊎_elim
    (λ (same : seat ≡ e.seat). subst (λ (k : ℕ). get_or (set counts e.seat (n + 1)) k d ≡ count_of k (es ++ e ∷ [])) (sym same)
    (get_or-set_same counts e.seat (n + 1) d lt ∙ ap (λ (k : ℕ). k + 1) is ∙ sym (count_own (e.seat == e.seat) e.seat es e refl (eq-eqb e.seat e.seat refl))))
    (λ (other : seat ≢ e.seat). get_or-set_other counts e.seat seat (n + 1) d other ∙ counted seat d le ∙ sym (count_other (e.seat == seat) seat es e refl (ne_eqb e.seat seat (λ q. other (sym q)))))
    (cases_eq seat e.seat)

-- ---- the entry

-- its step
pub step_is : (f g : Function) (t u : TablesState) (es : List Entry) (packet : Packet) (done : Done) → g ≡ f → RanTo f t es → step g t.state packet done.picks ≡ Some (record { state = u.state; done = done }) → IsStep f es packet done
step_is f g t u es packet done same ran stepped = record {
  state = t.state;
  next = u.state;
  comes = ran.comes;
  steps = subst (λ (z : Function). step z t.state packet done.picks ≡ Some (record { state = u.state; done = done })) same stepped;
}

-- where it leads
pub ran_with : (f g : Function) (t u : TablesState) (es new : List Entry) (e : Entry) → g ≡ f → RanTo f t es → step g t.state e.packet e.done.picks ≡ Some (record { state = u.state; done = e.done }) → fixed_of u ≡ fixed_of t → new ≡ es ++ e ∷ [] → RanTo f u new
ran_with f g t u es new e same ran stepped fixed is = record {
  decls = ap (λ (z : Fixed). z.decls) fixed ∙ ran.decls;
  whole = ap (λ (z : Fixed). z.share.of) fixed ∙ ran.whole;
  comes = subst (λ (z : List Entry). ComesTo f z u.state) (sym is) (comes_more f es e t.state u.state ran.comes (subst (λ (z : Function). step z t.state e.packet e.done.picks ≡ Some (record { state = u.state; done = e.done })) same stepped));
}

pub is_next : (f : Function) (u : TablesState) (es new : List Entry) (e : Entry) → new ≡ es ++ e ∷ [] → e.packet.id.port < length f.handlers → IsServed f e.packet → RanTo f u new → IsNext f new e
is_next f u es new e is port served ran = record { before = es; ends = is; port = port; served = served; state = u.state; comes = ran.comes }

-- an empty history's end
pub opens_history_end : (f g : Function) (seats n : ℕ) (t : TablesState) (prefix : List Entry) (counts : List ℕ) → g ≡ f → RanTo f t [] → prefix ≡ [] → n ≡ seats → counts ≡ replicate n 0 → IsHistoryEnd f g seats t prefix counts
opens_history_end f g seats n t prefix counts same ran empty each zeros = record {
  same = same;
  each = ap length zeros ∙ length-replicate n 0 ∙ each;
  ran = subst (RanTo f t) (sym empty) ran;
  counted = λ seat d lt.
      ap (λ (xs : List ℕ). get_or xs seat d) zeros
      ∙ get_or-replicate n seat 0 d (omega (arith, lt, ap length zeros ∙ length-replicate n 0))
      ∙ ap (count_of seat) (sym empty);
}
