-- One call more in an order that is put together of all.
use Rattle.std.proofs.Common.{◌≡◌, ◌⊎◌, ⊎_elim, ℕ, zero, suc, ◌+◌, ◌≤◌, ◌<◌, ◌==◌, Bool, true, false, List, [], ◌∷◌, ◌++◌, length, map, fold, take, set, get_or, replicate, Option, Some, None, slice_get, option_map, option_and_then, refl, ap, sym, ◌∙◌, subst, arith, le_refl, length-append, append-nil, eqb-true, eq-eqb, ne_eqb, length-set, get_or-set_same, get_or-set_other, take_all}
use Rattle.std.specs.Bool.{OnTrue}
use Rattle.std.proofs.lemmas.Bool.{cases_eq, false≢true}
use Rattle.std.proofs.lemmas.List.{map-append, take_more, length-take-le, length-replicate, get_or-replicate}
use Rattle.std.proofs.lemmas.List.Sums.{fold-append}
use Rattle.std.proofs.lemmas.Option.{slice_get_within, slice_get_read, slice_get-map, get_or_from_slice_get, same_Some}
use mathlib.Core.List.{IsPrefix}
use Rattle.nf_base.specs.declared.state.State.{State}
use Rattle.nf_base.specs.declared.done.Done.{Done}
use Rattle.nf_base.specs.Text.{Function}
use Rattle.nf_base.specs.Operations.{never}
use Rattle.nf_base.specs.Step.{StepResult, step, opening}
use Rattle.nf_base.specs.Runs.{Handling, RunResult, run, with_answer}
use Rattle.nf_laws.specs.Runs.{with_answers}
use Rattle.nf_laws.proofs.Parted.{runs_part}
use Rattle.nf_laws.proofs.Picked.{steps_pick}
use Rattle.vig_tables.specs.TablesState.{TablesState}
use Rattle.lock_core.specs.declared.call.Way.{Way}
use Rattle.lock_core.specs.declared.call.Way.TheVariants.{Look, Alone}
use Rattle.lock_core.specs.declared.call.Entry.{Entry}
use Rattle.lock_core.specs.declared.call.Call.{Call}
use Rattle.lock_core.specs.declared.call.Ordered.{Ordered}
use Rattle.lock_core.specs.Calls.{by_way, entry_behind, with_packet, history, call_at, calls_from, calls_of}
use Rattle.lock_core.specs.Events.{ComesTo, IsLook, IsStep}
use Rattle.lock_core.specs.Histories.{handling_in, answer_in, Runs}
use Rattle.lock_core.proofs.Orders.{longer, length_is, left_by_look, grown_by_alone}
use Rattle.lock_core.proofs.Calls.{own_call, calls_more}
use Rattle.lock_core.proofs.Going.{comes_none, comes_once, comes_more}
use Rattle.lock_log.specs.declared.order.Turn.{Turn}
use Rattle.lock_log.specs.Turns.{call_of, in_turn, AreThere}
use Rattle.lock_log.proofs.Turning.{turn_pushed, there_pushed}
use Rattle.lock_mode.specs.Seats.{SeatState, entry_of, IsMadeBy, AreMade, AreAll}
use Rattle.lock_mode.specs.TableCopies.{RanTo}
use Rattle.lock_mode.specs.Closing.{IsOrder, IsClosed}
use Rattle.lock_mode.specs.Merging.{HaveSeen, IsMerged, calls_each, AreTurns, AreTaken, IsBehind, AreMerged}
use Rattle.lock_mode.proofs.Fronts.{prefix_get, prefix_length}
use Rattle.lock_mode.proofs.Making.{take_prefix}

take_get : {A : Type 0} (xs : List A) (k : ℕ) (x : A) → slice_get xs k ≡ Some x → take (k + 1) xs ≡ take k xs ++ x ∷ []
take_get xs k x at = take_more xs k x (slice_get_within xs k x at) ∙ ap (λ y. take k xs ++ y ∷ []) (get_or_from_slice_get xs k x x at)

-- ---- the run

one_step : (f : Function) (s u : State) (h : Handling) (done : Done) → step f s h.packet h.choices ≡ Some (record { state = u; done = done }) → run f s (h ∷ []) ≡ Some (record { state = u; answers = done ∷ [] })
one_step f s u h done e = ap (option_and_then (λ (next : StepResult). with_answer next.done (Some (record { state = next.state; answers = [] })))) e

-- it goes on by one packet
runs_more : (f : Function) (order : List Ordered) (x : Ordered) (s u : State) → Runs f order s → step f s x.packet x.done.picks ≡ Some (record { state = u; done = x.done }) → Runs f (order ++ x ∷ []) u
runs_more f order x s u p one =
    let then_one = λ (r : RunResult). with_answers r.answers (run f r.state (handling_in x ∷ [])) in
    ap (run f (opening f)) (map-append handling_in order (x ∷ []))
    ∙ runs_part never f (opening f) (map handling_in order) (handling_in x ∷ [])
    ∙ ap (option_and_then then_one) p
    ∙ ap (with_answers (map answer_in order)) (one_step f s u (handling_in x) x.done one)
    ∙ ap (λ (ds : List Done). Some (record { state = u; answers = ds })) (sym (map-append answer_in order (x ∷ [])))

-- ---- the history

grown : (order : List Ordered) (x : Ordered) → history (order ++ x ∷ []) ≡ with_packet (history order) x
grown order x = fold-append with_packet [] order (x ∷ [])

-- ---- one call more

-- a call that was taken, in the order
abbrev taken_call : ℕ → Call → Ordered
taken_call seat c = record { seat = seat; way = c.way; packet = c.packet; done = c.done }

calls_snoc : (k : ℕ) (order : List Ordered) (x : Ordered) → calls_of k (order ++ x ∷ []) ≡ calls_of k order ++ own_call (x.seat == k) (call_at (length (history order)) x)
calls_snoc k order x =
    calls_more k 0 order (x ∷ [])
    ∙ ap (λ (n : ℕ). calls_of k order ++ own_call (x.seat == k) (call_at n x)) (sym (length_is order []))

calls_case : (own : Bool) (seats : List SeatState) (order : List Ordered) (taken : List ℕ) (at n k : ℕ) (s seat : SeatState) (c : Call) → (at == k) ≡ own → slice_get seats at ≡ Some s → slice_get seats k ≡ Some seat → length taken ≡ length seats
    → n ≡ get_or taken at 0 → slice_get s.calls n ≡ Some c → calls_of k order ≡ take (get_or taken k 0) seat.calls → calls_of k order ++ own_call own c ≡ take (get_or (set taken at (n + 1)) k 0) seat.calls
calls_case true seats order taken at n k s seat c e here there many is call had =
    let same : at ≡ k = eqb-true at k e in
    let seats_same : s ≡ seat = same_Some _ _ (sym here ∙ (ap (slice_get seats) same ∙ there)) in
    let within = slice_get_within seats at s here in
    let now : get_or (set taken at (n + 1)) k 0 ≡ n + 1 = ap (λ (j : ℕ). get_or (set taken at (n + 1)) j 0) (sym same) ∙ get_or-set_same taken at (n + 1) 0 (omega (arith, within, many)) in
    let call' : slice_get seat.calls n ≡ Some c = subst (λ (z : SeatState). slice_get z.calls n ≡ Some c) seats_same call in
    let before : get_or taken k 0 ≡ n = ap (λ (j : ℕ). get_or taken j 0) (sym same) ∙ sym is in
    ap (λ cs. cs ++ c ∷ []) (had ∙ ap (λ (j : ℕ). take j seat.calls) before)
    ∙ sym (take_get seat.calls n c call')
    ∙ ap (λ (j : ℕ). take j seat.calls) (sym now)
calls_case false seats order taken at n k s seat c e here there many is call had =
    append-nil (calls_of k order) ∙ (had ∙ ap (λ (j : ℕ). take j seat.calls) (sym (get_or-set_other taken at k (n + 1) 0 (λ (q : k ≡ at). false≢true (sym e ∙ eq-eqb at k (sym q))))))

others_case : (own : Bool) (order : List Ordered) (at k : ℕ) (c : Call) → (at == k) ≡ own → at < k → calls_of k order ≡ [] → calls_of k order ++ own_call own c ≡ []
others_case true order at k c e lt had = let same = eqb-true at k e in absurd (omega (arith, same, lt))
others_case false order at k c e lt had = append-nil (calls_of k order) ∙ had

merged_more : (f : Function) (all : List Entry) (seats : List SeatState) (order : List Ordered) (taken : List ℕ) (entries new at n : ℕ) (s : SeatState) (c : Call) (u : State) (m : IsMerged f all seats order taken entries)
    → slice_get seats at ≡ Some s → n ≡ get_or taken at 0 → slice_get s.calls n ≡ Some c → c.place ≡ entries → step f m.state c.packet c.done.picks ≡ Some (record { state = u; done = c.done })
    → history (order ++ taken_call at c ∷ []) ≡ take new all → new ≤ length all → ComesTo f (history (order ++ taken_call at c ∷ [])) u
    → IsMerged f all seats (order ++ taken_call at c ∷ []) (set taken at (n + 1)) new
merged_more f all seats order taken entries new at n s c u m here is call due stepped prefix within comes =
    let x : Ordered = taken_call at c in
    let long : length (history order) ≡ c.place = ap length m.prefix ∙ (length-take-le entries all m.within ∙ sym due) in
    let call_is : call_at (length (history order)) x ≡ c = ap (λ (j : ℕ). call_at j x) long in
    let at_within = slice_get_within seats at s here in
    record {
      state = u;
      runs = runs_more f order x m.state u m.runs stepped;
      comes = comes;
      prefix = prefix;
      within = within;
      many = length-set taken at (n + 1) ∙ m.many;
      calls = λ k seat there.
          calls_snoc k order x
          ∙ (ap (λ (d : Call). calls_of k order ++ own_call (at == k) d) call_is
          ∙ calls_case (at == k) seats order taken at n k s seat c refl here there m.many is call (m.calls k seat there));
      others = λ k le.
          calls_snoc k order x
          ∙ others_case (at == k) order at k (call_at (length (history order)) x) refl (omega (arith, at_within, le)) (m.others k le);
    }

-- ---- by the way that it was made

put_case : (w : Way) (f : Function) (all : List Entry) (seats : List SeatState) (order : List Ordered) (taken : List ℕ) (entries new at n : ℕ) (s : SeatState) (c : Call) (m : IsMerged f all seats order taken entries)
    → c.way ≡ w → slice_get seats at ≡ Some s → n ≡ get_or taken at 0 → slice_get s.calls n ≡ Some c → c.place ≡ entries → IsPrefix s.seen all → IsMadeBy w f at s.seen c → IsBehind w entries (length all) new
    → IsMerged f all seats (order ++ taken_call at c ∷ []) (set taken at (n + 1)) new
put_case Look f all seats order taken entries new at n s c m w here is call due seen made behind =
    let x : Ordered = taken_call at c in
    let before : take c.place s.seen ≡ history order = sym (take_prefix s.seen all c.place seen made.0) ∙ (ap (λ (k : ℕ). take k all) due ∙ sym m.prefix) in
    let look = made.1 in
    let same : look.state ≡ m.state = comes_once f (history order) look.state m.state (subst (λ (es : List Entry). ComesTo f es look.state) before look.comes) m.comes in
    let none : c.done.picks ≡ [] = steps_pick never f look.state c.packet [] (record { state = look.state; done = c.done }) look.steps in
    let stepped : step f m.state c.packet c.done.picks ≡ Some (record { state = m.state; done = c.done }) = ap (step f m.state c.packet) none ∙ subst (λ (z : State). step f z c.packet [] ≡ Some (record { state = z; done = c.done })) same look.steps in
    let stays : history (order ++ x ∷ []) ≡ history order = grown order x ∙ left_by_look (history order) x w in
    merged_more f all seats order taken entries new at n s c m.state m here is call due stepped
    (stays ∙ (m.prefix ∙ ap (λ (k : ℕ). take k all) (sym behind))) (omega (arith, behind, m.within))
    (subst (λ (es : List Entry). ComesTo f es m.state) (sym stays) m.comes)
put_case Alone f all seats order taken entries new at n s c m w here is call due seen made behind =
    let x : Ordered = taken_call at c in
    let within = slice_get_within s.seen c.place _ made.0 in
    let before : take c.place s.seen ≡ history order = sym (take_prefix s.seen all c.place seen (omega (arith, within))) ∙ (ap (λ (k : ℕ). take k all) due ∙ sym m.prefix) in
    let one = made.1 in
    let e : Entry = entry_of at (take c.place s.seen) c.packet c.done in
    let there : slice_get all entries ≡ Some e = ap (slice_get all) (sym due) ∙ prefix_get s.seen all c.place e seen made.0 in
    let room = slice_get_within all entries e there in
    let now : new ≡ entries + 1 = behind room in
    let same : one.state ≡ m.state = comes_once f (history order) one.state m.state (subst (λ (es : List Entry). ComesTo f es one.state) before one.comes) m.comes in
    let stepped : step f m.state c.packet c.done.picks ≡ Some (record { state = one.next; done = c.done }) = subst (λ (z : State). step f z c.packet c.done.picks ≡ Some (record { state = one.next; done = c.done })) same one.steps in
    let next : entry_behind (history order) x ≡ e = ap (λ (es : List Entry). entry_of at es c.packet c.done) (sym before) in
    let grows : history (order ++ x ∷ []) ≡ history order ++ e ∷ [] = grown order x ∙ (grown_by_alone (history order) x w ∙ ap (λ (z : Entry). history order ++ z ∷ []) next) in
    let prefix : history (order ++ x ∷ []) ≡ take new all = grows ∙ (ap (λ (es : List Entry). es ++ e ∷ []) m.prefix ∙ (sym (take_get all entries e there) ∙ ap (λ (k : ℕ). take k all) (sym now))) in
    merged_more f all seats order taken entries new at n s c one.next m here is call due stepped prefix (omega (arith, now, room))
    (subst (λ (es : List Entry). ComesTo f es one.next) (sym grows) (comes_more f (history order) e m.state one.next m.comes stepped))

pub put_more : (f : Function) (all : List Entry) (seats : List SeatState) (order : List Ordered) (taken : List ℕ) (entries new at n count : ℕ) (s : SeatState) (c : Call) → IsMerged f all seats order taken entries → AreAll count seats → HaveSeen seats all (length seats)
    → slice_get seats at ≡ Some s → AreMade f s.number s.seen s.calls → n ≡ get_or taken at 0 → slice_get s.calls n ≡ Some c → c.place ≡ entries → IsBehind c.way entries (length all) new
    → IsMerged f all seats (order ++ record { seat = s.number; way = c.way; packet = c.packet; done = c.done } ∷ []) (set taken at (n + 1)) new
put_more f all seats order taken entries new at n count s c m numbered seen here made is call due behind =
    let number : s.number ≡ at = numbered.each at s here in
    let within = slice_get_within seats at s here in
    let made_at : IsMadeBy c.way f at s.seen c = subst (λ (k : ℕ). IsMadeBy c.way f k s.seen c) number (made n c call) in
    subst (λ (k : ℕ). IsMerged f all seats (order ++ record { seat = k; way = c.way; packet = c.packet; done = c.done } ∷ []) (set taken at (n + 1)) new) (sym number)
    (put_case c.way f all seats order taken entries new at n s c m refl here is call due (seen at s within here) made_at behind)

-- ---- none yet, and all

pub merged_none : (f : Function) (all : List Entry) (seats : List SeatState) (order : List Ordered) (taken : List ℕ) → order ≡ [] → taken ≡ replicate (length seats) 0 → IsMerged f all seats order taken 0
merged_none f all seats order taken none zeros = rw (none, zeros) (record {
  state = opening f;
  runs = refl;
  comes = comes_none f;
  prefix = refl;
  within = omega arith;
  many = length-replicate (length seats) 0;
  calls = λ k seat there. ap (λ (j : ℕ). take j seat.calls) (sym (get_or-replicate (length seats) k 0 0 (slice_get_within seats k seat there)));
  others = λ k le. refl;
})

pub merged_all : (f : Function) (all : List Entry) (seats : List SeatState) (order : List Ordered) (taken : List ℕ) (entries : ℕ) → IsMerged f all seats order taken entries → HaveSeen seats all (length seats) → entries ≡ length all → AreTaken seats taken (length seats) → AreMerged f all seats order
merged_all f all seats order taken entries m seen whole every =
    let is : history order ≡ all = m.prefix ∙ take_all entries all (omega (arith, whole)) in
    record {
      state = m.state;
      comes = subst (λ (es : List Entry). ComesTo f es m.state) is m.comes;
      order_is = record {
        runs = m.runs;
        calls = λ k seat there. m.calls k seat there ∙ take_all (get_or taken k 0) seat.calls (every k seat (slice_get_within seats k seat there) there);
        others = m.others;
        seen = λ k seat there. subst (IsPrefix seat.seen) (sym is) (seen k seat (slice_get_within seats k seat there) there);
      };
    }

-- ---- turns of it

pub turns_none : (f : Function) (all : List Entry) (seats : List SeatState) (turns : List Turn) (taken : List ℕ) → turns ≡ [] → taken ≡ replicate (length seats) 0 → AreTurns f all seats turns taken 0
turns_none f all seats turns taken none zeros = record {
  there = subst (AreThere (calls_each seats)) (sym none) tt;
  merged = merged_none f all seats (in_turn (calls_each seats) turns) taken (ap (in_turn (calls_each seats)) none) zeros;
}

-- a seat's call has its turn
has_call : (seats : List SeatState) (at n count : ℕ) (s : SeatState) (c : Call) → AreAll count seats → slice_get seats at ≡ Some s → slice_get s.calls n ≡ Some c → call_of (calls_each seats) (record { seat = s.number; number = n }) ≡ Some c
has_call seats at n count s c numbered here call =
    let number : s.number ≡ at = numbered.each at s here in
    let calls = λ (z : SeatState). z.calls in
    ap (λ (k : ℕ). option_and_then (λ (cs : List Call). slice_get cs n) (slice_get (calls_each seats) k)) number
    ∙ ap (option_and_then (λ (cs : List Call). slice_get cs n)) (slice_get-map calls seats at ∙ ap (option_map calls) here)
    ∙ call

pub turns_more : (f : Function) (all : List Entry) (seats : List SeatState) (turns : List Turn) (taken : List ℕ) (entries new at n count : ℕ) (s : SeatState) (c : Call) → AreTurns f all seats turns taken entries → AreAll count seats → HaveSeen seats all (length seats)
    → slice_get seats at ≡ Some s → AreMade f s.number s.seen s.calls → n ≡ get_or taken at 0 → slice_get s.calls n ≡ Some c → c.place ≡ entries → IsBehind c.way entries (length all) new
    → AreTurns f all seats (turns ++ record { seat = s.number; number = n } ∷ []) (set taken at (n + 1)) new
turns_more f all seats turns taken entries new at n count s c m numbered seen here made is call due behind =
    let each = calls_each seats in
    let t : Turn = record { seat = s.number; number = n } in
    let has = has_call seats at n count s c numbered here call in
    record {
      there = there_pushed each turns t c m.there has;
      merged = subst (λ (xs : List Ordered). IsMerged f all seats xs (set taken at (n + 1)) new) (sym (turn_pushed each turns t c has))
          (put_more f all seats (in_turn each turns) taken entries new at n count s c m.merged numbered seen here made is call due behind);
    }

-- with the tables that the history leaves
pub closes : (f : Function) (all : List Entry) (seats : List SeatState) (order : List Ordered) (t : TablesState) → AreMerged f all seats order → RanTo f t all → IsClosed f seats order t
closes f all seats order t m ran =
    let same : m.state ≡ t.state = comes_once f all m.state t.state m.comes ran.comes in
    record { order_is = subst (IsOrder f seats order) same m.order_is; decls = ran.decls; whole = ran.whole }

below_i : (k i : ℕ) → k < i + 1 → (k ≡ i → ⊥) → k < i
below_i k i lt other = grind arith

taken_case : (seats : List SeatState) (taken : List ℕ) (i k : ℕ) (s seat : SeatState) → k ≡ i → slice_get seats i ≡ Some s → slice_get seats k ≡ Some seat → length s.calls ≤ get_or taken i 0 → length seat.calls ≤ get_or taken k 0
taken_case seats taken i k s seat same here there le =
    let is : s ≡ seat = same_Some _ _ (sym here ∙ (ap (slice_get seats) (sym same) ∙ there)) in
    omega (arith, le, ap (λ (z : SeatState). length z.calls) is, ap (λ (j : ℕ). get_or taken j 0) same)

-- one seat more has seen a beginning
pub seen_more : (seats : List SeatState) (all : List Entry) (i : ℕ) (s : SeatState) → HaveSeen seats all i → slice_get seats i ≡ Some s → IsPrefix s.seen all → HaveSeen seats all (i + 1)
seen_more seats all i s seen here p k seat lt there =
    ⊎_elim (λ (same : k ≡ i). subst (λ (z : SeatState). IsPrefix z.seen all) (same_Some _ _ (sym here ∙ (ap (slice_get seats) (sym same) ∙ there))) p)
    (λ (other : k ≡ i → ⊥). seen k seat (below_i k i lt other) there) (cases_eq k i)

-- the calls of one seat more were all taken
pub taken_more : (seats : List SeatState) (taken : List ℕ) (i : ℕ) (s : SeatState) → AreTaken seats taken i → slice_get seats i ≡ Some s → length s.calls ≤ get_or taken i 0 → AreTaken seats taken (i + 1)
taken_more seats taken i s all here le k seat lt there =
    ⊎_elim (λ (same : k ≡ i). taken_case seats taken i k s seat same here there le)
    (λ (other : k ≡ i → ⊥). all k seat (below_i k i lt other) there) (cases_eq k i)

pub on_true : (b : Bool) (P : Type 0) → OnTrue b P → b ≡ true → P
on_true true P h e = h
on_true false P h e = absurd (false≢true e)
