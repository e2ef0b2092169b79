-- Events, one after another.
use Rattle.std.proofs.Common.{◌≡◌, ℕ, ◌+◌, ◌≤◌, ◌<◌, ◌==◌, Bool, true, false, List, [], ◌∷◌, ◌++◌, length, map, filter, cond, take, Option, Some, None, option_map, refl, sym, ap, ◌∙◌, subst, arith, append_assoc, append-nil, le_refl, eqb-true}
use Rattle.std.proofs.lemmas.Bool.{false≢true}
use Rattle.std.proofs.lemmas.List.{map-append}
use Rattle.std.proofs.lemmas.List.Elements.{filter-append}
use Rattle.std.proofs.lemmas.List.Sums.{fold-append}
use mathlib.Core.List.{IsPrefix}
use Rattle.nf_base.specs.declared.packet.Fields.{Fields}
use Rattle.nf_base.specs.declared.packet.Packet.{Packet}
use Rattle.nf_base.specs.declared.state.State.{State}
use Rattle.nf_base.specs.declared.done.Done.{Done}
use Rattle.nf_base.specs.Text.{Function}
use Rattle.nf_base.specs.Doors.{IsServed}
use Rattle.nf_base.specs.Operations.{never}
use Rattle.nf_base.specs.Step.{StepResult, step, opening}
use Rattle.nf_laws.specs.Steps.{HasHandler, skips, handles}
use Rattle.nf_laws.proofs.Picked.{steps_pick}
use Rattle.nf_laws.proofs.Chosen.{some_choices}
use Rattle.nf_laws.proofs.Quieted.{quiet_same}
use Rattle.lock_core.specs.declared.call.Way.TheVariants as way
use Rattle.lock_core.specs.declared.call.Entry.{Entry}
use Rattle.lock_core.specs.declared.call.Call.{Call}
use Rattle.lock_core.specs.declared.call.Ordered.{Ordered}
use Rattle.lock_core.specs.declared.call.Event.{Event}
use Rattle.lock_core.specs.declared.call.Event.TheVariants.{Look, Alone}
use Rattle.lock_core.specs.declared.call.Placed.{Placed}
use Rattle.lock_core.specs.Calls.{with_packet, history, call_at, calls_of, seen_by, put_behind}
use Rattle.lock_core.specs.Events.{ComesTo, IsValid, IsValidLook, IsValidAlone, IsLook, IsStep, Answers, with_event, Turn, Plays}
use Rattle.lock_core.specs.Histories.{seat_in, call_in, made_by, IsOneHistory, EventsAreOneHistory, ValidEventsAreAnswered, HistoriesGrow, OnlySeatsCall}
use Rattle.lock_core.proofs.Orders.{longer, length_is, history_put, history_prefix, prefix_trans}
use Rattle.lock_core.proofs.Calls.{own_call, calls_more, seen_within, put_other, put_own}
use Rattle.lock_core.proofs.Going.{Goes, goes_more, goes_run, goes_history, goes_put, comes_none, comes_once}
use Rattle.lock_core.proofs.Numbers.{are_numbered, none_numbered}

-- what each event keeps
pub record IsHeld (f : Function) (seats : ℕ) (turns : List Turn) (order : List Ordered) : Type 0 where
  pub state : State
  pub goes : Goes f (opening f) order state
  pub calls : (seat : ℕ) → calls_of seat order ≡ made_by seat turns
  pub below : (seat : ℕ) → seats ≤ seat → made_by seat turns ≡ []

pub held_none : (f : Function) (seats : ℕ) → IsHeld f seats [] []
held_none f seats = record { state = opening f; goes = refl; calls = λ seat. refl; below = λ seat le. refl }

-- so it is one history
pub held_is : (f : Function) (seats : ℕ) (turns : List Turn) (order : List Ordered) → IsHeld f seats turns order → IsOneHistory f turns order
held_is f seats turns order h = record {
  state = h.state;
  runs = goes_run f order (opening f) h.state h.goes;
  comes = goes_history f order [] (opening f) h.state (comes_none f) h.goes;
  calls = h.calls;
  seen = λ seat. subst (λ (n : ℕ). seen_by seat order ≤ n) (sym (length_is order [])) (seen_within order seat 0 0 (le_refl 0));
  numbered = are_numbered order [] none_numbered;
}

-- ---- calls that are made

call_case : (own : Bool) (t : Turn) → map call_in (cond own (t ∷ []) []) ≡ own_call own (call_in t)
call_case true t = refl
call_case false t = refl

made_more : (seat : ℕ) (ts : List Turn) (t : Turn) → made_by seat (ts ++ t ∷ []) ≡ made_by seat ts ++ own_call (seat_in t.event == seat) (call_in t)
made_more seat ts t =
    let of_seat = λ (u : Turn). seat_in u.event == seat in
    ap (map call_in) (filter-append of_seat ts (t ∷ []))
    ∙ map-append call_in (filter of_seat ts) (filter of_seat (t ∷ []))
    ∙ ap (λ cs. made_by seat ts ++ cs) (call_case (seat_in t.event == seat) t)

none_own : (own : Bool) (c : Call) (cs : List Call) → own ≡ false → cs ≡ [] → cs ++ own_call own c ≡ []
none_own true c cs e q = absurd (false≢true (sym e))
none_own false c cs e q = ap (λ xs. xs ++ []) q

other_seat : (own : Bool) (s seats seat : ℕ) → (s == seat) ≡ own → s < seats → seats ≤ seat → own ≡ false
other_seat true s seats seat e lt le = let same = eqb-true s seat e in absurd (omega (arith, same, lt, le))
other_seat false s seats seat e lt le = refl

below_more : (f : Function) (seats : ℕ) (ts : List Turn) (order : List Ordered) (t : Turn) → IsHeld f seats ts order → seat_in t.event < seats → (seat : ℕ) → seats ≤ seat → made_by seat (ts ++ t ∷ []) ≡ []
below_more f seats ts order t h lt seat le = made_more seat ts t ∙ none_own (seat_in t.event == seat) (call_in t) (made_by seat ts) (other_seat (seat_in t.event == seat) (seat_in t.event) seats seat refl lt le) (h.below seat le)

-- ---- a look

put_call : (own : Bool) (order : List Ordered) (seat n : ℕ) (look : Ordered) → (look.seat == seat) ≡ own → look.way ≡ way.Look → n ≤ length (history order) → seen_by look.seat order ≤ n → calls_of seat (put_behind n look order) ≡ calls_of seat order ++ own_call own (call_at n look)
put_call true order seat n look own e within seen =
    let long = length_is order [] in
    let same = eqb-true look.seat seat own in
    let seen_here : seen_by seat order ≤ n = subst (λ (s : ℕ). seen_by s order ≤ n) same seen in
    put_own order seat 0 n 0 look e own (le_refl 0) (omega (arith, within, long)) (omega (arith, seen_here))
    ∙ ap (λ (k : ℕ). calls_of seat order ++ call_at k look ∷ []) (omega arith)
put_call false order seat n look own e within seen = put_other order seat 0 n look e own ∙ sym (append-nil (calls_of seat order))

-- the state goes on as it did
pub look_goes : (f : Function) (order : List Ordered) (t : State) (seat n : ℕ) (packet : Packet) (done : Done) → Goes f (opening f) order t → IsLook f (take n (history order)) packet done
    → Goes f (opening f) (put_behind n (record { seat = seat; way = way.Look; packet = packet; done = done }) order) t
look_goes f order t seat n packet done g answer =
    let look : Ordered = record { seat = seat; way = way.Look; packet = packet; done = done } in
    let none : done.picks ≡ [] = steps_pick never f answer.state packet [] (record { state = answer.state; done = done }) answer.steps in
    let stepped : step f answer.state packet done.picks ≡ Some (record { state = answer.state; done = done }) = ap (step f answer.state packet) none ∙ answer.steps in
    let there : ComesTo f (take (length {A = Entry} [] + n) (history order)) answer.state = subst (λ (k : ℕ). ComesTo f (take k (history order)) answer.state) (omega arith) answer.comes in
    goes_put f order n look [] (opening f) t answer.state (comes_none f) g there (record { steps = stepped; leaves = λ e. refl })

look_more : (f : Function) (seats : ℕ) (ts : List Turn) (order : List Ordered) (seat n : ℕ) (packet : Packet) (placed : Placed) → IsHeld f seats ts order → IsValidLook f seats order seat n packet → placed.place ≡ n
    → IsLook f (take n (history order)) packet placed.done → IsHeld f seats (ts ++ record { event = Look seat n packet; placed = placed } ∷ []) (put_behind n (record { seat = seat; way = way.Look; packet = packet; done = placed.done }) order)
look_more f seats ts order seat n packet placed h valid place answer =
    let look : Ordered = record { seat = seat; way = way.Look; packet = packet; done = placed.done } in
    let t : Turn = record { event = Look seat n packet; placed = placed } in
    record {
      state = h.state;
      goes = look_goes f order h.state seat n packet placed.done h.goes answer;
      calls = λ s. put_call (seat == s) order s n look refl refl valid.within valid.seen
          ∙ ap (λ (cs : List Call). cs ++ own_call (seat == s) (call_at n look)) (h.calls s)
          ∙ ap (λ (k : ℕ). made_by s ts ++ own_call (seat == s) (record { way = way.Look; place = k; packet = packet; done = placed.done })) (sym place)
          ∙ sym (made_more s ts t);
      below = below_more f seats ts order t h valid.seat_is;
    }

-- ---- a packet that is handled alone

not_look : way.Alone ≡ way.Look → ⊥
not_look e = cc

-- the state goes on by its step
pub alone_goes : (f : Function) (order : List Ordered) (t u : State) (seat : ℕ) (packet : Packet) (done : Done) → Goes f (opening f) order t → step f t packet done.picks ≡ Some (record { state = u; done = done })
    → Goes f (opening f) (order ++ record { seat = seat; way = way.Alone; packet = packet; done = done } ∷ []) u
alone_goes f order t u seat packet done g stepped = goes_more f order (opening f) t u _ g (record { steps = stepped; leaves = λ e. absurd (not_look e) })

alone_more : (f : Function) (seats : ℕ) (ts : List Turn) (order : List Ordered) (seat : ℕ) (packet : Packet) (placed : Placed) → IsHeld f seats ts order → IsValidAlone f seats seat packet → placed.place ≡ length (history order)
    → IsStep f (history order) packet placed.done → IsHeld f seats (ts ++ record { event = Alone seat packet; placed = placed } ∷ []) (order ++ record { seat = seat; way = way.Alone; packet = packet; done = placed.done } ∷ [])
alone_more f seats ts order seat packet placed h valid place answer =
    let x : Ordered = record { seat = seat; way = way.Alone; packet = packet; done = placed.done } in
    let t : Turn = record { event = Alone seat packet; placed = placed } in
    let here : ComesTo f (history order) h.state = goes_history f order [] (opening f) h.state (comes_none f) h.goes in
    let same : answer.state ≡ h.state = comes_once f (history order) answer.state h.state answer.comes here in
    let long : longer 0 order ≡ placed.place = sym (place ∙ length_is order []) in
    record {
      state = answer.next;
      goes = alone_goes f order h.state answer.next seat packet placed.done h.goes (ap (λ (s : State). step f s packet placed.done.picks) (sym same) ∙ answer.steps);
      calls = λ s. calls_more s 0 order (x ∷ [])
          ∙ ap (λ (cs : List Call). cs ++ own_call (seat == s) (call_at (longer 0 order) x)) (h.calls s)
          ∙ ap (λ (k : ℕ). made_by s ts ++ own_call (seat == s) (call_at k x)) long
          ∙ sym (made_more s ts t);
      below = below_more f seats ts order t h valid.seat_is;
    }

-- ---- one event, and all

pub event_more : (e : Event) (f : Function) (seats : ℕ) (ts : List Turn) (order : List Ordered) (placed : Placed) → IsHeld f seats ts order → IsValid f seats order e → Answers f order e placed → IsHeld f seats (ts ++ record { event = e; placed = placed } ∷ []) (with_event e placed.done order)
event_more (Look seat n packet) f seats ts order placed h valid answer = look_more f seats ts order seat n packet placed h valid answer.0 answer.1
event_more (Alone seat packet) f seats ts order placed h valid answer = alone_more f seats ts order seat packet placed h valid answer.0 answer.1

pub plays_held : (later : List Turn) (f : Function) (seats : ℕ) (ts : List Turn) (order new : List Ordered) → IsHeld f seats ts order → Plays f seats order later new → IsHeld f seats (ts ++ later) new
plays_held [] f seats ts order new h p = subst (λ (os : List Ordered). IsHeld f seats (ts ++ []) os) (sym p) (subst (λ (us : List Turn). IsHeld f seats us order) (sym (append-nil ts)) h)
plays_held (t ∷ later) f seats ts order new h p =
    subst (λ (us : List Turn). IsHeld f seats us new) (append_assoc ts (t ∷ []) later)
    (plays_held later f seats (ts ++ t ∷ []) (with_event t.event t.placed.done order) new (event_more t.event f seats ts order t.placed h p.0 p.1) p.2)

held_all : (f : Function) (seats : ℕ) (turns : List Turn) (order : List Ordered) → Plays f seats [] turns order → IsHeld f seats turns order
held_all f seats turns order p = plays_held turns f seats [] [] order (held_none f seats) p

pub one_history : EventsAreOneHistory
one_history f seats turns order p = held_is f seats turns order (held_all f seats turns order p)

pub only_seats : OnlySeatsCall
only_seats f seats seat turns order p le = let h = held_all f seats turns order p in h.calls seat ∙ h.below seat le

-- ---- histories grow

event_grows : (e : Event) (done : Done) (order : List Ordered) → IsPrefix (history order) (history (with_event e done order))
event_grows (Look seat n packet) done order = ([], append-nil (history order) ∙ sym (history_put order n _ [] refl))
event_grows (Alone seat packet) done order =
    let x : Ordered = record { seat = seat; way = way.Alone; packet = packet; done = done } in
    subst (IsPrefix (history order)) (sym (fold-append with_packet [] order (x ∷ []))) (history_prefix (x ∷ []) (history order))

pub histories_grow : HistoriesGrow
histories_grow f seats order new [] p = subst (λ (os : List Ordered). IsPrefix (history order) (history os)) (sym p) ([], append-nil (history order))
histories_grow f seats order new (t ∷ ts) p =
    prefix_trans (history order) (history (with_event t.event t.placed.done order)) (history new) (event_grows t.event t.placed.done order) (histories_grow f seats (with_event t.event t.placed.done order) new ts p.2)

-- ---- each valid event has an answer

pub quiet_steps : (o : Option StepResult) (test : StepResult → Bool) → option_map test o ≡ Some true → (r : StepResult) × (o ≡ Some r)
quiet_steps None test e = cc
quiet_steps (Some r) test e = (r, refl)

-- a packet that is served has its handler, where it needs one
has_handler : (f : Function) (packet : Packet) (fields : Option Fields) → packet.fields ≡ fields → IsServed f packet → HasHandler f packet
has_handler f packet None is served = skips is
has_handler f packet (Some fields) is served = handles fields is (served fields is)

pub answers : ValidEventsAreAnswered
answers f seats turns order (Look seat n packet) p valid =
    let behind = valid.behind in
    let found = quiet_steps (step f behind.state packet []) _ behind.is_quiet in
    let same = quiet_same f behind.state packet [] found.0 behind.is_quiet found.1 in (
      record { place = n; done = found.0.done },
      (
        refl,
        record {
          state = behind.state;
          comes = behind.comes;
          steps = found.1 ∙ ap (λ (s : State). Some (record { state = s; done = found.0.done })) same;
          is_quiet = behind.is_quiet;
        },
      ),
    )
answers f seats turns order (Alone seat packet) p valid =
    let h = one_history f seats turns order p in
    let found = some_choices f h.state packet (has_handler f packet packet.fields refl valid.served) in
    let picks = steps_pick never f h.state packet found.0 found.1.0 found.1.1 in (
      record { place = length (history order); done = found.1.0.done },
      (
        refl,
        record {
          state = h.state;
          next = found.1.0.state;
          comes = h.comes;
          steps = ap (step f h.state packet) picks ∙ found.1.1;
        },
      ),
    )
