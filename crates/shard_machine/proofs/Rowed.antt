-- The worked rows, event by event.
use Rattle.std.proofs.Common.{◌≡◌, ◌<◌, ◌≤◌, ℕ, zero, suc, ◌%◌, ◌==◌, ◌&&◌, nat_lt, true, List, [], ◌∷◌, ◌++◌, Contains, Option, Some, None, map, get_or, refl, ap, ◌∙◌, sym, subst, arith}
use Rattle.nf_base.specs.declared.packet.Addresses.TheVariants as addresses
use Rattle.nf_base.specs.declared.packet.Packet.{Packet}
use Rattle.nf_base.specs.declared.packet.Fields.{Fields}
use Rattle.nf_base.specs.declared.share.Share.{Share}
use Rattle.nf_base.specs.declared.state.State.{State}
use Rattle.nf_base.specs.Course.{StoppedAt}
use Rattle.nf_base.specs.Doors.{handler_at}
use Rattle.nf_base.specs.Families.{door_of}
use Rattle.nf_base.specs.Locations.{KeyOf}
use Rattle.nf_base.specs.Operations.{Stops}
use Rattle.nf_base.specs.Runs.{Handling}
use Rattle.nf_base.specs.Shares.{owns, none_vacant, share_stops, AreOwn}
use Rattle.nf_base.specs.Step.{step_by, completes}
use Rattle.shard_laws.specs.Rows.{counted, by_source, by_time, queue_by, first, second, third, again}
use Rattle.shard_laws.specs.Queues.{MeetAtOneQueue}
use Rattle.shard_laws.specs.Rule.{AreShares}
use Rattle.shard_machine.specs.declared.event.Answer.{Answer}
use Rattle.shard_machine.specs.declared.event.Event.{Event}
use Rattle.shard_machine.specs.declared.event.Event.TheVariants.{Work, Collect}
use Rattle.shard_machine.specs.declared.event.Worked.{Worked}
use Rattle.shard_machine.specs.declared.event.Worked.TheVariants as result
use Rattle.shard_machine.specs.Machine.{Setup, Worker, Machine, new_worker, packets_of, answers_at}
use Rattle.shard_machine.specs.Events.{with_worker, given, dispatched, Works, works, idles, stops, stays, IsNext, collected, Plays, ends, dispatches, collects, waits}
use Rattle.shard_machine.specs.Events as event
use Rattle.shard_machine.proofs.Sent.{append_nil, same_behind}
use Rattle.shard_machine.specs.Rows.{two, answer, has_worked, ComesTo, four, to_the_stop, of_first, of_second, of_one, of_full, of_behind, full_first, full_second, one_too_many, behind, stopped_worker, TwoPacketsAreWorkedBy, AShareStopsFor, OtherThingsAreRefusedBy, SetupsAreToldOf}

-- where a share stops, by its numbers
abbrev stops_by : ℕ → ℕ → Stops
stops_by n w chain state = nat_lt 1 n && none_vacant (λ i. i % n == w) state.slots

-- a share's own indices
owns_is : (share : ℕ → Share) (w i : ℕ) → AreShares 2 share → w < 2 → owns (share w) i ≡ (i % 2 == w)
owns_is share w i are lt = ap (λ (n : ℕ). i % n == (share w).queue) (are.of w lt) ∙ ap (λ (v : ℕ). i % 2 == v) (are.queue w lt)

none_own : (share : Share) → AreOwn share []
none_own share k d lt = absurd (omega (arith, lt))

one_own : (share : ℕ → Share) (w i : ℕ) → AreShares 2 share → w < 2 → (i % 2 == w) ≡ true → AreOwn (share w) (i ∷ [])
one_own share w i are lt e zero d z = owns_is share w i are lt ∙ e
one_own share w i are lt e (suc k) d z = absurd (omega (arith, z))

-- what is so by its numbers is so of a share of two
of_two : (P : Stops → Type 0) (share : ℕ → Share) (w : ℕ) → AreShares 2 share → w < 2 → P (stops_by 2 w) → P (share_stops (share w))
of_two P share w are lt p =
    let one : P (stops_by 2 (share w).queue) = subst (λ (v : ℕ). P (stops_by 2 v)) (sym (are.queue w lt)) p in
    subst (λ (n : ℕ). P (stops_by n (share w).queue)) (sym (are.of w lt)) one

-- what a worker does with a packet of queue 0 or 1, at a state of it, with its choices
stepped : (share : ℕ → Share) (w : ℕ) (old new : State) (h : Handling) → AreShares 2 share → w < 2 → step_by (stops_by 2 w) counted old h.packet h.choices ≡ Some (record { state = new; done = (answer h).done }) →
    step_by (share_stops (share w)) counted old h.packet h.choices ≡ Some (record { state = new; done = (answer h).done })
stepped share w old new h are lt e = of_two (λ halts. step_by halts counted old h.packet h.choices ≡ Some (record { state = new; done = (answer h).done })) share w are lt e

-- the first packet at its queue, with what waits behind it
goes_first : (share : ℕ → Share) (later : List Packet) → AreShares 2 share → Works counted (share 0) result.Done (has_worked [] (first.packet ∷ later) (new_worker counted).state) (has_worked (first ∷ []) later of_first)
goes_first share later are = works _ first.packet later (answer first).done of_first refl refl (one_own share 0 0 are (omega arith) refl) (stepped share 0 (new_worker counted).state of_first first are (omega arith) refl)

-- the second one
goes_second : (share : ℕ → Share) → AreShares 2 share → Works counted (share 1) result.Done (has_worked [] (second.packet ∷ []) (new_worker counted).state) (has_worked (second ∷ []) [] of_second)
goes_second share are = works _ second.packet [] (answer second).done of_second refl refl (one_own share 1 1 are (omega arith) refl) (stepped share 1 (new_worker counted).state of_second second are (omega arith) refl)

first_of : (p q : Packet) (ps qs : List Packet) → p ∷ ps ≡ q ∷ qs → p ≡ q
first_of p q ps qs e = cc

-- nothing is next where the first packet isn't worked
not_yet : (share : ℕ → Share) (m : Machine) → m.dispatched ≡ first.packet ∷ second.packet ∷ [] → m.collected ≡ [] → (m.worker 0).worked ≡ [] → (a : Answer) → IsNext (two share) m a → ⊥
not_yet share m sent none idle a next =
    let is : first.packet ≡ a.packet = first_of first.packet a.packet (second.packet ∷ []) next.later (sym sent ∙ next.dispatched ∙ ap (λ (cs : List Answer). packets_of cs ++ a.packet ∷ next.later) none) in
    let at : by_source a.packet ≡ 0 = ap by_source (sym is) in
    let had : [] ≡ a ∷ next.more = sym idle ∙ ap (λ (v : ℕ). (m.worker v).worked) (sym at) ∙ next.worked ∙ ap (λ (cs : List Answer). answers_at by_source (by_source a.packet) cs ++ a ∷ next.more) none in
    cc

-- nor where all were collected
none_left : (share : ℕ → Share) (m : Machine) (sent : List Packet) → m.dispatched ≡ sent → packets_of m.collected ≡ sent → (a : Answer) → IsNext (two share) m a → ⊥
none_left share m sent e g a next =
    let bad : [] ≡ a.packet ∷ next.later = same_behind (packets_of m.collected) [] (a.packet ∷ next.later) (append_nil (packets_of m.collected) ∙ g ∙ sym e ∙ next.dispatched) in
    cc

pub worked_both : TwoPacketsAreWorkedBy
worked_both share are = record {
  in_order = record {
    machine = _;
    plays = dispatches _ _ _ _ _ (dispatches _ _ _ _ _ (event.works 0 result.Done _ _ _ _ _ (omega arith) (goes_first share [] are) (event.works 1 result.Done _ _ _ _ _ (omega arith) (goes_second share are)
        (collects (answer first) _ _ _ _ (record { later = second.packet ∷ []; dispatched = refl; more = []; worked = refl })
        (collects (answer second) _ _ _ _ (record { later = []; dispatched = refl; more = []; worked = refl }) (ends _))))));
    dispatched = refl;
    collected = refl;
    zero_is = refl;
    one_is = refl;
  };
  other_order = record {
    machine = _;
    plays = dispatches _ _ _ _ _ (dispatches _ _ _ _ _ (event.works 1 result.Done _ _ _ _ _ (omega arith) (goes_second share are) (event.works 0 result.Done _ _ _ _ _ (omega arith) (goes_first share [] are)
        (collects (answer first) _ _ _ _ (record { later = second.packet ∷ []; dispatched = refl; more = []; worked = refl })
        (collects (answer second) _ _ _ _ (record { later = []; dispatched = refl; more = []; worked = refl }) (ends _))))));
    dispatched = refl;
    collected = refl;
    zero_is = refl;
    one_is = refl;
  };
  waits = record {
    machine = _;
    plays = dispatches _ _ _ _ _ (dispatches _ _ _ _ _ (event.works 1 result.Done _ _ _ _ _ (omega arith) (goes_second share are)
        (waits _ _ _ _ (not_yet share _ refl refl refl)
        (event.works 0 result.Done _ _ _ _ _ (omega arith) (goes_first share [] are)
        (collects (answer first) _ _ _ _ (record { later = second.packet ∷ []; dispatched = refl; more = []; worked = refl })
        (collects (answer second) _ _ _ _ (record { later = []; dispatched = refl; more = []; worked = refl })
        (waits _ _ _ _ (none_left share _ (first.packet ∷ second.packet ∷ []) refl refl) (ends _))))))));
    dispatched = refl;
    collected = refl;
    zero_is = refl;
    one_is = refl;
  };
  one_by_one = record {
    machine = _;
    plays = dispatches _ _ _ _ _ (event.works 0 result.Done _ _ _ _ _ (omega arith) (goes_first share [] are) (event.works 1 result.Idle _ _ _ _ _ (omega arith) (idles _ refl refl)
        (collects (answer first) _ _ _ _ (record { later = []; dispatched = refl; more = []; worked = refl })
        (dispatches _ _ _ _ _ (event.works 1 result.Done _ _ _ _ _ (omega arith) (goes_second share are)
        (collects (answer second) _ _ _ _ (record { later = []; dispatched = refl; more = []; worked = refl }) (ends _)))))));
    dispatched = refl;
    collected = refl;
    zero_is = refl;
    one_is = refl;
  };
  waiting = record {
    machine = _;
    plays = dispatches _ _ _ _ _ (dispatches _ _ _ _ _ (event.works 0 result.Done _ _ _ _ _ (omega arith) (goes_first share (third.packet ∷ []) are) (ends _)));
    dispatched = refl;
    collected = refl;
    zero_is = refl;
    one_is = refl;
  };
}

-- where its share is full, queue 1 stops
full_goes : (share : ℕ → Share) → AreShares 2 share → Works counted (share 1) result.Done (has_worked [] (full_first.packet ∷ full_second.packet ∷ one_too_many.packet ∷ []) (new_worker counted).state) (has_worked (full_first ∷ []) (full_second.packet ∷ one_too_many.packet ∷ []) of_one)
full_goes share are = works _ full_first.packet (full_second.packet ∷ one_too_many.packet ∷ []) (answer full_first).done of_one refl refl (one_own share 1 1 are (omega arith) refl) (stepped share 1 (new_worker counted).state of_one full_first are (omega arith) refl)

full_goes_on : (share : ℕ → Share) → AreShares 2 share → Works counted (share 1) result.Done (has_worked (full_first ∷ []) (full_second.packet ∷ one_too_many.packet ∷ []) of_one) (has_worked (full_first ∷ full_second ∷ []) (one_too_many.packet ∷ []) of_full)
full_goes_on share are = works _ full_second.packet (one_too_many.packet ∷ []) (answer full_second).done of_full refl refl (one_own share 1 3 are (omega arith) refl) (stepped share 1 of_one of_full full_second are (omega arith) refl)

abbrev from_five : Fields
from_five = record { length = 42; src_mac = 2199023255553; dst_mac = 2199023255554; addresses = addresses.Four 5 0; proto = 17; ttl = 64; src_port = 0; dst_port = 0 }

full_stops : (share : ℕ → Share) → AreShares 2 share → Works counted (share 1) result.Stopped (has_worked (full_first ∷ full_second ∷ []) (one_too_many.packet ∷ []) of_full) stopped_worker
full_stops share are = stops _ one_too_many.packet [] from_five [] 0 refl refl
    (record {
      handled = refl;
      own = none_own (share 1);
      stops = of_two (λ halts. completes halts counted of_full one_too_many.packet.time from_five [] (handler_at counted (door_of one_too_many.packet.id.port from_five)) ≡ StoppedAt 0 []) share 1 are (omega arith) refl;
    })

behind_goes : (share : ℕ → Share) → AreShares 2 share → Works counted (share 0) result.Done (has_worked [] (behind.packet ∷ []) (new_worker counted).state) (has_worked (behind ∷ []) [] of_behind)
behind_goes share are = works _ behind.packet [] (answer behind).done of_behind refl refl (one_own share 0 0 are (omega arith) refl) (stepped share 0 (new_worker counted).state of_behind behind are (omega arith) refl)

-- nothing is next where the one that comes is not worked
stands_still : (share : ℕ → Share) (m : Machine) → m.dispatched ≡ four → m.collected ≡ answer full_first ∷ answer full_second ∷ [] → (m.worker 1).worked ≡ answer full_first ∷ answer full_second ∷ [] → (a : Answer) → IsNext (two share) m a → ⊥
stands_still share m sent got had a next =
    let is : one_too_many.packet ≡ a.packet = first_of one_too_many.packet a.packet (behind.packet ∷ []) next.later
    (same_behind (full_first.packet ∷ full_second.packet ∷ []) (one_too_many.packet ∷ behind.packet ∷ []) (a.packet ∷ next.later) (sym sent ∙ next.dispatched ∙ ap (λ (cs : List Answer). packets_of cs ++ a.packet ∷ next.later) got)) in
    let at : by_source a.packet ≡ 1 = ap by_source (sym is) in
    let worked : answer full_first ∷ answer full_second ∷ [] ≡ answers_at by_source 1 (answer full_first ∷ answer full_second ∷ []) ++ a ∷ next.more =
    sym had ∙ ap (λ (v : ℕ). (m.worker v).worked) (sym at) ∙ next.worked ∙ ap (λ (v : ℕ). answers_at by_source v m.collected ++ a ∷ next.more) at ∙ ap (λ (cs : List Answer). answers_at by_source 1 cs ++ a ∷ next.more) got in
    let bad : [] ≡ a ∷ next.more = same_behind (answer full_first ∷ answer full_second ∷ []) [] (a ∷ next.more) worked in
    cc

pub share_stops_it : AShareStopsFor
share_stops_it share are =
    let comes : ComesTo (two share) to_the_stop four (full_first ∷ full_second ∷ []) (has_worked (behind ∷ []) [] of_behind) stopped_worker = record {
      machine = _;
      plays = dispatches _ _ _ _ _ (dispatches _ _ _ _ _ (dispatches _ _ _ _ _ (dispatches _ _ _ _ _
          (event.works 1 result.Done _ _ _ _ _ (omega arith) (full_goes share are) (event.works 1 result.Done _ _ _ _ _ (omega arith) (full_goes_on share are)
          (event.works 1 result.Stopped _ _ _ _ _ (omega arith) (full_stops share are) (event.works 1 result.Stopped _ _ _ _ _ (omega arith) (stays _ 0 refl)
          (event.works 0 result.Done _ _ _ _ _ (omega arith) (behind_goes share are)
          (collects (answer full_first) _ _ _ _ (record { later = full_second.packet ∷ one_too_many.packet ∷ behind.packet ∷ []; dispatched = refl; more = answer full_second ∷ []; worked = refl })
          (collects (answer full_second) _ _ _ _ (record { later = one_too_many.packet ∷ behind.packet ∷ []; dispatched = refl; more = []; worked = refl })
          (waits _ _ _ _ (stands_still share _ refl refl refl) (ends _))))))))))));
      dispatched = refl;
      collected = refl;
      zero_is = refl;
      one_is = refl;
    } in
    record {
      comes = comes;
      at_stop = record { later = behind.packet ∷ []; next = refl; stopped = refl; at = refl };
    }

no_idle_at : (worker after : Worker) (came : Worked) (share : Share) (p : Packet) (ps : List Packet) → worker.waiting ≡ p ∷ ps → came ≡ result.Idle → Works counted share came worker after → ⊥
no_idle_at worker after came share p ps w e (works _ packet waiting done state going next own stepped) = cc
no_idle_at worker after came share p ps w e (idles _ going none) = cc
no_idle_at worker after came share p ps w e (stops _ packet waiting fields choices chain going next stop) = cc
no_idle_at worker after came share p ps w e (stays _ chain was) = cc

stays_at : (worker after : Worker) (came : Worked) (share : Share) (chain : ℕ) → worker.stopped ≡ Some chain → Works counted share came worker after → (came ≡ result.Stopped) × (after ≡ worker)
stays_at worker after came share k e (works _ packet waiting done state going next own stepped) = cc
stays_at worker after came share k e (idles _ going none) = cc
stays_at worker after came share k e (stops _ packet waiting fields choices chain going next stop) = cc
stays_at worker after came share k e (stays _ chain was) = (refl, refl)

no_worker_at : (x : Setup) (w : ℕ) (events more : List Event) (m n : Machine) (got : List Answer) → x.workers ≤ w → events ≡ Work w ∷ more → Plays x events m n got → ⊥
no_worker_at x w events more m n got le e (ends _) = cc
no_worker_at x w events more m n got le e (dispatches packet rest _ _ _ go) = cc
no_worker_at x w events more m n got le e (event.works v came worker rest _ _ _ lt one go) = let same : v ≡ w = cc in absurd (omega (arith, lt, le, same))
no_worker_at x w events more m n got le e (collects a rest _ _ _ next go) = cc
no_worker_at x w events more m n got le e (waits rest _ _ _ none go) = cc

is_collected : (x : Setup) (a : Answer) (events more : List Event) (m n : Machine) (got : List Answer) → IsNext x m a → events ≡ Collect ∷ more → got ≡ [] → Plays x events m n got → ⊥
is_collected x a events more m n got next e g (ends _) = cc
is_collected x a events more m n got next e g (dispatches packet rest _ _ _ go) = cc
is_collected x a events more m n got next e g (event.works v came worker rest _ _ _ lt one go) = cc
is_collected x a events more m n got next e g (collects b rest _ _ _ one go) = cc
is_collected x a events more m n got next e g (waits rest _ _ _ none go) = none a next

pub others_refused : OtherThingsAreRefusedBy
others_refused share = record {
  no_idle = λ after go. no_idle_at _ after result.Idle (share 0) first.packet [] refl refl go;
  stays = λ came after go. stays_at _ after came (share 1) 0 refl go;
  no_worker = λ m n got go. no_worker_at (two share) 2 _ [] m n got (omega arith) refl go;
  not_second = λ m sent none next.
      let is : first.packet ≡ second.packet = first_of first.packet second.packet (second.packet ∷ []) next.later (sym sent ∙ next.dispatched ∙ ap (λ (cs : List Answer). packets_of cs ++ second.packet ∷ next.later) none) in
      let bad : 1 ≡ 5 = ap (λ (z : Packet). z.time) is in
      absurd (omega (arith, bad));
  no_waiting = λ m n next go. is_collected (two share) (answer first) _ [] m n [] next refl refl go;
  no_stop = λ m packet chain at none. let bad : None ≡ Some chain = sym none ∙ at.stopped in cc;
}

below_two : (o : Option Fields) → queue_by o < 2
below_two None = omega arith
below_two (Some fields) = omega arith

has_packet : (h : Handling) (i : ℕ) → i < 2 → get_or again i h ≡ h → Contains (map (λ (z : Handling). z.packet) again) h.packet
has_packet h zero lt e = (0, omega arith, ap (λ (z : Handling). z.packet) e)
has_packet h (suc zero) lt e = (1, omega arith, ap (λ (z : Handling). z.packet) e)
has_packet h (suc (suc i)) lt e = absurd (omega (arith, lt))

none_meet : (hs : List Handling) → ((h : Handling) → Contains hs h → Contains [] h.packet) → MeetAtOneQueue by_time counted hs
none_meet [] all a b m = let lt = m.first.1 in absurd (omega (arith, lt))
none_meet (h ∷ hs) all a b m = let none = all h (0, omega arith, refl) in let lt = none.1 in absurd (omega (arith, lt))

pub setups_told : SetupsAreToldOf
setups_told share are = record {
  is = record { some = omega arith; shares = are; below = λ p. below_two p.fields };
  meet = λ m.
      let e : 1 ≡ 0 = m again (λ h c. has_packet h c.0 c.1 c.2) _ _ (record {
        first = (0, omega arith, refl);
        second = (1, omega arith, refl);
        location = KeyOf 0 0 (2 ∷ []);
        written = refl;
        by_first = (0, omega arith, refl);
        by_second = (0, omega arith, refl);
      }) in
      cc;
  nothing_sent = λ hs all. none_meet hs all;
  never_fall = (omega arith, (omega arith, (omega arith, tt)));
  fall = λ h. let le = h.1.0 in omega (arith, le);
  skipped = (omega arith, (omega arith, tt));
  packets = refl;
  answers = refl;
  lines = refl;
}
