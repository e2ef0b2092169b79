-- Runs of shares, and the run of all packets.
use Rattle.std.proofs.Common.{◌≡◌, ◌↔◌, ℕ, suc, ◌<◌, ◌≤◌, ◌%◌, Bool, true, false, ◌==◌, nat_lt, eqb-true, ne_eqb, ltb-true, ltb-false, List, [], ◌∷◌, ◌++◌, Contains, Option, Some, if◌then◌else◌, refl, ap, sym, ◌∙◌, subst, arith, inl, inr}
use Rattle.std.proofs.lemmas.Option.{same_Some}
use Rattle.std.proofs.lemmas.Bool.{cases_Bool, lt-ltb}
use Rattle.std.proofs.lemmas.List.Elements.{Contains-append_left, Contains-append_right}
use Rattle.nf_base.specs.declared.packet.Packet.{Packet}
use Rattle.nf_base.specs.declared.packet.Fields.{Fields}
use Rattle.nf_base.specs.declared.share.Share.{Share}
use Rattle.nf_base.specs.declared.state.State.{State}
use Rattle.nf_base.specs.Text.{Function}
use Rattle.nf_base.specs.Operations.{Stops, never}
use Rattle.nf_base.specs.Locations.{no_numbers, locations}
use Rattle.nf_base.specs.Shares.{share_stops, AreOwn, IsShareStop}
use Rattle.nf_base.specs.Step.{step_by, record_of, opening, recorded_by}
use Rattle.nf_base.specs.Runs.{Handling, RunResult, run_by, run, Report, report_of, reports, numbers_of}
use Rattle.nf_laws.proofs.Listed.{here}
use Rattle.nf_laws.proofs.AlikeTold.{steps_alike}
use Rattle.nf_laws.proofs.Parted.{begins}
use Rattle.nf_laws.proofs.Reported.{reports_part}
use Rattle.shard_laws.specs.Homes.{AllAt, AllOwn, entries_made, MadeOwn}
use Rattle.shard_laws.specs.Queues.{last_time, of_queue, TakeOwn, Throughout, MeetsNoFull, StayHome}
use Rattle.shard_laws.specs.Parts.{Whole, Part, HaltsOwn, opened_of, own_stops}
use Rattle.shard_laws.specs.Laws.{Composes, Undivided}
use Rattle.shard_laws.specs.Rule.{owner_of, AreShares, TakeOfShare, KeepShareRule}
use Rattle.shard_laws.specs.ShareLaws.{StopsAt, RunsByStopsAreRuns, MeetingSharesCompose, MeetingSharesRecompose, MeetingStopsAreUndivided}
use Rattle.shard_laws.proofs.Meeting.{at_home, meeting_queues_compose, meeting_undivided_runs, met_homes, met_stays, stays_met, any_told}
use Rattle.shard_laws.proofs.Opening.{part_opening, queues_run, whole_opening}
use Rattle.shard_laws.proofs.Queued.{run_from}
use Rattle.shard_laws.proofs.Recomposed.{Gives, runs_back, undivided_runs, takes_each}
use Rattle.shard_laws.proofs.Stopped.{grants_on, shares_halt_own, stops_are_undivided, share_is_own}

pub run_is : RunsByStopsAreRuns
run_is stops f s [] r e = e
run_is stops f s (h ∷ hs) r e =
    let w = begins stops f s h hs r e in
    run_from never f s h hs w.next w.rest (steps_alike stops f s h.packet h.choices w.next w.stepped).stepped (run_is stops f w.next.state hs w.rest w.ran) ∙ ap Some (sym w.is)

-- choices of a share, and indices that its queue owns
own_head : (share : Share) (i : ℕ) (is : List ℕ) → AreOwn share (i ∷ is) → i % share.of ≡ share.queue
own_head share i is a = eqb-true (i % share.of) share.queue (a 0 0 (omega arith))

all_own : (n : ℕ) (share : Share) (u : ℕ) (choices : List ℕ) → share.of ≡ n → share.queue ≡ u → AreOwn share choices → AllOwn (owner_of n) u choices
all_own n share u [] of at a = tt
all_own n share u (i ∷ is) of at a = ((λ chain. ap (λ (m : ℕ). i % m) (sym of) ∙ own_head share i is a ∙ at), all_own n share u is of at (λ k d lt. a (suc k) d (omega (arith, lt))))

take_own : (n : ℕ) (share : ℕ → Share) (queue : Packet → ℕ) (hs : List Handling) → AreShares n share → ((p : Packet) → queue p < n) → TakeOfShare share queue hs → TakeOwn (owner_of n) queue hs
take_own n share queue [] are below own = tt
take_own n share queue (h ∷ hs) are below own =
    let u = queue h.packet in
    (all_own n (share u) u h.choices (are.of u (below h.packet)) (are.queue u (below h.packet)) own.0, take_own n share queue hs are below own.1)

-- the rule, by its two halves
rule_own : (share : ℕ → Share) (queue : Packet → ℕ) (f : Function) (s : State) (hs : List Handling) (r : RunResult) → run f s hs ≡ Some r → KeepShareRule share queue f s hs → TakeOfShare share queue hs
rule_own share queue f s [] r e k = tt
rule_own share queue f s (h ∷ hs) r e k =
    let w = begins never f s h hs r e in
    (k.0.own, rule_own share queue f w.next.state hs w.rest w.ran (k.1 w.next w.stepped))

rule_granted : (share : ℕ → Share) (queue : Packet → ℕ) (f : Function) (s : State) (hs : List Handling) → KeepShareRule share queue f s hs → Throughout (MeetsNoFull f) f s hs
rule_granted share queue f s [] k = tt
rule_granted share queue f s (h ∷ hs) k = (k.0.granted, λ next e. rule_granted share queue f next.state hs (k.1 next e))

both_rule : (share : ℕ → Share) (queue : Packet → ℕ) (f : Function) (s : State) (hs : List Handling) → TakeOfShare share queue hs → Throughout (MeetsNoFull f) f s hs → KeepShareRule share queue f s hs
both_rule share queue f s [] own k = tt
both_rule share queue f s (h ∷ hs) own k = (record { own = own.0; granted = k.0 }, λ next e. both_rule share queue f next.state hs own.1 (k.1 next e))

-- where the shares stop, and no other queue
abbrev pub stops_below : ℕ → (ℕ → Share) → ℕ → Stops
stops_below n share w = if nat_lt w n then share_stops (share w) else never

halts_below : (n : ℕ) (share : ℕ → Share) → AreShares n share → (w : ℕ) → HaltsOwn (owner_of n) w (stops_below n share w)
halts_below n share are w = elim (cases_Bool (nat_lt w n)) [
  | inl b ↦
      let lt : w < n = ltb-true w n b in
      subst (λ (c : Bool). HaltsOwn (owner_of n) w (if c then share_stops (share w) else never)) (sym b)
      (subst (λ (m : ℕ). HaltsOwn (owner_of m) w (share_stops (share w))) (are.of w lt) (subst (λ (v : ℕ). HaltsOwn (owner_of (share w).of) v (share_stops (share w))) (are.queue w lt) (shares_halt_own (share w))))
  | inr b ↦ subst (λ (c : Bool). HaltsOwn (owner_of n) w (if c then share_stops (share w) else never)) (sym b) (λ k c e. cc)
]

-- a queue past the last one has no packets
none_past : (n : ℕ) (queue : Packet → ℕ) (w : ℕ) (hs : List Handling) → ((p : Packet) → queue p < n) → n ≤ w → of_queue queue w hs ≡ []
none_past n queue w [] below le = refl
none_past n queue w (h ∷ hs) below le =
    let lt : queue h.packet < n = below h.packet in
    let other : (queue h.packet == w) ≡ false = ne_eqb _ _ (λ e. omega (arith, lt, le, e)) in
    ap (λ (b : Bool). if b then h ∷ of_queue queue w hs else of_queue queue w hs) other ∙ none_past n queue w hs below le

run_below : (n : ℕ) (share : ℕ → Share) (queue : Packet → ℕ) (f : Function) (hs : List Handling) (w : ℕ) (r : RunResult) → ((p : Packet) → queue p < n) → run_by (share_stops (share w)) f (opening f) (of_queue queue w hs) ≡ Some r → run_by (stops_below n share w) f (opening f) (of_queue queue w hs) ≡ Some r
run_below n share queue f hs w r below e = elim (cases_Bool (nat_lt w n)) [
  | inl b ↦ ap (λ (c : Bool). run_by (if c then share_stops (share w) else never) f (opening f) (of_queue queue w hs)) b ∙ e
  | inr b ↦
      let none : of_queue queue w hs ≡ [] = none_past n queue w hs below (ltb-false w n b) in
      ap (λ (xs : List Handling). run_by (stops_below n share w) f (opening f) xs) none ∙ sym (ap (λ (xs : List Handling). run_by (share_stops (share w)) f (opening f) xs) none) ∙ e
]

pub meeting_shares_compose : MeetingSharesCompose
meeting_shares_compose share queue f n hs r lt are below meet rising rule e =
    let own : TakeOwn (owner_of n) queue hs = take_own n share queue hs are below (rule_own share queue f (opening f) hs r e rule) in
    let full : Throughout (MeetsNoFull f) f (opening f) hs = rule_granted share queue f (opening f) hs rule in
    let h = met_homes (owner_of n) queue f hs in
    let all : Composes (owner_of n) queue f n hs r = meeting_queues_compose (owner_of n) queue f n hs r lt below meet rising own full e in
    record {
      composes = all;
      by_share = λ w within.
          let halts : HaltsOwn (owner_of n) w (share_stops (share w)) =
          subst (λ (m : ℕ). HaltsOwn (owner_of m) w (share_stops (share w))) (are.of w within) (subst (λ (v : ℕ). HaltsOwn (owner_of (share w).of) v (share_stops (share w))) (are.queue w within) (shares_halt_own (share w))) in
          let q = queues_run h queue f hs r (λ o x. x) rising (met_stays (owner_of n) queue f hs meet) own full e w (share_stops (share w)) halts in
          q.is ∙ sym (run_is (share_stops (share w)) f (opening f) (of_queue queue w hs) q.ran q.is) ∙ all.are_runs w;
    }

-- a packet that has a step by its share meets no full chain
gives_granted : (n : ℕ) (share : ℕ → Share) (queue : Packet → ℕ) (f : Function) (big : List Handling) → 1 < n → AreShares n share → ((p : Packet) → queue p < n) → Gives (met_homes (owner_of n) queue f big) (stops_below n share) (MeetsNoFull f) (opened_of f) queue f
gives_granted n share queue f big many are below time ns m part t q whole a le at told_all own e =
    let h = met_homes (owner_of n) queue f big in
    let u = queue t.packet in
    let lt : u < n = below t.packet in
    let b : nat_lt u n ≡ true = lt-ltb u n lt in
    let of : (share u).of ≡ n = are.of u lt in
    let is : (share u).queue ≡ u = are.queue u lt in
    let gen : stops_below n share u ≡ own_stops true (owner_of n) u = ap (λ (c : Bool). if c then share_stops (share u) else never) b ∙ share_is_own (share u) (owner_of n) u (subst (λ (m : ℕ). 1 < m) (sym of) many) (ap owner_of (sym of)) (sym is) in
    grants_on h u (opened_of f) f time ns m part t.packet t.choices t.packet.fields q (λ o x. x) whole a le at told_all
    (subst (λ (x : Stops). MadeOwn (owner_of n) u (entries_made (recorded_by x f part t.packet t.choices))) gen own)
    (subst (λ (x : Stops). step_by x f part t.packet t.choices ≡ Some q) gen e)

pub meeting_shares_recompose : MeetingSharesRecompose
meeting_shares_recompose share queue f n hs runs lt are below meet rising own each =
    let h = met_homes (owner_of n) queue f hs in
    let mine = take_own n share queue hs are below own in
    let runs_are : (w : ℕ) → run_by (stops_below n share w) f (opening f) (of_queue queue w hs) ≡ Some (runs w) = λ w. run_below n share queue f hs w (runs w) below (each w) in
    record {
      recomposes = meeting_undivided_runs (owner_of n) (stops_below n share) queue f n hs runs lt below (halts_below n share are) meet rising mine runs_are;
      rule = λ many. both_rule share queue f (opening f) hs own
          (runs_back h (stops_below n share) (MeetsNoFull f) (opened_of f) queue f hs 0 no_numbers (opening f) (λ v. opening f) runs (λ o x. x) (halts_below n share are) (gives_granted n share queue f hs many are below)
          (whole_opening h f) (λ v. part_opening h f v) rising (met_stays (owner_of n) queue f hs meet) (λ v. takes_each (owner_of n) queue (stops_below n share) f v hs (opening f) mine) runs_are).lines;
    }

-- the same stop, by its two sides
stop_iff : (share : Share) (f : Function) (s t : State) (packet : Packet) (fields : Fields) (choices : List ℕ) (chain : ℕ) → (packet.fields ≡ Some fields → AreOwn share choices → StopsAt (share_stops share) f s packet fields choices chain [] → StopsAt (share_stops share) f t packet fields choices chain []) →
    IsShareStop share f s packet fields choices chain → IsShareStop share f t packet fields choices chain
stop_iff share f s t packet fields choices chain go stop = record { handled = stop.handled; own = stop.own; stops = go stop.handled stop.own stop.stops }

pub meeting_stops : MeetingStopsAreUndivided
meeting_stops share queue f n hs runs r packet fields choices chain many are below meet rising le own each ran =
    let last : Handling = record { packet = packet; choices = choices } in
    let big = hs ++ last ∷ [] in
    let h = met_homes (owner_of n) queue f big in
    let u = queue packet in
    let lt : u < n = below packet in
    let of : (share u).of ≡ n = are.of u lt in
    let is : (share u).queue ≡ u = are.queue u lt in
    let ns = numbers_of f (opening f) no_numbers hs in
    let parts : reports f (opening f) no_numbers big ≡ reports f (opening f) no_numbers hs ++ reports f r.state ns (last ∷ []) = reports_part f (opening f) no_numbers hs (last ∷ []) r ran in
    let stay : StayHome h queue f (opening f) no_numbers hs = stays_met h queue f (reports f (opening f) no_numbers big) (at_home (owner_of n) (λ v. v) queue f big meet) (λ ms es. any_told h ms es (λ k i no. refl) (λ k i. refl)) (opening f) no_numbers hs
    (λ a c. subst (λ (xs : List Report). Contains xs a) (sym parts) (Contains-append_left (reports f (opening f) no_numbers hs) (reports f r.state ns (last ∷ [])) a c)) in
    let one = report_of f r.state ns last in
    let at : AllAt h u one.touched = at_home (owner_of n) (λ v. v) queue f big meet one
    (subst (λ (xs : List Report). Contains xs one) (sym parts) (Contains-append_right (reports f (opening f) no_numbers hs) (reports f r.state ns (last ∷ [])) one (here one _))) in
    let x : Undivided h (opened_of f) queue f 0 (opening f) (λ v. opening f) no_numbers hs runs =
    undivided_runs h (stops_below n share) queue f hs runs (λ o y. y) (halts_below n share are) rising stay (take_own n share queue hs are below own) (λ w. run_below n share queue f hs w (runs w) below (each w)) in
    let same : x.ran ≡ r = same_Some _ _ (sym x.is ∙ ran) in
    let alike : packet.fields ≡ Some fields → AreOwn (share u) choices → StopsAt (share_stops (share u)) f (runs u).state packet fields choices chain [] ↔ StopsAt (share_stops (share u)) f r.state packet fields choices chain [] =
    λ handled mine. stops_are_undivided h (share u) u (opened_of f) f (last_time 0 hs) ns r.state (runs u).state packet fields choices chain [] (subst (λ (m : ℕ). 1 < m) (sym of) many) (ap owner_of (sym of)) (sym is) (λ o y. y)
    (subst (λ (y : RunResult). Whole h (opened_of f) f.chains (last_time 0 hs) ns y.state) same x.whole)
    (subst (λ (v : ℕ). Part h (opened_of f) f.chains (last_time 0 hs) v r.state (runs u).state) (sym is) (subst (λ (y : RunResult). Part h (opened_of f) f.chains (last_time 0 hs) u y.state (runs u).state) same (x.each u))) le
    (subst (λ (o : Option Fields). AllAt h u (locations f.chains ns (record_of never f r.state packet choices o))) handled at)
    (any_told h ns (record_of never f r.state packet choices (Some fields)) (λ k i no. refl) (λ k i. refl))
    (subst (λ (v : ℕ). AllOwn h.owner v choices) (sym is) (all_own n (share u) u choices of is mine)) in (
      stop_iff (share u) f (runs u).state r.state packet fields choices chain (λ handled mine e. (alike handled mine).0 e),
      stop_iff (share u) f r.state (runs u).state packet fields choices chain (λ handled mine e. (alike handled mine).1 e),
    )
