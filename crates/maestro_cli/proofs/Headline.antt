-- The headline follows from what the program answers.
use Rattle.std.proofs.Common.{◌≡◌, ◌≢◌, inl, inr, ℕ, ◌+◌, ◌<◌, ◌≤◌, Bool, List, length, Some, nat_eq, if◌then◌else◌, refl, ap, sym, subst, ◌∙◌, arith}
use Rattle.std.proofs.lemmas.Bool.{lt-ltb, le-ltb, le-leb, lt-leb, eq-eqb, ne_eqb}
use Rattle.capture_format.specs.declared.format.CaptureFormat.{CaptureFormat}
use Rattle.nf_base.specs.Text.{Function}
use Rattle.nf_base.specs.declared.card.Card.{Card}
use Rattle.nf_files.specs.Told.{Told}
use Rattle.packet_feed.specs.Arrivals.{Arrival}
use Rattle.packet_feed.specs.Feeding.{HasMore}
use Rattle.key_synth.specs.Keys.{NoneMayBeGiven}
use Rattle.key_synth.specs.Laws.{MeetingPacketsHashAlike}
use Rattle.lock_mode.specs.Gates.{Rose}
use Rattle.stream_run.specs.declared.fault.RunFault.{RunFault}
use Rattle.stream_run.specs.declared.fault.RunFault.TheVariants as numbered
use Rattle.stream_run.specs.Runs.{Run, IsLegal}
use Rattle.stream_run.specs.Texts.{file_bytes}
use Rattle.stream_run.specs.Rules.{Rule, IsRunBy}
use Rattle.command_words.specs.Commands.{Run as RunAsked, Gen, RunCommand, GenCommand}
use Rattle.command_words.specs.declared.command.ModeChoice.{ModeChoice}
use Rattle.command_words.specs.declared.command.ModeChoice.TheVariants as choice
use Rattle.call_base.specs.declared.status.End.{End}
use Rattle.call_base.specs.declared.status.End.TheVariants as ends
use Rattle.call_base.specs.declared.status.Refusal.{Refusal}
use Rattle.call_base.specs.declared.status.Refusal.TheVariants as refusals
use Rattle.call_base.specs.declared.status.CallFault.{CallFault}
use Rattle.call_base.specs.declared.status.CallFault.TheVariants as stops
use Rattle.call_base.specs.declared.status.Status.{Status}
use Rattle.call_base.specs.declared.status.Status.TheVariants.{Done, Usage, Refused as Rejected, FileFault, NotCapture, Torn, ShareFull, TooMany, NoKeys, Memory, Differs, ProofFails}
use Rattle.call_base.specs.Captures.{packets_under}
use Rattle.call_base.specs.Created.{Left, bytes_at, state_bytes, text_of}
use Rattle.call_base.specs.Names.{name_at, output_name, journal_name, state_name}
use Rattle.call_base.specs.Outside.{Outside}
use Rattle.call_base.specs.Printed.{Tells, IsSaid, after_stop, stopped_at}
use Rattle.call_base.specs.Source.{IsFunctionUnder}
use Rattle.call_base.specs.Statuses.{end_status, refusal_status, stop_status}
use Rattle.call_base.specs.Rules.{MayShard, ShareTables, IsRuleOf, by_one, by_shards, by_tables, by_none}
use Rattle.run_call.specs.Runs.{IsRunOf}
use Rattle.run_call.specs.Ending.{IsFinished, IsRefused}
use Rattle.gen_call.specs.Runs.{packets_for}
use Rattle.gen_call.specs.Ending.{IsFinished as IsMade, IsRefused as IsUnmade}
use Rattle.maestro_cli.specs.Answer.{Runs, Gens, ComesTo}
use Rattle.maestro_cli.specs.Headline.{IsDone, ArePackets, AreHandled, StandsUnder, Headline, HeadlineOfRun, HeadlineOfGen, HasNoneToGive, OnlyWhereNoneSpread}

-- ---- how the call ended, by its status

not_stopped : (stop : RunFault) → IsDone (stopped_at stop) → ⊥
not_stopped (numbered.File file) h = absurd h
not_stopped numbered.Memory h = absurd h

not_half : (due : Status) (stop : RunFault) → due ≢ Done → IsDone (after_stop due stop) → ⊥
not_half Done stop some h = some refl
not_half (FileFault file) stop some h = absurd h
not_half Usage stop some h = not_stopped stop h
not_half (Rejected kind line column) stop some h = not_stopped stop h
not_half (NotCapture port) stop some h = not_stopped stop h
not_half (Torn port offset) stop some h = not_stopped stop h
not_half (ShareFull full) stop some h = not_stopped stop h
not_half (TooMany most) stop some h = not_stopped stop h
not_half (NoKeys why) stop some h = not_stopped stop h
not_half Memory stop some h = not_stopped stop h
not_half (Differs at) stop some h = not_stopped stop h
not_half (ProofFails line) stop some h = not_stopped stop h

-- the line on it was told whole, of this status
said_so : (ended after : Outside) (due status : Status) → Tells ended after due status → IsDone status → (due ≡ status) × IsSaid ended after status status
said_so ended after due status (inl said) done =
    (sym said.status_is, subst (λ (s : Status). IsSaid ended after s status) (sym said.status_is) said)
said_so ended after due status (inr half) done = absurd (not_half due half.stop half.some (subst IsDone half.status_is done))

not_refused : (how : Refusal) → IsDone (refusal_status how) → ⊥
not_refused refusals.Usage h = absurd h
not_refused (refusals.Text fault) h = absurd h
not_refused (refusals.NoKeys why) h = absurd h
not_refused (refusals.NotCapture port) h = absurd h

not_stopped_so : (how : CallFault) → IsDone (stop_status how) → ⊥
not_stopped_so (stops.File file) h = absurd h
not_stopped_so stops.Memory h = absurd h

-- ---- the files

name_output : (format : CaptureFormat) (out : List ℕ) (ports k : ℕ) → k < ports → name_at format out ports k ≡ output_name format out k
unfolding name_at
name_output format out ports k lt = ap (λ (b : Bool). if b then output_name format out k else if nat_eq k ports then journal_name out else state_name out) (lt-ltb k ports lt)

name_journal : (format : CaptureFormat) (out : List ℕ) (ports : ℕ) → name_at format out ports ports ≡ journal_name out
unfolding name_at
name_journal format out ports =
    ap (λ (b : Bool). if b then output_name format out ports else if nat_eq ports ports then journal_name out else state_name out) (le-ltb ports ports (omega arith))
    ∙ ap (λ (b : Bool). if b then journal_name out else state_name out) (eq-eqb ports ports refl)

name_state : (format : CaptureFormat) (out : List ℕ) (ports : ℕ) → name_at format out ports (ports + 1) ≡ state_name out
unfolding name_at
name_state format out ports =
    ap (λ (b : Bool). if b then output_name format out (ports + 1) else if nat_eq (ports + 1) ports then journal_name out else state_name out) (le-ltb (ports + 1) ports (omega arith))
    ∙ ap (λ (b : Bool). if b then journal_name out else state_name out) (ne_eqb (ports + 1) ports (λ e. omega (arith, e)))

leaves : (format : CaptureFormat) (r : Run) (k : ℕ) → k ≤ length r.function.handlers → bytes_at format r k ≡ file_bytes format r k
leaves format r k le = ap (λ (b : Bool). if b then file_bytes format r k else state_bytes r) (le-leb k (length r.function.handlers) le)

leaves_state : (format : CaptureFormat) (r : Run) → bytes_at format r (length r.function.handlers + 1) ≡ state_bytes r
leaves_state format r = ap (λ (b : Bool). if b then file_bytes format r (length r.function.handlers + 1) else state_bytes r) (lt-leb (length r.function.handlers + 1) (length r.function.handlers) (omega arith))

-- what a run left stands under its names
stands_at : (before now : Told) (first made k : ℕ) (name bytes : ℕ → List ℕ) (named given : List ℕ) → Left before now first name bytes made made → k < made → name k ≡ named → bytes k ≡ given → StandsUnder now named (first + k) given
stands_at before now first made k name bytes named given left lt is same =
    subst (λ (n : List ℕ). StandsUnder now n (first + k) given) is
    (subst (λ (t : List ℕ). StandsUnder now (name k) (first + k) t) same (record { created = left.names k lt; standing = left.standing k lt; whole = left.wholes k lt }))

headline_of : (Gave : Function → List Arrival → Type 0) (Refused : Type 0) (m : ModeChoice) (workers : ℕ) (card : Card) (format : CaptureFormat) (name out : List ℕ) (first : ℕ) (before now : Told) (r : Run) (packets : List Arrival) → IsFunctionUnder before name r.function → Gave r.function packets → AreHandled Refused m workers card packets r → IsLegal r → r.card ≡ card
    → (n : ℕ) → n ≡ length r.function.handlers → Left before now first (name_at format out n) (bytes_at format r) (n + 2) (n + 2) → Headline Gave Refused m workers card format name out first before now
headline_of Gave Refused m workers card format name out first before now r packets is gave handled legal card_is n as_many some =
    let p = length r.function.handlers in
    let left = subst (λ (k : ℕ). Left before now first (name_at format out k) (bytes_at format r) (k + 2) (k + 2)) as_many some in
    record {
      run = r;
      function_is = is;
      packets = packets;
      packets_are = gave;
      handled = handled;
      result = legal.result;
      one_undivided_run = legal.ran;
      card_is_told = card_is;
      sent = λ port lt. stands_at before now first (p + 2) port (name_at format out p) (bytes_at format r) (output_name format out port) (file_bytes format r port) left (omega (arith, lt)) (name_output format out p port lt) (leaves format r port (omega (arith, lt)));
      journal = stands_at before now first (p + 2) p (name_at format out p) (bytes_at format r) (journal_name out) (file_bytes format r p) left (omega arith) (name_journal format out p) (leaves format r p (omega arith));
      tables = stands_at before now first (p + 2) (p + 1) (name_at format out p) (bytes_at format r) (state_name out) _ left (omega arith) (name_state format out p) (leaves_state format r ∙ ap (text_of r.function) legal.ran);
    }

-- ---- a run over captures

none_shared : (m : ModeChoice) (card : Card) (f : Function) → ShareTables m card f → m ≢ choice.Lock → NoneMayBeGiven f card
none_shared choice.Auto card f share ne = share.locked.0
none_shared choice.Shard card f share ne = absurd share
none_shared choice.Lock card f share ne = absurd (ne refl)

may_not_lock : (m : ModeChoice) → MayShard m → m ≢ choice.Lock
may_not_lock choice.Auto may = λ e. absurd (cc e)
may_not_lock choice.Shard may = λ e. absurd (cc e)
may_not_lock choice.Lock may = absurd may

-- a run's packets, by whom they were handled
handled_by : (alike : MeetingPacketsHashAlike) (Refused : Type 0) (m : ModeChoice) (workers : ℕ) (card : Card) (packets : List Arrival) (r : Run) (rule : Rule) → IsRuleOf Refused m workers card r.function rule → IsRunBy rule r.function card packets r → AreHandled Refused m workers card packets r
handled_by alike Refused m workers card packets r rule (by_one alone e) is =
    let k = subst (λ (x : Rule). IsRunBy x r.function card packets r) e is in
    inl (record { one = alone; each_once_in_capture_order = k.order; by_worker_0 = k.own })
handled_by alike Refused m workers card packets r rule (by_shards keys several may given e) is =
    let k = subst (λ (x : Rule). IsRunBy x r.function card packets r) e is in
    inr (inl (record {
      several = several;
      allowed = may_not_lock m may;
      each_once_in_capture_order = k.order;
      keys = keys;
      keys_are_given = given;
      keys_hash_alike_packets_that_meet = alike r.function keys given.may.admissible;
      by_their_queues = k.own;
    }))
handled_by alike Refused m workers card packets r rule (by_tables several share e) is =
    let k = subst (λ (x : Rule). IsRunBy x r.function card packets r) e is in
    inr (inr (record {
      several = several;
      only_where_no_keys_spread = none_shared m card r.function share;
      handled = inl (record { each_once_in_port_order = k.order; by_their_ports = k.own });
    }))
handled_by alike Refused m workers card packets r rule (by_none several share refused e) is =
    let k = subst (λ (x : Rule). IsRunBy x r.function card packets r) e is in
    inr (inr (record {
      several = several;
      only_where_no_keys_spread = none_shared m card r.function share;
      handled = inr (record { refused = refused; each_once_in_capture_order = k.order; by_worker_0 = k.own });
    }))

abbrev packets_at : Status → RunAsked → Told → Function → List Arrival → Type 0
packets_at status c told f packets = ArePackets status c.most (packets_under f c.captures told) packets

of_files : (alike : MeetingPacketsHashAlike) (Refused : Type 0) (c : RunAsked) (before now : Told) (status : Status) (packets : List Arrival) (r : Run) → IsRunOf Refused c before packets r → ArePackets status c.most (packets_under r.function c.captures before) packets
    → Left before now (before.next + 1 + length c.captures) (name_at c.format c.out (length c.captures)) (bytes_at c.format r) (length c.captures + 2) (length c.captures + 2)
    → Headline (packets_at status c before) Refused c.mode c.workers c.card c.format c.function c.out (before.next + 1 + length c.captures) before now
of_files alike Refused c before now status packets r is gave left =
    let handled = handled_by alike Refused c.mode c.workers c.card packets r is.rule is.due is.is_run in
    headline_of (packets_at status c before) Refused c.mode c.workers c.card c.format c.function c.out (before.next + 1 + length c.captures) before now r packets is.has_ports.is_function gave handled is.is_run.legal is.is_run.card_is (length c.captures) is.has_ports.as_many left

of_end : (alike : MeetingPacketsHashAlike) (Refused : Type 0) (c : RunAsked) (before now : Outside) (end : End) → IsFinished Refused c before now end → IsDone (end_status end) → Headline (packets_at (end_status end) c before.told) Refused c.mode c.workers c.card c.format c.function c.out (before.told.next + 1 + length c.captures) before.told now.told
of_end alike Refused c before now ends.Whole k done = of_files alike Refused c before.told now.told Done k.arrivals k.run k.is_run k.ending.0 k.files
of_end alike Refused c before now (ends.Torn port offset) k done = of_files alike Refused c before.told now.told (Torn port offset) k.arrivals k.run k.is_run k.ending.0 k.files
of_end alike Refused c before now (ends.TooMany most) k done =
    of_files alike Refused c before.told now.told (TooMany most) k.arrivals k.run k.is_run
    (k.ending.0, k.ending.1 ∙ k.ending.0, k.is_run.first, subst (HasMore (packets_under k.run.function c.captures before.told)) k.ending.0 k.ending.2)
    k.files
of_end alike Refused c before now (ends.ShareFull full) k done = absurd done

-- what a run comes to, at such a status
of_run : (alike : MeetingPacketsHashAlike) (Refused : Type 0) (c : RunAsked) (before now : Outside) (status : Status) → Runs Refused c before now status → IsDone status → Headline (packets_at status c before.told) Refused c.mode c.workers c.card c.format c.function c.out (before.told.next + 1 + length c.captures) before.told now.told
of_run alike Refused c before now status (inl k) done =
    subst (λ (s : Status). Headline (packets_at s c before.told) Refused c.mode c.workers c.card c.format c.function c.out (before.told.next + 1 + length c.captures) before.told now.told) (sym k.status_is)
    (of_end alike Refused c before now k.how k.ends (subst IsDone k.status_is done))
of_run alike Refused c before now status (inr (inl k)) done = absurd (not_refused k.how (subst IsDone k.status_is done))
of_run alike Refused c before now status (inr (inr k)) done = absurd (not_stopped_so k.how (subst IsDone k.status_is done))

of_answer : (alike : MeetingPacketsHashAlike) (Refused : Type 0) (c : RunAsked) (before ended : Outside) (due status : Status) → ComesTo Refused (Some (RunCommand c)) before ended due → due ≡ status → IsDone status → Headline (packets_at status c before.told) Refused c.mode c.workers c.card c.format c.function c.out (before.told.next + 1 + length c.captures) before.told ended.told
of_answer alike Refused c before ended due status (inl k) same done = of_run alike Refused c before ended status (subst (Runs Refused c before ended) same k) done
of_answer alike Refused c before ended due status (inr k) same done = absurd (subst IsDone (sym same ∙ k.0) done)

pub headline_of_run : MeetingPacketsHashAlike → HeadlineOfRun
headline_of_run alike = λ was is c before after status a done.
    let said = said_so a.ended after a.due status a.tells done in
    record { ended = a.ended; headline = of_answer alike (Rose was is) c before a.ended a.due status a.comes said.0 done; said = said.1 }

-- ---- a run over made-up traffic

abbrev made_for : Gen → Function → List Arrival → Type 0
made_for c f packets = packets ≡ packets_for c f

of_made : (alike : MeetingPacketsHashAlike) (Refused : Type 0) (c : Gen) (before now : Outside) (end : End) → IsMade c Refused before now end → IsDone (end_status end) → Headline (made_for c) Refused c.mode c.workers c.card c.format c.function c.out (before.told.next + 1) before.told now.told
of_made alike Refused c before now ends.Whole k done =
    let is = k.is_run in
    let handled = handled_by alike Refused c.mode c.workers c.card k.given k.run is.rule is.due is.is_run in
    headline_of (made_for c) Refused c.mode c.workers c.card c.format c.function c.out (before.told.next + 1) before.told now.told k.run k.given is.is_function k.ending handled is.is_run.legal is.is_run.card_is (length k.run.function.handlers) refl k.files
of_made alike Refused c before now (ends.Torn port offset) k done = absurd k.ending
of_made alike Refused c before now (ends.TooMany most) k done = absurd k.ending
of_made alike Refused c before now (ends.ShareFull full) k done = absurd done

of_gen : (alike : MeetingPacketsHashAlike) (Refused : Type 0) (c : Gen) (before now : Outside) (status : Status) → Gens Refused c before now status → IsDone status → Headline (made_for c) Refused c.mode c.workers c.card c.format c.function c.out (before.told.next + 1) before.told now.told
of_gen alike Refused c before now status (inl k) done = of_made alike Refused c before now k.how k.ends (subst IsDone k.status_is done)
of_gen alike Refused c before now status (inr (inl k)) done = absurd (not_refused k.how (subst IsDone k.status_is done))
of_gen alike Refused c before now status (inr (inr k)) done = absurd (not_stopped_so k.how (subst IsDone k.status_is done))

of_made_answer : (alike : MeetingPacketsHashAlike) (Refused : Type 0) (c : Gen) (before ended : Outside) (due status : Status) → ComesTo Refused (Some (GenCommand c)) before ended due → due ≡ status → IsDone status → Headline (made_for c) Refused c.mode c.workers c.card c.format c.function c.out (before.told.next + 1) before.told ended.told
of_made_answer alike Refused c before ended due status (inl k) same done = of_gen alike Refused c before ended status (subst (Gens Refused c before ended) same k) done
of_made_answer alike Refused c before ended due status (inr k) same done = absurd (subst IsDone (sym same ∙ k.0) done)

pub headline_of_gen : MeetingPacketsHashAlike → HeadlineOfGen
headline_of_gen alike = λ was is c before after status a done.
    let said = said_so a.ended after a.due status a.tells done in
    record { ended = a.ended; headline = of_made_answer alike (Rose was is) c before a.ended a.due status a.comes said.0 done; said = said.1 }

-- ---- keys that were refused

-- a status that tells that there are no keys
abbrev IsKeyless : Status → Type 0
IsKeyless (NoKeys why) = Unit {0}
IsKeyless Done = ⊥
IsKeyless Usage = ⊥
IsKeyless (Rejected kind line column) = ⊥
IsKeyless (FileFault file) = ⊥
IsKeyless (NotCapture port) = ⊥
IsKeyless (Torn port offset) = ⊥
IsKeyless (ShareFull full) = ⊥
IsKeyless (TooMany most) = ⊥
IsKeyless Memory = ⊥
IsKeyless (Differs at) = ⊥
IsKeyless (ProofFails line) = ⊥

stopped_with_keys : (stop : RunFault) → IsKeyless (stopped_at stop) → ⊥
stopped_with_keys (numbered.File file) h = absurd h
stopped_with_keys numbered.Memory h = absurd h

half_with_keys : (due : Status) (stop : RunFault) → due ≢ Done → IsKeyless (after_stop due stop) → ⊥
half_with_keys Done stop some h = some refl
half_with_keys (FileFault file) stop some h = absurd h
half_with_keys Usage stop some h = stopped_with_keys stop h
half_with_keys (Rejected kind line column) stop some h = stopped_with_keys stop h
half_with_keys (NotCapture port) stop some h = stopped_with_keys stop h
half_with_keys (Torn port offset) stop some h = stopped_with_keys stop h
half_with_keys (ShareFull full) stop some h = stopped_with_keys stop h
half_with_keys (TooMany most) stop some h = stopped_with_keys stop h
half_with_keys (NoKeys why) stop some h = stopped_with_keys stop h
half_with_keys Memory stop some h = stopped_with_keys stop h
half_with_keys (Differs at) stop some h = stopped_with_keys stop h
half_with_keys (ProofFails line) stop some h = stopped_with_keys stop h

keyless_due : (ended after : Outside) (due status : Status) → Tells ended after due status → IsKeyless status → IsKeyless due
keyless_due ended after due status (inl said) h = subst IsKeyless said.status_is h
keyless_due ended after due status (inr half) h = absurd (half_with_keys due half.stop half.some (subst IsKeyless half.status_is h))

end_with_keys : (how : End) → IsKeyless (end_status how) → ⊥
end_with_keys ends.Whole h = absurd h
end_with_keys (ends.Torn port offset) h = absurd h
end_with_keys (ends.TooMany most) h = absurd h
end_with_keys (ends.ShareFull full) h = absurd h

stop_with_keys : (how : CallFault) → IsKeyless (stop_status how) → ⊥
stop_with_keys (stops.File file) h = absurd h
stop_with_keys stops.Memory h = absurd h

none_refused : (c : RunAsked) (before now : Outside) (how : Refusal) → IsRefused c before now how → IsKeyless (refusal_status how) → HasNoneToGive before.told c.card c.function
none_refused c before now (refusals.NoKeys why) k h = record { function = k.0.function; function_is = k.0.is_function; none = k.0.locked.locked.0 }
none_refused c before now refusals.Usage k h = absurd h
none_refused c before now (refusals.Text fault) k h = absurd h
none_refused c before now (refusals.NotCapture port) k h = absurd h

none_of_run : (Refused : Type 0) (c : RunAsked) (before now : Outside) (due : Status) → ComesTo Refused (Some (RunCommand c)) before now due → IsKeyless due → HasNoneToGive before.told c.card c.function
none_of_run Refused c before now due (inl (inl k)) h = absurd (end_with_keys k.how (subst IsKeyless k.status_is h))
none_of_run Refused c before now due (inl (inr (inl k))) h = none_refused c before now k.how k.ends (subst IsKeyless k.status_is h)
none_of_run Refused c before now due (inl (inr (inr k))) h = absurd (stop_with_keys k.how (subst IsKeyless k.status_is h))
none_of_run Refused c before now due (inr k) h = absurd (subst IsKeyless k.0 h)

none_unmade : (c : Gen) (before now : Outside) (how : Refusal) → IsUnmade c before now how → IsKeyless (refusal_status how) → HasNoneToGive before.told c.card c.function
none_unmade c before now (refusals.NoKeys why) k h = record { function = k.0.function; function_is = k.0.is_function; none = k.0.locked.0 }
none_unmade c before now refusals.Usage k h = absurd h
none_unmade c before now (refusals.Text fault) k h = absurd h
none_unmade c before now (refusals.NotCapture port) k h = absurd h

none_of_gen : (Refused : Type 0) (c : Gen) (before now : Outside) (due : Status) → ComesTo Refused (Some (GenCommand c)) before now due → IsKeyless due → HasNoneToGive before.told c.card c.function
none_of_gen Refused c before now due (inl (inl k)) h = absurd (end_with_keys k.how (subst IsKeyless k.status_is h))
none_of_gen Refused c before now due (inl (inr (inl k))) h = none_unmade c before now k.how k.ends (subst IsKeyless k.status_is h)
none_of_gen Refused c before now due (inl (inr (inr k))) h = absurd (stop_with_keys k.how (subst IsKeyless k.status_is h))
none_of_gen Refused c before now due (inr k) h = absurd (subst IsKeyless k.0 h)

pub only_where_none_spread : OnlyWhereNoneSpread
only_where_none_spread = λ was is before after why. (
  λ c a. none_of_run (Rose was is) c before a.ended a.due a.comes (keyless_due a.ended after a.due (NoKeys why) a.tells tt),
  λ c a. none_of_gen (Rose was is) c before a.ended a.due a.comes (keyless_due a.ended after a.due (NoKeys why) a.tells tt),
)
