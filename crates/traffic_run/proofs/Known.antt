-- Which file failed, and what a run came to, in the end.
use Rattle.std.proofs.Common.{◌≡◌, ℕ, zero, suc, ◌+◌, ◌^◌, ◌<◌, ◌≤◌, ◌⊎◌, inl, inr, Bool, true, false, cond, leb, List, [], length, refl, sym, ap, subst, ◌∙◌, arith, leb-true}
use Rattle.std.specs.Prelude.{Option, Some, None, Result, Ok, Err, option_map}
use Rattle.std.proofs.lemmas.Option.{slice_get_within}
use Rattle.std.specs.List.{slice_get}
use Rattle.std.proofs.lemmas.Bool.{le-leb, lt-leb}
use Rattle.capture_format.specs.declared.format.CaptureFormat.{CaptureFormat}
use Rattle.nf_base.specs.declared.card.Card.{Card}
use Rattle.nf_base.specs.Text.{Function}
use Rattle.nf_files.specs.Told.{Told, IsEmptyIfTold}
use Rattle.nf_files.specs.Causes.{Counted, Faulted, FirstAfter}
use Rattle.packet_feed.specs.Told.{IsApart}
use Rattle.stream_run.specs.declared.fault.RunFault.{RunFault}
use Rattle.stream_run.specs.declared.fault.RunFault.TheVariants.{File, Memory}
use Rattle.stream_run.specs.Writing.{IsStopCause, StopsAmong}
use Rattle.made_captures.specs.Captures.{first_number, numbers_of}
use Rattle.made_captures.specs.Outputs.{sum_of, bytes_from, is_right, is_known}
use Rattle.made_captures.proofs.Numbering.{number_at}
use Rattle.gen_traffic.specs.Traffic.{Recipe}
use Rattle.made_captures.specs.Laws.{arrivals_of}
use Rattle.traffic_run.specs.declared.worker_plan.WorkerPlan.{WorkerPlan}
use Rattle.traffic_run.specs.declared.result.UncountedResult.{UncountedResult}
use Rattle.traffic_run.specs.declared.result.UncountedResult.TheVariants.{Whole, Full}
use Rattle.traffic_run.specs.declared.result.TrafficResult.{TrafficResult}
use Rattle.traffic_run.specs.Beside.{CountsTo, StaysKnown, told_file, told_stop, came_of}
use Rattle.traffic_run.specs.Runs.{Leaves, Runs}
use Rattle.traffic_run.proofs.Sending.{file_at, is_sent_by}

-- ---- nothing was given yet

none_more : (o p : Option ℕ) → (o ≡ None) ⊎ (o ≡ Some 0) → (p ≡ None) ⊎ (p ≡ Some 0) → (sum_of o p ≡ None) ⊎ (sum_of o p ≡ Some 0)
none_more None p a b = inl refl
none_more (Some x) None a b = inl refl
none_more (Some x) (Some y) (inl e) b = absurd cc
none_more (Some x) (Some y) (inr e) (inl f) = absurd cc
none_more (Some x) (Some y) (inr e) (inr f) = let p : x ≡ 0 = cc e in let q : y ≡ 0 = cc f in let r : x + y ≡ 0 = omega (arith, p, q) in inr (ap Some r)

none_here : (o : Option (List ℕ)) → IsEmptyIfTold o → (option_map (λ (bytes : List ℕ). length bytes) o ≡ None) ⊎ (option_map (λ (bytes : List ℕ). length bytes) o ≡ Some 0)
none_here None e = inl refl
none_here (Some bytes) e = inr (ap (λ (t : List ℕ). Some (length t)) e)

none_from : (given : ℕ → Option (List ℕ)) (first n : ℕ) → ((k : ℕ) → k < n → IsEmptyIfTold (given (first + k))) → (bytes_from given first n ≡ None) ⊎ (bytes_from given first n ≡ Some 0)
none_from given first zero empty = inr refl
none_from given first (suc n) empty =
    let zeroth : first + 0 ≡ first = omega arith in
    none_more (option_map (λ (bytes : List ℕ). length bytes) (given first)) (bytes_from given (first + 1) n)
    (none_here (given first) (subst (λ (g : ℕ). IsEmptyIfTold (given g)) zeroth (empty 0 (omega arith))))
    (none_from given (first + 1) n (λ k lt. let next : first + (k + 1) ≡ first + 1 + k = omega arith in subst (λ (g : ℕ). IsEmptyIfTold (given g)) next (empty (k + 1) (omega (arith, lt)))))

right_none : (o : Option ℕ) → (o ≡ None) ⊎ (o ≡ Some 0) → is_right o 0 ≡ true
right_none o (inl e) = ap (λ (x : Option ℕ). is_right x 0) e
right_none o (inr e) = ap (λ (x : Option ℕ). is_right x 0) e

pub starts_right : (now : Told) (files : List ℕ) (first n : ℕ) → length files ≡ n + 1 → ((k file : ℕ) → slice_get files k ≡ Some file → file ≡ first + k) → ((k file : ℕ) → slice_get files k ≡ Some file → IsEmptyIfTold (now.given file))
    → is_right (bytes_from now.given first n) 0 ≡ true
starts_right now files first n as_many numbers empty =
    right_none (bytes_from now.given first n) (none_from now.given first n (λ k lt. empty k (first + k) (file_at files first k (omega (arith, lt, as_many)) numbers)))

pub are_apart : (files : List ℕ) (first : ℕ) → ((k file : ℕ) → slice_get files k ≡ Some file → file ≡ first + k) → IsApart files
are_apart files first numbers i j f g p q ne same = ne (omega (arith, numbers i f p, numbers j g q, same))

-- ---- which file failed

in_told : (first ports file : ℕ) → first ≤ file → file ≤ first + ports → told_file first ports file ≡ file
in_told first ports file le less =
    ap (λ (b : Bool). cond b (cond (leb file (first + ports)) file first) first) (le-leb first file le)
    ∙ ap (λ (b : Bool). cond b file first) (le-leb file (first + ports) less)

past_at : (b : Bool) (first : ℕ) → cond b first first ≡ first
past_at true first = refl
past_at false first = refl

past_told : (first ports file : ℕ) → first + ports < file → told_file first ports file ≡ first
past_told first ports file past =
    ap (λ (b : Bool). cond (leb first file) (cond b file first) first) (lt-leb file (first + ports) past)
    ∙ past_at (leb first file) first

-- a number of a made capture is past the journal
past_of : (captures : List ℕ) (first n k file : ℕ) → captures ≡ numbers_of n → first + n + n < 2 ^ 32 → slice_get captures k ≡ Some file → first + n < file
past_of captures first n k file is low at =
    let e = number_at (first_number n) n k file (subst (λ (xs : List ℕ). slice_get xs k ≡ Some file) is at) in
    omega (arith, e, low)

known_at : (last file : ℕ) → leb file last ≡ true → last < file → ⊥
known_at last file e lt = absurd (omega (arith, leb-true file last e, lt))

-- A file past the journal isn't the first to fail, unless one failed before; and then any other may have been.
first_other : (last file first : ℕ) (old new : Option ℕ) → last < file → FirstAfter old file new → is_known last new ≡ is_known last old → FirstAfter old first new
first_other last file first (Some stood) new lt e known = e
first_other last file first None new lt e known = absurd (known_at last file (sym (ap (is_known last) e) ∙ known) lt)

told_fault : (first n file : ℕ) (old new : Counted) → first + n < file → StaysKnown (first + n) old new → Faulted old new file → Faulted old new first
told_fault first n file old new past known h = record {
  later = h.later;
  rose = h.rose;
  first = first_other (first + n) file first old.first new.first past h.first known;
  asked = h.asked;
  missing = h.missing;
}

stop_causes : (T U : Type 0) (captures files : List ℕ) (first n : ℕ) (old new : Counted) (stop : RunFault) → captures ≡ numbers_of n → length files ≡ n + 1 → ((k file : ℕ) → slice_get files k ≡ Some file → file ≡ first + k) → first + n + n < 2 ^ 32 → StaysKnown (first + n) old new
    → IsStopCause {T = T} old new (Err stop) → StopsAmong {T = T} captures files (Err stop) → IsStopCause {T = U} old new (Err (told_stop first n stop))
stop_causes T U captures files first n old new Memory is as_many numbers low known h among = h
stop_causes T U captures files first n old new (File file) is as_many numbers low known h (inl made) =
    let past = past_of captures first n made.0 file is low made.1 in
    subst (Faulted old new) (sym (past_told first n file past)) (told_fault first n file old new past known h)
stop_causes T U captures files first n old new (File file) is as_many numbers low known h (inr own) =
    let e = numbers own.0 file own.1 in
    let lt : own.0 < n + 1 = omega (arith, slice_get_within files own.0 file own.1, as_many) in
    subst (Faulted old new) (sym (in_told first n file (omega (arith, e)) (omega (arith, e, lt)))) h

stop_among : (T U : Type 0) (captures files : List ℕ) (first n : ℕ) (stop : RunFault) → captures ≡ numbers_of n → length files ≡ n + 1 → ((k file : ℕ) → slice_get files k ≡ Some file → file ≡ first + k) → first + n + n < 2 ^ 32
    → StopsAmong {T = T} captures files (Err stop) → StopsAmong {T = U} [] files (Err (told_stop first n stop))
stop_among T U captures files first n Memory is as_many numbers low among = tt
stop_among T U captures files first n (File file) is as_many numbers low (inl made) =
    let past = past_of captures first n made.0 file is low made.1 in
    let zeroth : first + 0 ≡ first = omega arith in
    inr (0, file_at files first 0 (omega (arith, as_many)) numbers ∙ ap Some zeroth ∙ ap Some (sym (past_told first n file past)))
stop_among T U captures files first n (File file) is as_many numbers low (inr own) =
    let e = numbers own.0 file own.1 in
    let lt : own.0 < n + 1 = omega (arith, slice_get_within files own.0 file own.1, as_many) in
    inr (own.0, own.1 ∙ ap Some (sym (in_told first n file (omega (arith, e)) (omega (arith, e, lt)))))

pub came_causes : (format : CaptureFormat) (captures files : List ℕ) (first n bytes : ℕ) (old new : Counted) (result : Result UncountedResult RunFault) → captures ≡ numbers_of n → length files ≡ n + 1 → ((k file : ℕ) → slice_get files k ≡ Some file → file ≡ first + k) → first + n + n < 2 ^ 32 → StaysKnown (first + n) old new
    → StopsAmong captures files result → IsStopCause old new result → IsStopCause old new (came_of format first n bytes result)
came_causes format captures files first n bytes old new (Ok (Whole m state)) is as_many numbers low known among h = h
came_causes format captures files first n bytes old new (Ok (Full full)) is as_many numbers low known among h = h
came_causes format captures files first n bytes old new (Err stop) is as_many numbers low known among h = stop_causes UncountedResult TrafficResult captures files first n old new stop is as_many numbers low known h among

pub came_among : (format : CaptureFormat) (captures files : List ℕ) (first n bytes : ℕ) (result : Result UncountedResult RunFault) → captures ≡ numbers_of n → length files ≡ n + 1 → ((k file : ℕ) → slice_get files k ≡ Some file → file ≡ first + k) → first + n + n < 2 ^ 32
    → StopsAmong captures files result → StopsAmong [] files (came_of format first n bytes result)
came_among format captures files first n bytes (Ok (Whole m state)) is as_many numbers low among = tt
came_among format captures files first n bytes (Ok (Full full)) is as_many numbers low among = tt
came_among format captures files first n bytes (Err stop) is as_many numbers low among = stop_among UncountedResult TrafficResult captures files first n stop is as_many numbers low among

-- ---- what a run came to

pub came_runs : (worker_plan : WorkerPlan) (card : Card) (format : CaptureFormat) (Refused : Type 0) (f : Function) (made : Recipe) (now : Told) (files : List ℕ) (first n bytes : ℕ) (result : Result UncountedResult RunFault) → length (arrivals_of made) < 2 ^ 32 → length f.handlers ≡ n → n ≤ 4 → length files ≡ n + 1 → ((k file : ℕ) → slice_get files k ≡ Some file → file ≡ first + k)
    → CountsTo first n now bytes → Leaves worker_plan card format Refused f (arrivals_of made) now files result → Runs worker_plan card format Refused f (arrivals_of made) now files first (came_of format first n bytes result)
came_runs worker_plan card format Refused f made now files first n bytes (Ok (Whole m state)) short ports few as_many numbers right h = record { whole = h; sent_is = is_sent_by worker_plan card format Refused f made now files m state h first n bytes short ports few as_many numbers right }
came_runs worker_plan card format Refused f made now files first n bytes (Ok (Full full)) short ports few as_many numbers right h = h
came_runs worker_plan card format Refused f made now files first n bytes (Err stop) short ports few as_many numbers right h = h
