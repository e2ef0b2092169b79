-- A course stops exactly where its record tells of it.
use Rattle.std.proofs.Common.{◌≡◌, ◌↔◌, ℕ, true, List, [], ◌∷◌, ◌++◌, drop, map, Option, Some, None, slice_get, refl, ap, ap₂, sym, ◌∙◌, subst}
use Rattle.std.specs.Option.{option_and_then}
use Rattle.std.proofs.lemmas.Option.{same_Some}
use Rattle.nf_base.specs.Doors.{handler_at}
use Rattle.nf_base.specs.Families.{door_of}
use Rattle.nf_base.specs.declared.packet.Fields.{Fields}
use Rattle.nf_base.specs.declared.share.Share.{Share}
use Rattle.nf_base.specs.declared.state.State.{State}
use Rattle.nf_base.specs.Text.{FallsOff, Flood, Discard, Forward, Question, Get, Find, Test, Block, End, Do, Ask, Make, Function}
use Rattle.nf_base.specs.Context.{Context, Input, given}
use Rattle.nf_base.specs.Operations.{Stops, NewResult, Made, Taken, Full, Illegal, Stopped, new_result, with_new, answer, after}
use Rattle.nf_base.specs.Events.{Event, Tested, LookedUp, Found, AskedNew, EntryUsed, EntryFreed, CellRead, CellWritten}
use Rattle.nf_base.specs.Course.{Completion, Normal, Ended, NoStep, StoppedAt, and_then, if_hit, if_new, exec, events}
use Rattle.nf_base.specs.Record.{is_legal, indices_made}
use Rattle.nf_base.specs.Step.{input, start_context, completes, records, record_of, recorded_by}
use Rattle.nf_base.specs.Shares.{share_stops}
use Rattle.nf_laws.specs.Shares.{ToldStop, StopsAreTold, ShareStopsAreTold}
use Rattle.nf_laws.proofs.Plain.{IsPlain, plain_reads, plain_all, plain_did, plain_asked, question_event}
use Rattle.nf_laws.proofs.Consumed.{taken, made_next, then_then, after_left, answer_left}
use Rattle.nf_laws.proofs.Legal.{then_normal, taken_head, taken_first}

-- a chain and what is left of the choices
record Stop : Type 0 where
  pub chain : ℕ
  pub left : List ℕ

-- where a record stops: at its last event, with an entry made at each choice before
abbrev stop_by : ℕ → NewResult → List Event → List ℕ → (List ℕ → Option Stop) → Option Stop
stop_by chain (Made i) es left go = option_and_then go (taken i left)
stop_by chain Taken es left go = go left
stop_by chain Full es left go = go left
stop_by chain Illegal es left go = None
stop_by chain Stopped [] left go = Some (record { chain = chain; left = left })
stop_by chain Stopped (e ∷ es) left go = None

abbrev stop_in : List Event → List ℕ → Option Stop
stop_in [] left = None
stop_in (AskedNew place chain labels result ∷ es) left = stop_by chain result es left (stop_in es)
stop_in (Tested place holds ∷ es) left = stop_in es left
stop_in (LookedUp place chain m key hit ∷ es) left = stop_in es left
stop_in (Found place chain hit ∷ es) left = stop_in es left
stop_in (EntryUsed chain i changed ∷ es) left = stop_in es left
stop_in (EntryFreed chain i ∷ es) left = stop_in es left
stop_in (CellRead place array i ∷ es) left = stop_in es left
stop_in (CellWritten place array i changed ∷ es) left = stop_in es left

abbrev stop_of : Completion → Option Stop
stop_of (Normal c) = None
stop_of (Ended a c) = None
stop_of NoStep = None
stop_of (StoppedAt chain left) = Some (record { chain = chain; left = left })

stop_plain : (left : List ℕ) → IsPlain (λ es. stop_in es left)
stop_plain left = record { reads_ = record { use_ = λ chain i es. refl; load_ = λ place array i es. refl }; touch_ = λ chain i es. refl; free_ = λ chain i es. refl; store_ = λ place array i changed es. refl }

question_stop : (p : Input) (c : Context) (q : Question) (rest : List Event) (left : List ℕ) → stop_in (question_event p c q ∷ rest) left ≡ stop_in rest left
question_stop p c (Get place chain m key var) rest left = refl
question_stop p c (Find place chain at guards var) rest left = refl
question_stop p c (Test place comparison a b) rest left = refl

hit_case : (o : Option Context) (left : List ℕ) (f : Context → Completion) (x : Completion) (g : Context → Completion) (es : Context → List Event) (fs : List Event) →
    ((d : Context) → o ≡ Some d → stop_of (and_then (f d) g) ≡ stop_in (es d) left) → stop_of (and_then x g) ≡ stop_in fs left → stop_of (and_then (if_hit o f x) g) ≡ stop_in (if_hit o es fs) left
hit_case (Some d) left f x g es fs h m = h d refl
hit_case None left f x g es fs h m = m

new_case : (to : NewResult) (left : List ℕ) (place chain : ℕ) (labels : List ℕ) (f : ℕ → Completion) (x y : Completion) (g : Context → Completion) (es : ℕ → List Event) (fs hs : List Event) →
    ((i : ℕ) → to ≡ Made i → (stop_of (and_then (f i) g) ≡ stop_in (es i) (drop 1 left)) × (taken i left ≡ Some (drop 1 left))) → stop_of (and_then x g) ≡ stop_in fs left → stop_of (and_then y g) ≡ stop_in hs left →
    stop_of (and_then (if_new to f x y NoStep (StoppedAt chain left)) g) ≡ stop_in (AskedNew place chain labels to ∷ if_new to es fs hs [] []) left
new_case (Made i) left place chain labels f x y g es fs hs m t u = (m i refl).0 ∙ sym (ap (option_and_then (stop_in (es i))) (m i refl).1)
new_case Taken left place chain labels f x y g es fs hs m t u = t
new_case Full left place chain labels f x y g es fs hs m t u = u
new_case Illegal left place chain labels f x y g es fs hs m t u = refl
new_case Stopped left place chain labels f x y g es fs hs m t u = refl

stops_told : (stops : Stops) (p : Input) (b : Block) (c : Context) (g : Context → Completion) (k : Context → List Event) → ((d : Context) → stop_of (g d) ≡ stop_in (k d) d.left) → stop_of (and_then (exec stops p b c) g) ≡ stop_in (events stops p b c k) c.left
stops_told stops p (End FallsOff) c g k h = h c
stops_told stops p (End Flood) c g k h = refl
stops_told stops p (End Discard) c g k h = refl
stops_told stops p (End (Forward port)) c g k h = sym (plain_reads (λ es. stop_in es c.left) (stop_plain c.left).reads_ p c port [])
stops_told stops p (Do op next) c g k h =
    let es = events stops p next (after p c op) k in
    stops_told stops p next (after p c op) g k h ∙ ap (stop_in es) (after_left p c op) ∙ sym (plain_did (λ fs. stop_in fs c.left) (stop_plain c.left) p c op es)
stops_told stops p (Ask q hit miss next) c g k h =
    let go = λ (d : Context). events stops p next d k in
    let on = λ (d : Context). and_then (exec stops p next d) g in
    let follows : (d : Context) → stop_of (on d) ≡ stop_in (go d) d.left = λ d. stops_told stops p next d g k h in
    let es = if_hit (answer p c q) (λ d. events stops p hit d go) (events stops p miss c go) in
    ap stop_of (then_then (if_hit (answer p c q) (exec stops p hit) (exec stops p miss c)) (exec stops p next) g)
    ∙ hit_case (answer p c q) c.left (exec stops p hit) (exec stops p miss c) on (λ d. events stops p hit d go) (events stops p miss c go)
    (λ d e. subst (λ (left : List ℕ). stop_of (and_then (exec stops p hit d) on) ≡ stop_in (events stops p hit d go) left) (answer_left p c d q e) (stops_told stops p hit d on go follows))
    (stops_told stops p miss c on go follows)
    ∙ sym (plain_asked (λ fs. stop_in fs c.left) (stop_plain c.left).reads_ p c q es ∙ question_stop p c q es c.left)
stops_told stops p (Make n made taken full next) c g k h =
    let go = λ (d : Context). events stops p next d k in
    let on = λ (d : Context). and_then (exec stops p next d) g in
    let follows : (d : Context) → stop_of (on d) ≡ stop_in (go d) d.left = λ d. stops_told stops p next d g k h in
    let es = if_new (new_result stops p c n) (λ i. events stops p made (with_new p c n i) go) (events stops p taken c go) (events stops p full c go) [] [] in
    ap stop_of (then_then (if_new (new_result stops p c n) (λ i. exec stops p made (with_new p c n i)) (exec stops p taken c) (exec stops p full c) NoStep (StoppedAt n.chain c.left)) (exec stops p next) g)
    ∙ new_case (new_result stops p c n) c.left n.place n.chain (map (given p c) n.labels) (λ i. exec stops p made (with_new p c n i)) (exec stops p taken c) (exec stops p full c) on
    (λ i. events stops p made (with_new p c n i) go) (events stops p taken c go) (events stops p full c go)
    (λ i e. (stops_told stops p made (with_new p c n i) on go follows, made_next stops p c n i e))
    (stops_told stops p taken c on go follows) (stops_told stops p full c on go follows)
    ∙ sym (plain_all (λ fs. stop_in fs c.left) (stop_plain c.left).reads_ p c n.labels (AskedNew n.place n.chain (map (given p c) n.labels) (new_result stops p c n) ∷ es))

-- where a record stops, in words
ahead : (e : Event) (es : List Event) (choices : List ℕ) (chain : ℕ) (left : List ℕ) → ((xs : List Event) → is_legal (e ∷ xs) ≡ is_legal xs) → ((xs : List Event) → indices_made (e ∷ xs) ≡ indices_made xs) → ToldStop es choices chain left → ToldStop (e ∷ es) choices chain left
ahead e es choices chain left l i w = record {
  earlier = e ∷ w.earlier;
  place = w.place;
  labels = w.labels;
  whole = ap (λ fs. e ∷ fs) w.whole;
  legal = l w.earlier ∙ w.legal;
  made = w.made ∙ ap (λ xs. xs ++ left) (sym (i w.earlier));
}

made_ahead : (place k : ℕ) (labels : List ℕ) (i : ℕ) (es : List Event) (choices : List ℕ) (chain : ℕ) (left : List ℕ) (o : Option (List ℕ)) → taken i choices ≡ o → ((rest : List ℕ) → stop_in es rest ≡ Some (record { chain = chain; left = left }) → ToldStop es rest chain left) →
    option_and_then (stop_in es) o ≡ Some (record { chain = chain; left = left }) → ToldStop (AskedNew place k labels (Made i) ∷ es) choices chain left
made_ahead place k labels i es choices chain left None t h e = cc
made_ahead place k labels i es choices chain left (Some rest) t h e =
    let w = h rest e in
    record {
      earlier = AskedNew place k labels (Made i) ∷ w.earlier;
      place = w.place;
      labels = w.labels;
      whole = ap (λ fs. AskedNew place k labels (Made i) ∷ fs) w.whole;
      legal = w.legal;
      made = taken_head i choices rest t ∙ ap (λ xs. i ∷ xs) w.made;
    }

in_words : (es : List Event) (choices : List ℕ) (chain : ℕ) (left : List ℕ) → stop_in es choices ≡ Some (record { chain = chain; left = left }) → ToldStop es choices chain left
in_words [] choices chain left e = cc
in_words (AskedNew place k labels (Made i) ∷ es) choices chain left e = made_ahead place k labels i es choices chain left (taken i choices) refl (λ rest q. in_words es rest chain left q) e
in_words (AskedNew place k labels Taken ∷ es) choices chain left e = ahead (AskedNew place k labels Taken) es choices chain left (λ xs. refl) (λ xs. refl) (in_words es choices chain left e)
in_words (AskedNew place k labels Full ∷ es) choices chain left e = ahead (AskedNew place k labels Full) es choices chain left (λ xs. refl) (λ xs. refl) (in_words es choices chain left e)
in_words (AskedNew place k labels Illegal ∷ es) choices chain left e = cc
in_words (AskedNew place k labels Stopped ∷ []) choices chain left e =
    let same = same_Some _ _ e in
    record { earlier = []; place = place; labels = labels; whole = ap (λ (x : Stop). AskedNew place x.chain labels Stopped ∷ []) same; legal = refl; made = ap (λ (x : Stop). x.left) same }
in_words (AskedNew place k labels Stopped ∷ x ∷ es) choices chain left e = cc
in_words (Tested place holds ∷ es) choices chain left e = ahead (Tested place holds) es choices chain left (λ xs. refl) (λ xs. refl) (in_words es choices chain left e)
in_words (LookedUp place k m key hit ∷ es) choices chain left e = ahead (LookedUp place k m key hit) es choices chain left (λ xs. refl) (λ xs. refl) (in_words es choices chain left e)
in_words (Found place k hit ∷ es) choices chain left e = ahead (Found place k hit) es choices chain left (λ xs. refl) (λ xs. refl) (in_words es choices chain left e)
in_words (EntryUsed k i changed ∷ es) choices chain left e = ahead (EntryUsed k i changed) es choices chain left (λ xs. refl) (λ xs. refl) (in_words es choices chain left e)
in_words (EntryFreed k i ∷ es) choices chain left e = ahead (EntryFreed k i) es choices chain left (λ xs. refl) (λ xs. refl) (in_words es choices chain left e)
in_words (CellRead place array i ∷ es) choices chain left e = ahead (CellRead place array i) es choices chain left (λ xs. refl) (λ xs. refl) (in_words es choices chain left e)
in_words (CellWritten place array i changed ∷ es) choices chain left e = ahead (CellWritten place array i changed) es choices chain left (λ xs. refl) (λ xs. refl) (in_words es choices chain left e)

stops_then : (earlier : List Event) (place chain : ℕ) (labels left : List ℕ) → is_legal earlier ≡ true → stop_in (earlier ++ AskedNew place chain labels Stopped ∷ []) (indices_made earlier ++ left) ≡ Some (record { chain = chain; left = left })
stops_then [] place chain labels left l = refl
stops_then (AskedNew at k ls (Made i) ∷ es) place chain labels left l =
    ap (option_and_then (stop_in (es ++ AskedNew place chain labels Stopped ∷ []))) (taken_first i (indices_made es ++ left)) ∙ stops_then es place chain labels left l
stops_then (AskedNew at k ls Taken ∷ es) place chain labels left l = stops_then es place chain labels left l
stops_then (AskedNew at k ls Full ∷ es) place chain labels left l = stops_then es place chain labels left l
stops_then (AskedNew at k ls Illegal ∷ es) place chain labels left l = cc
stops_then (AskedNew at k ls Stopped ∷ es) place chain labels left l = cc
stops_then (Tested at holds ∷ es) place chain labels left l = stops_then es place chain labels left l
stops_then (LookedUp at k m key hit ∷ es) place chain labels left l = stops_then es place chain labels left l
stops_then (Found at k hit ∷ es) place chain labels left l = stops_then es place chain labels left l
stops_then (EntryUsed k i changed ∷ es) place chain labels left l = stops_then es place chain labels left l
stops_then (EntryFreed k i ∷ es) place chain labels left l = stops_then es place chain labels left l
stops_then (CellRead at array i ∷ es) place chain labels left l = stops_then es place chain labels left l
stops_then (CellWritten at array i changed ∷ es) place chain labels left l = stops_then es place chain labels left l

from_words : (es : List Event) (choices : List ℕ) (chain : ℕ) (left : List ℕ) → ToldStop es choices chain left → stop_in es choices ≡ Some (record { chain = chain; left = left })
from_words es choices chain left w = ap₂ stop_in w.whole w.made ∙ stops_then w.earlier w.place chain w.labels left w.legal

completion : (w : Completion) (chain : ℕ) (left : List ℕ) → stop_of w ≡ Some (record { chain = chain; left = left }) → w ≡ StoppedAt chain left
completion (Normal c) chain left e = cc
completion (Ended a c) chain left e = cc
completion NoStep chain left e = cc
completion (StoppedAt k rest) chain left e = let same = same_Some _ _ e in ap₂ StoppedAt (ap (λ (x : Stop). x.chain) same) (ap (λ (x : Stop). x.left) same)

pub stops_are_told : StopsAreTold
stops_are_told stops p block c chain left =
    let es = events stops p block c (λ _. []) in
    let same : stop_of (exec stops p block c) ≡ stop_in es c.left = ap stop_of (sym (then_normal (exec stops p block c))) ∙ stops_told stops p block c Normal (λ _. []) (λ d. refl) in
    (λ e. in_words es c.left chain left (sym same ∙ ap stop_of e), λ w. completion (exec stops p block c) chain left (same ∙ from_words es c.left chain left w))

-- at a packet
at_handler : (share : Share) (f : Function) (s : State) (time : ℕ) (fields : Fields) (choices : List ℕ) (chain : ℕ) (left : List ℕ) (handler : Option Block) →
    (completes (share_stops share) f s time fields choices handler ≡ StoppedAt chain left) ↔ ToldStop (records (share_stops share) f s time fields choices handler) choices chain left
at_handler share f s time fields choices chain left None = (λ e. cc, λ w. let e = from_words [] choices chain left w in cc)
at_handler share f s time fields choices chain left (Some block) = stops_are_told (share_stops share) (input f time fields) block (start_context f s time choices) chain left

pub share_stops_told : ShareStopsAreTold
share_stops_told share f s packet fields choices chain e =
    let handler = handler_at f (door_of packet.id.port fields) in
    let at = at_handler share f s packet.time fields choices chain [] handler in
    let same : recorded_by (share_stops share) f s packet choices ≡ records (share_stops share) f s packet.time fields choices handler = ap (record_of (share_stops share) f s packet choices) e in (
      λ h. (h.own, subst (λ es. ToldStop es choices chain []) (sym same) (at.0 h.stops)),
      λ w. record { handled = e; own = w.0; stops = at.1 (subst (λ es. ToldStop es choices chain []) same w.1) },
    )
