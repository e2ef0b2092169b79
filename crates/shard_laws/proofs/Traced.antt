-- What a packet's step makes and stores to on the part of its queue, and on the whole state.
use Rattle.nf_laws.proofs.Plain.{question_event}
use Rattle.shard_laws.specs.Marks.{Marks, marked, all_marks}
use Rattle.shard_laws.proofs.Making.{question_makes_none}
use Rattle.std.proofs.Common.{◌≡◌, ℕ, ◌≤◌, Bool, true, false, not, List, [], Option, Some, None, slice_get, refl, ap, ◌∷◌}
use Rattle.std.proofs.lemmas.Option.{none-some}
use Rattle.nf_base.specs.Doors.{handler_at}
use Rattle.nf_base.specs.Families.{door_of}
use Rattle.nf_base.specs.declared.packet.Packet.{Packet}
use Rattle.nf_base.specs.declared.packet.Fields.{Fields}
use Rattle.nf_base.specs.declared.state.State.{State}
use Rattle.nf_base.specs.Text.{Function, Block, Question, Get, Find, Test}
use Rattle.nf_base.specs.Context.{Context, Input}
use Rattle.nf_base.specs.Operations.{Stops, never}
use Rattle.nf_base.specs.Events.{Event}
use Rattle.nf_base.specs.Record.{answers_full, made_of}
use Rattle.nf_base.specs.Course.{Completion, Normal, Ended, NoStep, StoppedAt, and_then, exec}
use Rattle.nf_base.specs.Locations.{Numbers, locations, all_numbers}
use Rattle.nf_base.specs.Step.{StepResult, step_result, input, completes, records, step_of, record_of}
use Rattle.shard_laws.specs.Homes.{Homes, AllTold, entries_made, MadeOwn, AllAt, KnowsWritten, IsTold, made_in_front}
use Rattle.shard_laws.specs.Agreement.{Scene}
use Rattle.shard_laws.specs.Queues.{time_of}
use Rattle.shard_laws.specs.Parts.{Whole, Part, at_time, HaltsOwn}
use Rattle.shard_laws.proofs.Handled.{told}
use Rattle.shard_laws.proofs.Living.{goes_from, whole_later}
use Rattle.shard_laws.proofs.Starting.{course_of, part_begins, start_agree}
use Rattle.shard_laws.proofs.Traces.{IsTrace, fine, exec_traces}

not_false : (b : Bool) → b ≡ false → not b ≡ true
not_false true e = cc
not_false false e = refl

not_true : (b : Bool) → b ≡ true → not b ≡ false
not_true true e = refl
not_true false e = cc

was_false : (b : Bool) → not b ≡ true → b ≡ false
was_false true e = cc
was_false false e = refl

fine_step : (s : Scene) (choices : List ℕ) (f : Completion) (r : StepResult) → step_result choices f ≡ Some r → fine s (and_then f (λ c. Normal c)) ≡ true
fine_step s choices (Normal c) r e = refl
fine_step s choices (Ended a c) r e = refl
fine_step s choices NoStep r e = absurd (none-some _ e)
fine_step s choices (StoppedAt chain left) r e = absurd (none-some _ e)

-- a scene of one packet, with what is known of the entries that are made on one of the two sides
abbrev pub step_scene : (side : Bool) (h : Homes) (b : ℕ) (stops : Stops) (opened : ℕ → ℕ → ℕ) (f : Function) (s part : State) (now : ℕ) (fields : Fields) → HaltsOwn h.owner (h.at b) stops → (side ≡ false → not side ≡ true) → (side ≡ true → not side ≡ false) → Scene
step_scene side h b stops opened f s part now fields halts firm lax = record {
  homes = h;
  strict = not side;
  tight = false;
  by_part = side;
  over = never;
  stops = stops;
  opened = opened;
  bucket = b;
  queue = h.at b;
  packet = input f now fields;
  whole = at_time now f.chains s;
  part = at_time now f.chains part;
  is = refl;
  firm = λ x y. firm x;
  lax = lax;
  halts = halts;
  follows = λ k c d e q. cc;
  leads = λ t. cc;
  roomy = λ t. cc;
}

-- what is known of the entries that are made, on the side where it is
abbrev pub OwnOn : Bool → Homes → ℕ → List Event → List Event → Type 0
OwnOn side h b es fs = (side ≡ false → MadeOwn h.owner (h.at b) (entries_made es) × (answers_full es ≡ false)) × (side ≡ true → MadeOwn h.owner (h.at b) (entries_made fs))

block_traces : {A : Type 0} (tr : List Event → A) → IsTrace tr → (side : Bool) (h : Homes) (b : ℕ) (stops : Stops) (opened : ℕ → ℕ → ℕ) (f : Function) (time : ℕ) (ns : Numbers) (m part : State) (now : ℕ) (fields : Fields) (choices : List ℕ) (block : Block) (r q : StepResult) → IsTold h.written block → HaltsOwn h.owner (h.at b) stops
    → Whole h opened f.chains time ns m → Part h opened f.chains time (h.at b) m part → time ≤ now → AllAt h b (locations f.chains ns (records never f m now fields choices (Some block))) → AllTold h ns (records never f m now fields choices (Some block))
    → OwnOn side h b (records never f m now fields choices (Some block)) (records stops f part now fields choices (Some block))
    → step_result choices (completes never f m now fields choices (Some block)) ≡ Some r → step_result choices (completes stops f part now fields choices (Some block)) ≡ Some q
    → tr (records never f m now fields choices (Some block)) ≡ tr (records stops f part now fields choices (Some block))
block_traces tr t side h b stops opened f time ns m part now fields choices block r q text halts whole a le at told_all own e g =
    let s : Scene = step_scene side h b stops opened f m part now fields halts (not_false side) (not_true side) in
    let p = input f now fields in
    let es = records never f m now fields choices (Some block) in
    let z = all_numbers ns es in
    exec_traces tr t s z block ns (course_of (at_time now f.chains m) choices) (course_of (at_time now f.chains part) choices) (λ _. []) (λ _. []) (λ c. Normal c) (λ c. Normal c) text
    (start_agree s ns choices (whole_later h opened f.chains time now ns m whole le) (part_begins h opened f.chains time now (h.at b) m part a le))
    (goes_from s ns es at told_all (λ x. (own.0 (was_false side x)).1) (λ x. (own.0 x).0)) own.1
    (fine_step s choices (exec never p block (course_of (at_time now f.chains m) choices)) r e) (fine_step s choices (exec stops p block (course_of (at_time now f.chains part) choices)) q g)
    (λ n c d a g o x y. refl)

fields_traces : {A : Type 0} (tr : List Event → A) → IsTrace tr → (side : Bool) (h : Homes) (b : ℕ) (stops : Stops) (opened : ℕ → ℕ → ℕ) (f : Function) (time : ℕ) (ns : Numbers) (m part : State) (packet : Packet) (fields : Fields) (choices : List ℕ) (o : Option Block) (r q : StepResult) → handler_at f (door_of packet.id.port fields) ≡ o → KnowsWritten h f → HaltsOwn h.owner (h.at b) stops
    → Whole h opened f.chains time ns m → Part h opened f.chains time (h.at b) m part → time ≤ packet.time → AllAt h b (locations f.chains ns (records never f m packet.time fields choices o)) → AllTold h ns (records never f m packet.time fields choices o)
    → OwnOn side h b (records never f m packet.time fields choices o) (records stops f part packet.time fields choices o)
    → step_result choices (completes never f m packet.time fields choices o) ≡ Some r → step_result choices (completes stops f part packet.time fields choices o) ≡ Some q
    → tr (records never f m packet.time fields choices o) ≡ tr (records stops f part packet.time fields choices o)
fields_traces tr t side h b stops opened f time ns m part packet fields choices None r q is knows halts whole a le at told_all own e g = refl
fields_traces tr t side h b stops opened f time ns m part packet fields choices (Some block) r q is knows halts whole a le at told_all own e g =
    block_traces tr t side h b stops opened f time ns m part packet.time fields choices block r q (told h f (door_of packet.id.port fields) block knows is) halts whole a le at told_all own e g

pub steps_trace : {A : Type 0} (tr : List Event → A) → IsTrace tr → (side : Bool) (h : Homes) (b : ℕ) (stops : Stops) (opened : ℕ → ℕ → ℕ) (f : Function) (time : ℕ) (ns : Numbers) (m part : State) (packet : Packet) (choices : List ℕ) (o : Option Fields) (r q : StepResult) → KnowsWritten h f → HaltsOwn h.owner (h.at b) stops
    → Whole h opened f.chains time ns m → Part h opened f.chains time (h.at b) m part → time ≤ time_of time packet.time o → AllAt h b (locations f.chains ns (record_of never f m packet choices o)) → AllTold h ns (record_of never f m packet choices o)
    → OwnOn side h b (record_of never f m packet choices o) (record_of stops f part packet choices o)
    → step_of never f m packet choices o ≡ Some r → step_of stops f part packet choices o ≡ Some q → tr (record_of never f m packet choices o) ≡ tr (record_of stops f part packet choices o)
steps_trace tr t side h b stops opened f time ns m part packet choices None r q knows halts whole a le at told_all own e g = refl
steps_trace tr t side h b stops opened f time ns m part packet choices (Some fields) r q knows halts whole a le at told_all own e g =
    fields_traces tr t side h b stops opened f time ns m part packet fields choices (handler_at f (door_of packet.id.port fields)) r q refl knows halts whole a le at told_all own e g

question_marks : (b : ℕ) (p : Input) (c : Context) (q : Question) (es : List Event) → ◌≡◌ {A = Marks → Marks} (λ ms. all_marks b ms (question_event p c q ∷ es)) (λ ms. all_marks b ms es)
question_marks b p c (Get place chain m key var) es = refl
question_marks b p c (Find place chain at guards var) es = refl
question_marks b p c (Test place comparison x y) es = refl

-- the entries that are made
pub entries_trace : IsTrace entries_made
entries_trace = record {
  use_ = λ chain i changed es. refl;
  free_ = λ chain i es. refl;
  load_ = λ place array i es. refl;
  ask_ = λ p c q es. question_makes_none p c q es;
  on_ = λ e es fs same. ap (made_in_front (made_of e)) same;
}

-- the marks of a packet's bucket
pub marks_trace : (b : ℕ) → IsTrace {A = Marks → Marks} (λ es ms. all_marks b ms es)
marks_trace b = record {
  use_ = λ chain i changed es. refl;
  free_ = λ chain i es. refl;
  load_ = λ place array i es. refl;
  ask_ = λ p c q es. question_marks b p c q es;
  on_ = λ e es fs same. ap (λ (g : Marks → Marks). λ (ms : Marks). g (marked b e ms)) same;
}
