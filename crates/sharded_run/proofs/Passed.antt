-- Packets that are handed to workers one by one, and what is written of them.
use Rattle.std.proofs.Common.{◌≡◌, ◌<◌, ℕ, Bool, List, [], ◌∷◌, ◌++◌, length, map, Option, refl, ap, sym, ◌∙◌, subst, append_assoc, arith}
use Rattle.std.specs.List.{AllByRecursion}
use Rattle.std.proofs.lemmas.List.{length-append, map-append}
use Rattle.nf_base.specs.declared.card.Card.{Card}
use Rattle.nf_base.specs.declared.packet.Packet.{Packet}
use Rattle.nf_base.specs.Doors.{six_ports, six_at, served_fields}
use Rattle.nf_base.specs.Text.{Function}
use Rattle.nf_base.proofs.Served.{seen_is_served}
use Rattle.capture_format.specs.declared.format.CaptureFormat.{CaptureFormat}
use Rattle.nf_files.specs.Told.{Told}
use Rattle.packet_feed.specs.Arrivals.{Arrival, packet_of}
use Rattle.packet_feed.specs.Feeding.{Feeding}
use Rattle.packet_feed.proofs.Standing.{stands_kept}
use Rattle.run_history.specs.declared.line.Mode.TheVariants.{Shard}
use Rattle.shard_machine.specs.Machine.{Setup}
use Rattle.shard_core.specs.declared.collected.Collected.{Collected}
use Rattle.ring_line.specs.Lines.{LineStands, ComesFirst}
use Rattle.ring_line.specs.QueueWorkers.{CanHandle}
use Rattle.stream_run.specs.Runs.{Handled}
use Rattle.stream_run.specs.Texts.{bytes_of}
use Rattle.stream_run.specs.Writing.{Holding, Holds, IsFrontIfTold, files_of, AreHeld, AreFronts}
use Rattle.stream_run.proofs.Held.{front_all, stays_in}
use Rattle.sharded_run.specs.declared.crew.Crew.{Crew}
use Rattle.sharded_run.specs.Answered.{answered}
use Rattle.sharded_run.specs.Passing.{Passing, CutsShort, SameCrew}
use Rattle.sharded_run.specs.Reading.{Fits, Gathers}

-- ---- packets with their answers

answered_none : (batch : List Arrival) → answered batch [] ≡ []
answered_none [] = refl
answered_none (a ∷ batch) = refl

pub answered_done : (done rest : List Arrival) (got : List Collected) → length done ≡ length got → answered (done ++ rest) got ≡ answered done got
answered_done [] rest [] e = answered_none rest
answered_done [] rest (c ∷ got) e = absurd (omega (arith, e))
answered_done (a ∷ done) rest [] e = refl
answered_done (a ∷ done) rest (c ∷ got) e = ap (λ (t : List Handled). record { arrival = a; worker = c.queue; done = c.done } ∷ t) (answered_done done rest got (omega (arith, e)))

pub answered_snoc : (done : List Arrival) (a : Arrival) (rest : List Arrival) (got : List Collected) (c : Collected) → length done ≡ length got → answered (done ++ a ∷ rest) (got ++ c ∷ []) ≡ answered (done ++ a ∷ rest) got ++ record { arrival = a; worker = c.queue; done = c.done } ∷ []
answered_snoc [] a rest [] c e = ap (λ (t : List Handled). record { arrival = a; worker = c.queue; done = c.done } ∷ t) (answered_none rest)
answered_snoc [] a rest (d ∷ got) c e = absurd (omega (arith, e))
answered_snoc (b ∷ done) a rest [] c e = absurd (omega (arith, e))
answered_snoc (b ∷ done) a rest (d ∷ got) c e = ap (λ (t : List Handled). record { arrival = b; worker = d.queue; done = d.done } ∷ t) (answered_snoc done a rest got c (omega (arith, e)))

-- a packet that is sent changes nothing of those that are answered
pub answered_sent : (all done frames more : List Arrival) (got : List Collected) → all ≡ done ++ frames → length done ≡ length got → answered (all ++ more) got ≡ answered all got
answered_sent all done frames more got parts long =
    ap (λ (t : List Arrival). answered (t ++ more) got) parts ∙ ap (λ (t : List Arrival). answered t got) (append_assoc done frames more) ∙ answered_done done (frames ++ more) got long
    ∙ sym (answered_done done frames got long) ∙ sym (ap (λ (t : List Arrival). answered t got) parts)

-- ---- files

-- what stands of files is a front where none of them was written
pub fronts_kept : (workers : ℕ) (card : Card) (format : CaptureFormat) (ports : ℕ) (hs : List Handled) (old new : Told) (sinks : List Holding) → ((g : ℕ) → new.given g ≡ old.given g) → AreHeld Shard workers card format ports hs old sinks → AreFronts Shard workers card format ports hs new (files_of sinks)
fronts_kept workers card format ports hs old new sinks same held k file e =
    let s = stays_in sinks k file e in
    let there : Holds (bytes_of Shard workers card format ports k hs) (new.given s.0.file) s.0.held = subst (λ (o : Option (List ℕ)). Holds (bytes_of Shard workers card format ports k hs) o s.0.held) (sym (same s.0.file)) (held k s.0 s.1).1 in
    subst (λ (n : ℕ). IsFrontIfTold (bytes_of Shard workers card format ports k hs) (new.given n)) s.2 (front_all (bytes_of Shard workers card format ports k hs) (new.given s.0.file) s.0.held there)

-- what stands of files stands where captures were read
pub held_on : (workers : ℕ) (card : Card) (format : CaptureFormat) (ports : ℕ) (hs : List Handled) (old new : Told) (sinks : List Holding) → ((g : ℕ) → new.given g ≡ old.given g) → AreHeld Shard workers card format ports hs old sinks → AreHeld Shard workers card format ports hs new sinks
held_on workers card format ports hs old new sinks same h k s e = let x = h k s e in (x.0, subst (λ (o : Option (List ℕ)). Holds (bytes_of Shard workers card format ports k hs) o s.held) (sym (same s.file)) x.1)

pub gathers_rest : (ports : ℕ) (begun feed : Feeding) (start now other : Told) (batch : List Arrival) → ((g : ℕ) → other.rest g ≡ now.rest g) → Gathers ports begun feed start now batch → Gathers ports begun feed start other batch
gathers_rest ports begun feed start now other batch same g = record {
  given = λ before given h. let k = g.given before given h in record { count = k.count; sources = stands_kept before (given ++ batch) feed.sources now other same k.sources };
  count = g.count;
  times = g.times;
  same_files = g.same_files;
  same_six = g.same_six;
  same_most = g.same_most;
  within = g.within;
  fit = g.fit;
}

-- ---- a packet that was read has a handler, where it has fields

pub can_handle : (f : Function) (ports : ℕ) (six : List Bool) (p : Packet) → ports ≡ length f.handlers → six ≡ six_ports f → Fits ports six p → CanHandle f p
can_handle f ports six p many same h = record {
  port = omega (arith, h.port, many);
  served = seen_is_served f p h.seen.0 (omega (arith, h.port, many)) (h.seen.1 ∙ ap (λ (bs : List Bool). served_fields (six_at bs p.id.port) h.seen.0) same);
}

pub last_of : {A : Type 0} (P : A → Type 0) (xs : List A) (y : A) → AllByRecursion P (xs ++ y ∷ []) → P y
last_of P [] y h = h.0
last_of P (x ∷ xs) y h = last_of P xs y h.1

pub fits_last : (ports : ℕ) (six : List Bool) (batch : List Arrival) (one : Arrival) → AllByRecursion (Fits ports six) (map packet_of (batch ++ one ∷ [])) → Fits ports six one.packet
fits_last ports six batch one h = last_of (Fits ports six) (map packet_of batch) one.packet (subst (AllByRecursion (Fits ports six)) (map-append packet_of batch (one ∷ [])) h)

-- ---- a packet is written

-- one packet more is answered
one_more : (all done rest : List Arrival) (got : List Collected) (a : Arrival) (one : Collected) → all ≡ done ++ a ∷ rest → length done ≡ length got → answered all got ++ record { arrival = a; worker = one.queue; done = one.done } ∷ [] ≡ answered all (got ++ one ∷ [])
one_more all done rest got a one whole long =
    ap (λ (t : List Arrival). answered t got ++ record { arrival = a; worker = one.queue; done = one.done } ∷ []) whole ∙ sym (answered_snoc done a rest got one long) ∙ ap (λ (t : List Arrival). answered t (got ++ one ∷ [])) (sym whole)

pub wrote_on : {G : Type 0} (x : Setup) (card : Card) (format : CaptureFormat) (all : List Arrival) (before now : Told) (old new : Crew G) (sinks left : List Holding) (a : Arrival) (one : Collected) → (st : Passing x card format before old sinks all) → old.frames ≡ a ∷ new.frames → new.ports ≡ old.ports
    → LineStands new.line x (map packet_of all) (st.got ++ one ∷ []) → AreHeld Shard x.workers card format old.ports (answered all st.got ++ record { arrival = a; worker = one.queue; done = one.done } ∷ []) now left → Passing x card format now new left all
wrote_on x card format all before now old new sinks left a one st frames ports stands held =
    let whole : all ≡ st.done ++ a ∷ new.frames = st.parts ∙ ap (λ (t : List Arrival). st.done ++ t) frames in
    record {
      got = st.got ++ one ∷ [];
      done = st.done ++ a ∷ [];
      parts = whole ∙ sym (append_assoc st.done (a ∷ []) new.frames);
      long = omega (arith, st.long, length-append st.done (a ∷ []), length-append st.got (one ∷ []));
      stands = stands;
      held = subst (λ (n : ℕ). AreHeld Shard x.workers card format n (answered all (st.got ++ one ∷ [])) now left) (sym ports)
          (subst (λ (t : List Handled). AreHeld Shard x.workers card format old.ports t now left) (one_more all st.done new.frames st.got a one whole st.long) held);
    }

pub wrote_cut : {G : Type 0} (x : Setup) (card : Card) (format : CaptureFormat) (all : List Arrival) (before now : Told) (old new : Crew G) (sinks : List Holding) (files : List ℕ) (a : Arrival) (one : Collected) → (st : Passing x card format before old sinks all) → old.frames ≡ a ∷ new.frames → new.ports ≡ old.ports
    → LineStands new.line x (map packet_of all) (st.got ++ one ∷ []) → AreFronts Shard x.workers card format old.ports (answered all st.got ++ record { arrival = a; worker = one.queue; done = one.done } ∷ []) now files → CutsShort x card format now new files all
wrote_cut x card format all before now old new sinks files a one st frames ports stands fronts =
    let whole : all ≡ st.done ++ a ∷ new.frames = st.parts ∙ ap (λ (t : List Arrival). st.done ++ t) frames in
    record {
      got = st.got ++ one ∷ [];
      done = st.done ++ a ∷ [];
      rest = new.frames;
      parts = whole ∙ sym (append_assoc st.done (a ∷ []) new.frames);
      long = omega (arith, st.long, length-append st.done (a ∷ []), length-append st.got (one ∷ []));
      stands = stands;
      fronts = subst (λ (n : ℕ). AreFronts Shard x.workers card format n (answered all (st.got ++ one ∷ [])) now files) (sym ports)
          (subst (λ (t : List Handled). AreFronts Shard x.workers card format old.ports t now files) (one_more all st.done new.frames st.got a one whole st.long) fronts);
    }

-- it is passed on, as it is
pub passing_still : {G : Type 0} (x : Setup) (card : Card) (format : CaptureFormat) (all : List Arrival) (now : Told) (old new : Crew G) (sinks : List Holding) → (st : Passing x card format now old sinks all) → new.frames ≡ old.frames → new.ports ≡ old.ports → LineStands new.line x (map packet_of all) st.got → Passing x card format now new sinks all
passing_still x card format all now old new sinks st frames ports stands = record {
  got = st.got;
  done = st.done;
  parts = st.parts ∙ ap (λ (t : List Arrival). st.done ++ t) (sym frames);
  long = st.long;
  stands = stands;
  held = subst (λ (n : ℕ). AreHeld Shard x.workers card format n (answered all st.got) now sinks) (sym ports) st.held;
}

-- a packet is sent
pub passing_sent : {G : Type 0} (x : Setup) (card : Card) (format : CaptureFormat) (all : List Arrival) (now : Told) (old new : Crew G) (sinks : List Holding) (a : Arrival) → (st : Passing x card format now old sinks all) → new.frames ≡ old.frames ++ a ∷ [] → new.ports ≡ old.ports → LineStands new.line x (map packet_of all ++ a.packet ∷ []) st.got
    → Passing x card format now new sinks (all ++ a ∷ [])
passing_sent x card format all now old new sinks a st frames ports stands = record {
  got = st.got;
  done = st.done;
  parts = ap (λ (t : List Arrival). t ++ a ∷ []) st.parts ∙ append_assoc st.done old.frames (a ∷ []) ∙ ap (λ (t : List Arrival). st.done ++ t) (sym frames);
  long = st.long;
  stands = subst (λ (ps : List Packet). LineStands new.line x ps st.got) (sym (map-append packet_of all (a ∷ []))) stands;
  held = subst (λ (n : ℕ). AreHeld Shard x.workers card format n (answered (all ++ a ∷ []) st.got) now sinks) (sym ports)
      (subst (λ (t : List Handled). AreHeld Shard x.workers card format old.ports t now sinks) (sym (answered_sent all st.done old.frames (a ∷ []) st.got st.parts st.long)) st.held);
}

-- the run is stopped where packets were passed
pub passing_cut : {G : Type 0} (x : Setup) (card : Card) (format : CaptureFormat) (all : List Arrival) (before now : Told) (crew new : Crew G) (sinks : List Holding) → ((g : ℕ) → now.given g ≡ before.given g) → (st : Passing x card format before crew sinks all) → new.ports ≡ crew.ports → new.line ≡ crew.line → CutsShort x card format now new (files_of sinks) all
passing_cut x card format all before now crew new sinks same st ports line = record {
  got = st.got;
  done = st.done;
  rest = crew.frames;
  parts = st.parts;
  long = st.long;
  stands = subst (λ l. LineStands l x (map packet_of all) st.got) (sym line) st.stands;
  fronts = subst (λ (n : ℕ). AreFronts Shard x.workers card format n (answered all st.got) now (files_of sinks)) (sym ports) (fronts_kept x.workers card format crew.ports (answered all st.got) before now sinks same st.held);
}

-- captures were read, and no file was written
pub passing_read : {G : Type 0} (x : Setup) (card : Card) (format : CaptureFormat) (all : List Arrival) (old new : Told) (crew : Crew G) (sinks : List Holding) → ((g : ℕ) → new.given g ≡ old.given g) → Passing x card format old crew sinks all → Passing x card format new crew sinks all
passing_read x card format all old new crew sinks same st = record {
  got = st.got;
  done = st.done;
  parts = st.parts;
  long = st.long;
  stands = st.stands;
  held = held_on x.workers card format crew.ports (answered all st.got) old new sinks same st.held;
}

-- ---- the workers, step by step

-- where a queue comes first, there is one
pub some_first : (q : ℕ) (qs : List ℕ) → ComesFirst q qs → 0 < length qs
some_first q [] h = absurd h
some_first q (p ∷ qs) h = omega arith

pub same_both : {G : Type 0} (a b c : Crew G) → SameCrew a b → SameCrew b c → SameCrew a c
same_both a b c h k = record { router = k.router ∙ h.router; ports = k.ports ∙ h.ports; fewer = omega (arith, h.fewer, k.fewer) }
