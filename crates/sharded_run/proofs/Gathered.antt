-- Packets that are read one after another.
use Rattle.std.proofs.Common.{◌≡◌, ◌<◌, ◌≤◌, ◌+◌, ℕ, Bool, List, [], ◌∷◌, ◌++◌, length, map, Option, refl, sym, ap, ◌∙◌, subst, append_assoc, append-nil, arith}
use Rattle.std.specs.List.{AllByRecursion}
use Rattle.std.proofs.lemmas.List.{map-append, length-map, length-append}
use Rattle.nf_base.specs.declared.packet.Fields.{Fields}
use Rattle.nf_base.specs.declared.packet.Packet.{Packet}
use Rattle.nf_base.specs.Doors.{six_at, served_fields}
use Rattle.nf_files.specs.Told.{Told}
use Rattle.nf_base.specs.Hashed.{HasInput}
use Rattle.packet_feed.specs.Arrivals.{Arrival, packet_of}
use Rattle.packet_feed.specs.Told.{packets_of}
use Rattle.packet_feed.specs.Streams.{Stream}
use Rattle.packet_feed.specs.Sources.{files_in, sixes_in, AreFrom}
use Rattle.packet_feed.specs.Feeding.{Feeding, StandsFor, AreAll, AreTorn, HasMore, IsShown, shown, original_of, frame_of}
use Rattle.stream_run.specs.declared.ending.Ending.TheVariants.{All, TooMany}
use Rattle.sharded_run.specs.Reading.{Rises, Fits, Gathers, IsOver}
use Rattle.sharded_run.proofs.Rising.{rises_both}

pub all_both : {A : Type 0} (P : A → Type 0) (xs ys : List A) → AllByRecursion P xs → AllByRecursion P ys → AllByRecursion P (xs ++ ys)
all_both P [] ys h k = k
all_both P (x ∷ xs) ys h k = (h.0, all_both P xs ys h.1 k)

pub gathers_none : (ports : ℕ) (begun : Feeding) (start : Told) → Gathers ports begun begun start start []
gathers_none ports begun start = record {
  given = λ before given h. subst (λ (as_list : List Arrival). StandsFor before as_list begun start) (sym (append-nil given)) h;
  count = omega arith;
  times = λ time h. (time, omega arith, h);
  same_files = refl;
  same_six = refl;
  same_most = refl;
  within = λ h. h;
  fit = tt;
}

-- fields as the handlers of a packet's port see them
seen_at : (six : List Bool) (port : ℕ) (packet : Packet) (raw : Option Fields) → packet.id.port ≡ port → packet.fields ≡ served_fields (six_at six port) raw → (r : Option Fields) × (packet.fields ≡ served_fields (six_at six packet.id.port) r)
seen_at six port packet raw same h = (raw, h ∙ ap (λ (n : ℕ). served_fields (six_at six n) raw) (sym same))

-- one packet more
pub gathers_more : (ports : ℕ) (begun feed next : Feeding) (start old new : Told) (batch : List Arrival) (packet : Packet) (original : ℕ) (frame : List ℕ) → Gathers ports begun feed start old batch
    → ((before : Told) (given : List Arrival) → StandsFor before given feed old → StandsFor before (given ++ shown packet next ∷ []) next new)
    → ((time : ℕ) → AreFrom time feed.sources → (time ≤ packet.time) × AreFrom packet.time next.sources)
    → next.given ≡ feed.given + 1 → feed.given < feed.most → IsShown packet next → next.most ≡ feed.most → files_in next.sources ≡ files_in feed.sources → sixes_in next.sources ≡ sixes_in feed.sources → original ≡ original_of next → frame ≡ frame_of next → HasInput packet
    → length (files_in begun.sources) ≡ ports → Gathers ports begun next start new (batch ++ record { packet = packet; original = original; frame = frame } ∷ [])
gathers_more ports begun feed next start old new batch packet original frame g feeds times given room show most same six o f input long =
    let a : Arrival = record { packet = packet; original = original; frame = frame } in
    let here : shown packet next ≡ a = rw (o, f) refl in
    let packets : map packet_of (batch ++ a ∷ []) ≡ map packet_of batch ++ packet ∷ [] = map-append packet_of batch (a ∷ []) in
    record {
      given = λ before given h.
          subst (λ (as_list : List Arrival). StandsFor before as_list next new) (append_assoc given batch (a ∷ []))
          (subst (λ (x : Arrival). StandsFor before ((given ++ batch) ++ x ∷ []) next new) here (feeds before (given ++ batch) (g.given before given h)));
      count = omega (arith, g.count, length-append batch (a ∷ []));
      times = λ time h.
          let t = g.times time h in
          let u = times t.0 t.2 in
          (packet.time, subst (λ (ps : List Packet). Rises time ps packet.time) (sym packets) (rises_both time (map packet_of batch) t.0 (packet ∷ []) packet.time t.1 (u.0, omega arith)), u.1);
      same_files = same ∙ g.same_files;
      same_six = six ∙ g.same_six;
      same_most = most ∙ g.same_most;
      within = λ h. omega (arith, room, most);
      fit = subst (AllByRecursion (Fits ports (sixes_in next.sources))) (sym packets) (all_both (Fits ports (sixes_in next.sources)) (map packet_of batch) (packet ∷ [])
          (subst (λ (bs : List Bool). AllByRecursion (Fits ports bs) (map packet_of batch)) (sym six) g.fit) (
            record {
              port = omega (arith, show.port, show.inside, length-map next.sources (λ (s : Stream). s.reading.file), ap (λ (fs : List ℕ). length fs) (same ∙ g.same_files), long);
              input = input;
              seen = seen_at (sixes_in next.sources) next.shown packet _ show.port show.fields;
            },
            tt,
          ));
    }

-- the captures were read on, and no packet was given
pub gathers_still : (ports : ℕ) (begun feed next : Feeding) (start old new : Told) (batch : List Arrival) → Gathers ports begun feed start old batch
    → ((before : Told) (given : List Arrival) → StandsFor before given feed old → StandsFor before given next new) → ((time : ℕ) → AreFrom time feed.sources → AreFrom time next.sources)
    → next.given ≡ feed.given → next.most ≡ feed.most → files_in next.sources ≡ files_in feed.sources → sixes_in next.sources ≡ sixes_in feed.sources → Gathers ports begun next start new batch
gathers_still ports begun feed next start old new batch g feeds times given most same six = record {
  given = λ before given h. feeds before (given ++ batch) (g.given before given h);
  count = given ∙ g.count;
  times = λ time h. let t = g.times time h in (t.0, t.1, times t.0 t.2);
  same_files = same ∙ g.same_files;
  same_six = six ∙ g.same_six;
  same_most = most ∙ g.same_most;
  within = λ h. omega (arith, g.within h, given, most);
  fit = subst (λ (bs : List Bool). AllByRecursion (Fits ports bs) (map packet_of batch)) (sym six) g.fit;
}

pub over_all : (ports : ℕ) (begun feed next : Feeding) (start old new : Told) (batch : List Arrival) → Gathers ports begun feed start old batch
    → ((before : Told) (given : List Arrival) → StandsFor before given feed old → StandsFor before given next new × AreAll (packets_of (sixes_in next.sources) (files_in next.sources) before) given × AreTorn before next.sources)
    → IsOver All begun start next batch
over_all ports begun feed next start old new batch g feeds = λ before given h.
    let k = feeds before (given ++ batch) (g.given before given h) in
    (k.1, k.2)

pub over_many : (ports : ℕ) (begun feed next : Feeding) (start old new : Told) (batch : List Arrival) → Gathers ports begun feed start old batch
    → ((before : Told) (given : List Arrival) → StandsFor before given feed old → StandsFor before given next new × HasMore (packets_of (sixes_in next.sources) (files_in next.sources) before) (length given))
    → next.given ≡ feed.given → feed.given ≡ feed.most → next.most ≡ feed.most → IsOver TooMany begun start next batch
over_many ports begun feed next start old new batch g feeds given all most = (given ∙ all ∙ sym most, λ before given h. (feeds before (given ++ batch) (g.given before given h)).1)
