-- The headers of captures are read, one after the other.
use Rattle.std.proofs.Common.{◌≡◌, ℕ, zero, suc, ◌+◌, ◌^◌, ◌≤◌, ◌<◌, Bool, false, List, [], ◌∷◌, ◌++◌, length, map, take, Option, Some, None, Err, ◌⊎◌, inl, inr, refl, sym, ap, ◌∙◌, subst, arith}
use Rattle.std.specs.List.{All, slice_get}
use Rattle.std.proofs.lemmas.List.Elements.{All-map, All-from_get_or}
use Rattle.std.specs.Option.{option_map}
use Rattle.std.proofs.lemmas.List.{length-map, length-take-le, map_push, take_more, take_all}
use Rattle.std.proofs.lemmas.Option.{slice_get_within, get_or_from_slice_get}
use Rattle.nf_base.specs.declared.func.Func.{Func}
use Rattle.nf_base.specs.Handlers.{blocks_of}
use Rattle.nf_base.specs.Functions.{function_of}
use Rattle.nf_base.specs.Doors.{has_six, six_ports, six_at}
use Rattle.nf_files.specs.Told.{Told}
use Rattle.nf_files.specs.Reads.{Keeps}
use Rattle.pcapng_file.specs.Heard.{Stream as Contents}
use Rattle.packet_feed.specs.Contents.{contents_of}
use Rattle.pcap_file.specs.declared.fault.CapFault.{CapFault}
use Rattle.pcap_file.specs.declared.fault.CapFault.TheVariants.{NotCapture, File, Memory}
use Rattle.packet_feed.specs.declared.fault.FeedFault.{FeedFault}
use Rattle.packet_feed.specs.Faults.{fault_at}
use Rattle.packet_feed.specs.Arrivals.{Arrival}
use Rattle.packet_feed.specs.Order.{in_order}
use Rattle.packet_feed.specs.Told.{Carries, packets_in, packets_of, IsTear, IsNoCapture, IsCapture, IsApart, KeepsOthers}
use Rattle.packet_feed.specs.Streams.{Stream, packets_left, tear_left}
use Rattle.packet_feed.specs.Taken.{IsAhead}
use Rattle.packet_feed.specs.Sources.{files_in, sixes_in, counts_in, all_left, Follows, SourcesStand, IsOpened, IsLeastBad, Opens, AreOpened}
use Rattle.packet_feed.specs.Feeding.{IsFeeding}
use Rattle.packet_feed.proofs.Gathering.{gathered_carries}
use Rattle.packet_feed.proofs.Standing.{file_at, six_is, kept_more, kept_none}

-- each port is told of once
pub length_sixes : (f : Func) → length (six_ports (function_of f)) ≡ length f.handlers
length_sixes f = length-map (map blocks_of f.handlers) has_six ∙ length-map f.handlers blocks_of

-- The headers of the first captures were read.
pub record AreOpenedSoFar (captures : List ℕ) (six : List Bool) (port : ℕ) (start : Told) (sources : List Stream) (now : Told) : Type 0 where
  pub files : files_in sources ≡ take port captures
  pub counts : counts_in sources ≡ map (λ (file : ℕ). 0) (take port captures)
  pub sixes : sixes_in sources ≡ take port six
  pub each : (p : ℕ) (s : Stream) → slice_get sources p ≡ Some s → IsOpened s.reading.file s.six (start.rest s.reading.file) s (now.rest s.reading.file)
  pub later : (p f : ℕ) → port ≤ p → slice_get captures p ≡ Some f → now.rest f ≡ start.rest f
  pub kept : KeepsOthers captures start now

pub opened_none : (captures : List ℕ) (six : List Bool) (start : Told) → AreOpenedSoFar captures six 0 start [] start
opened_none captures six start = record {
  files = refl;
  counts = refl;
  sixes = refl;
  each = λ p s e. absurd cc;
  later = λ p f le e. refl;
  kept = kept_none captures start;
}

-- what stands at the end of a list, or before it
got_push : {A : Type 0} (xs : List A) (y : A) (j : ℕ) (z : A) → slice_get (xs ++ y ∷ []) j ≡ Some z → (y ≡ z) ⊎ (slice_get xs j ≡ Some z)
got_push [] y zero z e = inl cc
got_push [] y (suc j) z e = absurd cc
got_push (x ∷ xs) y zero z e = inr e
got_push (x ∷ xs) y (suc j) z e = got_push xs y j z e

got_take : {A : Type 0} (xs : List A) (n j : ℕ) (z : A) → slice_get (take n xs) j ≡ Some z → (j < n) × (slice_get xs j ≡ Some z)
got_take xs zero j z e = absurd cc
got_take [] (suc n) j z e = absurd cc
got_take (x ∷ xs) (suc n) zero z e = (omega arith, e)
got_take (x ∷ xs) (suc n) (suc j) z e = let later = got_take xs n j z e in (omega (arith, later.0), later.1)

-- the file of a capture whose header was read, among all
file_among : (captures : List ℕ) (port : ℕ) (sources : List Stream) (p : ℕ) (s : Stream) → files_in sources ≡ take port captures → slice_get sources p ≡ Some s → (p < port) × (slice_get captures p ≡ Some s.reading.file)
file_among captures port sources p s files e = got_take captures port p s.reading.file (sym (ap (λ (fs : List ℕ). slice_get fs p) files) ∙ file_at sources p s e)

pub opened_more : (captures : List ℕ) (six : List Bool) (port f : ℕ) (start old new : Told) (sources : List Stream) (s : Stream) → IsApart captures → slice_get captures port ≡ Some f → length captures ≡ length six
    → IsOpened f (six_at six port) (old.rest f) s (new.rest f) → Keeps old new f → AreOpenedSoFar captures six port start sources old → AreOpenedSoFar captures six (port + 1) start (sources ++ s ∷ []) new
opened_more captures six port f start old new sources s apart e as_many opened kept h =
    let inside : port < length captures = slice_get_within captures port f e in
    let more : take (port + 1) captures ≡ take port captures ++ f ∷ [] = take_more captures port f inside ∙ ap (λ (x : ℕ). take port captures ++ x ∷ []) (get_or_from_slice_get captures port f f e) in
    record {
      files = map_push (λ (x : Stream). x.reading.file) sources s ∙ ap (λ (xs : List ℕ). xs ++ s.reading.file ∷ []) h.files ∙ ap (λ (x : ℕ). take port captures ++ x ∷ []) opened.file_is ∙ sym more;
      counts = map_push (λ (x : Stream). x.seq) sources s ∙ ap (λ (xs : List ℕ). xs ++ s.seq ∷ []) h.counts ∙ ap (λ (x : ℕ). map (λ (file : ℕ). 0) (take port captures) ++ x ∷ []) opened.none_given
          ∙ sym (map_push (λ (file : ℕ). 0) (take port captures) f) ∙ ap (map (λ (file : ℕ). 0)) (sym more);
      sixes = map_push (λ (x : Stream). x.six) sources s ∙ ap (λ (bs : List Bool). bs ++ s.six ∷ []) h.sixes ∙ ap (λ (b : Bool). take port six ++ b ∷ []) opened.six_is
          ∙ sym (take_more six port false (omega (arith, inside, as_many)));
      each = λ p x q. elim (got_push sources s p x q) [
        | inl here ↦
            let now : IsOpened f (six_at six port) (start.rest f) s (new.rest f) = subst (λ (r : Option (List ℕ)). IsOpened f (six_at six port) r s (new.rest f)) (h.later port f (omega arith) e) opened in
            let by_six : IsOpened f s.six (start.rest f) s (new.rest f) = subst (λ (b : Bool). IsOpened f b (start.rest f) s (new.rest f)) (sym opened.six_is) now in
            let by_file : IsOpened s.reading.file s.six (start.rest s.reading.file) s (new.rest s.reading.file) = subst (λ (n : ℕ). IsOpened n s.six (start.rest n) s (new.rest n)) (sym opened.file_is) by_six in
            subst (λ (t : Stream). IsOpened t.reading.file t.six (start.rest t.reading.file) t (new.rest t.reading.file)) here by_file
        | inr there ↦
            let file = file_among captures port sources p x h.files there in
            let same : new.rest x.reading.file ≡ old.rest x.reading.file = kept.rests x.reading.file (apart p port x.reading.file f file.1 e (λ is. absurd (omega (arith, file.0)))) in
            subst (λ (r : Option (List ℕ)). IsOpened x.reading.file x.six (start.rest x.reading.file) x r) (sym same) (h.each p x there)
      ];
      later = λ p x le q. kept.rests x (apart p port x f q e (λ is. absurd (omega (arith, le)))) ∙ h.later p x (omega (arith, le)) q;
      kept = kept_more captures port f start old new e h.kept kept;
    }

-- ---- after the last header

follows_none : (all x : Option (List Arrival)) → Carries all x → Follows all [] x
follows_none None x h = tt
follows_none (Some all) None h = absurd h
follows_none (Some all) (Some x) h = ap in_order (sym h)

one_is : (x y : ℕ) → Some x ≡ Some y → x ≡ y
one_is x y e = cc

started : (captures : List ℕ) (start : Told) (sources : List Stream) (now : Told) → files_in sources ≡ captures
    → ((p : ℕ) (s : Stream) → slice_get sources p ≡ Some s → IsOpened s.reading.file s.six (start.rest s.reading.file) s (now.rest s.reading.file)) → Carries (packets_of (sixes_in sources) (files_in sources) start) (all_left sources now)
started captures start sources now files each =
    gathered_carries (λ port (file : ℕ). packets_in (six_at (sixes_in sources) port) port (start.rest file)) (λ port (s : Stream). packets_left port s (now.rest s.reading.file)) (files_in sources) sources (length-map sources (λ (s : Stream). s.reading.file))
    (λ (j f : ℕ) (s : Stream) p q.
    let same : s.reading.file ≡ f = one_is s.reading.file f (sym (file_at sources j s q) ∙ p) in
    subst (λ (b : Bool). Carries (packets_in b j (start.rest f)) (packets_left j s (now.rest s.reading.file))) (sym (six_is sources j s q))
    (subst (λ (n : ℕ). Carries (packets_in s.six j (start.rest n)) (packets_left j s (now.rest s.reading.file))) same ((each j s q).packets j)))

pub opened_all : (captures : List ℕ) (six : List Bool) (port : ℕ) (start : Told) (sources : List Stream) (now : Told) → length captures ≤ port → AreOpenedSoFar captures six port start sources now → SourcesStand start [] sources now
opened_all captures six port start sources now past h =
    let files : files_in sources ≡ captures = h.files ∙ take_all port captures past in
    record {
      order = follows_none (packets_of (sixes_in sources) (files_in sources) start) (all_left sources now) (started captures start sources now files h.each);
      each = λ p s e.
          let one = h.each p s e in
          record {
            kind = one.kind;
            torn = one.torn;
            taken = λ pcap. record { more = 0; ahead = subst (λ t. IsAhead t s.frame 0) (sym one.unread) refl; taken = one.taken pcap };
          };
    }

-- ---- a header that is wrong

some_capture : (o : Option Contents) (t : Option ℕ) → option_map (λ (c : Contents). c.torn) o ≡ Some t → (c : Contents) × (o ≡ Some c)
some_capture None t e = absurd cc
some_capture (Some c) t e = (c, refl)

is_capture : (start : Option (List ℕ)) (t : Option (Option ℕ)) → IsTear start t → IsCapture start
is_capture None t h = tt
is_capture (Some bytes) None h = absurd h
is_capture (Some bytes) (Some t) h = some_capture (contents_of bytes) t h

get_inside : {A : Type 0} (xs : List A) (p : ℕ) → p < length xs → (x : A) × (slice_get xs p ≡ Some x)
get_inside [] p lt = absurd (omega arith)
get_inside (x ∷ xs) zero lt = (x, refl)
get_inside (x ∷ xs) (suc p) lt = get_inside xs p (omega arith)

lesser_are : (captures : List ℕ) (six : List Bool) (port f : ℕ) (start old : Told) (sources : List Stream) → slice_get captures port ≡ Some f → AreOpenedSoFar captures six port start sources old
    → (p x : ℕ) → p < port → slice_get captures p ≡ Some x → IsCapture (start.rest x)
lesser_are captures six port f start old sources e h p x lt q =
    let inside : port < length captures = slice_get_within captures port f e in
    let long : length sources ≡ port = omega (arith, ap (λ (t : List ℕ). length t) h.files, length-map sources (λ (s : Stream). s.reading.file), length-take-le port captures (omega arith)) in
    let found = get_inside sources p (omega (arith, long)) in
    let file = file_among captures port sources p found.0 h.files found.1 in
    let same : found.0.reading.file ≡ x = one_is found.0.reading.file x (sym file.1 ∙ q) in
    subst (λ (n : ℕ). IsCapture (start.rest n)) same (is_capture (start.rest found.0.reading.file) (tear_left found.0 (old.rest found.0.reading.file)) (h.each p found.0 found.1).torn)

pub least_bad : (captures : List ℕ) (six : List Bool) (port f : ℕ) (start old : Told) (sources : List Stream) → slice_get captures port ≡ Some f → IsNoCapture (old.rest f) → AreOpenedSoFar captures six port start sources old → IsLeastBad captures start port
least_bad captures six port f start old sources e none h = record {
  file = f;
  at = e;
  none = subst (λ (r : Option (List ℕ)). IsNoCapture r) (h.later port f (omega arith) e) none;
  lesser = lesser_are captures six port f start old sources e h;
}

-- what a fault at one header is for all
pub opens_bad : (captures : List ℕ) (six : List Bool) (port f : ℕ) (start old new : Told) (sources : List Stream) (fault : CapFault) (is : FeedFault) (now : Option (List ℕ)) → is ≡ fault_at port fault → slice_get captures port ≡ Some f
    → Opens f (six_at six port) (old.rest f) now (Err fault) → AreOpenedSoFar captures six port start sources old → AreOpened captures six start new (Err is)
opens_bad captures six port f start old new sources NotCapture is now at e opens h = subst (λ (x : FeedFault). AreOpened captures six start new (Err x)) (sym at) (least_bad captures six port f start old sources e opens h)
opens_bad captures six port f start old new sources File is now at e opens h = subst (λ (x : FeedFault). AreOpened captures six start new (Err x)) (sym at) (lesser_are captures six port f start old sources e h)
opens_bad captures six port f start old new sources Memory is now at e opens h = subst (λ (x : FeedFault). AreOpened captures six start new (Err x)) (sym at) tt

-- ---- a feed that gave nothing

pub none_counted : (captures : List ℕ) (sources : List Stream) (most : ℕ) → length captures ≤ 2 ^ 32 → IsApart captures → files_in sources ≡ captures → counts_in sources ≡ map (λ (file : ℕ). 0) captures → IsFeeding sources 0 most
none_counted captures sources most ports apart files counts = record {
  counts = subst (All (λ (count : ℕ). count ≤ 0)) (sym counts) (All-map (λ (count : ℕ). count ≤ 0) (λ (file : ℕ). 0) captures (All-from_get_or (λ (file : ℕ). 0 ≤ 0) captures 0 (λ i lt. omega arith)));
  within = omega arith;
  ports = omega (arith, ap (λ (t : List ℕ). length t) files, length-map sources (λ (s : Stream). s.reading.file));
  apart = subst (λ (fs : List ℕ). IsApart fs) (sym files) apart;
}
