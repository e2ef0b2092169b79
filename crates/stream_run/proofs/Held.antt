-- Bytes that were given to a file, and those that are still held.
use Rattle.std.proofs.Common.{◌≡◌, ◌≢◌, ℕ, zero, suc, ◌+◌, ◌<◌, ◌≤◌, List, [], ◌∷◌, ◌++◌, length, set, take, drop, Option, Some, None, Result, Ok, Err, OnOk, inl, inr, refl, sym, ap, ◌∙◌, subst, append_assoc, append-nil, arith}
use Rattle.std.specs.List.{All, slice_get}
use Rattle.std.specs.Option.{option_map}
use Rattle.std.proofs.lemmas.List.{take-append-drop, length-map}
use Rattle.std.proofs.lemmas.List.Elements.{All-get_or, All-weaker}
use Rattle.std.proofs.lemmas.Option.{slice_get-map, slice_get_within, get_or_from_slice_get}
use Rattle.std.proofs.lemmas.Bool.{cases_eq, cases_lt}
use Rattle.nf_base.specs.declared.card.Card.{Card}
use Rattle.capture_format.specs.declared.format.CaptureFormat.{CaptureFormat}
use Rattle.nf_base.proofs.Mixes.{got_set}
use Rattle.nf_files.specs.Told.{Told, IsCurrent}
use Rattle.nf_files.specs.Pieces.{Gains}
use Rattle.nf_files.specs.Writes.{Writes}
use Rattle.packet_feed.specs.Told.{IsApart, KeepsOthers}
use Rattle.run_history.specs.declared.line.Mode.{Mode}
use Rattle.packet_feed.specs.declared.fault.FeedFault.{FeedFault}
use Rattle.packet_feed.specs.declared.fault.FeedFault.TheVariants as feed
use Rattle.stream_run.specs.declared.fault.RunFault.{RunFault}
use Rattle.stream_run.specs.declared.fault.RunFault.TheVariants.{File, Memory}
use Rattle.stream_run.specs.Streaming.{stop_on, stop_in}
use Rattle.stream_run.specs.Runs.{Handled}
use Rattle.stream_run.specs.Texts.{bytes_of, piece, IsFrontOf}
use Rattle.stream_run.specs.Writing.{Holding, Holds, IsLittle, IsFrontIfTold, KeepsOther, KeepsAllBut, KeepsBut, IsSameOrOther, StopsAt, StopsAmong, files_of}
use Rattle.stream_run.proofs.Bytes.{bytes_more}

-- ---- one file

pub front_held : (bytes more : List ℕ) (given : Option (List ℕ)) (held : List ℕ) → Holds bytes given held → IsFrontIfTold (bytes ++ more) given
front_held bytes more None held h = tt
front_held bytes more (Some g) held h = record { later = held ++ more; all = sym (append_assoc g held more) ∙ ap (λ (t : List ℕ). t ++ more) h }

pub front_all : (bytes : List ℕ) (given : Option (List ℕ)) (held : List ℕ) → Holds bytes given held → IsFrontIfTold bytes given
front_all bytes None held h = tt
front_all bytes (Some g) held h = record { later = held; all = h }

pub front_longer : (bytes all : List ℕ) (given : Option (List ℕ)) → IsFrontOf all bytes → IsFrontIfTold bytes given → IsFrontIfTold all given
front_longer bytes all None f h = tt
front_longer bytes all (Some g) f h = record { later = h.later ++ f.later; all = sym (append_assoc g h.later f.later) ∙ ap (λ (t : List ℕ). t ++ f.later) h.all ∙ f.all }

pub held_more : (bytes more : List ℕ) (given : Option (List ℕ)) (held : List ℕ) → Holds bytes given held → Holds (bytes ++ more) given (held ++ more)
held_more bytes more None held h = tt
held_more bytes more (Some g) held h = sym (append_assoc g held more) ∙ ap (λ (t : List ℕ). t ++ more) h

pub flushed : (bytes held : List ℕ) (old new : Option (List ℕ)) → Holds bytes old held → Gains held old new → Holds bytes new []
flushed bytes held None None h k = tt
flushed bytes held None (Some b) h k = absurd k
flushed bytes held (Some a) None h k = absurd k
flushed bytes held (Some a) (Some b) h k = append-nil b ∙ k ∙ h

pub flushed_front : (bytes held : List ℕ) (count : ℕ) (old new : Option (List ℕ)) → Holds bytes old held → Gains (take count held) old new → IsFrontIfTold bytes new
flushed_front bytes held count None None h k = tt
flushed_front bytes held count None (Some b) h k = absurd k
flushed_front bytes held count (Some a) None h k = absurd k
flushed_front bytes held count (Some a) (Some b) h k = record {
  later = drop count held;
  all = ap (λ (t : List ℕ). t ++ drop count held) k ∙ append_assoc a (take count held) (drop count held) ∙ ap (λ (t : List ℕ). a ++ t) (take-append-drop count held) ∙ h;
}

pub other_kept : (old new : Told) (file : ℕ) (bytes : List ℕ) → Writes old new file bytes → KeepsOther file old new
other_kept old new file bytes w = record { current = w.current; rests = w.rests; givens = w.givens; names = w.names; kinds = w.kinds; contents = w.contents; latest_same = w.latest_same; next_same = w.next_same }

-- ---- all files

pub file_at : (sinks : List Holding) (k : ℕ) (s : Holding) → slice_get sinks k ≡ Some s → slice_get (files_of sinks) k ≡ Some s.file
file_at sinks k s e = slice_get-map (λ (x : Holding). x.file) sinks k ∙ ap (option_map (λ (x : Holding). x.file)) e

-- Of the files below a number more was put already, of the others not.
abbrev pub IsPartly : CaptureFormat → (ℕ → List ℕ) → (ℕ → List ℕ) → ℕ → Told → List Holding → Type 0
IsPartly format before after k told sinks =
    (j : ℕ) (s : Holding) → slice_get sinks j ≡ Some s → (s.format ≡ format) × (j < k → Holds (after j) (told.given s.file) s.held) × (k ≤ j → Holds (before j) (told.given s.file) s.held)

given_other : (sinks : List Holding) (k j : ℕ) (s x : Holding) (old new : Told) → IsApart (files_of sinks) → slice_get sinks k ≡ Some s → slice_get sinks j ≡ Some x → j ≢ k → KeepsOther s.file old new → new.given x.file ≡ old.given x.file
given_other sinks k j s x old new apart e p ne kept = kept.givens x.file (apart j k x.file s.file (file_at sinks j x p) (file_at sinks k s e) ne)

pub partly_more : (format : CaptureFormat) (before after : ℕ → List ℕ) (sinks : List Holding) (k : ℕ) (s new_s : Holding) (old new : Told) → IsApart (files_of sinks) → slice_get sinks k ≡ Some s → new_s.file ≡ s.file → new_s.format ≡ s.format → KeepsOther s.file old new
    → (Holds (before k) (old.given s.file) s.held → Holds (after k) (new.given s.file) new_s.held)
    → IsPartly format before after k old sinks → IsPartly format before after (k + 1) new (set sinks k new_s)
partly_more format before after sinks k s new_s old new apart e same kind kept step h j x q = elim (got_set sinks k j new_s x q) [
  | inl here ↦
      let put : Holds (after k) (new.given s.file) new_s.held = step ((h k s e).2 (omega arith)) in
      let at : Holds (after k) (new.given new_s.file) new_s.held = subst (λ (f : ℕ). Holds (after k) (new.given f) new_s.held) (sym same) put in
      let of : Holds (after j) (new.given x.file) x.held = subst (λ (t : Holding). Holds (after j) (new.given t.file) t.held) here.1 (subst (λ (n : ℕ). Holds (after n) (new.given new_s.file) new_s.held) (sym here.0) at) in
      (sym (ap (λ (t : Holding). t.format) here.1) ∙ kind ∙ (h k s e).0, λ lt. of, λ le. absurd (omega (arith, here.0, le)))
  | inr there ↦
      let g = given_other sinks k j s x old new apart e there.1 there.0 kept in
      let before_x = h j x there.1 in (
        before_x.0,
        λ lt. subst (λ (o : Option (List ℕ)). Holds (after j) o x.held) (sym g) (before_x.1 (omega (arith, lt, there.0))),
        λ le. subst (λ (o : Option (List ℕ)). Holds (before j) o x.held) (sym g) (before_x.2 (omega (arith, le))),
      )
]

pub stays_in : (sinks : List Holding) (k file : ℕ) → slice_get (files_of sinks) k ≡ Some file → (s : Holding) × (slice_get sinks k ≡ Some s) × (s.file ≡ file)
stays_in [] k file e = absurd cc
stays_in (s ∷ sinks) zero file e = (s, refl, cc)
stays_in (s ∷ sinks) (suc k) file e = stays_in sinks k file e

-- one file failed
pub partly_fronts : (format : CaptureFormat) (before after : ℕ → List ℕ) (sinks : List Holding) (k : ℕ) (s : Holding) (old new : Told) → IsApart (files_of sinks) → slice_get sinks k ≡ Some s → KeepsOther s.file old new
    → ((j : ℕ) → IsFrontOf (after j) (before j)) → (Holds (before k) (old.given s.file) s.held → IsFrontIfTold (after k) (new.given s.file)) → IsPartly format before after k old sinks
    → (j file : ℕ) → slice_get (files_of sinks) j ≡ Some file → IsFrontIfTold (after j) (new.given file)
partly_fronts format before after sinks k s old new apart e kept fronts step h j file q =
    let x = stays_in sinks j file q in
    subst (λ (f : ℕ). IsFrontIfTold (after j) (new.given f)) x.2 (elim (cases_eq j k) [
      | inl same ↦
          let is : s ≡ x.0 = one_is s x.0 (sym e ∙ ap (slice_get sinks) (sym same) ∙ x.1) in
          subst (λ (t : Holding). IsFrontIfTold (after j) (new.given t.file)) is (subst (λ (n : ℕ). IsFrontIfTold (after n) (new.given s.file)) (sym same) (step ((h k s e).2 (omega arith))))
      | inr ne ↦
          let g = given_other sinks k j s x.0 old new apart e x.1 ne kept in
          let parts = h j x.0 x.1 in
          subst (λ (o : Option (List ℕ)). IsFrontIfTold (after j) o) (sym g) (elim (cases_lt j k) [
            | inl lt ↦ front_all (after j) (old.given x.0.file) x.0.held (parts.1 lt)
            | inr le ↦ front_longer (before j) (after j) (old.given x.0.file) (fronts j) (front_all (before j) (old.given x.0.file) x.0.held (parts.2 le))
          ])
    ])
  where
    one_is : (x y : Holding) → Some x ≡ Some y → x ≡ y
    one_is x y e = cc

pub grows : (mode : Mode) (workers : ℕ) (card : Card) (format : CaptureFormat) (ports : ℕ) (hs : List Handled) (h : Handled) (j : ℕ) → IsFrontOf (bytes_of mode workers card format ports j (hs ++ h ∷ [])) (bytes_of mode workers card format ports j hs)
grows mode workers card format ports hs h j = record { later = piece format ports j h; all = sym (bytes_more mode workers card format ports j hs h) }

pub same_bytes : (bytes : List ℕ) → IsFrontOf bytes bytes
same_bytes bytes = record { later = []; all = append-nil bytes }

at_file : (P : ℕ → Type 0) (files : List ℕ) (k f : ℕ) → slice_get files k ≡ Some f → All P files → P f
at_file P files k f e h = subst P (get_or_from_slice_get files k f f e) (All-get_or P files k f (slice_get_within files k f e) h)

-- what stands under a name, after one file was written
current_more : (f : ℕ) (start old new : Told) (n : List ℕ) (file : ℕ) → ((g : ℕ) → old.name g ≡ start.name g) → KeepsOther f old new → IsSameOrOther start n file f → IsCurrent old n file → IsCurrent new n file
current_more f start old new n file named h (inl same) c = subst (IsCurrent new n) same (h.current n (subst (IsCurrent old n) (sym same) c))
current_more f start old new n file named h (inr other) c = record {
  last = h.latest_same n ∙ c.last;
  follows = h.contents n (λ is. other.1 (sym (named f) ∙ is)) ∙ c.follows ∙ sym (h.givens file (λ e. other.0 (sym e)));
}

pub kept_more : (files : List ℕ) (k f : ℕ) (start old new : Told) → slice_get files k ≡ Some f → KeepsAllBut files start old → KeepsOther f old new → KeepsAllBut files start new
kept_more files k f start old new e h kept = record {
  current = λ n file all c. current_more f start old new n file h.names kept (at_file (IsSameOrOther start n file) files k f e all) (h.current n file all c);
  rests = λ g. kept.rests g ∙ h.rests g;
  givens = λ g others. kept.givens g (λ same. at_file (λ (x : ℕ). x ≢ g) files k f e others (sym same)) ∙ h.givens g others;
  names = λ g. kept.names g ∙ h.names g;
  kinds = λ g. kept.kinds g ∙ h.kinds g;
  contents = λ n others. kept.contents n (λ is. at_file (λ (x : ℕ). start.name x ≢ Some n) files k f e others (sym (h.names f) ∙ is)) ∙ h.contents n others;
  latest_same = λ n. kept.latest_same n ∙ h.latest_same n;
  next_same = kept.next_same ∙ h.next_same;
}

pub kept_none : (files : List ℕ) (told : Told) → KeepsAllBut files told told
kept_none files told = record { current = λ n file all c. c; rests = λ g. refl; givens = λ g others. refl; names = λ g. refl; kinds = λ g. refl; contents = λ n others. refl; latest_same = λ n. refl; next_same = refl }

pub same_length : (xs ys : List Holding) → files_of xs ≡ files_of ys → length xs ≡ length ys
same_length xs ys e = omega (arith, ap (λ (t : List ℕ). length t) e, length-map xs (λ (x : Holding). x.file), length-map ys (λ (x : Holding). x.file))

-- more was put into all files
pub all_partly : (format : CaptureFormat) (before after : ℕ → List ℕ) (sinks : List Holding) (k : ℕ) (told : Told) → length sinks ≤ k → IsPartly format before after k told sinks → (j : ℕ) (s : Holding) → slice_get sinks j ≡ Some s → (s.format ≡ format) × Holds (after j) (told.given s.file) s.held
all_partly format before after sinks k told past h j s e =
    let inside : j < length sinks = slice_get_within sinks j s e in
    let x = h j s e in
    (x.0, x.1 (omega arith))

pub none_partly : (format : CaptureFormat) (before after : ℕ → List ℕ) (sinks : List Holding) (told : Told) → ((j : ℕ) (s : Holding) → slice_get sinks j ≡ Some s → (s.format ≡ format) × Holds (before j) (told.given s.file) s.held) → IsPartly format before after 0 told sinks
none_partly format before after sinks told h j s e = let x = h j s e in (x.0, λ lt. absurd (omega arith), λ le. x.1)

pub little_more : (sinks : List Holding) (k : ℕ) (new_s : Holding) → IsLittle new_s → ((j : ℕ) (s : Holding) → j < k → slice_get sinks j ≡ Some s → IsLittle s)
    → (j : ℕ) (s : Holding) → j < k + 1 → slice_get (set sinks k new_s) j ≡ Some s → IsLittle s
little_more sinks k new_s little h j s lt e = elim (got_set sinks k j new_s s e) [
  | inl here ↦ subst IsLittle here.1 little
  | inr there ↦ h j s (omega (arith, there.0)) there.1
]

pub little_of : {T E : Type 0} (result : Result T E) (s : Holding) → OnOk result (length s.held ≡ 0) → OnOk result (IsLittle s)
little_of (Ok x) s none = omega (arith, none)
little_of (Err e) s none = tt

pub empty_more : (sinks : List Holding) (k : ℕ) (new_s : Holding) → length new_s.held ≡ 0 → ((j : ℕ) (s : Holding) → j < k → slice_get sinks j ≡ Some s → length s.held ≡ 0)
    → (j : ℕ) (s : Holding) → j < k + 1 → slice_get (set sinks k new_s) j ≡ Some s → length s.held ≡ 0
empty_more sinks k new_s none h j s lt e = elim (got_set sinks k j new_s s e) [
  | inl here ↦ subst (λ (t : Holding). length t.held ≡ 0) here.1 none
  | inr there ↦ h j s (omega (arith, there.0)) there.1
]

-- ---- nothing else changes

pub but_none : (files : List ℕ) (told : Told) → KeepsBut files told told
but_none files told = record { current = λ n file all c. c; givens = λ g others. refl; names = λ g. refl; kinds = λ g. refl; contents = λ n others. refl; latest_same = λ n. refl; next_same = refl }

named_still : (files : List ℕ) (old now : Told) (n : List ℕ) → ((g : ℕ) → now.name g ≡ old.name g) → All (λ (f : ℕ). old.name f ≢ Some n) files → All (λ (f : ℕ). now.name f ≢ Some n) files
named_still files old now n same h = All-weaker (λ (f : ℕ). old.name f ≢ Some n) (λ (f : ℕ). now.name f ≢ Some n) (λ f ne is. ne (sym (same f) ∙ is)) files h

other_still : (files : List ℕ) (old now : Told) (n : List ℕ) (file : ℕ) → ((g : ℕ) → now.name g ≡ old.name g) → All (IsSameOrOther old n file) files → All (IsSameOrOther now n file) files
other_still files old now n file same h = All-weaker (IsSameOrOther old n file) (IsSameOrOther now n file) still files h
  where
    still : (f : ℕ) → IsSameOrOther old n file f → IsSameOrOther now n file f
    still f (inl is) = inl is
    still f (inr other) = inr (other.0, λ is. other.1 (sym (same f) ∙ is))

pub but_both : (files : List ℕ) (old now new : Told) → KeepsBut files old now → KeepsBut files now new → KeepsBut files old new
but_both files old now new h k = record {
  current = λ n file all c. k.current n file (other_still files old now n file h.names all) (h.current n file all c);
  givens = λ g others. k.givens g others ∙ h.givens g others;
  names = λ g. k.names g ∙ h.names g;
  kinds = λ g. k.kinds g ∙ h.kinds g;
  contents = λ n others. k.contents n (named_still files old now n h.names others) ∙ h.contents n others;
  latest_same = λ n. k.latest_same n ∙ h.latest_same n;
  next_same = k.next_same ∙ h.next_same;
}

pub but_read : (files captures : List ℕ) (old new : Told) → KeepsOthers captures old new → KeepsBut files old new
but_read files captures old new k = record { current = λ n file all c. record { last = k.latest_same n ∙ c.last; follows = k.contents n ∙ c.follows ∙ sym (k.givens file) }; givens = λ g others. k.givens g; names = k.names; kinds = k.kinds; contents = λ n others. k.contents n; latest_same = k.latest_same; next_same = k.next_same }

pub but_written : (files all : List ℕ) (old new : Told) → all ≡ files → KeepsAllBut all old new → KeepsBut files old new
but_written files all old new same k = subst (λ (fs : List ℕ). KeepsBut fs old new) same (record { current = k.current; givens = k.givens; names = k.names; kinds = k.kinds; contents = k.contents; latest_same = k.latest_same; next_same = k.next_same })

-- captures were read on
pub read_on : (files captures : List ℕ) (start old new : Told) → KeepsBut files start old → KeepsOthers captures old new → KeepsBut files start new
read_on files captures start old new h k = but_both files start old new h (but_read files captures old new k)

-- captures were read on, and files written
pub written_on : (files all captures : List ℕ) (start old read new : Told) → all ≡ files → KeepsBut files start old → KeepsOthers captures old read → KeepsAllBut all read new → KeepsBut files start new
written_on files all captures start old read new same h k w = but_both files start read new (read_on files captures start old read h k) (but_written files all read new same w)

-- ---- which file failed

pub stops_here : (T U : Type 0) (files : List ℕ) (k file : ℕ) (stop : RunFault) → slice_get files k ≡ Some file → StopsAt {T = T} file (Err stop) → StopsAmong {T = U} [] files (Err stop)
stops_here T U files k file Memory e h = tt
stops_here T U files k file (File g) e h = inr (k, e ∙ ap Some (sym h))

none_in : (k g : ℕ) → slice_get [] k ≡ Some g → ⊥
none_in k g e = cc

-- one of the files that are written is one of all
pub stops_wider : (T U : Type 0) (captures files all : List ℕ) (stop : RunFault) → all ≡ files → StopsAmong {T = T} [] all (Err stop) → StopsAmong {T = U} captures files (Err stop)
stops_wider T U captures files all Memory same h = tt
stops_wider T U captures files all (File g) same (inl none) = absurd (none_in none.0 g none.1)
stops_wider T U captures files all (File g) same (inr one) = inr (one.0, ap (λ (fs : List ℕ). slice_get fs one.0) (sym same) ∙ one.1)

stops_on : (T : Type 0) (captures files : List ℕ) (port : ℕ) (o : Option ℕ) → slice_get captures port ≡ o → StopsAmong {T = T} captures files (Err (stop_on o))
stops_on T captures files port None e = tt
stops_on T captures files port (Some file) e = inl (port, e)

pub stops_reading : (T : Type 0) (captures files : List ℕ) (fault : FeedFault) → StopsAmong {T = T} captures files (Err (stop_in captures fault))
stops_reading T captures files (feed.NotCapture port) = tt
stops_reading T captures files (feed.File port) = stops_on T captures files port (slice_get captures port) refl
stops_reading T captures files feed.Memory = tt
