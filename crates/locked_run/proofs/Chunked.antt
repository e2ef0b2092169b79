-- What packets leave, made by chunks of them.
use Rattle.std.proofs.Common.{◌≡◌, Bor, inl, inr, ℕ, ◌+◌, ◌*◌, ◌<◌, ◌≤◌, Bool, true, false, List, [], ◌∷◌, ◌++◌, length, take, drop, min, ◌-◌, set, get_or, Option, Some, None, Result, Ok, Err, OnOk, slice_get, ap, sym, ◌∙◌, subst, append-nil, arith, length-drop, take-append-drop}
use Rattle.std.specs.List.{flat_map}
use Rattle.std.specs.Bool.{OnTrue}
use Rattle.std.proofs.lemmas.List.{take_more, take-take, drop-take, get_or-drop, take_min, nil_from_length}
use Rattle.std.proofs.lemmas.Option.{slice_get_within, get_or_from_slice_get, slice_get-get_or}
use Rattle.nf_base.proofs.Mixes.{got_set}
use Rattle.nf_base.specs.declared.card.Card.{Card}
use Rattle.capture_format.specs.declared.format.CaptureFormat.{CaptureFormat}
use Rattle.nf_files.specs.Told.{Told, IsToldAs}
use Rattle.run_history.specs.declared.line.Mode.{Mode}
use Rattle.stream_run.specs.Runs.{Handled}
use Rattle.stream_run.specs.Texts.{piece, bytes_of}
use Rattle.stream_run.specs.declared.fault.RunFault.{RunFault}
use Rattle.stream_run.specs.Writing.{StopsAmong, Holding, Holds, IsFrontIfTold, AreGrown, AreHeld, AreFronts, AreEmpty, AllGoOn, files_of}
use Rattle.stream_run.proofs.Bytes.{flat_both, bytes_both}
use Rattle.stream_run.proofs.Held.{file_at}
use Rattle.stream_run.proofs.Complete.{got_end}
use Rattle.packet_feed.specs.Arrivals.{Arrival}
use Rattle.nf_base.specs.declared.done.Done.{Done}
use Rattle.nf_base.specs.declared.done.Action.{Action}
use Rattle.nf_base.specs.declared.done.Action.TheVariants.{Skip}
use Rattle.short_answers.specs.declared.answer.Told.{Told as Answer}
use Rattle.short_answers.specs.declared.answer.Told.TheVariants as answer
use Rattle.short_answers.specs.Answers.{plain, done_told}
use Rattle.sharded_run.proofs.Written.{fronts_longer}
use Rattle.locked_run.specs.declared.chunk.Chunk.{Chunk}
use Rattle.locked_run.specs.Going.{AreWhole}
use Rattle.locked_run.specs.Chunks.{chunk_at, HoldPieces, AreBare, IsFilled, AreFilled, AreOf, AreIdle, HoldAll}

-- ---- packets of a list

-- one packet more
pub chunk_more : (all : List Handled) (from j : ℕ) (h : Handled) → slice_get all (from + j) ≡ Some h → take (j + 1) (drop from all) ≡ take j (drop from all) ++ h ∷ []
chunk_more all from j h e =
    let within = slice_get_within all (from + j) h e in
    let long = length-drop from all in
    take_more (drop from all) j h (omega (arith, within, long)) ∙ ap (λ (x : Handled). take j (drop from all) ++ x ∷ []) (get_or-drop from all j h ∙ get_or_from_slice_get all (from + j) h h e)

-- the packets in front of a chunk, and those of it
pub chunk_joins : (all : List Handled) (n m : ℕ) → take n all ++ chunk_at all n m ≡ take (n + m) all
chunk_joins all n m =
    ap (λ (t : List Handled). t ++ chunk_at all n m) (sym (take-take n (n + m) all (omega arith)))
    ∙ ap (λ (t : List Handled). take n (take (n + m) all) ++ t) (sym (drop-take n m all))
    ∙ take-append-drop n (take (n + m) all)

-- as many as there are
pub chunk_ends : (all : List Handled) (from size count : ℕ) → count ≡ min size (length all - from) → take count (drop from all) ≡ chunk_at all from size
chunk_ends all from size count e =
    ap (λ (n : ℕ). take n (drop from all)) (e ∙ ap (min size) (sym (length-drop from all))) ∙ take_min size (drop from all)

-- ---- what is held

flat_more : {A B : Type 0} (f : A → List B) (xs : List A) (x : A) → flat_map f (xs ++ x ∷ []) ≡ flat_map f xs ++ f x
flat_more {B = B} f xs x = flat_both f xs (x ∷ []) ∙ ap (λ (t : List B). flat_map f xs ++ t) (append-nil (f x))

pub pieces_grown : (format : CaptureFormat) (ports : ℕ) (hs : List Handled) (h : Handled) (old new : List Holding) → HoldPieces format ports hs old → AreGrown (λ k format. piece format ports k h) old new → HoldPieces format ports (hs ++ h ∷ []) new
pieces_grown format ports hs h old new held grown k s e =
    let x = grown k s e in
    let before = held k x.before x.at in (
      x.format_same ∙ before.0,
      x.held_more
          ∙ ap (λ (g : CaptureFormat). x.before.held ++ piece g ports k h) before.0
          ∙ ap (λ (t : List ℕ). t ++ piece format ports k h) before.1
          ∙ sym (flat_more (piece format ports k) hs h),
    )

-- the next packet of a chunk, as it came to be told
pub filled_more : (format : CaptureFormat) (ports : ℕ) (all : List Handled) (from j : ℕ) (came h : Handled) (old new : List Holding) → slice_get all (from + j) ≡ Some h → came ≡ h → HoldPieces format ports (take j (drop from all)) old
    → AreGrown (λ k format. piece format ports k came) old new → HoldPieces format ports (take (j + 1) (drop from all)) new
filled_more format ports all from j came h old new at same held grown =
    subst (λ (hs : List Handled). HoldPieces format ports hs new) (sym (chunk_more all from j h at))
    (pieces_grown format ports (take j (drop from all)) h old new held (subst (λ (t : Handled). AreGrown (λ k format. piece format ports k t) old new) same grown))

-- ---- behind what is written

told_held : (bytes more : List ℕ) (given : Option (List ℕ)) → IsToldAs bytes given → Holds (bytes ++ more) given more
told_held bytes more None h = tt
told_held bytes more (Some g) h = ap (λ (t : List ℕ). t ++ more) h

told_front : (bytes more : List ℕ) (given : Option (List ℕ)) → IsToldAs bytes given → IsFrontIfTold (bytes ++ more) given
told_front bytes more None h = tt
told_front bytes more (Some g) h = record { later = more; all = ap (λ (t : List ℕ). t ++ more) h }

module _ (mode : Mode) (workers : ℕ) (card : Card) (format : CaptureFormat) (ports : ℕ) where
  -- a chunk is held behind the packets that are written
  pub chunk_held : (hs chunk : List Handled) (now : Told) (sinks : List Holding) → AreWhole mode workers card format ports hs now (files_of sinks) → HoldPieces format ports chunk sinks → AreHeld mode workers card format ports (hs ++ chunk) now sinks
  chunk_held hs chunk now sinks whole held k s e =
      let x = held k s e in
      let before = whole k s.file (file_at sinks k s e) in
      let bytes = bytes_of mode workers card format ports k hs in
      let more = flat_map (piece format ports k) chunk in (
        x.0,
        subst (λ (t : List ℕ). Holds t (now.given s.file) s.held) (sym (bytes_both mode workers card format ports k hs chunk))
            (subst (λ (t : List ℕ). Holds (bytes ++ more) (now.given s.file) t) (sym x.1) (told_held bytes more (now.given s.file) before)),
      )

  -- files with what some packets leave hold fronts of what more leave
  pub whole_front : (hs chunk : List Handled) (now : Told) (files : List ℕ) → AreWhole mode workers card format ports hs now files → AreFronts mode workers card format ports (hs ++ chunk) now files
  whole_front hs chunk now files whole k file e =
      subst (λ (t : List ℕ). IsFrontIfTold t (now.given file)) (sym (bytes_both mode workers card format ports k hs chunk))
      (told_front (bytes_of mode workers card format ports k hs) (flat_map (piece format ports k) chunk) (now.given file) (whole k file e))

  -- what was held is gone
  pub bare_by : (T E : Type 0) (hs : List Handled) (now : Told) (sinks : List Holding) (result : Result T E) → AllGoOn mode workers card format ports hs now sinks result → OnOk result (AreEmpty sinks) → OnOk result (AreBare format sinks)
  bare_by T E hs now sinks (Ok x) held empty = λ k s e. ((held k s e).0, nil_from_length s.held (empty k s e))
  bare_by T E hs now sinks (Err x) fronts empty = tt

  -- fronts of what the first packets leave are fronts of what all leave
  pub fronts_all : (all : List Handled) (n : ℕ) (now : Told) (files : List ℕ) → AreFronts mode workers card format ports (take n all) now files → AreFronts mode workers card format ports all now files
  fronts_all all n now files fronts = fronts_longer mode workers card format ports [] all n now files fronts

  -- the first packets are written, and one chunk more
  pub whole_next : (all : List Handled) (from i size : ℕ) (now : Told) (files : List ℕ) → AreWhole mode workers card format ports (take (from + i * size) all ++ chunk_at all (from + i * size) size) now files → AreWhole mode workers card format ports (take (from + (i + 1) * size) all) now files
  whole_next all from i size now files whole =
      let n : (from + i * size) + size ≡ from + (i + 1) * size = omega arith in
      subst (λ (hs : List Handled). AreWhole mode workers card format ports hs now files) (chunk_joins all (from + i * size) size ∙ ap (λ (m : ℕ). take m all) n) whole

  pub fronts_next : (all : List Handled) (n size : ℕ) (now : Told) (files : List ℕ) → AreFronts mode workers card format ports (take n all ++ chunk_at all n size) now files → AreFronts mode workers card format ports all now files
  fronts_next all n size now files fronts =
      fronts_all all (n + size) now files (subst (λ (hs : List Handled). AreFronts mode workers card format ports hs now files) (chunk_joins all n size) fronts)

-- ---- chunks

-- what one chunk came to, among others
pub of_set : (files : List ℕ) (chunks : List Chunk) (i : ℕ) (c : Chunk) → files_of c.sinks ≡ files → AreOf files chunks → AreOf files (set chunks i c)
of_set files chunks i c same of j x e = elim (got_set chunks i j c x e) [
  | inl here ↦ subst (λ (t : Chunk). files_of t.sinks ≡ files) here.1 same
  | inr there ↦ of j x there.1
]

pub idle_set : (format : CaptureFormat) (chunks : List Chunk) (i : ℕ) (c : Chunk) → AreBare format c.sinks → ((j : ℕ) (x : Chunk) → j < i → slice_get chunks j ≡ Some x → AreBare format x.sinks) → (j : ℕ) (x : Chunk) → j < i + 1 → slice_get (set chunks i c) j ≡ Some x → AreBare format x.sinks
idle_set format chunks i c bare before j x lt e = elim (got_set chunks i j c x e) [
  | inl here ↦ subst (λ (t : Chunk). AreBare format t.sinks) here.1 bare
  | inr there ↦ before j x (let ne = there.0 in omega (arith, lt, ne)) there.1
]

pub rest_set : (old chunks : List Chunk) (i : ℕ) (c : Chunk) → ((j : ℕ) (x : Chunk) → i ≤ j → slice_get chunks j ≡ Some x → slice_get old j ≡ Some x) → (j : ℕ) (x : Chunk) → i + 1 ≤ j → slice_get (set chunks i c) j ≡ Some x → slice_get old j ≡ Some x
rest_set old chunks i c rest j x le e = elim (got_set chunks i j c x e) [
  | inl here ↦ absurd (let same = here.0 in omega (arith, le, same))
  | inr there ↦ rest j x (omega (arith, le)) there.1
]

-- what stood at a place
was_there : (old new : List Chunk) (i : ℕ) (c : Chunk) → length new ≡ length old → slice_get new i ≡ Some c → (b : Chunk) × (slice_get old i ≡ Some b)
was_there old new i c same e = let within = slice_get_within new i c e in (get_or old i c, slice_get-get_or old i c (omega (arith, within, same)))

pub filled_of : (ports : ℕ) (all : List Handled) (from size : ℕ) (files : List ℕ) (old new : List Chunk) → AreFilled ports all from size old new → AreOf files old → AreOf files new
filled_of ports all from size files old new filled of i c e =
    let b = was_there old new i c filled.count e in
    (filled.each i b.0 c b.1 e).same_files ∙ of i b.0 b.1

if_made : (b : Bool) (P Q : Type 0) → (P → Q) → OnTrue b P → OnTrue b Q
if_made true P Q f p = f p
if_made false P Q f p = tt

pub filled_all : (format : CaptureFormat) (ports : ℕ) (all : List Handled) (from size : ℕ) (old new : List Chunk) → AreFilled ports all from size old new → AreIdle format old → HoldAll format ports all from size new
filled_all format ports all from size old new filled idle i c e =
    let b = was_there old new i c filled.count e in
    if_made c.made ((f : CaptureFormat) → AreBare f b.0.sinks → HoldPieces f ports (chunk_at all (from + i * size) size) c.sinks) (HoldPieces format ports (chunk_at all (from + i * size) size) c.sinks)
    (λ holds. holds format (idle i b.0 b.1)) (filled.each i b.0 c b.1 e).holds

-- ---- what a packet came to

pub told_plain : (arrival : Arrival) (worker : ℕ) (action : Action) (none : Done) (told : Answer) → none ≡ plain Skip → told ≡ answer.Plain action
    → ◌≡◌ {A = Handled} (record { arrival = arrival; worker = worker; done = record { action = action; edits = none.edits; picks = none.picks } }) (record { arrival = arrival; worker = worker; done = done_told told })
told_plain arrival worker action none told bare is =
    ap (λ (d : Done). record { arrival = arrival; worker = worker; done = record { action = action; edits = d.edits; picks = d.picks } }) bare
    ∙ ap (λ (t : Answer). record { arrival = arrival; worker = worker; done = done_told t }) (sym is)

pub told_whole : (arrival : Arrival) (worker : ℕ) (done : Bor Done) (told : Answer) → told ≡ answer.Whole done
    → ◌≡◌ {A = Handled} (record { arrival = arrival; worker = worker; done = record { action = done.now.action; edits = done.now.edits; picks = done.now.picks } }) (record { arrival = arrival; worker = worker; done = done_told told })
told_whole arrival worker done told is = ap (λ (t : Answer). record { arrival = arrival; worker = worker; done = done_told t }) (sym is)

-- ---- a new chunk

pub bare_pushed : (format : CaptureFormat) (sinks : List Holding) (s : Holding) → s.format ≡ format → s.held ≡ [] → AreBare format sinks → AreBare format (sinks ++ s ∷ [])
bare_pushed format sinks s of none bare k x e = elim (got_end sinks s k x e) [
  | inl here ↦ (sym (ap (λ (t : Holding). t.format) here.1) ∙ of, sym (ap (λ (t : Holding). t.held) here.1) ∙ none)
  | inr there ↦ bare k x there
]

-- ---- each chunk in a thread

pub all_filled : (ports : ℕ) (all : List Handled) (from size : ℕ) (old new : List Chunk) → length new ≡ length old → ((i : ℕ) (d : Chunk) → i < length old → IsFilled ports (chunk_at all (from + i * size) size) (get_or old i d) (get_or new i d)) → AreFilled ports all from size old new
all_filled ports all from size old new same each = record {
  count = same;
  each = λ i before after e q.
      subst (λ (z : Chunk). IsFilled ports (chunk_at all (from + i * size) size) z after) (get_or_from_slice_get old i before after e)
      (subst (λ (z : Chunk). IsFilled ports (chunk_at all (from + i * size) size) (get_or old i after) z) (get_or_from_slice_get new i after after q)
      (each i after (slice_get_within old i before e)));
}

-- ---- where writing stops

pub among_by : (stop : RunFault) (some files : List ℕ) → some ≡ files → StopsAmong {T = Unit {0}} [] some (Err stop) → StopsAmong {T = Unit {0}} [] files (Err stop)
among_by stop some files same h = subst (λ (fs : List ℕ). StopsAmong {T = Unit {0}} [] fs (Err stop)) same h
