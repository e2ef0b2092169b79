-- Files for which more is held.
use Rattle.std.proofs.Common.{◌≡◌, ◌≢◌, ◌⊎◌, ℕ, ◌+◌, ◌<◌, ◌≤◌, Bool, true, false, cond, ltb, List, [], ◌∷◌, ◌++◌, length, set, Some, Result, Ok, Err, OnOk, inl, inr, refl, sym, ap, ◌∙◌, subst, append_assoc, append-nil, arith}
use Rattle.std.specs.List.{slice_get}
use Rattle.std.proofs.lemmas.Bool.{cases_eq, cases_lt, lt-ltb, le-ltb, ne_eqb, eq-eqb}
use Rattle.std.proofs.lemmas.Option.{slice_get_within}
use Rattle.nf_base.proofs.Mixes.{got_set}
use Rattle.nf_base.specs.declared.card.Card.{Card}
use Rattle.capture_format.specs.declared.format.CaptureFormat.{CaptureFormat}
use Rattle.nf_base.specs.declared.done.Action.{Action}
use Rattle.nf_base.specs.declared.done.Action.TheVariants.{To}
use Rattle.nf_files.specs.Told.{Told}
use Rattle.run_history.specs.declared.line.Mode.{Mode}
use Rattle.stream_run.specs.Runs.{Handled}
use Rattle.stream_run.specs.Texts.{bytes_of, piece, sends, is_sent, sent_bytes, sent_in, told_in, line_of, written_of}
use Rattle.stream_run.specs.Writing.{Holding, Holds, IsFrontIfTold, IsGrown, AreGrown, AreHeld, AreFronts, files_of}
use Rattle.stream_run.proofs.Bytes.{bytes_more}
use Rattle.stream_run.proofs.Held.{front_held, held_more, stays_in}

-- ---- one file

pub grown_same : (more : CaptureFormat → List ℕ) (old : List Holding) (k : ℕ) (s : Holding) → more s.format ≡ [] → slice_get old k ≡ Some s → IsGrown more old k s
grown_same more old k s none at = record { before = s; at = at; file_same = refl; format_same = refl; held_more = sym (ap (λ (t : List ℕ). s.held ++ t) none ∙ append-nil s.held) }

grown_put : (more : CaptureFormat → List ℕ) (old : List Holding) (k : ℕ) (s new_s : Holding) → slice_get old k ≡ Some s → new_s.file ≡ s.file → new_s.format ≡ s.format → new_s.held ≡ s.held ++ more s.format → IsGrown more old k new_s
grown_put more old k s new_s at same kind put = record { before = s; at = at; file_same = same; format_same = kind; held_more = put }

-- ---- file by file

-- For the files below a number more is held already, for the others not.
abbrev pub ArePartlyGrown : (ℕ → CaptureFormat → List ℕ) → List Holding → ℕ → List Holding → Type 0
ArePartlyGrown more old k now = (j : ℕ) (s : Holding) → slice_get now j ≡ Some s → (j < k → IsGrown (more j) old j s) × (k ≤ j → slice_get old j ≡ Some s)

pub none_grown : (more : ℕ → CaptureFormat → List ℕ) (old : List Holding) (k : ℕ) → ((j : ℕ) (format : CaptureFormat) → j < k → more j format ≡ []) → ArePartlyGrown more old k old
none_grown more old k none j s e = (λ lt. grown_same (more j) old j s (none j s.format lt) e, λ le. e)

pub grown_more : (more : ℕ → CaptureFormat → List ℕ) (old now : List Holding) (k : ℕ) (s new_s : Holding) → slice_get now k ≡ Some s → new_s.file ≡ s.file → new_s.format ≡ s.format → new_s.held ≡ s.held ++ more k s.format
    → ArePartlyGrown more old k now → ArePartlyGrown more old (k + 1) (set now k new_s)
grown_more more old now k s new_s at same kind put h j x q = elim (got_set now k j new_s x q) [
  | inl here ↦
      let before : slice_get old k ≡ Some s = (h k s at).1 (omega arith) in
      let grown : IsGrown (more k) old k new_s = grown_put (more k) old k s new_s before same kind put in
      let of : IsGrown (more j) old j x = subst (λ (t : Holding). IsGrown (more j) old j t) here.1 (subst (λ (n : ℕ). IsGrown (more n) old n new_s) (sym here.0) grown) in
      (λ lt. of, λ le. absurd (omega (arith, here.0, le)))
  | inr there ↦
      let parts = h j x there.1 in
      (λ lt. parts.0 (omega (arith, lt, there.0)), λ le. parts.1 (omega (arith, le)))
]

pub grown_over : (more : ℕ → CaptureFormat → List ℕ) (old now : List Holding) (k : ℕ) → ((format : CaptureFormat) → more k format ≡ []) → ArePartlyGrown more old k now → ArePartlyGrown more old (k + 1) now
grown_over more old now k none h j x q =
    let parts = h j x q in (
      λ lt. elim (cases_lt j k) [ inl below ↦ parts.0 below | inr up ↦ (let is : j ≡ k = omega (arith, lt, up) in grown_same (more j) old j x (ap (λ (n : ℕ). more n x.format) is ∙ none x.format) (parts.1 up)) ],
      λ le. parts.1 (omega (arith, le)),
    )

pub all_grown : (more : ℕ → CaptureFormat → List ℕ) (old now : List Holding) (k : ℕ) → ((j : ℕ) (format : CaptureFormat) → k ≤ j → j < length now → more j format ≡ []) → ArePartlyGrown more old k now → AreGrown more old now
all_grown more old now k none h j s e =
    let parts = h j s e in
    elim (cases_lt j k) [
      | inl below ↦ parts.0 below
      | inr up ↦ grown_same (more j) old j s (none j s.format up (slice_get_within now j s e)) (parts.1 up)
    ]

-- ---- at one file, and at none

pub grown_one : (more : ℕ → CaptureFormat → List ℕ) (old : List Holding) (k : ℕ) (s new_s : Holding) → slice_get old k ≡ Some s → new_s.file ≡ s.file → new_s.format ≡ s.format → new_s.held ≡ s.held ++ more k s.format → ((j : ℕ) (format : CaptureFormat) → j ≢ k → more j format ≡ []) → AreGrown more old (set old k new_s)
grown_one more old k s new_s at same kind put none j x q = elim (got_set old k j new_s x q) [
  | inl here ↦
      let grown : IsGrown (more k) old k new_s = grown_put (more k) old k s new_s at same kind put in
      subst (λ (t : Holding). IsGrown (more j) old j t) here.1 (subst (λ (n : ℕ). IsGrown (more n) old n new_s) (sym here.0) grown)
  | inr there ↦ grown_same (more j) old j x (none j x.format there.0) there.1
]

pub grown_none : (more : ℕ → CaptureFormat → List ℕ) (old : List Holding) → ((j : ℕ) (format : CaptureFormat) → j < length old → more j format ≡ []) → AreGrown more old old
grown_none more old none j x q = grown_same (more j) old j x (none j x.format (slice_get_within old j x q)) q

-- ---- the outputs, and the journal behind them

pub grown_both : (one two all : ℕ → CaptureFormat → List ℕ) (old mid new : List Holding) → ((k : ℕ) (format : CaptureFormat) → one k format ++ two k format ≡ all k format) → AreGrown one old mid → AreGrown two mid new → AreGrown all old new
grown_both one two all old mid new same h k j s e =
    let y = k j s e in
    let x = h j y.before y.at in
    record {
      before = x.before;
      at = x.at;
      file_same = y.file_same ∙ x.file_same;
      format_same = y.format_same ∙ x.format_same;
      held_more =
          y.held_more ∙ ap (λ (t : List ℕ). t ++ two j y.before.format) x.held_more ∙ ap (λ (g : CaptureFormat). (x.before.held ++ one j x.before.format) ++ two j g) x.format_same
          ∙ append_assoc x.before.held (one j x.before.format) (two j x.before.format) ∙ ap (λ (t : List ℕ). x.before.held ++ t) (same j x.before.format);
    }

pub grown_on : {T E : Type 0} (r : Result T E) (one two all : ℕ → CaptureFormat → List ℕ) (old mid new : List Holding) → ((k : ℕ) (format : CaptureFormat) → one k format ++ two k format ≡ all k format) → AreGrown one old mid → OnOk r (AreGrown two mid new) → OnOk r (AreGrown all old new)
grown_on (Ok x) one two all old mid new same h k = grown_both one two all old mid new same h k
grown_on (Err e) one two all old mid new same h k = tt

by_file : (b : Bool) (sent line : List ℕ) → cond b sent [] ++ cond b [] line ≡ cond b sent line
by_file true sent line = append-nil sent
by_file false sent line = refl

pub pieces_both : (ports : ℕ) (h : Handled) (k : ℕ) (format : CaptureFormat) → sent_in ports h k format ++ told_in ports h k format ≡ piece format ports k h
pieces_both ports h k format = by_file (ltb k ports) (sent_bytes format k h) (line_of h)

pub sent_if : (ports : ℕ) (h : Handled) (k : ℕ) (format : CaptureFormat) → k < ports → sent_in ports h k format ≡ sent_bytes format k h
sent_if ports h k format lt = ap (λ (b : Bool). cond b (sent_bytes format k h) []) (lt-ltb k ports lt)

-- a packet goes to an output that is there
pub sent_record : (ports : ℕ) (h : Handled) (k : ℕ) (format : CaptureFormat) → k < ports → is_sent k h ≡ true → sent_in ports h k format ≡ written_of format h
sent_record ports h k format lt sent = sent_if ports h k format lt ∙ ap (λ (b : Bool). cond b (written_of format h) []) sent

pub sent_past : (ports : ℕ) (h : Handled) (k : ℕ) (format : CaptureFormat) → ports ≤ k → sent_in ports h k format ≡ []
sent_past ports h k format le = ap (λ (b : Bool). cond b (sent_bytes format k h) []) (le-ltb k ports le)

either_none : (b : Bool) (xs : List ℕ) → xs ≡ [] → cond b xs [] ≡ []
either_none true xs e = e
either_none false xs e = refl

pub unsent : (ports : ℕ) (h : Handled) (k : ℕ) (format : CaptureFormat) → is_sent k h ≡ false → sent_in ports h k format ≡ []
unsent ports h k format kept = either_none (ltb k ports) (sent_bytes format k h) (ap (λ (b : Bool). cond b (written_of format h) []) kept)

-- where no port is meant
pub sent_nowhere : (ports : ℕ) (h : Handled) (action : Action) → h.done.action ≡ action → ((k : ℕ) → sends action h.arrival.packet.id.port k ≡ false) → (k : ℕ) (format : CaptureFormat) → sent_in ports h k format ≡ []
sent_nowhere ports h action is none k format = unsent ports h k format (ap (λ (a : Action). sends a h.arrival.packet.id.port k) is ∙ none k)

sent_to : (h : Handled) (port k : ℕ) (b : Bool) → h.done.action ≡ To port → sends (To port) h.arrival.packet.id.port k ≡ b → is_sent k h ≡ b
sent_to h port k b is e = ap (λ (a : Action). sends a h.arrival.packet.id.port k) is ∙ e

pub sent_there : (ports : ℕ) (h : Handled) (port : ℕ) (format : CaptureFormat) → h.done.action ≡ To port → port < ports → sent_in ports h port format ≡ written_of format h
sent_there ports h port format is lt = sent_record ports h port format lt (sent_to h port port true is (eq-eqb port port refl))

pub sent_elsewhere : (ports : ℕ) (h : Handled) (port : ℕ) → h.done.action ≡ To port → (k : ℕ) (format : CaptureFormat) → k ≢ port → sent_in ports h k format ≡ []
sent_elsewhere ports h port is k format ne = unsent ports h k format (sent_to h port k false is (ne_eqb port k (λ e. ne (sym e))))

-- where that output isn't there
pub sent_astray : (ports : ℕ) (h : Handled) (port count : ℕ) → h.done.action ≡ To port → (ports ≤ port) ⊎ (count ≤ port) → (k : ℕ) (format : CaptureFormat) → k < count → sent_in ports h k format ≡ []
sent_astray ports h port count is away k format lt = elim (cases_eq k port) [
  | inl same ↦ elim away [ inl past ↦ sent_past ports h k format (omega (arith, past, same)) | inr none ↦ absurd (omega (arith, none, lt, same)) ]
  | inr ne ↦ sent_elsewhere ports h port is k format ne
]

-- ---- the lines

pub told_front : (ports : ℕ) (h : Handled) (k : ℕ) (format : CaptureFormat) → k < ports → told_in ports h k format ≡ []
told_front ports h k format lt = ap (λ (b : Bool). cond b [] (line_of h)) (lt-ltb k ports lt)

pub told_line : (ports : ℕ) (h : Handled) (k : ℕ) (format : CaptureFormat) → ports ≤ k → told_in ports h k format ≡ line_of h
told_line ports h k format le = ap (λ (b : Bool). cond b [] (line_of h)) (le-ltb k ports le)

-- ---- what is held then

module _ (mode : Mode) (workers : ℕ) (card : Card) (format : CaptureFormat) (ports : ℕ) (hs : List Handled) (h : Handled) (told : Told) (old : List Holding) (held : AreHeld mode workers card format ports hs told old) where
  pub held_grown : (new : List Holding) → AreGrown (λ k format. piece format ports k h) old new → AreHeld mode workers card format ports (hs ++ h ∷ []) told new
  held_grown new grown k s e =
      let x = grown k s e in
      let kept = held k x.before x.at in
      let bytes = bytes_of mode workers card format ports k hs in
      let more : s.held ≡ x.before.held ++ piece format ports k h = x.held_more ∙ ap (λ (g : CaptureFormat). x.before.held ++ piece g ports k h) kept.0 in
      let before : Holds (bytes ++ piece format ports k h) (told.given x.before.file) (x.before.held ++ piece format ports k h) = held_more bytes (piece format ports k h) (told.given x.before.file) x.before.held kept.1 in
      let now : Holds (bytes ++ piece format ports k h) (told.given s.file) s.held = subst (λ (f : ℕ). Holds (bytes ++ piece format ports k h) (told.given f) s.held) (sym x.file_same) (subst (λ (t : List ℕ). Holds (bytes ++ piece format ports k h) (told.given x.before.file) t) (sym more) before) in
      (x.format_same ∙ kept.0, subst (λ (t : List ℕ). Holds t (told.given s.file) s.held) (sym (bytes_more mode workers card format ports k hs h)) now)

  pub fronts_held : (new : List Holding) → files_of new ≡ files_of old → AreFronts mode workers card format ports (hs ++ h ∷ []) told (files_of new)
  fronts_held new same k file e =
      let x = stays_in old k file (sym (ap (λ (fs : List ℕ). slice_get fs k) same) ∙ e) in
      let before : IsFrontIfTold (bytes_of mode workers card format ports k hs ++ piece format ports k h) (told.given x.0.file) = front_held (bytes_of mode workers card format ports k hs) (piece format ports k h) (told.given x.0.file) x.0.held (held k x.0 x.1).1 in
      subst (λ (f : ℕ). IsFrontIfTold (bytes_of mode workers card format ports k (hs ++ h ∷ [])) (told.given f)) x.2 (subst (λ (t : List ℕ). IsFrontIfTold t (told.given x.0.file)) (sym (bytes_more mode workers card format ports k hs h)) before)
