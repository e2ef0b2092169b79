-- A text of which no line is wrong is a certificate.
use Rattle.std.proofs.Common.{◌≡◌, ℕ, zero, suc, ◌+◌, ◌*◌, ◌/◌, ◌%◌, ◌<◌, ◌≤◌, ◌||◌, nat_lt, refl, sym, ap, ◌∙◌, subst, true, false, Bool, List, [], ◌∷◌, All, length, map, get_or, Option, Some, None, arith}
use Rattle.std.specs.List.{range_with_len}
use Rattle.std.proofs.lemmas.Option.{none-some}
use Rattle.std.proofs.lemmas.List.{get_or_default, same_lists}
use Rattle.std.proofs.lemmas.List.Elements.{All-nil}
use Rattle.std.proofs.lemmas.List.FromFn.{length-map-range_with_len, get_or-map-range_with_len}
use Rattle.nf_base.specs.declared.card.Card.{Card}
use Rattle.nf_base.specs.declared.keys.Keys.{Keys}
use Rattle.nf_base.specs.declared.packet.Family.{Family}
use Rattle.nf_base.specs.declared.packet.Family.TheVariants.{Four, Six}
use Rattle.nf_base.specs.Doors.{six_ports}
use Rattle.nf_base.specs.Text.{Function}
use Rattle.gf2_solve.specs.Sums.{bit}
use Rattle.toeplitz_hash.specs.Packets.{key_at}
use Rattle.key_rows.specs.declared.place.Object.{Object}
use Rattle.key_rows.specs.Keyed.{is_keyed_for, AreAtPorts}
use Rattle.key_rows.specs.Positions.{positions_at}
use Rattle.key_rows.specs.Rows.{bits_of}
use Rattle.key_rows.specs.Systems.{default_bits}
use Rattle.key_rows.specs.Given.{IsKey}
use Rattle.key_rows.proofs.Grouped.{keyed_within, keyed_for_keyed}
use Rattle.shard_rules.specs.Served.{own_plan}
use Rattle.key_synth.specs.Keys.{AreGiven, NoneMayBeGiven}
use Rattle.certificate_laws.specs.Fixed.{none_fixed}
use Rattle.certificate_laws.specs.Terms.{rows_at}
use Rattle.certificate_laws.specs.Trees.{IsRefuted}
use Rattle.certificate_laws.specs.Laws.{AreRefuted}
use Rattle.certificate_laws.specs.Due.{Whole, nots}
use Rattle.certificate_laws.specs.Certificates.{counted, spans_of, IsListed, IsLockedBy, AreRight, AreGivenBy}
use Rattle.certificate_laws.proofs.Lines.{lines_refute, lines_refute_all}
use Rattle.certificate_laws.proofs.Answering.{locked_is_locked}
use Rattle.certificate_laws.proofs.Telling.{given_is_verdict}
use Rattle.key_synth.proofs.Tied.{answered}
use Rattle.key_rows.specs.Given as places
use Rattle.nf_base.specs.Doors.{has_six}
use Rattle.std.proofs.lemmas.List.{length-map}
use Rattle.certificate_text.specs.declared.heading.Heading.{Heading}
use Rattle.certificate_text.specs.declared.heading.Kind.{Kind}
use Rattle.certificate_text.specs.declared.heading.Kind.TheVariants.{Sharded, Locked}
use Rattle.certificate_text.specs.Pieces.{lines_of}
use Rattle.certificate_text.specs.Lines.{heading_in}
use Rattle.key_proof.specs.declared.subject.Subject.{Subject}
use Rattle.key_proof.specs.Judging.{is_unfit, is_flat, rows_fail, is_wrong, wrong_port}
use Rattle.key_proof.specs.Faults.{ports_of, positions_in, spans_in, subject_of, trees_fault, keys_with, due_behind, key_or, judged_fault, kind_fault, proof_fault, rows_fault, heading_of, heading_then, lines_fault, first_wrong}
use Rattle.key_proof.specs.Reading.{IsRowHere, IsToldHere}
use Rattle.key_proof.specs.Shown.{IsShown, IsCertificate}
use Rattle.key_proof.proofs.Behind.{AreTaken, trees_taken, AreListedRows, rows_listed, AreToldKeys, keys_told}
use Rattle.key_proof.proofs.Lists.{named_is_listed}
use Rattle.key_proof.proofs.Told.{told_is_key}
use Rattle.key_proof.proofs.Right.{or_none, none_wrong, past_zero, default_there, spreads_there, all_even}
use Rattle.key_proof.proofs.AtPorts.{own_at_ports, ports_same}

locked_none : (f : Function) (card : Card) (rows : List (List ℕ)) → IsLockedBy (length f.handlers) (own_plan f).objects card rows → NoneMayBeGiven f card
locked_none f card rows is =
    answered f card (own_plan f) (six_ports f) (own_plan f).objects None refl refl refl
    (subst (λ (n : ℕ). places.NoneMayBeGiven n (own_plan f).objects card) (sym (length-map f.handlers has_six)) (locked_is_locked (length f.handlers) (own_plan f).objects card rows is))

module _ (f : Function) (h : Heading) where
  abbrev s : Subject
  s = subject_of f

  abbrev objects : List Object
  objects = (own_plan f).objects

  abbrev ports : ℕ
  ports = length f.handlers

  abbrev positions : ℕ → ℕ
  positions = positions_at (six_ports f) (own_plan f).objects

  same_ports : ports_of (subject_of f) ≡ length f.handlers
  same_ports = ports_same f

  listed : (rows : List (List ℕ)) → All (IsRowHere (subject_of f)) rows → All (IsListed (length f.handlers) (own_plan f).objects) rows
  listed rows named i d below =
      let one = named i d below in
      subst (λ (n : ℕ). IsListed n (own_plan f).objects (get_or rows i d)) same_ports (named_is_listed f (ports_of (subject_of f)) one.named (get_or rows i d) one.is)

  locked : (rows : List (List ℕ)) (n : ℕ) (lines : List (List ℕ)) → All (IsRowHere (subject_of f)) rows
      → trees_fault s h rows (spans_in objects s h) n (Whole (none_fixed (319 * ports_of s)) ∷ []) lines ≡ None → NoneMayBeGiven f h.card
  locked rows n lines named none =
      let taken : AreTaken rows (spans_in objects s h) (Whole (none_fixed (319 * ports_of s)) ∷ []) = trees_taken s h rows (spans_in objects s h) n (Whole (none_fixed (319 * ports_of s)) ∷ []) lines none in
      let refuted : IsRefuted (rows_at rows) (spans_of (own_plan f).objects h.card.table (ports_of (subject_of f))) (none_fixed (319 * ports_of (subject_of f))) =
      lines_refute (rows_at rows) (spans_in objects s h) (none_fixed (319 * ports_of s)) taken.lines taken.taken in
      locked_none f h.card rows (record {
        listed = listed rows named;
        refuted = subst (λ (m : ℕ). IsRefuted (rows_at rows) (spans_of (own_plan f).objects h.card.table m) (none_fixed (319 * m))) same_ports refuted;
      })

  module _ (keys : List (List ℕ)) (told : All (IsToldHere (subject_of f) h) keys) (long : length keys ≡ ports_of (subject_of f)) (fit : wrong_port (own_plan f).objects h.card (subject_of f).positions (keys_with h keys) ≡ None) where
    whole_ : All (IsKey h.card.key) keys
    whole_ i d below = told_is_key s h (get_or keys i d) (told i d below)

    there : (port : ℕ) → port < length f.handlers → port < ports_of (subject_of f)
    there port below = let same = same_ports in omega (arith, below, same)

    count_is : (port : ℕ) → port < length f.handlers → get_or (subject_of f).positions port 0 ≡ positions port
    count_is port below = get_or-map-range_with_len (positions_at (six_ports f) (own_plan f).objects) 0 (length f.handlers) port port 0 below (omega arith)

    not_wrong : (port : ℕ) → port < length f.handlers → is_wrong (own_plan f).objects h.card (positions port) (keys_with h keys) port ≡ false
    not_wrong port below =
        ap (λ c. is_wrong (own_plan f).objects h.card c (keys_with h keys) port) (sym (count_is port below))
        ∙ ap (is_wrong (own_plan f).objects h.card (get_or (subject_of f).positions port 0) (keys_with h keys)) (let same : port ≡ 0 + port = omega arith in same)
        ∙ none_wrong (own_plan f).objects h.card (keys_with h keys) (subject_of f).positions 0 port fit (there port below)

    key_long : (port : ℕ) → port < length f.handlers → IsKey h.card.key (key_at (keys_with h keys) port)
    key_long port below = whole_ port [] (let at = there port below in omega (arith, at, long))

    right : AreRight positions ports objects h.card (keys_with h keys)
    right = record {
      table = refl;
      count = long ∙ same_ports;
      whole = whole_;
      admissible = all_even (own_plan f).objects (keys_with h keys) (length f.handlers) (own_at_ports f)
          (λ port below.
          let one = or_none (is_unfit (own_plan f).objects h.card (positions port) port (key_at (keys_with h keys) port))
          (is_flat (own_plan f).objects h.card.table Four port (key_at (keys_with h keys) port) || (is_flat (own_plan f).objects h.card.table Six port (key_at (keys_with h keys) port) || rows_fail (own_plan f).objects (keys_with h keys) port)) (not_wrong port below) in
          let two = or_none (is_flat (own_plan f).objects h.card.table Four port (key_at (keys_with h keys) port)) (is_flat (own_plan f).objects h.card.table Six port (key_at (keys_with h keys) port) || rows_fail (own_plan f).objects (keys_with h keys) port) one.1 in
          (or_none (is_flat (own_plan f).objects h.card.table Six port (key_at (keys_with h keys) port)) (rows_fail (own_plan f).objects (keys_with h keys) port) two.1).1);
      spreading = record {
        each = λ port family keyed.
            let below : port < length f.handlers = keyed_within (own_plan f).objects port (length f.handlers) (own_at_ports f) (keyed_for_keyed (own_plan f).objects family port keyed) in
            let one = or_none (is_unfit (own_plan f).objects h.card (positions port) port (key_at (keys_with h keys) port))
            (is_flat (own_plan f).objects h.card.table Four port (key_at (keys_with h keys) port) || (is_flat (own_plan f).objects h.card.table Six port (key_at (keys_with h keys) port) || rows_fail (own_plan f).objects (keys_with h keys) port)) (not_wrong port below) in
            let two = or_none (is_flat (own_plan f).objects h.card.table Four port (key_at (keys_with h keys) port)) (is_flat (own_plan f).objects h.card.table Six port (key_at (keys_with h keys) port) || rows_fail (own_plan f).objects (keys_with h keys) port) one.1 in
            let three = or_none (is_flat (own_plan f).objects h.card.table Six port (key_at (keys_with h keys) port)) (rows_fail (own_plan f).objects (keys_with h keys) port) two.1 in
            spreads_there (own_plan f).objects h.card.table family port (key_at (keys_with h keys) port) (flat_for family port two.0 three.0) keyed;
      };
      past = λ port i below keyed high.
          past_zero (own_plan f).objects h.card (positions port) port i (key_at (keys_with h keys) port)
          (or_none (is_unfit (own_plan f).objects h.card (positions port) port (key_at (keys_with h keys) port))
          (is_flat (own_plan f).objects h.card.table Four port (key_at (keys_with h keys) port) || (is_flat (own_plan f).objects h.card.table Six port (key_at (keys_with h keys) port) || rows_fail (own_plan f).objects (keys_with h keys) port)) (not_wrong port below)).0
          keyed (key_long port below).long high;
      unkeyed = λ port below none.
          default_there (own_plan f).objects h.card (positions port) port (key_at (keys_with h keys) port)
          (or_none (is_unfit (own_plan f).objects h.card (positions port) port (key_at (keys_with h keys) port))
          (is_flat (own_plan f).objects h.card.table Four port (key_at (keys_with h keys) port) || (is_flat (own_plan f).objects h.card.table Six port (key_at (keys_with h keys) port) || rows_fail (own_plan f).objects (keys_with h keys) port)) (not_wrong port below)).0
          none;
    }
      where
        flat_for : (family : Family) (port : ℕ) → is_flat (own_plan f).objects h.card.table Four port (key_at (keys_with h keys) port) ≡ false
            → is_flat (own_plan f).objects h.card.table Six port (key_at (keys_with h keys) port) ≡ false → is_flat (own_plan f).objects h.card.table family port (key_at (keys_with h keys) port) ≡ false
        flat_for Four port four six = four
        flat_for Six port four six = six

    same_counted : counted (positions_in (subject_of f)) (length f.handlers) ≡ counted positions (length f.handlers)
    same_counted =
        same_lists (counted (positions_in (subject_of f)) (length f.handlers)) (counted positions (length f.handlers))
        (length-map-range_with_len (λ m. nat_lt (m % 319) (positions_in (subject_of f) (m / 319))) 0 (319 * length f.handlers) ∙ sym (length-map-range_with_len (λ m. nat_lt (m % 319) (positions (m / 319))) 0 (319 * length f.handlers)))
        (λ k d below.
        let inside : k < 319 * length f.handlers = let all = length-map-range_with_len (λ m. nat_lt (m % 319) (positions_in (subject_of f) (m / 319))) 0 (319 * length f.handlers) in omega (arith, below, all) in
        get_or-map-range_with_len (λ m. nat_lt (m % 319) (positions_in (subject_of f) (m / 319))) 0 (319 * length f.handlers) k k d inside (omega arith)
        ∙ ap (λ c. nat_lt (k % 319) c) (count_is (k / 319) (omega (arith, inside)))
        ∙ sym (get_or-map-range_with_len (λ m. nat_lt (m % 319) (positions (m / 319))) 0 (319 * length f.handlers) k k d inside (omega arith)))

    given : (rows : List (List ℕ)) (n : ℕ) (lines : List (List ℕ)) → All (IsRowHere (subject_of f)) rows
        → trees_fault (subject_of f) h rows (spans_in (own_plan f).objects (subject_of f) h) n (due_behind (subject_of f) (keys_with h keys)) lines ≡ None → AreGiven f h.card (keys_with h keys)
    given rows n lines named none =
        let taken = trees_taken (subject_of f) h rows (spans_in (own_plan f).objects (subject_of f) h) n (due_behind (subject_of f) (keys_with h keys)) lines none in
        let m : ℕ = ports_of (subject_of f) in
        let refuted : AreRefuted (bit (counted (positions_in (subject_of f)) (ports_of (subject_of f)))) (rows_at rows) (spans_of (own_plan f).objects h.card.table (ports_of (subject_of f))) (319 * ports_of (subject_of f)) (default_bits (ports_of (subject_of f))) (bits_of (ports_of (subject_of f)) (keys_with h keys)) =
        lines_refute_all (bit (counted (positions_in (subject_of f)) (ports_of (subject_of f)))) (rows_at rows) (spans_in (own_plan f).objects (subject_of f) h) (319 * ports_of (subject_of f)) (default_bits (ports_of (subject_of f))) (bits_of (ports_of (subject_of f)) (keys_with h keys)) taken.lines taken.taken in
        given_is_verdict f h.card rows (keys_with h keys) (record {
          listed = listed rows named;
          right = right;
          nearest = subst (λ (c : List Bool). AreRefuted (bit c) (rows_at rows) (spans_of (own_plan f).objects h.card.table (length f.handlers)) (319 * length f.handlers) (default_bits (length f.handlers)) (bits_of (length f.handlers) (keys_with h keys))) same_counted
              (subst (λ (q : ℕ). AreRefuted (bit (counted (positions_in (subject_of f)) q)) (rows_at rows) (spans_of (own_plan f).objects h.card.table q) (319 * q) (default_bits q) (bits_of q (keys_with h keys))) same_ports refuted);
        })

pub judged : (f : Function) (h : Heading) (rows keys : List (List ℕ)) (n : ℕ) (lines : List (List ℕ)) (o : Option ℕ) → All (IsRowHere (subject_of f)) rows → All (IsToldHere (subject_of f) h) keys → length keys ≡ ports_of (subject_of f)
    → wrong_port (own_plan f).objects h.card (subject_of f).positions (keys_with h keys) ≡ o
    → key_or o n (ports_of (subject_of f)) (trees_fault (subject_of f) h rows (spans_in (own_plan f).objects (subject_of f) h) n (due_behind (subject_of f) (keys_with h keys)) lines) ≡ None → AreGiven f h.card (keys_with h keys)
judged f h rows keys n lines None named told long is none = given f h keys told long is rows n lines named none
judged f h rows keys n lines (Some port) named told long is none = absurd (none-some _ (sym none))

shown_kind : (f : Function) (card : Heading) (k : Kind) (rows : List (List ℕ)) (n : ℕ) (lines : List (List ℕ)) → All (IsRowHere (subject_of f)) rows → kind_fault k (own_plan f).objects (subject_of f) card rows n lines ≡ None → IsShown k f card.card
shown_kind f h Locked rows n lines named none = locked f h rows n lines named none
shown_kind f h Sharded rows n lines named none =
    let told = keys_told (own_plan f).objects (subject_of f) h rows n [] (ports_of (subject_of f)) lines (ports_of (subject_of f)) (All-nil (IsToldHere (subject_of f) h)) (omega arith) none in
    (keys_with h told.keys, judged f h rows told.keys told.number told.lines (wrong_port (own_plan f).objects h.card (subject_of f).positions (keys_with h told.keys)) named told.told told.long refl told.none)

headed : (f : Function) (text : List ℕ) (l : List ℕ) (lines : List (List ℕ)) (o : Option Heading) → lines_of text ≡ l ∷ lines → heading_in l ≡ o
    → heading_then o (λ h. rows_fault (own_plan f).objects (subject_of f) h [] 2 lines) ≡ None → IsCertificate f text
headed f text l lines None at is none = absurd (none-some 1 (sym none))
headed f text l lines (Some h) at is none =
    let rows = rows_listed (own_plan f).objects (subject_of f) h [] 2 lines (All-nil (IsRowHere (subject_of f))) none in
    record {
      heading = h;
      first = ap heading_of at ∙ is;
      shown = shown_kind f h h.kind rows.rows rows.number rows.lines rows.named rows.none;
    }

lined : (f : Function) (text : List ℕ) (ls : List (List ℕ)) → lines_of text ≡ ls → lines_fault f ls ≡ None → IsCertificate f text
lined f text [] at none = absurd (none-some 1 (sym none))
lined f text (l ∷ lines) at none = headed f text l lines (heading_in l) at refl none

pub nothing_wrong : (f : Function) (text : List ℕ) → first_wrong f text ≡ None → IsCertificate f text
nothing_wrong f text none = lined f text (lines_of text) refl none
