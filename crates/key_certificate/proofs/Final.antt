-- The text of a right verdict.
use Rattle.std.proofs.Common.{◌≡◌, ℕ, suc, ◌+◌, ◌*◌, ◌/◌, ◌%◌, ◌<◌, ◌≤◌, ◌==◌, nat_lt, refl, sym, ap, ◌∙◌, subst, inl, inr, true, false, Bool, List, [], ◌∷◌, ◌++◌, All, length, map, take, get_or, Some, None, arith}
use Rattle.std.specs.Prelude.{codes}
use Rattle.std.proofs.lemmas.Bool.{cases_lt, false≢true, ltb-true}
use Rattle.std.proofs.lemmas.List.{append_assoc, append-nil, take_more, take_all, length-take-le, get_or_past, same_lists}
use Rattle.std.proofs.lemmas.List.Elements.{All-nil, All-cons, All-head, All-tail}
use Rattle.std.proofs.lemmas.List.FromFn.{length-map-range_with_len, get_or-map-range_with_len}
use Rattle.nf_base.specs.declared.card.Card.{Card}
use Rattle.nf_base.specs.declared.card.TableSize.{TableSize}
use Rattle.nf_base.specs.declared.keys.Keys.{Keys}
use Rattle.nf_base.specs.Doors.{six_ports}
use Rattle.nf_base.specs.Text.{Function}
use Rattle.toeplitz_hash.specs.declared.key.TheConstants.{DEFAULT_KEY}
use Rattle.toeplitz_hash.specs.Bits.{bit_of}
use Rattle.gf2_solve.specs.Sums.{bit}
use Rattle.key_rows.specs.Given as places
use Rattle.key_rows.specs.Given.{IsKey}
use Rattle.key_rows.specs.Positions.{positions_at}
use Rattle.key_rows.specs.Rows.{bits_of}
use Rattle.key_rows.specs.Systems.{default_bits}
use Rattle.key_rows.proofs.Added.{length_bits}
use Rattle.shard_rules.specs.Served.{own_plan}
use Rattle.key_synth.specs.declared.verdict.Cause.{Cause}
use Rattle.key_synth.specs.declared.verdict.Verdict.TheVariants.{Sharded, Locked}
use Rattle.key_synth.specs.Keys.{MayBeGiven, AreGiven, NoneMayBeGiven}
use Rattle.key_synth.specs.Verdicts.{IsVerdict}
use Rattle.key_synth.proofs.Tied.{given_from}
use Rattle.key_synth.proofs.Placed.{keyed_for_from}
use Rattle.shard_rules.proofs.Admitted.{say_the_same}
use Rattle.certificate_laws.specs.declared.line.Line.{Line}
use Rattle.certificate_laws.specs.declared.line.Line.TheVariants as line
use Rattle.certificate_laws.specs.declared.line.Named.{Named}
use Rattle.certificate_laws.specs.declared.line.Span.{Span}
use Rattle.certificate_laws.specs.Fixed.{none_fixed}
use Rattle.certificate_laws.specs.Terms.{rows_at}
use Rattle.certificate_laws.specs.Trees.{IsRefuted}
use Rattle.certificate_laws.specs.Laws.{AreRefuted}
use Rattle.certificate_laws.specs.Due.{Due, Whole, after_all, nots}
use Rattle.certificate_laws.specs.Certificates.{counted, spans_of}
use Rattle.certificate_laws.proofs.Telling.{at_most}
use Rattle.certificate_text.specs.declared.heading.Heading.{Heading}
use Rattle.certificate_text.specs.declared.heading.Kind.TheVariants as kind
use Rattle.certificate_write.specs.Texts.{line_text, lines_text, heading_text}
use Rattle.certificate_write.specs.Sayable.{IsPlace, IsSayable}
use Rattle.certificate_prove.specs.Growing.{AreNameable}
use Rattle.key_proof.specs.declared.numbered.Numbered.{Numbered}
use Rattle.key_proof.specs.declared.subject.Subject.{Subject}
use Rattle.key_proof.specs.Judging.{wrong_port}
use Rattle.key_proof.specs.Sites.{numbered_sites}
use Rattle.key_proof.specs.Faults.{ports_of, positions_in, spans_in, subject_of, trees_fault, keys_with, due_behind, key_or, judged_fault, keys_fault, row_in, proof_fault}
use Rattle.key_proof.proofs.AtPorts.{ports_same}
use Rattle.key_certificate.specs.declared.listing.Listing.{Listing}
use Rattle.key_certificate.specs.Whole.{AreWhole}
use Rattle.key_certificate.specs.Rows.{HasAllRows, AreNumbered}
use Rattle.key_certificate.specs.Plain.{row_lines, key_lines, AreListed, Leads, IsGround, AreRightBehind, IsRightText, heading_for}
use Rattle.key_certificate.proofs.Keying.{locked_is_refuted, given_are_refuted}
use Rattle.key_certificate.proofs.Fit.{given_fit}
use Rattle.key_certificate.proofs.Spread.{are_whole, nameable}
use Rattle.key_certificate.proofs.Assemble.{AreKeysBehind, trees_right, keys_right, no_row, text_right}

-- ---- texts

text_append : (a b : List Line) → lines_text (a ++ b) ≡ lines_text a ++ lines_text b
text_append [] b = refl
text_append (l ∷ a) b =
    ap (λ t. line_text l ++ (codes "\n" ++ t)) (text_append a b)
    ∙ sym (append_assoc (line_text l) (codes "\n" ++ lines_text a) (lines_text b) ∙ ap (λ t. line_text l ++ t) (append_assoc (codes "\n") (lines_text a) (lines_text b)))

pub text_both : (a b c t one two : List ℕ) → one ≡ [] ++ a → two ≡ one ++ b → t ≡ two ++ c → t ≡ a ++ (b ++ c)
text_both a b c t one two first second third = third ∙ ap (λ x. x ++ c) (second ∙ ap (λ x. x ++ b) first) ∙ append_assoc a b c

-- ---- keys

key_lines_push : (port : ℕ) (keys : List (List ℕ)) (key : List ℕ) → key_lines port (keys ++ key ∷ []) ≡ key_lines port keys ++ line.Key (port + length keys) key ∷ []
key_lines_push port [] key = let same : port ≡ port + 0 = omega arith in ap (λ n. line.Key n key ∷ []) same
key_lines_push port (k ∷ keys) key =
    let same : port + 1 + length keys ≡ port + suc (length keys) = omega arith in
    ap (λ l. line.Key port k ∷ l) (key_lines_push (port + 1) keys key ∙ ap (λ n. key_lines (port + 1) keys ++ line.Key n key ∷ []) same)

pub keys_none : (keys : List (List ℕ)) (old : List Line) → old ≡ old ++ key_lines 0 (take 0 keys)
keys_none keys old = sym (append-nil old)

pub keys_more : (keys : List (List ℕ)) (port : ℕ) (key d : List ℕ) (old out : List Line) → port < length keys → key ≡ get_or keys port d → out ≡ old ++ key_lines 0 (take port keys) → out ++ line.Key port key ∷ [] ≡ old ++ key_lines 0 (take (port + 1) keys)
keys_more keys port key d old out below here is =
    let within : port ≤ length keys = omega (arith, below) in
    let long : 0 + length (take port keys) ≡ port = let all = length-take-le port keys within in omega (arith, all) in
    ap (λ l. l ++ line.Key port key ∷ []) is ∙ append_assoc old (key_lines 0 (take port keys)) (line.Key port key ∷ [])
    ∙ ap (λ l. old ++ l) (ap (λ n. key_lines 0 (take port keys) ++ line.Key n key ∷ []) (sym long) ∙ sym (key_lines_push 0 (take port keys) key)
    ∙ ap (key_lines 0) (ap (λ k. take port keys ++ k ∷ []) here ∙ sym (take_more keys port d below)))

pub keys_all : (keys : List (List ℕ)) (port : ℕ) (old out : List Line) → length keys ≤ port → out ≡ old ++ key_lines 0 (take port keys) → out ≡ old ++ key_lines 0 keys
keys_all keys port old out past is = is ∙ ap (λ (l : List (List ℕ)). old ++ key_lines 0 l) (take_all port keys past)

-- ---- vectors

pub counted_places : (s : Subject) (place : ℕ) → bit (counted (positions_in s) (ports_of s)) place ≡ true → IsPlace s.positions place
counted_places s place is = elim (cases_lt place (319 * ports_of s)) [
  | inl below ↦
      ltb-true (place % 319) (get_or s.positions (place / 319) 0)
      (sym (get_or-map-range_with_len (λ m. nat_lt (m % 319) (positions_in s (m / 319))) 0 (319 * ports_of s) place place false below (omega arith)) ∙ is)
  | inr past ↦
      (let long = length-map-range_with_len (λ m. nat_lt (m % 319) (positions_in s (m / 319))) 0 (319 * ports_of s) in
      absurd (false≢true (sym (get_or_past (counted (positions_in s) (ports_of s)) place false (omega (arith, past, long))) ∙ is)))
]

pub long_bits : (ports : ℕ) (keys : Keys) → length (bits_of ports keys) ≡ 319 * ports
long_bits ports keys = length_bits ports keys

pub long_default : (ports : ℕ) → length (default_bits ports) ≡ 319 * ports
long_default ports = length-map-range_with_len (λ m. bit_of DEFAULT_KEY (m % 319) == 1) 0 (319 * ports)

pub long_counted : (s : Subject) → length (counted (positions_in s) (ports_of s)) ≡ 319 * ports_of s
long_counted s = length-map-range_with_len (λ m. nat_lt (m % 319) (positions_in s (m / 319))) 0 (319 * ports_of s)

-- ---- what is refuted

may_to : (f : Function) (card : Card) (keys : Keys) → places.MayBeGiven (length f.handlers) (own_plan f).objects card keys → MayBeGiven f card keys
may_to f card keys may = record {
  table = may.table;
  count = may.count;
  whole = may.whole;
  admissible = (say_the_same f keys).0 may.admissible;
  spreading = record { each = λ port family is. (let spreading = may.spreading in spreading.each port family (keyed_for_from f family port is)) };
}

none_from : (f : Function) (card : Card) → NoneMayBeGiven f card → places.NoneMayBeGiven (length f.handlers) (own_plan f).objects card
none_from f card none = record { none = λ keys may. none.none keys (may_to f card keys may) }

pub is_ground : (f : Function) (table : TableSize) (s : Subject) (listing : Listing) (spans : List Span) → s ≡ subject_of f → length s.positions ≤ 4 → AreNumbered f → AreListed (ports_of s) s.sites listing → HasAllRows (ports_of s) s.sites listing.rows
    → spans ≡ spans_of (own_plan f).objects table (ports_of s) → IsGround f table listing.rows spans
is_ground f table s listing spans same few numbered listed all own =
    let p : ports_of (subject_of f) ≡ length f.handlers = ports_same f in
    let handlers : length f.handlers ≤ 4 = let n = ap ports_of same in omega (arith, few, n, p) in
    let listed_there : AreListed (length f.handlers) (numbered_sites f) listing =
    subst (λ (n : ℕ). AreListed n (numbered_sites f) listing) p (subst (λ (t : Subject). AreListed (ports_of t) t.sites listing) same listed) in
    let all_there : HasAllRows (length f.handlers) (numbered_sites f) listing.rows =
    subst (λ (n : ℕ). HasAllRows n (numbered_sites f) listing.rows) p (subst (λ (t : Subject). HasAllRows (ports_of t) t.sites listing.rows) same all) in
    let own_there : spans ≡ spans_of (own_plan f).objects table (ports_of (subject_of f)) = own ∙ ap (λ (t : Subject). spans_of (own_plan f).objects table (ports_of t)) same in
    record {
      nameable = subst (λ (l : List Span). AreNameable table (subject_of f).positions (319 * ports_of (subject_of f)) listing.rows l) (sym own_there)
          (subst (λ (n : ℕ). AreNameable table (subject_of f).positions (319 * n) listing.rows (spans_of (own_plan f).objects table n)) (sym p) (nameable f table listing handlers listed_there));
      own = own_there;
      whole = subst (λ (l : List Span). AreWhole (ports_of (subject_of f)) (own_plan f).objects table (rows_at listing.rows) l) (sym own_there)
          (subst (λ (n : ℕ). AreWhole n (own_plan f).objects table (rows_at listing.rows) (spans_of (own_plan f).objects table n)) (sym p) (are_whole f table listing.rows numbered all_there));
    }

pub locked_refuted : (f : Function) (card : Card) (s : Subject) (rows : List (List ℕ)) (spans : List Span) (why : Cause) → s ≡ subject_of f → IsGround f card.table rows spans → IsVerdict f card (Locked why)
    → IsRefuted (rows_at rows) spans (none_fixed (319 * ports_of s))
locked_refuted f card s rows spans why same ground is =
    let none : places.NoneMayBeGiven (ports_of (subject_of f)) (own_plan f).objects card =
    subst (λ (n : ℕ). places.NoneMayBeGiven n (own_plan f).objects card) (sym (ports_same f)) (none_from f card is.0) in
    subst (λ (t : Subject). IsRefuted (rows_at rows) spans (none_fixed (319 * ports_of t))) (sym same)
    (locked_is_refuted (ports_of (subject_of f)) (own_plan f).objects card (rows_at rows) spans ground.whole none)

-- given keys, over as many ports as count
given_there : (f : Function) (card : Card) (keys : Keys) → AreGiven f card keys → places.AreGiven (positions_at (six_ports f) (own_plan f).objects) (ports_of (subject_of f)) (own_plan f).objects card keys
given_there f card keys given =
    subst (λ (n : ℕ). places.AreGiven (positions_at (six_ports f) (own_plan f).objects) n (own_plan f).objects card keys) (sym (ports_same f)) (given_from f card keys given)

pub sharded_count : (f : Function) (card : Card) (s : Subject) (keys : Keys) → s ≡ subject_of f → IsVerdict f card (Sharded keys) → length keys.ports ≡ ports_of s
sharded_count f card s keys same is = let given = given_there f card keys is in let may = given.may in may.count ∙ sym (ap ports_of same)

same_counted : (f : Function) → counted (positions_in (subject_of f)) (ports_of (subject_of f)) ≡ counted (positions_at (six_ports f) (own_plan f).objects) (ports_of (subject_of f))
same_counted f =
    let n : ℕ = ports_of (subject_of f) in
    let positions : ℕ → ℕ = positions_at (six_ports f) (own_plan f).objects in
    same_lists (counted (positions_in (subject_of f)) n) (counted positions n)
    (length-map-range_with_len (λ m. nat_lt (m % 319) (positions_in (subject_of f) (m / 319))) 0 (319 * n) ∙ sym (length-map-range_with_len (λ m. nat_lt (m % 319) (positions (m / 319))) 0 (319 * n)))
    (λ k d below.
    let inside : k < 319 * ports_of (subject_of f) = let all = length-map-range_with_len (λ m. nat_lt (m % 319) (positions_in (subject_of f) (m / 319))) 0 (319 * n) in omega (arith, below, all) in
    let there : k / 319 < length f.handlers = let p = ports_same f in omega (arith, inside, p) in
    get_or-map-range_with_len (λ m. nat_lt (m % 319) (positions_in (subject_of f) (m / 319))) 0 (319 * n) k k d inside (omega arith)
    ∙ ap (λ c. nat_lt (k % 319) c) (get_or-map-range_with_len positions 0 (length f.handlers) (k / 319) (k / 319) 0 there (omega arith))
    ∙ sym (get_or-map-range_with_len (λ m. nat_lt (m % 319) (positions (m / 319))) 0 (319 * n) k k d inside (omega arith)))

pub sharded_refuted : (f : Function) (card : Card) (s : Subject) (rows : List (List ℕ)) (spans : List Span) (keys : Keys) → s ≡ subject_of f → IsGround f card.table rows spans → IsVerdict f card (Sharded keys)
    → AreRefuted (bit (counted (positions_in s) (ports_of s))) (rows_at rows) spans (319 * ports_of s) (default_bits (ports_of s)) (bits_of (ports_of s) keys)
sharded_refuted f card s rows spans keys same ground is =
    let n : ℕ = ports_of (subject_of f) in
    subst (λ (t : Subject). AreRefuted (bit (counted (positions_in t) (ports_of t))) (rows_at rows) spans (319 * ports_of t) (default_bits (ports_of t)) (bits_of (ports_of t) keys)) (sym same)
    (subst (λ (c : List Bool). AreRefuted (bit c) (rows_at rows) spans (319 * n) (default_bits n) (bits_of n keys)) (sym (same_counted f))
    (given_are_refuted (positions_at (six_ports f) (own_plan f).objects) n (own_plan f).objects card (rows_at rows) spans keys (at_most (six_ports f) (own_plan f).objects) ground.whole (given_there f card keys is)))

-- ---- what is behind the rows

few_of : (f : Function) (s : Subject) → s ≡ subject_of f → length s.positions ≤ 4 → length (subject_of f).positions ≤ 4
few_of f s same few = let n = ap ports_of same in omega (arith, few, n)

pub locked_right : (f : Function) (card : Card) (s : Subject) (table : TableSize) (rows : List (List ℕ)) (spans : List Span) (why : Cause) (lines : List Line) → s ≡ subject_of f → length s.positions ≤ 4 → table ≡ card.table
    → IsGround f card.table rows spans → Leads table s.positions rows spans (Whole (none_fixed (319 * ports_of s)) ∷ []) [] [] lines → AreRightBehind f (heading_for card (Locked why)) rows lines
locked_right f card s table rows spans why lines same few sizes ground leads =
    let h : Heading = record { card = card; kind = kind.Locked } in
    let first : List Due = Whole (none_fixed (319 * ports_of (subject_of f))) ∷ [] in
    let there : Leads card.table (subject_of f).positions rows spans (Whole (none_fixed (319 * ports_of (subject_of f))) ∷ []) [] [] lines =
    subst (λ (t : Subject). Leads card.table t.positions rows spans (Whole (none_fixed (319 * ports_of t)) ∷ []) [] [] lines) same
    (subst (λ (t : TableSize). Leads t s.positions rows spans (Whole (none_fixed (319 * ports_of s)) ∷ []) [] [] lines) sizes leads) in
    let small = few_of f s same few in
    let said : All (IsSayable card.table (subject_of f).positions) lines = subst (λ (l : List Line). All (IsSayable card.table (subject_of f).positions) l) (sym there.behind) there.sayable in
    let after : after_all (rows_at rows) spans (Whole (none_fixed (319 * ports_of (subject_of f))) ∷ []) lines ≡ Some [] =
    subst (λ (l : List Line). after_all (rows_at rows) spans (Whole (none_fixed (319 * ports_of (subject_of f))) ∷ []) l ≡ Some []) (sym there.behind) there.right in
    record {
      sayable = said;
      other = λ l more is. no_row (subject_of f) h small (rows_at rows) spans first l more (subst (λ (ls : List Line). after_all (rows_at rows) spans (Whole (none_fixed (319 * ports_of (subject_of f))) ∷ []) ls ≡ Some []) is after);
      none = λ n. ap (λ (sp : List Span). trees_fault (subject_of f) h rows sp n (Whole (none_fixed (319 * ports_of (subject_of f))) ∷ []) (map line_text lines)) (sym ground.own)
          ∙ trees_right (subject_of f) h small rows spans n first lines said after;
    }

keys_said : (table : TableSize) (positions : List ℕ) (card : Card) (port : ℕ) (keys : List (List ℕ)) → port + length keys ≤ 4 → All (IsKey card.key) keys → All (IsSayable table positions) (key_lines port keys)
keys_said table positions card port [] few are = All-nil (IsSayable table positions)
keys_said table positions card port (key ∷ keys) few are =
    All-cons (IsSayable table positions) (line.Key port key) (key_lines (port + 1) keys)
    (record { size = card.key; whole = All-head (IsKey card.key) key keys are; small = omega (arith, few) })
    (keys_said table positions card (port + 1) keys (omega (arith, few)) (All-tail (IsKey card.key) key keys are))

append_all : {X : Type 0} (P : X → Type 0) (xs ys : List X) → All P xs → All P ys → All P (xs ++ ys)
append_all P [] ys first second = second
append_all P (x ∷ xs) ys first second = All-cons P x (xs ++ ys) (first 0 x (omega arith)) (append_all P xs ys (λ i d below. first (suc i) d (omega (arith, below))) second)

map_append : (a b : List Line) → map line_text (a ++ b) ≡ map line_text a ++ map line_text b
map_append [] b = refl
map_append (l ∷ a) b = ap (λ t. line_text l ∷ t) (map_append a b)

module _ (f : Function) (card : Card) (rows : List (List ℕ)) (spans : List Span) (keys : Keys) (few : length (subject_of f).positions ≤ 4) (ground : IsGround f card.table rows spans) (given : AreGiven f card keys) (lines : List Line)
    (leads : Leads card.table (subject_of f).positions rows spans (due_behind (subject_of f) keys) [] (key_lines 0 keys.ports) lines) where
  abbrev h : Heading
  h = record { card = card; kind = kind.Sharded }

  count : length keys.ports ≡ ports_of (subject_of f)
  count = sharded_count f card (subject_of f) keys refl given

  may : places.MayBeGiven (ports_of (subject_of f)) (own_plan f).objects card keys
  may = (given_there f card keys given).may

  same_keys : keys_with (record { card = card; kind = kind.Sharded }) keys.ports ≡ keys
  same_keys = ap (λ (t : TableSize). let k : Keys = record { table = t; ports = keys.ports } in k) (sym may.table)

  key_said : All (IsSayable card.table (subject_of f).positions) (key_lines 0 keys.ports)
  key_said = keys_said card.table (subject_of f).positions card 0 keys.ports (let n = count in omega (arith, few, n)) may.whole

  said_all : All (IsSayable card.table (subject_of f).positions) (key_lines 0 keys.ports ++ leads.lines)
  said_all = append_all (IsSayable card.table (subject_of f).positions) (key_lines 0 keys.ports) leads.lines key_said leads.sayable

  behind_keys : (n : ℕ) → AreKeysBehind (subject_of f) (record { card = card; kind = kind.Sharded }) (own_plan f).objects rows n [] keys.ports (map line_text leads.lines)
  behind_keys n = keys_right (subject_of f) h few (own_plan f).objects rows n [] keys.ports (map line_text leads.lines) may.whole key_said

  trees_are : (n : ℕ) → trees_fault (subject_of f) (record { card = card; kind = kind.Sharded }) rows (spans_in (own_plan f).objects (subject_of f) (record { card = card; kind = kind.Sharded })) n (due_behind (subject_of f) keys) (map line_text leads.lines) ≡ None
  trees_are n =
      ap (λ (sp : List Span). trees_fault (subject_of f) h rows sp n (due_behind (subject_of f) keys) (map line_text leads.lines)) (sym ground.own)
      ∙ trees_right (subject_of f) h few rows spans n (due_behind (subject_of f) keys) leads.lines leads.sayable leads.right

  judged : (n : ℕ) → judged_fault (own_plan f).objects (subject_of f) (record { card = card; kind = kind.Sharded }) rows n keys.ports (map line_text leads.lines) ≡ None
  judged n =
      ap (λ (k : Keys). key_or (wrong_port (own_plan f).objects card (subject_of f).positions k) n (ports_of (subject_of f))
      (trees_fault (subject_of f) h rows (spans_in (own_plan f).objects (subject_of f) h) n (due_behind (subject_of f) k) (map line_text leads.lines))) same_keys
      ∙ ap (λ o. key_or o n (ports_of (subject_of f)) (trees_fault (subject_of f) h rows (spans_in (own_plan f).objects (subject_of f) h) n (due_behind (subject_of f) keys) (map line_text leads.lines))) (given_fit f card keys (given_from f card keys given))
      ∙ trees_are n

  none_wrong : (n : ℕ) → proof_fault (own_plan f).objects (subject_of f) (record { card = card; kind = kind.Sharded }) rows n (map line_text (key_lines 0 keys.ports ++ leads.lines)) ≡ None
  none_wrong n =
      let behind = behind_keys n in
      ap (λ m. keys_fault (own_plan f).objects (subject_of f) h rows n [] m (map line_text (key_lines 0 keys.ports ++ leads.lines))) (sym count)
      ∙ ap (keys_fault (own_plan f).objects (subject_of f) h rows n [] (length keys.ports)) (map_append (key_lines 0 keys.ports) leads.lines)
      ∙ behind.same
      ∙ judged behind.number

  no_row_first : (ks : List (List ℕ)) (l : Line) (more : List Line) → keys.ports ≡ ks → key_lines 0 ks ++ leads.lines ≡ l ∷ more → row_in (subject_of f) (Some l) ≡ None
  no_row_first [] l more is there =
      no_row (subject_of f) h few (rows_at rows) spans (due_behind (subject_of f) keys) l more (subst (λ (ls : List Line). after_all (rows_at rows) spans (due_behind (subject_of f) keys) ls ≡ Some []) there leads.right)
  no_row_first (k ∷ ks) l more is there = subst (λ (m : Line). row_in (subject_of f) (Some m) ≡ None) (let same : line.Key 0 k ≡ l = cc in same) refl

  keys_behind : AreRightBehind f (record { card = card; kind = kind.Sharded }) rows (key_lines 0 keys.ports ++ leads.lines)
  keys_behind = record {
    sayable = said_all;
    other = λ l more is. no_row_first keys.ports l more refl is;
    none = none_wrong;
  }

pub sharded_right : (f : Function) (card : Card) (s : Subject) (table : TableSize) (rows : List (List ℕ)) (spans : List Span) (keys : Keys) (lines : List Line) → s ≡ subject_of f → length s.positions ≤ 4 → table ≡ card.table
    → IsGround f card.table rows spans → IsVerdict f card (Sharded keys) → Leads table s.positions rows spans (due_behind s keys) [] (key_lines 0 keys.ports) lines → AreRightBehind f (heading_for card (Sharded keys)) rows lines
sharded_right f card s table rows spans keys lines same few sizes ground is leads =
    let there : Leads card.table (subject_of f).positions rows spans (due_behind (subject_of f) keys) [] (key_lines 0 keys.ports) lines =
    subst (λ (t : Subject). Leads card.table t.positions rows spans (due_behind t keys) [] (key_lines 0 keys.ports) lines) same
    (subst (λ (t : TableSize). Leads t s.positions rows spans (due_behind s keys) [] (key_lines 0 keys.ports) lines) sizes leads) in
    subst (λ (l : List Line). AreRightBehind f (record { card = card; kind = kind.Sharded }) rows l) (sym there.behind)
    (keys_behind f card rows spans keys (few_of f s same few) ground is lines there)

pub due_behind_is : (s : Subject) (keys : Keys) (own wanted counts : List Bool) → own ≡ bits_of (ports_of s) keys → wanted ≡ default_bits (ports_of s) → counts ≡ counted (positions_in s) (ports_of s) → nots (bit counts) (length own) wanted own (length own) 0 ≡ due_behind s keys
due_behind_is s keys own wanted counts one two three =
    ap (λ k. nots (bit counts) k wanted own k 0) (ap length one ∙ long_bits (ports_of s) keys)
    ∙ ap (λ (c : List Bool). nots (bit c) (319 * ports_of s) wanted own (319 * ports_of s) 0) three
    ∙ ap (λ (w : List Bool). nots (bit (counted (positions_in s) (ports_of s))) (319 * ports_of s) w own (319 * ports_of s) 0) two
    ∙ ap (λ (x : List Bool). nots (bit (counted (positions_in s) (ports_of s))) (319 * ports_of s) (default_bits (ports_of s)) x (319 * ports_of s) 0) one

-- ---- the whole

pub whole_text : (f : Function) (h : Heading) (s : Subject) (listing : Listing) (lines : List Line) (text : List ℕ) → s ≡ subject_of f → length s.positions ≤ 4 → AreListed (ports_of s) s.sites listing → AreRightBehind f h listing.rows lines
    → text ≡ (heading_text h ++ codes "\n") ++ (lines_text (row_lines listing.named) ++ lines_text lines) → IsRightText f h text
whole_text f h s listing lines text same few listed right is =
    let there : AreListed (ports_of (subject_of f)) (subject_of f).sites listing = subst (λ (t : Subject). AreListed (ports_of t) t.sites listing) same listed in
    subst (IsRightText f h) (sym (is ∙ ap (λ t. (heading_text h ++ codes "\n") ++ t) (sym (text_append (row_lines listing.named) lines))))
    (text_right f h (few_of f s same few) listing.named listing.rows there.short there.same lines right.sayable right.other right.none)

-- the same text by other names of its parts
pub same_text : (h k : Heading) (named n : List Named) (lines l : List Line) (text : List ℕ) → k ≡ h → n ≡ named → l ≡ lines
    → text ≡ (heading_text k ++ codes "\n") ++ (lines_text (row_lines n) ++ lines_text l) → text ≡ (heading_text h ++ codes "\n") ++ (lines_text (row_lines named) ++ lines_text lines)
same_text h k named n lines l text one two three is =
    is ∙ ap (λ (x : Heading). (heading_text x ++ codes "\n") ++ (lines_text (row_lines n) ++ lines_text l)) one
    ∙ ap (λ (x : List Named). (heading_text h ++ codes "\n") ++ (lines_text (row_lines x) ++ lines_text l)) two
    ∙ ap (λ (x : List Line). (heading_text h ++ codes "\n") ++ (lines_text (row_lines named) ++ lines_text x)) three

-- what was listed, by the function's ports and sites
pub listed_there : (s : Subject) (n : ℕ) (sites : List Numbered) (listing : Listing) → n ≡ ports_of s → sites ≡ s.sites → AreListed n sites listing → AreListed (ports_of s) s.sites listing
listed_there s n sites listing ports same listed = subst (λ (m : ℕ). AreListed m s.sites listing) ports (subst (λ (l : List Numbered). AreListed n l listing) same listed)

pub all_there : (s : Subject) (n : ℕ) (sites : List Numbered) (rows : List (List ℕ)) → n ≡ ports_of s → sites ≡ s.sites → HasAllRows n sites rows → HasAllRows (ports_of s) s.sites rows
all_there s n sites rows ports same all = subst (λ (m : ℕ). HasAllRows m s.sites rows) ports (subst (λ (l : List Numbered). HasAllRows n l rows) same all)
