-- Keys that were read, and that there are none.
use Rattle.std.proofs.Common.{◌≡◌, ℕ, refl, sym, ap, ◌∙◌, subst, List, [], ◌∷◌, All, length, drop, Option, Some, None}
use Rattle.std.proofs.lemmas.Option.{none-some, same_Some}
use Rattle.nf_base.specs.declared.card.Card.{Card}
use Rattle.nf_base.specs.declared.keys.Keys.{Keys}
use Rattle.nf_base.specs.Text.{Function}
use Rattle.key_rows.specs.declared.place.Object.{Object}
use Rattle.shard_rules.specs.Served.{own_plan}
use Rattle.key_synth.specs.Keys.{AreGiven, NoneMayBeGiven}
use Rattle.certificate_text.specs.declared.heading.Heading.{Heading}
use Rattle.certificate_text.specs.declared.heading.Kind.{Kind}
use Rattle.certificate_text.specs.declared.heading.Kind.TheVariants.{Sharded, Locked}
use Rattle.certificate_text.specs.Pieces.{lines_of}
use Rattle.certificate_text.specs.Lines.{heading_in}
use Rattle.key_proof.specs.declared.finding.Finding.{Finding}
use Rattle.key_proof.specs.declared.finding.Finding.TheVariants.{Wrong, Told, NoKeys}
use Rattle.key_proof.specs.declared.subject.Subject.{Subject}
use Rattle.key_proof.specs.Judging.{wrong_port}
use Rattle.key_proof.specs.Faults.{ports_of, spans_in, subject_of, trees_fault, keys_with, due_behind, key_or, judged_fault, heading_of, first_wrong, card_in, card_of}
use Rattle.key_proof.specs.Reading.{IsRowHere, IsToldHere}
use Rattle.key_proof.specs.Found.{fault_found, AreTold, FindsBehind, AreToldBehind, Finds}
use Rattle.key_proof.specs.Shown.{IsShown, IsCertificate, AreShownGiven, IsShownWithout, Shows}
use Rattle.key_proof.proofs.Showing.{judged, nothing_wrong}

-- keys behind which no line is wrong
pub nothing_behind : (objects : List Object) (s : Subject) (h : Heading) (rows keys : List (List ℕ)) (number : ℕ) (lines : List (List ℕ)) → None ≡ wrong_port objects h.card s.positions (keys_with h keys)
    → None ≡ trees_fault s h rows (spans_in objects s h) number (due_behind s (keys_with h keys)) lines → judged_fault objects s h rows number keys lines ≡ None
nothing_behind objects s h rows keys number lines fit right =
    ap (λ o. key_or o number (ports_of s) (trees_fault s h rows (spans_in objects s h) number (due_behind s (keys_with h keys)) lines)) (sym fit) ∙ sym right

pub with_rows : (objects : List Object) (s : Subject) (h : Heading) (rows : List (List ℕ)) (found : Finding) → All (IsRowHere s) rows → FindsBehind objects s h rows found → Finds objects s h found
with_rows objects s h rows (Wrong n) named finds = tt
with_rows objects s h rows (Told keys) named finds = record { rows = rows; named = named; keys_told = finds }
with_rows objects s h rows NoKeys named finds = finds

-- ---- the whole

card_is : (text line : List ℕ) (more : List (List ℕ)) (h : Heading) → lines_of text ≡ line ∷ more → Some h ≡ heading_in line → card_of text ≡ Some h.card
card_is text line more h at is = ap (λ (ls : List (List ℕ)). card_in (heading_of ls)) at ∙ ap card_in (sym is)

given_are : (f : Function) (h : Heading) (rows : List (List ℕ)) (keys : Keys) → All (IsRowHere (subject_of f)) rows → AreTold (own_plan f).objects (subject_of f) h rows keys → AreGiven f h.card keys
given_are f h rows keys named told =
    subst (AreGiven f h.card) (sym told.with)
    (judged f h rows keys.ports told.number told.lines (wrong_port (own_plan f).objects h.card (subject_of f).positions (keys_with h keys.ports)) named told.told told.long refl told.none)

shown_none : (f : Function) (k : Kind) (card : Card) → k ≡ Locked → IsShown k f card → NoneMayBeGiven f card
shown_none f k card is shown = subst (λ (l : Kind). IsShown l f card) is shown

none_are : (f : Function) (text line : List ℕ) (more : List (List ℕ)) (h : Heading) → lines_of text ≡ line ∷ more → Some h ≡ heading_in line → h.kind ≡ Locked → first_wrong f text ≡ None → NoneMayBeGiven f h.card
none_are f text line more h at is kind none =
    let certificate = nothing_wrong f text none in
    let same : certificate.heading ≡ h = same_Some certificate.heading h (sym certificate.first ∙ ap heading_of at ∙ sym is) in
    shown_none f h.kind h.card kind (subst (λ (g : Heading). IsShown g.kind f g.card) same certificate.shown)

shows_own : (f : Function) (text line : List ℕ) (more : List (List ℕ)) (h : Heading) (found : Finding) → lines_of text ≡ line ∷ more → Some h ≡ heading_in line → fault_found found ≡ first_wrong f text
    → Finds (own_plan f).objects (subject_of f) h found → Shows f text found
shows_own f text line more h (Wrong n) at is fault finds = tt
shows_own f text line more h (Told keys) at is fault finds =
    record { card = h.card; card_told = card_is text line more h at is; given = given_are f h finds.rows keys finds.named finds.keys_told }
shows_own f text line more h NoKeys at is fault finds =
    record { card = h.card; card_told = card_is text line more h at is; none = none_are f text line more h at is finds (sym fault) }

pub shows : (f : Function) (text line : List ℕ) (more : List (List ℕ)) (h : Heading) (objects : List Object) (s : Subject) (found : Finding) → lines_of (drop 0 text) ≡ line ∷ more → Some h ≡ heading_in line → objects ≡ (own_plan f).objects
    → s ≡ subject_of f → fault_found found ≡ first_wrong f text → Finds objects s h found → Shows f text found
shows f text line more h objects s found at is own same fault finds =
    shows_own f text line more h found at is fault
    (subst (λ (t : Subject). Finds (own_plan f).objects t h found) same (subst (λ (o : List Object). Finds o s h found) own finds))
