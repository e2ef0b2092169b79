-- The invariant of a packet's course: each entry has the labels that are told of it, and each variable's entry was touched at a site.
use Rattle.std.proofs.Common.{append_assoc, ◌≡◌, ℕ, Bool, true, false, ◌==◌, ◌&&◌, List, [], ◌∷◌, ◌++◌, map, take, Option, Some, None, slice_set, if◌then◌else◌, refl, ap, sym, ◌∙◌, subst, inl, inr, eq-eqb, eqb-true, Contains}
use Rattle.std.specs.Option.{option_map}
use Rattle.std.proofs.lemmas.Option.{same_Some}
use Rattle.nf_base.specs.declared.packet.Door.{Door}
use Rattle.nf_base.specs.declared.packet.Fields.{Fields}
use Rattle.nf_base.specs.declared.state.Entry.{Entry}
use Rattle.nf_base.specs.declared.state.Chain.{Chain}
use Rattle.nf_base.specs.Text.{Operation, Touch, Free, Set, Write, Store, Given, Function}
use Rattle.nf_base.specs.Chains.{chain_at, joined, next_stamp, stamped, on_live, touched, freed, with_column, written}
use Rattle.nf_base.specs.Context.{EntryRef, Var, Context, Input, var_at, given}
use Rattle.nf_base.specs.Events.{Event}
use Rattle.nf_base.specs.Operations.{on_var, unless_at, without, after}
use Rattle.nf_base.specs.Locations.{Location, EntryNo, Numbers, one_more, after_made, numbers_after, all_numbers}
use Rattle.nf_base.specs.Record.{made_of}
use Rattle.nf_laws.proofs.Numbered.{numbers_append}
use Rattle.nf_base.specs.Step.{input}
use Rattle.nf_sites.specs.Named.{Named}
use Rattle.nf_sites.specs.Sites.{Site}
use Rattle.nf_sites.specs.Covers.{Table, AllGiven, label_value, AreTogether, FitsLabels, TouchedAt, TouchedBy, Binder}
use Rattle.nf_sites.specs.Labelled.{IsLabelled, AllLabelled, MadeAs}
use Rattle.nf_sites.proofs.Slots.{slot, slot_here, slot_there, which, at_slot, got_var, not_gone}

-- a function, the sites of the path that a packet takes, the numbers before it, a table, and the packet
pub record View : Type 0 where
  pub f : Function
  pub all : List Site
  pub start : Numbers
  pub table : Table
  pub door : Door
  pub time : ℕ
  pub fields : Fields

abbrev pub input_of : View → Input
input_of v = input v.f v.time v.fields

abbrev pub Covered : View → Location → Type 0
Covered v x = TouchedAt (λ s. Contains v.all s) v.f v.table (input_of v) v.door x

abbrev pub CoveredBy : View → List Event → Event → Location → Type 0
CoveredBy v before e x = TouchedBy (λ s. Contains v.all s) v.f v.table (input_of v) v.door v.start before e x

-- labels that are told, given where the entry's own are
pub fits_labels : (f : Function) (p : Input) (c : Context) (chain : ℕ) (told : Option (List ℕ)) (labels : List ℕ) (named : List (Named Given)) → IsLabelled f chain told labels → AllGiven p c (label_value labels) named → FitsLabels f p c chain told named
fits_labels f p c chain None labels named h a = tt
fits_labels f p c chain (Some told) labels named h a = (subst (λ ls. AllGiven p c (label_value ls) named) h.0 a, h.1)

pub made_labelled : (f : Function) (chain : ℕ) (told : Option (List ℕ)) (labels : List ℕ) → MadeAs told labels → AreTogether f chain labels → IsLabelled f chain told labels
made_labelled f chain None labels m t = tt
made_labelled f chain (Some told) labels m t = (m, subst (λ ls. AreTogether f chain ls) m t)

-- an entry's location, with an earlier event that touched it at a site
pub record Bound (v : View) (before : List Event) (chain k : ℕ) : Type 0 where
  pub covered : Covered v (EntryNo chain k)
  pub binder : Binder v.f.chains v.start before (EntryNo chain k) covered.site

pub record Live (v : View) (before : List Event) (ns : Numbers) (chains : List Chain) (at : EntryRef) : Type 0 where
  pub entry : Entry
  pub is : slot chains at.chain at.index ≡ Some (Some entry)
  pub seen : Bound v before at.chain (ns.entry_no at.chain at.index)

pub record Keeping (v : View) (before : List Event) (ns : Numbers) (chains : List Chain) (vars : List Var) : Type 0 where
  pub count : all_numbers v.start before ≡ ns
  pub entries : AllLabelled v.f v.table ns chains
  pub live : (k : ℕ) (at : EntryRef) → var_at vars k ≡ Some at → Live v before ns chains at

-- one event later
pub bound_past : (v : View) (before : List Event) (chain k : ℕ) (e : Event) → Bound v before chain k → Bound v (before ++ e ∷ []) chain k
bound_past v before chain k e b = record {
  covered = b.covered;
  binder = record {
    earlier = b.binder.earlier;
    event = b.binder.event;
    later = b.binder.later ++ e ∷ [];
    is_before = ap (λ es. es ++ e ∷ []) b.binder.is_before ∙ append_assoc b.binder.earlier (b.binder.event ∷ b.binder.later) (e ∷ []);
    touches = b.binder.touches;
    stands = b.binder.stands;
  };
}

pub counted : (v : View) (before : List Event) (ns : Numbers) (e : Event) → all_numbers v.start before ≡ ns → all_numbers v.start (before ++ e ∷ []) ≡ numbers_after ns e
counted v before ns e h = numbers_append v.start before (e ∷ []) ∙ ap (λ n. numbers_after n e) h

pub past : (v : View) (before : List Event) (ns : Numbers) (chains : List Chain) (vars : List Var) (e : Event) → made_of e ≡ None → Keeping v before ns chains vars → Keeping v (before ++ e ∷ []) ns chains vars
past v before ns chains vars e none a = record {
  count = counted v before ns e a.count ∙ ap (λ o. after_made o ns) none;
  entries = a.entries;
  live = λ k at q. let b = a.live k at q in record { entry = b.entry; is = b.is; seen = bound_past v before at.chain (ns.entry_no at.chain at.index) e b.seen };
}

-- a slot that was set to an entry
is_entry : (chains : List Chain) (k i : ℕ) (e f : Entry) (ch : Chain) → ch.slots ≡ slice_set (chain_at chains k).slots i (Some f) → slot chains k i ≡ Some (Some e) → slot (slice_set chains k ch) k i ≡ Some (Some f)
is_entry chains k i e f ch s at = slot_here chains k i (Some f) ch s ∙ ap (option_map (λ _. Some f)) at

some_some : {A : Type 0} (x y : A) → ◌≡◌ {A = Option (Option A)} (Some (Some x)) (Some (Some y)) → x ≡ y
some_some x y e = same_Some x y (same_Some _ _ e)

-- an entry changed, but for its labels
pub keeping_relabel : (v : View) (before : List Event) (ns : Numbers) (chains : List Chain) (vars : List Var) (k i : ℕ) (e f : Entry) (ch : Chain) → Keeping v before ns chains vars → slot chains k i ≡ Some (Some e) → ch.slots ≡ slice_set (chain_at chains k).slots i (Some f) → f.labels ≡ e.labels → Keeping v before ns (slice_set chains k ch) vars
keeping_relabel v before ns chains vars k i e f ch a at s same =
    let now : slot (slice_set chains k ch) k i ≡ Some (Some f) = is_entry chains k i e f ch s at in
    record {
      count = a.count;
      entries = λ j l x h. elim (which k j i l) [
        | inl q ↦ at_slot (λ j l. (x : Entry) → slot (slice_set chains k ch) j l ≡ Some (Some x) → IsLabelled v.f j (v.table j (ns.entry_no j l)) x.labels) k j i l q.0 q.1
            (λ x h. subst (λ ls. IsLabelled v.f k (v.table k (ns.entry_no k i)) ls) (sym same ∙ sym (ap (λ (y : Entry). y.labels) (some_some x f (sym h ∙ now)))) (a.entries k i e at)) x h
        | inr ne ↦ a.entries j l x (sym (slot_there chains k i j l (Some f) ch s ne) ∙ h)
      ];
      live = λ var w h. let b = a.live var w h in elim (which k w.chain i w.index) [
        | inl q ↦ record { entry = f; is = at_slot (λ j l. slot (slice_set chains k ch) j l ≡ Some (Some f)) k w.chain i w.index q.0 q.1 now; seen = b.seen }
        | inr ne ↦ record { entry = b.entry; is = slot_there chains k i w.chain w.index (Some f) ch s ne ∙ b.is; seen = b.seen }
      ];
    }

no_entry : (o : Option (Option Entry)) (x : Entry) → option_map (λ _. None) o ≡ Some (Some x) → ⊥
no_entry None x e = cc
no_entry (Some y) x e = cc

pub keeping_free : (v : View) (before : List Event) (ns : Numbers) (chains : List Chain) (vars : List Var) (gone : EntryRef) (ch : Chain) → Keeping v before ns chains vars → ch.slots ≡ slice_set (chain_at chains gone.chain).slots gone.index None → Keeping v before ns (slice_set chains gone.chain ch) (map (unless_at gone) vars)
keeping_free v before ns chains vars gone ch a s = record {
  count = a.count;
  entries = λ j l x h. elim (which gone.chain j gone.index l) [
    | inl q ↦ absurd (at_slot (λ j l. slot (slice_set chains gone.chain ch) j l ≡ Some (Some x) → ⊥) gone.chain j gone.index l q.0 q.1
        (λ h. no_entry (slot chains gone.chain gone.index) x (sym (slot_here chains gone.chain gone.index None ch s) ∙ h)) h)
    | inr ne ↦ a.entries j l x (sym (slot_there chains gone.chain gone.index j l None ch s ne) ∙ h)
  ];
  live = λ var w h.
      let q = not_gone gone vars var w h in
      let b = a.live var w q.0 in
      record { entry = b.entry; is = slot_there chains gone.chain gone.index w.chain w.index None ch s q.1 ∙ b.is; seen = b.seen };
}

-- the numbers after an entry is made
pub number_here : (chain i : ℕ) (ns : Numbers) → (one_more chain i ns).entry_no chain i ≡ ns.made chain
number_here chain i ns = rw (eq-eqb chain chain refl, eq-eqb i i refl) refl

number_if : (chain i j l x y : ℕ) (a b : Bool) → j == chain ≡ a → l == i ≡ b → (chain ≡ j → i ≡ l → ⊥) → (if a && b then x else y) ≡ y
number_if chain i j l x y true true p q ne = absurd (ne (sym (eqb-true j chain p)) (sym (eqb-true l i q)))
number_if chain i j l x y true false p q ne = refl
number_if chain i j l x y false b p q ne = refl

pub number_there : (chain i j l : ℕ) (ns : Numbers) → (chain ≡ j → i ≡ l → ⊥) → (one_more chain i ns).entry_no j l ≡ ns.entry_no j l
number_there chain i j l ns ne = number_if chain i j l (ns.made j) (ns.entry_no j l) (j == chain) (l == i) refl refl ne

pub keeping_made : (v : View) (before : List Event) (ns : Numbers) (chains : List Chain) (vars : List Var) (k i : ℕ) (f : Entry) (ch : Chain) (e : Event) (labels : List ℕ) → made_of e ≡ Some (record { chain = k; labels = labels; index = i }) →
    Keeping v before ns chains vars → slot chains k i ≡ Some None → ch.slots ≡ slice_set (chain_at chains k).slots i (Some f) → IsLabelled v.f k (v.table k (ns.made k)) f.labels → Keeping v (before ++ e ∷ []) (one_more k i ns) (slice_set chains k ch) vars
keeping_made v before ns chains vars k i f ch e labels made a gap s labelled =
    let now : slot (slice_set chains k ch) k i ≡ Some (Some f) = slot_here chains k i (Some f) ch s ∙ ap (option_map (λ _. Some f)) gap in
    let told : IsLabelled v.f k (v.table k ((one_more k i ns).entry_no k i)) f.labels = subst (λ n. IsLabelled v.f k (v.table k n) f.labels) (sym (number_here k i ns)) labelled in
    record {
      count = counted v before ns e a.count ∙ ap (λ o. after_made o ns) made;
      entries = λ j l x h. elim (which k j i l) [
        | inl q ↦ at_slot (λ j l. (x : Entry) → slot (slice_set chains k ch) j l ≡ Some (Some x) → IsLabelled v.f j (v.table j ((one_more k i ns).entry_no j l)) x.labels) k j i l q.0 q.1
            (λ x h. subst (λ ls. IsLabelled v.f k (v.table k ((one_more k i ns).entry_no k i)) ls) (sym (ap (λ (y : Entry). y.labels) (some_some x f (sym h ∙ now)))) told) x h
        | inr ne ↦ subst (λ n. IsLabelled v.f j (v.table j n) x.labels) (sym (number_there k i j l ns ne)) (a.entries j l x (sym (slot_there chains k i j l (Some f) ch s ne) ∙ h))
      ];
      live = λ var w h. let b = a.live var w h in elim (which k w.chain i w.index) [
        | inl q ↦ absurd (at_slot (λ j l. slot chains j l ≡ Some (Some b.entry) → ⊥) k w.chain i w.index q.0 q.1 (λ h. none_there gap h) b.is)
        | inr ne ↦ record {
          entry = b.entry;
          is = slot_there chains k i w.chain w.index (Some f) ch s ne ∙ b.is;
          seen = subst (λ n. Bound v (before ++ e ∷ []) w.chain n) (sym (number_there k i w.chain w.index ns ne)) (bound_past v before w.chain (ns.entry_no w.chain w.index) e b.seen);
        }
      ];
    }
  where
    none_there : {o : Option (Option Entry)} {x : Entry} → o ≡ Some None → o ≡ Some (Some x) → ⊥
    none_there g h = cc

pub keeping_bind : (v : View) (before : List Event) (ns : Numbers) (chains : List Chain) (vars : List Var) (var : ℕ) (at : EntryRef) → Keeping v before ns chains vars → Live v before ns chains at → Keeping v before ns chains (take var vars ++ Some at ∷ [])
keeping_bind v before ns chains vars var at a here = record {
  count = a.count;
  entries = a.entries;
  live = λ k w h. elim (got_var vars var k (Some at) w h) [
    | inl q ↦ subst (λ (x : EntryRef). Live v before ns chains x) (same_Some at w q) here
    | inr q ↦ a.live k w q
  ];
}

-- an operation at a variable's index
keeping_on : (v : View) (before : List Event) (ns : Numbers) (chains : List Chain) (vars : List Var) (op : ℕ → Chain → Chain) (o : Var) → Keeping v before ns chains vars → ((at : EntryRef) → o ≡ Some at → Keeping v before ns (slice_set chains at.chain (op at.index (chain_at chains at.chain))) vars) → Keeping v before ns (on_var op o chains) vars
keeping_on v before ns chains vars op None a h = a
keeping_on v before ns chains vars op (Some at) a h = h at refl

keeping_off : (v : View) (before : List Event) (ns : Numbers) (chains : List Chain) (vars : List Var) (o : Var) → Keeping v before ns chains vars → Keeping v before ns (on_var freed o chains) (without o vars)
keeping_off v before ns chains vars None a = a
keeping_off v before ns chains vars (Some at) a = keeping_free v before ns chains vars at (freed at.index (chain_at chains at.chain)) a refl

pub keeping_op : (v : View) (before : List Event) (ns : Numbers) (c : Context) (op : Operation) → Keeping v before ns c.state.chains c.vars → Keeping v before ns (after (input_of v) c op).state.chains (after (input_of v) c op).vars
keeping_op v before ns c (Touch var) a =
    let chains = c.state.chains in
    keeping_on v before ns chains c.vars (touched v.time) (var_at c.vars var) a (λ at q.
    let b = a.live var at q in
    let ch = chain_at chains at.chain in
    keeping_relabel v before ns chains c.vars at.chain at.index b.entry (record b.entry { stamp = next_stamp v.time ch }) (touched v.time at.index ch) a b.is
    (ap (λ (o : Option Entry). (on_live (stamped v.time at.index) o ch).slots) (ap joined b.is)) refl)
keeping_op v before ns c (Free var) a = keeping_off v before ns c.state.chains c.vars (var_at c.vars var) a
keeping_op v before ns c (Set field g) a = a
keeping_op v before ns c (Write var column g) a =
    let chains = c.state.chains in
    let x = given (input_of v) c g in
    keeping_on v before ns chains c.vars (written column x) (var_at c.vars var) a (λ at q.
    let b = a.live var at q in
    let ch = chain_at chains at.chain in
    keeping_relabel v before ns chains c.vars at.chain at.index b.entry (record b.entry { columns = slice_set b.entry.columns column x }) (written column x at.index ch) a b.is
    (ap (λ (o : Option Entry). (on_live (with_column column x at.index) o ch).slots) (ap joined b.is)) refl)
keeping_op v before ns c (Store place array at g) a = a
