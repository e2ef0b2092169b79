-- The labels that a run's entries are made with, and what its packets touch.
use Rattle.std.proofs.Common.{◌≡◌, ℕ, zero, suc, Bool, true, false, ◌==◌, eq-eqb, List, [], ◌∷◌, ◌++◌, length, length-append, get_or, append_assoc, append-nil, map, replicate, Contains, Option, Some, None, slice_get, if◌then◌else◌, refl, ap, sym, ◌∙◌, subst, arith, inl, inr}
use Rattle.std.specs.Option.{option_and_then}
use Rattle.std.proofs.lemmas.Option.{same_Some}
use Rattle.std.proofs.lemmas.List.{get_or_at}
use Rattle.nf_base.specs.Families.{door_of}
use Rattle.nf_base.specs.declared.packet.Packet.{Packet}
use Rattle.nf_base.specs.declared.packet.Fields.{Fields}
use Rattle.nf_base.specs.declared.decl.ChainDecl.{ChainDecl}
use Rattle.nf_base.specs.declared.state.Entry.{Entry}
use Rattle.nf_base.specs.declared.state.State.{State}
use Rattle.nf_base.specs.declared.done.Done.{Done}
use Rattle.nf_base.specs.Text.{Function}
use Rattle.nf_base.specs.Events.{Event}
use Rattle.nf_base.specs.Operations.{never}
use Rattle.nf_base.specs.Record.{NewEntry, made_of}
use Rattle.nf_base.specs.Step.{StepResult, input, step, recorded, record_of, opening, opening_chain}
use Rattle.nf_base.specs.Locations.{Location, Numbers, no_numbers, after_made, numbers_after, all_numbers, locations}
use Rattle.nf_base.specs.Runs.{Handling, RunResult, with_answer, run, Report, report_of, reports, if_stepped, numbers_if, numbers_of}
use Rattle.nf_laws.proofs.Listed.{has, has_none}
use Rattle.nf_sites.specs.Covers.{Table, TouchedAt}
use Rattle.nf_sites.specs.Labelled.{AllLabelled, IsListed, Listed, labels_made, labels_in, labels_if, labels_run, run_labels, told}
use Rattle.nf_sites.specs.CoverLaws.{IsOf, EntriesKeepTheirLabels, RunsAreCovered}
use Rattle.nf_sites.proofs.Slots.{slot}
use Rattle.nf_sites.proofs.Going.{Taken, went, wider, in_function}

-- entries are counted as they are listed
count_if : (b : Bool) (n : ℕ) (before : List (List ℕ)) (labels : List ℕ) → n ≡ length before → (if b then suc n else n) ≡ length (before ++ (if b then labels ∷ [] else []))
count_if true n before labels h = omega (arith, h, length-append before (labels ∷ []))
count_if false n before labels h = h ∙ ap length (sym (append-nil before))

made_count : (chain : ℕ) (ns : Numbers) (before : List (List ℕ)) (o : Option NewEntry) → ns.made chain ≡ length before → (after_made o ns).made chain ≡ length (before ++ labels_made chain o)
made_count chain ns before None h = h ∙ ap length (sym (append-nil before))
made_count chain ns before (Some made) h = count_if (chain == made.chain) (ns.made chain) before made.labels h

all_count : (chain : ℕ) (ns : Numbers) (before : List (List ℕ)) (es : List Event) → ns.made chain ≡ length before → (all_numbers ns es).made chain ≡ length (before ++ labels_in chain es)
all_count chain ns before [] h = h ∙ ap length (sym (append-nil before))
all_count chain ns before (e ∷ es) h =
    all_count chain (numbers_after ns e) (before ++ labels_made chain (made_of e)) es (made_count chain ns before (made_of e) h) ∙ ap length (append_assoc before (labels_made chain (made_of e)) (labels_in chain es))

-- of each chain, the labels of what was made so far, and then those of the rest
abbrev Follows : ((chain k : ℕ) → List ℕ) → (ℕ → List (List ℕ)) → (ℕ → List (List ℕ)) → Type 0
Follows labels before after = (chain k : ℕ) → labels chain k ≡ get_or (before chain ++ after chain) k []

one_listed : (labels : (chain k : ℕ) → List ℕ) (ns : Numbers) (before after : ℕ → List (List ℕ)) (o : Option NewEntry) → Follows labels before (λ chain. labels_made chain o ++ after chain) → ((chain : ℕ) → ns.made chain ≡ length (before chain)) → IsListed (told labels) ns o
one_listed labels ns before after None a h = tt
one_listed labels ns before after (Some made) a h =
    let chain = made.chain in
    let same : labels_made chain (Some made) ≡ made.labels ∷ [] = rw (eq-eqb chain chain refl) refl in
    sym (a chain (ns.made chain) ∙ ap (λ ls. get_or (before chain ++ (ls ++ after chain)) (ns.made chain) []) same ∙ get_or_at (before chain) made.labels (after chain) [] (ns.made chain) (sym (h chain)))

all_listed : (labels : (chain k : ℕ) → List ℕ) (ns : Numbers) (before after : ℕ → List (List ℕ)) (es : List Event) → Follows labels before (λ chain. labels_in chain es ++ after chain) → ((chain : ℕ) → ns.made chain ≡ length (before chain)) → Listed (told labels) ns es
all_listed labels ns before after [] a h = tt
all_listed labels ns before after (e ∷ es) a h =
    let later = λ (chain : ℕ). labels_in chain es ++ after chain in
    let b : Follows labels before (λ chain. labels_made chain (made_of e) ++ later chain) = λ chain k. a chain k ∙ ap (λ xs. get_or (before chain ++ xs) k []) (append_assoc (labels_made chain (made_of e)) (labels_in chain es) (after chain)) in (
      one_listed labels ns before later (made_of e) b h,
      all_listed labels (numbers_after ns e) (λ chain. before chain ++ labels_made chain (made_of e)) after es
          (λ chain k. b chain k ∙ ap (λ xs. get_or xs k []) (sym (append_assoc (before chain) (labels_made chain (made_of e)) (later chain))))
          (λ chain. made_count chain ns (before chain) (made_of e) (h chain)),
    )

-- what follows a packet that has a step
follows_on : (labels : (chain k : ℕ) → List ℕ) (f : Function) (s : State) (before : ℕ → List (List ℕ)) (h : Handling) (hs : List Handling) (r : StepResult) → Follows labels before (λ chain. labels_run chain f s (h ∷ hs)) → step f s h.packet h.choices ≡ Some r →
    Follows labels (λ chain. before chain ++ labels_in chain (recorded f s h.packet h.choices)) (λ chain. labels_run chain f r.state hs)
follows_on labels f s before h hs r a e chain k =
    let made = labels_in chain (recorded f s h.packet h.choices) in
    a chain k
    ∙ ap (λ (o : Option StepResult). get_or (before chain ++ (made ++ labels_if o (λ next. labels_run chain f next hs))) k []) e
    ∙ ap (λ xs. get_or xs k []) (sym (append_assoc (before chain) made (labels_run chain f r.state hs)))

-- each packet of a run, up to and with the first that has no step
next_report : (o : Option StepResult) (go : State → List Report) (a : Report) (P : Type 0) → Contains (if_stepped o go) a → ((r : StepResult) → o ≡ Some r → Contains (go r.state) a → P) → P
next_report None go a P h f = absurd (has_none a h)
next_report (Some r) go a P h f = f r refl h

record Seen (f : Function) (table : Table) (packet : Packet) (x : Location) : Type 0 where
  pub fields : Fields
  pub handled : packet.fields ≡ Some fields
  pub touched : TouchedAt (IsOf f) f table (input f packet.time fields) (door_of packet.id.port fields) x

-- a packet that touches something is handled
of_handled : (f : Function) (s : State) (ns : Numbers) (packet : Packet) (choices : List ℕ) (o : Option Fields) (x : Location) → Contains (locations f.chains ns (record_of never f s packet choices o)) x → (q : Fields) × (o ≡ Some q)
of_handled f s ns packet choices None x h = absurd (has_none x h)
of_handled f s ns packet choices (Some q) x h = (q, refl)

run_covered : (f : Function) (labels : (chain k : ℕ) → List ℕ) (hs : List Handling) (s : State) (ns : Numbers) (before : ℕ → List (List ℕ)) → AllLabelled f (told labels) ns s.chains → Follows labels before (λ chain. labels_run chain f s hs) → ((chain : ℕ) → ns.made chain ≡ length (before chain)) →
    (a : Report) (x : Location) → Contains (reports f s ns hs) a → Contains a.touched x → Seen f (told labels) a.packet x
run_covered f labels [] s ns before labelled follows count a x h i = absurd (has_none a h)
run_covered f labels (t ∷ hs) s ns before labelled follows count a x h i =
    let es = recorded f s t.packet t.choices in
    let after = λ (chain : ℕ). labels_if (step f s t.packet t.choices) (λ next. labels_run chain f next hs) in
    let w = went f (told labels) s ns t.packet t.choices t.packet.fields labelled (all_listed labels ns before after es follows count) in
    elim (has (report_of f s ns t) (if_stepped (step f s t.packet t.choices) (λ next. reports f next (all_numbers ns es) hs)) a h) [
      | inl e ↦ subst (λ (b : Report). Contains b.touched x → Seen f (told labels) b.packet x) e
          (λ j.
          let q = of_handled f s ns t.packet t.choices t.packet.fields x j in
          record {
            fields = q.0;
            handled = q.1;
            touched = wider (Taken f s t.packet t.choices t.packet.fields) (IsOf f) f (told labels) t.packet q.0 x (in_function f s t.packet t.choices t.packet.fields) (w.seen q.0 q.1 x j);
          }) i
      | inr j ↦ next_report (step f s t.packet t.choices) (λ next. reports f next (all_numbers ns es) hs) a (Seen f (told labels) a.packet x) j (λ r e k.
          run_covered f labels hs r.state (all_numbers ns es) (λ chain. before chain ++ labels_in chain es) (w.kept r e) (follows_on labels f s before t hs r follows e)
          (λ chain. all_count chain ns (before chain) es (count chain)) a x k i)
    ]

-- no entry stands at the start
empty_slot : (size i : ℕ) (e : Entry) → slice_get (replicate {A = Option Entry} size None) i ≡ Some (Some e) → ⊥
empty_slot zero i e h = cc
empty_slot (suc size) zero e h = cc
empty_slot (suc size) (suc i) e h = empty_slot size i e h

no_entries : (decls : List ChainDecl) (chain i : ℕ) (e : Entry) → slot (map opening_chain decls) chain i ≡ Some (Some e) → ⊥
no_entries [] chain i e h = cc
no_entries (d ∷ decls) zero i e h = empty_slot d.size i e h
no_entries (d ∷ decls) (suc chain) i e h = no_entries decls chain i e h

pub runs_covered : RunsAreCovered
runs_covered f hs a x h i =
    let w = run_covered f (run_labels f hs) hs (opening f) no_numbers (λ _. []) (λ chain j e k. absurd (no_entries f.chains chain j e k)) (λ chain k. refl) (λ chain. refl) a x h i in
    record { fields = w.fields; handled = w.handled; touched = w.touched }

-- the entries at the end of a run
ran_on : (done : Done) (o : Option RunResult) (r : RunResult) → with_answer done o ≡ Some r → (q : RunResult) × (o ≡ Some q) × (r.state ≡ q.state)
ran_on done None r e = cc
ran_on done (Some q) r e = (q, refl, ap (λ (x : RunResult). x.state) (sym (same_Some _ _ e)))

ran_next : (o : Option StepResult) (go : StepResult → Option RunResult) (r : RunResult) → option_and_then (λ (next : StepResult). with_answer next.done (go next)) o ≡ Some r →
    (next : StepResult) × (q : RunResult) × (o ≡ Some next) × (go next ≡ Some q) × (r.state ≡ q.state)
ran_next None go r e = cc
ran_next (Some next) go r e = let w = ran_on next.done (go next) r e in (next, w.0, refl, w.1, w.2)

run_labelled : (f : Function) (labels : (chain k : ℕ) → List ℕ) (hs : List Handling) (s : State) (ns : Numbers) (before : ℕ → List (List ℕ)) (r : RunResult) → AllLabelled f (told labels) ns s.chains → Follows labels before (λ chain. labels_run chain f s hs) → ((chain : ℕ) → ns.made chain ≡ length (before chain)) →
    run f s hs ≡ Some r → AllLabelled f (told labels) (numbers_of f s ns hs) r.state.chains
run_labelled f labels [] s ns before r labelled follows count e = subst (λ (x : RunResult). AllLabelled f (told labels) ns x.state.chains) (same_Some _ _ e) labelled
run_labelled f labels (t ∷ hs) s ns before r labelled follows count e =
    let es = recorded f s t.packet t.choices in
    let after = λ (chain : ℕ). labels_if (step f s t.packet t.choices) (λ next. labels_run chain f next hs) in
    let w = went f (told labels) s ns t.packet t.choices t.packet.fields labelled (all_listed labels ns before after es follows count) in
    let n = ran_next (step f s t.packet t.choices) (λ (next : StepResult). run f next.state hs) r e in
    let last = run_labelled f labels hs n.0.state (all_numbers ns es) (λ chain. before chain ++ labels_in chain es) n.1 (w.kept n.0 n.2) (follows_on labels f s before t hs n.0 follows n.2)
    (λ chain. all_count chain ns (before chain) es (count chain)) n.3 in
    let numbers : numbers_of f s ns (t ∷ hs) ≡ numbers_of f n.0.state (all_numbers ns es) hs = ap (λ (o : Option StepResult). numbers_if (all_numbers ns es) o (λ next. numbers_of f next (all_numbers ns es) hs)) n.2 in
    subst (λ (x : State). AllLabelled f (told labels) (numbers_of f s ns (t ∷ hs)) x.chains) (sym n.4) (subst (λ (x : Numbers). AllLabelled f (told labels) x n.1.state.chains) (sym numbers) last)

pub labels_kept : EntriesKeepTheirLabels
labels_kept f hs r e = run_labelled f (run_labels f hs) hs (opening f) no_numbers (λ _. []) r (λ chain i x h. absurd (no_entries f.chains chain i x h)) (λ chain k. refl) (λ chain. refl) e
