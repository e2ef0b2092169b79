-- Each location that a packet touches, it touches at a site of the path that it takes.
use Rattle.std.proofs.Common.{◌≡◌, ℕ, suc, ◌+◌, Bool, true, false, List, [], ◌∷◌, ◌++◌, map, drop, Contains, Option, Some, None, slice_get, slice_set, if◌then◌else◌, refl, ap, sym, ◌∙◌, subst, eq-eqb, arith, not, ◌==◌, ◌⊎◌, inl, inr}
use Rattle.std.specs.Option.{option_map, option_and_then}
use Rattle.std.proofs.lemmas.Option.{same_Some}
use Rattle.std.proofs.lemmas.List.Elements.{Contains-append_left, Contains-append_right}
use Rattle.nf_base.specs.declared.packet.Door.{Door}
use Rattle.nf_base.specs.declared.state.Entry.{Entry}
use Rattle.nf_base.specs.declared.state.Chain.{Chain}
use Rattle.nf_base.specs.declared.decl.MapDecl.{MapDecl}
use Rattle.nf_base.specs.declared.width.Width.TheVariants.{W16}
use Rattle.nf_base.specs.Text.{Expression, Number, Read, Index, Label, Column, Cell, Both, Given, Guard, FallsOff, Forward, Flood, Discard, Operation, Touch, Free, Set, Write, Store, Question, Get, Find, Test, Creation, Block, End, Do, Ask, Make}
use Rattle.nf_base.specs.Values.{narrowed, compares}
use Rattle.nf_base.specs.Chains.{chain_at, array_at, maps_of, key_in, found, joined, stamped, next_stamp}
use Rattle.nf_base.specs.Context.{Context, EntryRef, Var, Input, value, given, var_at, entry_in, has_labels}
use Rattle.nf_base.specs.Operations.{Stops, NewResult, Made, Taken, Full, Illegal, Stopped, new_result, new_entry, with_new, answer, after, bound, key_found, index_found, index_if}
use Rattle.nf_base.specs.Events.{Event, Tested, LookedUp, Found, AskedNew, used, frees, loads, stores, reads, reads_all, reads_guards, restamps_at, rewrites, did, asked, EntryUsed, EntryFreed, CellRead, CellWritten}
use Rattle.nf_base.specs.Record.{made_by, made_of}
use Rattle.nf_base.specs.Course.{Completion, Normal, Ended, NoStep, StoppedAt, and_then, if_hit, if_new, exec, events, route}
use Rattle.nf_base.specs.Paths.{PathStep, Doing, Asking, Making, Closing}
use Rattle.nf_base.specs.Locations.{Location, EntryNo, KeyOf, CellAt, Numbers, one_more, numbers_after, all_numbers, keys_from, keys_of, entry_if, locations_of, entry_made}
use Rattle.nf_laws.proofs.Listed.{here, there}
use Rattle.nf_laws.proofs.Found.{is_first}
use Rattle.nf_laws.proofs.Answered.{news_answer}
use Rattle.nf_laws.proofs.Consumed.{then_then}
use Rattle.nf_laws.proofs.Plain.{question_event}
use Rattle.nf_sites.specs.declared.sort.Sort.TheVariants as sort
use Rattle.nf_sites.specs.Named.{numbered}
use Rattle.nf_sites.specs.ReadOrder.{by_first_read}
use Rattle.nf_sites.specs.Sites.{Site, first_in, first_label, cell_site, expression_sites, given_sites, guard_sites, operation_sites, get_site, find_site, question_sites, new_site, name_site, name_sites, statement_sites}
use Rattle.nf_sites.specs.OnPaths.{statement_of}
use Rattle.nf_sites.specs.Covers.{AllGiven, label_value, AreTogether, StandsBy}
use Rattle.nf_sites.specs.Labelled.{MadeAs, Listed, AllLabelled}
use Rattle.nf_sites.proofs.Slots.{slot, slot_here}
use Rattle.nf_sites.proofs.Sorting.{sorted_to}
use Rattle.nf_sites.proofs.Givens.{map_numbered, drop_at, given_key, given_labels, given_guards, key_given}
use Rattle.nf_sites.proofs.Keeping.{View, input_of, Covered, CoveredBy, fits_labels, made_labelled, Bound, Live, Keeping, keeping_made, keeping_bind, keeping_op, number_here, past}

-- some sites are among those of the path
abbrev pub In : List Site → List Site → Type 0
In all xs = (x : Site) → Contains xs x → Contains all x

first_in_all : (all : List Site) (s : Site) (xs : List Site) → In all (s ∷ xs) → Contains all s
first_in_all all s xs h = h s (here s xs)

rest_in : (all : List Site) (s : Site) (xs : List Site) → In all (s ∷ xs) → In all xs
rest_in all s xs h = λ x i. h x (there s xs x i)

left_in : (all xs ys : List Site) → In all (xs ++ ys) → In all xs
left_in all xs ys h = λ x i. h x (Contains-append_left xs ys x i)

right_in : (all xs ys : List Site) → In all (xs ++ ys) → In all ys
right_in all xs ys h = λ x i. h x (Contains-append_right xs ys x i)

-- a step of a path is of the text: a `new` on it sets labels that are together alike
abbrev pub IsOfText : View → PathStep → Type 0
IsOfText v (Making n b) = (c : Context) → AreTogether v.f n.chain (map (given (input_of v) c) n.labels)
IsOfText v (Asking q b) = Unit {0}
IsOfText v (Doing op) = Unit {0}
IsOfText v (Closing e) = Unit {0}

abbrev pub On : View → List PathStep → Type 0
On v [] = Unit {0}
On v (s ∷ ss) = In v.all (statement_sites v.f.chains v.door (statement_of s)) × IsOfText v s × On v ss

abbrev pub AllCovered : View → List Event → Event → List Location → Type 0
AllCovered v before e [] = Unit {0}
AllCovered v before e (x ∷ xs) = CoveredBy v before e x × AllCovered v before e xs

abbrev pub EachCovered : View → List Event → Numbers → List Event → Type 0
EachCovered v before ns [] = Unit {0}
EachCovered v before ns (e ∷ es) = AllCovered v before e (locations_of v.f.chains ns e) × EachCovered v (before ++ e ∷ []) (numbers_after ns e) es

abbrev pub Keeps : View → Numbers → Completion → Type 0
Keeps v ns (Normal c) = AllLabelled v.f v.table ns c.state.chains
Keeps v ns (Ended a c) = AllLabelled v.f v.table ns c.state.chains
Keeps v ns NoStep = Unit {0}
Keeps v ns (StoppedAt chain left) = Unit {0}

-- Of a record behind other events, and how its course completes: where the table lists what it makes, its locations are covered, and the invariant holds at the end.
abbrev pub Good : View → List Event → Numbers → Completion → List Event → Type 0
Good v before ns w es = Listed v.table ns es → EachCovered v before ns es × Keeps v (all_numbers ns es) w

-- the same, behind whatever events the invariant holds
abbrev pub Then : View → Numbers → Context → Completion → List Event → Type 0
Then v ns c w es = (before : List Event) → Keeping v before ns c.state.chains c.vars → Good v before ns w es

-- an access in front of a record
used_ahead : (v : View) (before : List Event) (ns : Numbers) (c : Context) (w : Completion) (changed : Bool) (var : ℕ) (es : List Event) → Keeping v before ns c.state.chains c.vars → Then v ns c w es → Good v before ns w (used changed (var_at c.vars var) es)
used_ahead v before ns c w changed var es a g = by_var (var_at c.vars var) (λ at q. (a.live var at q).seen)
  where
    by_var : (o : Var) → ((at : EntryRef) → o ≡ Some at → Bound v before at.chain (ns.entry_no at.chain at.index)) → Good v before ns w (used changed o es)
    by_var None h = g before a
    by_var (Some at) h = λ t.
        let e = EntryUsed at.chain at.index changed in
        let r = g (before ++ e ∷ []) (past v before ns c.state.chains c.vars e refl a) t.1 in
        (((record { touched = (h at refl).covered; stands = (h at refl).binder }, tt), r.0), r.1)

frees_ahead : (v : View) (before : List Event) (ns : Numbers) (c : Context) (w : Completion) (var : ℕ) (es : List Event) → Keeping v before ns c.state.chains c.vars → Then v ns c w es → Good v before ns w (frees (var_at c.vars var) es)
frees_ahead v before ns c w var es a g = by_var (var_at c.vars var) (λ at q. (a.live var at q).seen)
  where
    by_var : (o : Var) → ((at : EntryRef) → o ≡ Some at → Bound v before at.chain (ns.entry_no at.chain at.index)) → Good v before ns w (frees o es)
    by_var None h = g before a
    by_var (Some at) h = λ t.
        let e = EntryFreed at.chain at.index in
        let r = g (before ++ e ∷ []) (past v before ns c.state.chains c.vars e refl a) t.1 in
        (((record { touched = (h at refl).covered; stands = (h at refl).binder }, tt), r.0), r.1)

abbrev read_covered : (v : View) (c : Context) (place array : ℕ) (at : Expression) → Contains v.all (cell_site v.door sort.Load place array at) → Covered v (CellAt array (narrowed W16 (value (input_of v) c at)))
read_covered v c place array at h = record { site = cell_site v.door sort.Load place array at; is_site = h; door = refl; object = refl; context = c; fits = (refl, (refl, tt)) }

abbrev write_covered : (v : View) (c : Context) (place array : ℕ) (at : Expression) → Contains v.all (cell_site v.door sort.Store place array at) → Covered v (CellAt array (narrowed W16 (value (input_of v) c at)))
write_covered v c place array at h = record { site = cell_site v.door sort.Store place array at; is_site = h; door = refl; object = refl; context = c; fits = (refl, (refl, tt)) }

loads_ahead : (v : View) (before : List Event) (ns : Numbers) (c : Context) (w : Completion) (place array : ℕ) (at : Expression) (cell : Option ℕ) (es : List Event) → Keeping v before ns c.state.chains c.vars → Contains v.all (cell_site v.door sort.Load place array at) → Then v ns c w es →
    Good v before ns w (loads place array (narrowed W16 (value (input_of v) c at)) cell es)
loads_ahead v before ns c w place array at None es a h g = g before a
loads_ahead v before ns c w place array at (Some x) es a h g = λ t.
    let e = CellRead place array (narrowed W16 (value (input_of v) c at)) in
    let r = g (before ++ e ∷ []) (past v before ns c.state.chains c.vars e refl a) t.1 in
    (((record { touched = read_covered v c place array at h; stands = record { place = refl; own = refl } }, tt), r.0), r.1)

stores_ahead : (v : View) (before : List Event) (ns : Numbers) (c : Context) (w : Completion) (place array : ℕ) (at : Expression) (x : ℕ) (cell : Option ℕ) (es : List Event) → Keeping v before ns c.state.chains c.vars → Contains v.all (cell_site v.door sort.Store place array at) → Then v ns c w es →
    Good v before ns w (stores place array (narrowed W16 (value (input_of v) c at)) x cell es)
stores_ahead v before ns c w place array at x None es a h g = g before a
stores_ahead v before ns c w place array at x (Some old) es a h g = λ t.
    let e = CellWritten place array (narrowed W16 (value (input_of v) c at)) (not (old == x)) in
    let r = g (before ++ e ∷ []) (past v before ns c.state.chains c.vars e refl a) t.1 in
    (((record { touched = write_covered v c place array at h; stands = record { place = refl; own = refl } }, tt), r.0), r.1)

reads_ahead : (v : View) (before : List Event) (ns : Numbers) (c : Context) (w : Completion) (e : Expression) (es : List Event) → Keeping v before ns c.state.chains c.vars → In v.all (expression_sites v.door e) → Then v ns c w es → Good v before ns w (reads (input_of v) c e es)
reads_ahead v before ns c w (Number n) es a h g = g before a
reads_ahead v before ns c w (Read field) es a h g = g before a
reads_ahead v before ns c w (Index var) es a h g = used_ahead v before ns c w false var es a g
reads_ahead v before ns c w (Label var label) es a h g = used_ahead v before ns c w false var es a g
reads_ahead v before ns c w (Column var column) es a h g = used_ahead v before ns c w false var es a g
reads_ahead v before ns c w (Cell place array at) es a h g =
    let i = narrowed W16 (value (input_of v) c at) in
    let site = cell_site v.door sort.Load place array at in
    reads_ahead v before ns c w at (loads place array i (slice_get (array_at c.state.arrays array) i) es) a (rest_in v.all site (expression_sites v.door at) h)
    (λ later b. loads_ahead v later ns c w place array at (slice_get (array_at c.state.arrays array) i) es b (first_in_all v.all site (expression_sites v.door at) h) g)
reads_ahead v before ns c w (Both operator l r) es a h g =
    reads_ahead v before ns c w l (reads (input_of v) c r es) a (left_in v.all (expression_sites v.door l) (expression_sites v.door r) h)
    (λ later b. reads_ahead v later ns c w r es b (right_in v.all (expression_sites v.door l) (expression_sites v.door r) h) g)

all_ahead : (v : View) (before : List Event) (ns : Numbers) (c : Context) (w : Completion) (gs : List Given) (es : List Event) → Keeping v before ns c.state.chains c.vars → In v.all (given_sites v.door gs) → Then v ns c w es → Good v before ns w (reads_all (input_of v) c gs es)
all_ahead v before ns c w [] es a h g = g before a
all_ahead v before ns c w (x ∷ gs) es a h g =
    reads_ahead v before ns c w x.value (reads_all (input_of v) c gs es) a (left_in v.all (expression_sites v.door x.value) (given_sites v.door gs) h)
    (λ later b. all_ahead v later ns c w gs es b (right_in v.all (expression_sites v.door x.value) (given_sites v.door gs) h) g)

-- those of values in the order of their reads
values_in : (all : List Site) (door : Door) (gs : List Given) → In all (given_sites door (by_first_read gs)) → In all (given_sites door gs)
values_in all door gs h = λ x i. h x (sorted_to (λ (g : Given). expression_sites door g.value) gs x i)

guards_ahead : (v : View) (before : List Event) (ns : Numbers) (c : Context) (w : Completion) (gs : List Guard) (es : List Event) → Keeping v before ns c.state.chains c.vars → In v.all (guard_sites v.door gs) → Then v ns c w es → Good v before ns w (reads_guards (input_of v) c gs es)
guards_ahead v before ns c w [] es a h g = g before a
guards_ahead v before ns c w (x ∷ gs) es a h g =
    reads_ahead v before ns c w x.given.value (reads_guards (input_of v) c gs es) a (left_in v.all (expression_sites v.door x.given.value) (guard_sites v.door gs) h)
    (λ later b. guards_ahead v later ns c w gs es b (right_in v.all (expression_sites v.door x.given.value) (guard_sites v.door gs) h) g)

did_ahead : (v : View) (before : List Event) (ns : Numbers) (c : Context) (w : Completion) (op : Operation) (es : List Event) → Keeping v before ns c.state.chains c.vars → In v.all (operation_sites v.door op) → Then v ns c w es → Good v before ns w (did (input_of v) c op es)
did_ahead v before ns c w (Touch var) es a h g = used_ahead v before ns c w (restamps_at v.time c.state.chains (var_at c.vars var)) var es a g
did_ahead v before ns c w (Free var) es a h g = frees_ahead v before ns c w var es a g
did_ahead v before ns c w (Set field x) es a h g = reads_ahead v before ns c w x.value es a h g
did_ahead v before ns c w (Write var column x) es a h g =
    let changed = rewrites column (given (input_of v) c x) (entry_in c.state.chains (var_at c.vars var)) in
    reads_ahead v before ns c w x.value (used changed (var_at c.vars var) es) a h (λ later b. used_ahead v later ns c w changed var es b g)
did_ahead v before ns c w (Store place array at x) es a h g =
    let p = input_of v in
    let i = narrowed W16 (value p c at) in
    let site = cell_site v.door sort.Store place array at in
    let reads_of = expression_sites v.door at ++ expression_sites v.door x.value in
    let stored = stores place array i (given p c x) (slice_get (array_at c.state.arrays array) i) es in
    let rest = rest_in v.all site reads_of h in
    reads_ahead v before ns c w at (reads p c x.value stored) a (left_in v.all (expression_sites v.door at) (expression_sites v.door x.value) rest)
    (λ later b. reads_ahead v later ns c w x.value stored b (right_in v.all (expression_sites v.door at) (expression_sites v.door x.value) rest)
    (λ last d. stores_ahead v last ns c w place array at (given p c x) (slice_get (array_at c.state.arrays array) i) es d (first_in_all v.all site reads_of h) g))

-- what a `get` and a `find` find
key_at : (o : Option MapDecl) (slots : List (Option Entry)) (key : List ℕ) (i : ℕ) → option_and_then (λ decl. found decl key slots) o ≡ Some i → (decl : MapDecl) × (o ≡ Some decl) × (e : Entry) × (slice_get slots i ≡ Some (Some e)) × (key_in decl e.labels ≡ key)
key_at None slots key i h = cc
key_at (Some decl) slots key i h = let w = (is_first decl key slots i h).here in (decl, refl, w.entry, w.live, w.same)

-- what a look-up and a `find` touch
in_entry : (ns ms : Numbers) (chain i : ℕ) (hit : Option ℕ) → ms ≡ ns → hit ≡ Some i → Contains (entry_if ms chain hit) (EntryNo chain (ns.entry_no chain i))
in_entry ns ms chain i hit e h =
    subst (λ (n : Numbers). Contains (entry_if n chain hit) (EntryNo chain (ns.entry_no chain i))) (sym e)
    (subst (λ (o : Option ℕ). Contains (entry_if ns chain o) (EntryNo chain (ns.entry_no chain i))) (sym h) (here (EntryNo chain (ns.entry_no chain i)) []))

-- an entry that was found now
hit_live : (v : View) (before : List Event) (ns : Numbers) (chains : List Chain) (chain i : ℕ) (e : Event) (entry : Entry) → slot chains chain i ≡ Some (Some entry) → (covered : Covered v (EntryNo chain (ns.entry_no chain i))) →
    Contains (locations_of v.f.chains (all_numbers v.start before) e) (EntryNo chain (ns.entry_no chain i)) → StandsBy e covered.site → Live v (before ++ e ∷ []) ns chains (record { chain = chain; index = i })
hit_live v before ns chains chain i e entry is covered touches stands = record {
  entry = entry;
  is = is;
  seen = record { covered = covered; binder = record { earlier = before; event = e; later = []; is_before = refl; touches = touches; stands = stands } };
}

abbrev lookup : View → Context → (place chain m : ℕ) → List Given → Event
lookup v c place chain m key = LookedUp place chain m (map (given (input_of v) c) key) (key_found (input_of v) c chain m (map (given (input_of v) c) key))

abbrev get_covered : (v : View) (before : List Event) (ns : Numbers) (c : Context) (place chain m : ℕ) (key : List Given) (i : ℕ) → Keeping v before ns c.state.chains c.vars → Contains v.all (get_site v.f.chains v.door place chain m key) →
    key_found (input_of v) c chain m (map (given (input_of v) c) key) ≡ Some i → Covered v (EntryNo chain (ns.entry_no chain i))
get_covered v before ns c place chain m key i a site h =
    let p = input_of v in
    let k = key_at (slice_get (maps_of v.f.chains chain) m) (chain_at c.state.chains chain).slots (map (given p c) key) i h in
    record {
      site = get_site v.f.chains v.door place chain m key;
      is_site = site;
      door = refl;
      object = refl;
      context = c;
      fits = (
        refl,
        fits_labels v.f p c chain (v.table chain (ns.entry_no chain i)) k.2.labels (numbered (first_label v.f.chains chain m) key) (a.entries chain i k.2 k.3)
            (subst (λ (first : ℕ). AllGiven p c (label_value k.2.labels) (numbered first key)) (sym (ap first_in k.1)) (given_key p c key k.0 k.2.labels k.4)),
      );
    }

get_live : (v : View) (before : List Event) (ns : Numbers) (c : Context) (place chain m : ℕ) (key : List Given) (i : ℕ) → Keeping v before ns c.state.chains c.vars → Contains v.all (get_site v.f.chains v.door place chain m key) →
    key_found (input_of v) c chain m (map (given (input_of v) c) key) ≡ Some i → Live v (before ++ lookup v c place chain m key ∷ []) ns c.state.chains (record { chain = chain; index = i })
get_live v before ns c place chain m key i a site h =
    let p = input_of v in
    let keys = map (given p c) key in
    let hit = key_found p c chain m keys in
    let k = key_at (slice_get (maps_of v.f.chains chain) m) (chain_at c.state.chains chain).slots keys i h in
    hit_live v before ns c.state.chains chain i (lookup v c place chain m key) k.2 k.3 (get_covered v before ns c place chain m key i a site h)
    (there (KeyOf chain m keys) (entry_if (all_numbers v.start before) chain hit) (EntryNo chain (ns.entry_no chain i)) (in_entry ns (all_numbers v.start before) chain i hit a.count h))
    (record { place = refl; own = eq-eqb m m refl })

labelled_if : (b : Bool) (i j : ℕ) → (if b then Some i else None) ≡ Some j → (i ≡ j) × (b ≡ true)
labelled_if true i j h = (same_Some i j h, refl)
labelled_if false i j h = cc

found_entry : (p : Input) (c : Context) (guards : List Guard) (i j : ℕ) (o : Option (Option Entry)) → index_if p c guards i (joined o) ≡ Some j → (i ≡ j) × (e : Entry) × (o ≡ Some (Some e)) × (has_labels p c guards e ≡ true)
found_entry p c guards i j None h = cc
found_entry p c guards i j (Some None) h = cc
found_entry p c guards i j (Some (Some e)) h = let q = labelled_if (has_labels p c guards e) i j h in (q.0, e, refl, q.1)

abbrev find_covered : (v : View) (before : List Event) (ns : Numbers) (c : Context) (place chain i : ℕ) (guards : List Guard) → Keeping v before ns c.state.chains c.vars → Contains v.all (find_site v.door place chain guards) →
    (e : Entry) → slot c.state.chains chain i ≡ Some (Some e) → has_labels (input_of v) c guards e ≡ true → Covered v (EntryNo chain (ns.entry_no chain i))
find_covered v before ns c place chain i guards a site e at has = record {
  site = find_site v.door place chain guards;
  is_site = site;
  door = refl;
  object = refl;
  context = c;
  fits = (
    refl,
    fits_labels v.f (input_of v) c chain (v.table chain (ns.entry_no chain i)) e.labels (find_site v.door place chain guards).named (a.entries chain i e at) (given_guards (input_of v) c guards e has),
  );
}

find_live : (v : View) (before : List Event) (ns : Numbers) (c : Context) (place chain i : ℕ) (guards : List Guard) (j : ℕ) → Keeping v before ns c.state.chains c.vars → Contains v.all (find_site v.door place chain guards) → index_found (input_of v) c chain i guards ≡ Some j →
    Live v (before ++ Found place chain (index_found (input_of v) c chain i guards) ∷ []) ns c.state.chains (record { chain = chain; index = j })
find_live v before ns c place chain i guards j a site h =
    let hit = index_found (input_of v) c chain i guards in
    let k = found_entry (input_of v) c guards i j (slot c.state.chains chain i) h in
    subst (λ (n : ℕ). Live v (before ++ Found place chain hit ∷ []) ns c.state.chains (record { chain = chain; index = n })) k.0
    (hit_live v before ns c.state.chains chain i (Found place chain hit) k.1 k.2 (find_covered v before ns c place chain i guards a site k.1 k.2 k.3)
    (in_entry ns (all_numbers v.start before) chain i hit a.count (h ∙ ap Some (sym k.0))) (record { place = refl; own = refl }))

find_seen : (v : View) (before : List Event) (ns : Numbers) (c : Context) (place chain i : ℕ) (guards : List Guard) (j : ℕ) → Keeping v before ns c.state.chains c.vars → Contains v.all (find_site v.door place chain guards) → index_found (input_of v) c chain i guards ≡ Some j →
    CoveredBy v before (Found place chain (index_found (input_of v) c chain i guards)) (EntryNo chain (ns.entry_no chain j))
find_seen v before ns c place chain i guards j a site h =
    let k = found_entry (input_of v) c guards i j (slot c.state.chains chain i) h in
    subst (λ (n : ℕ). CoveredBy v before (Found place chain (index_found (input_of v) c chain i guards)) (EntryNo chain (ns.entry_no chain n))) k.0
    (record { touched = find_covered v before ns c place chain i guards a site k.1 k.2 k.3; stands = record { place = refl; own = refl } })

entry_covered : (v : View) (before : List Event) (ns : Numbers) (e : Event) (chain : ℕ) (o : Option ℕ) → ((i : ℕ) → o ≡ Some i → CoveredBy v before e (EntryNo chain (ns.entry_no chain i))) → AllCovered v before e (entry_if ns chain o)
entry_covered v before ns e chain None h = tt
entry_covered v before ns e chain (Some i) h = (h i refl, tt)

-- behind the event of a question
abbrev Asked : View → Numbers → Context → Completion → Question → List Event → Type 0
Asked v ns c w q es = (before : List Event) → Keeping v before ns c.state.chains c.vars → Good v (before ++ question_event (input_of v) c q ∷ []) ns w es

-- the sites of a question that its locations are touched at
asked_ahead : (v : View) (before : List Event) (ns : Numbers) (c : Context) (w : Completion) (q : Question) (es : List Event) → Keeping v before ns c.state.chains c.vars → In v.all (question_sites v.f.chains v.door q) → Asked v ns c w q es → Good v before ns w (asked (input_of v) c q es)
asked_ahead v before ns c w (Get place chain m key var) es a h g =
    let p = input_of v in
    let site = get_site v.f.chains v.door place chain m key in
    let keys = map (given p c) key in
    let hit = key_found p c chain m keys in
    let e = LookedUp place chain m keys hit in
    let own = first_in_all v.all site (given_sites v.door key) h in
    all_ahead v before ns c w key (e ∷ es) a (rest_in v.all site (given_sites v.door key) h)
    (λ later b t.
    let name : CoveredBy v later e (KeyOf chain m keys) = record {
      touched = record { site = site; is_site = own; door = refl; object = refl; context = c; fits = (eq-eqb m m refl, map_numbered (given p c) (first_label v.f.chains chain m) key) };
      stands = record { place = refl; own = eq-eqb m m refl };
    } in
    let r = g later b t.1 in
    (((name, entry_covered v later ns e chain hit (λ i q. record { touched = get_covered v later ns c place chain m key i b own q; stands = record { place = refl; own = eq-eqb m m refl } })), r.0), r.1))
asked_ahead v before ns c w (Find place chain at guards var) es a h g =
    let p = input_of v in
    let site = find_site v.door place chain guards in
    let reads_of = expression_sites v.door at ++ guard_sites v.door guards in
    let hit = index_found p c chain (value p c at) guards in
    let own = first_in_all v.all site reads_of h in
    let rest = rest_in v.all site reads_of h in
    reads_ahead v before ns c w at (reads_guards p c guards (Found place chain hit ∷ es)) a (left_in v.all (expression_sites v.door at) (guard_sites v.door guards) rest)
    (λ later b. guards_ahead v later ns c w guards (Found place chain hit ∷ es) b (right_in v.all (expression_sites v.door at) (guard_sites v.door guards) rest)
    (λ last d t. let r = g last d t.1 in ((entry_covered v last ns (Found place chain hit) chain hit (λ i q. find_seen v last ns c place chain (value p c at) guards i d own q), r.0), r.1)))
asked_ahead v before ns c w (Test place comparison l r) es a h g =
    let p = input_of v in
    let e = Tested place (compares comparison (value p c l) (value p c r)) in
    reads_ahead v before ns c w l (reads p c r (e ∷ es)) a (left_in v.all (expression_sites v.door l) (expression_sites v.door r) h)
    (λ later b. reads_ahead v later ns c w r (e ∷ es) b (right_in v.all (expression_sites v.door l) (expression_sites v.door r) h) (λ last d t. let x = g last d t.1 in ((tt, x.0), x.1)))

bound_keeps : (v : View) (before : List Event) (ns : Numbers) (c d : Context) (var chain : ℕ) (o : Option ℕ) → Keeping v before ns c.state.chains c.vars → ((i : ℕ) → o ≡ Some i → Live v before ns c.state.chains (record { chain = chain; index = i })) → option_map (bound var chain c) o ≡ Some d → Keeping v before ns d.state.chains d.vars
bound_keeps v before ns c d var chain None a h e = cc
bound_keeps v before ns c d var chain (Some i) a h e = subst (λ (x : Context). Keeping v before ns x.state.chains x.vars) (same_Some _ _ e) (keeping_bind v before ns c.state.chains c.vars var (record { chain = chain; index = i }) a (h i refl))

test_keeps : (v : View) (before : List Event) (ns : Numbers) (c d : Context) (b : Bool) → Keeping v before ns c.state.chains c.vars → (if b then Some c else None) ≡ Some d → Keeping v before ns d.state.chains d.vars
test_keeps v before ns c d true a e = subst (λ (x : Context). Keeping v before ns x.state.chains x.vars) (same_Some _ _ e) a
test_keeps v before ns c d false a e = cc

no_entry_asked : (p : Input) (c : Context) (q : Question) → made_of (question_event p c q) ≡ None
no_entry_asked p c (Get place chain m key var) = refl
no_entry_asked p c (Find place chain at guards var) = refl
no_entry_asked p c (Test place comparison l r) = refl

answer_keeps : (v : View) (before : List Event) (ns : Numbers) (c d : Context) (q : Question) → Keeping v before ns c.state.chains c.vars → In v.all (question_sites v.f.chains v.door q) → answer (input_of v) c q ≡ Some d → Keeping v (before ++ question_event (input_of v) c q ∷ []) ns d.state.chains d.vars
answer_keeps v before ns c d (Get place chain m key var) a h e =
    let own = first_in_all v.all (get_site v.f.chains v.door place chain m key) (given_sites v.door key) h in
    let asked_now = lookup v c place chain m key in
    bound_keeps v (before ++ asked_now ∷ []) ns c d var chain (key_found (input_of v) c chain m (map (given (input_of v) c) key)) (past v before ns c.state.chains c.vars asked_now refl a) (λ i q. get_live v before ns c place chain m key i a own q) e
answer_keeps v before ns c d (Find place chain at guards var) a h e =
    let own = first_in_all v.all (find_site v.door place chain guards) (expression_sites v.door at ++ guard_sites v.door guards) h in
    let hit = index_found (input_of v) c chain (value (input_of v) c at) guards in
    bound_keeps v (before ++ Found place chain hit ∷ []) ns c d var chain hit (past v before ns c.state.chains c.vars (Found place chain hit) refl a) (λ i q. find_live v before ns c place chain (value (input_of v) c at) guards i a own q) e
answer_keeps v before ns c d (Test place comparison l r) a h e =
    let b = compares comparison (value (input_of v) c l) (value (input_of v) c r) in
    test_keeps v (before ++ Tested place b ∷ []) ns c d b (past v before ns c.state.chains c.vars (Tested place b) refl a) e

hit_good : (v : View) (before : List Event) (ns : Numbers) (o : Option Context) (x : Context → Completion) (y : Completion) (on : Context → Completion) (es : Context → List Event) (fs : List Event) →
    ((d : Context) → o ≡ Some d → Good v before ns (and_then (x d) on) (es d)) → (o ≡ None → Good v before ns (and_then y on) fs) → Good v before ns (and_then (if_hit o x y) on) (if_hit o es fs)
hit_good v before ns (Some d) x y on es fs h m = h d refl
hit_good v before ns None x y on es fs h m = m refl

-- the keys of a `new`
keys_covered : (v : View) (before : List Event) (c : Context) (n : Creation) (to : NewResult) (m : ℕ) (key : ℕ → List ℕ → Location) (maps : List MapDecl) → ((j : ℕ) (ks : List ℕ) → key j ks ≡ KeyOf n.chain (m + j) ks) → drop m (maps_of v.f.chains n.chain) ≡ maps →
    In v.all (name_sites v.door n m maps) → AllCovered v before (AskedNew n.place n.chain (map (given (input_of v) c) n.labels) to) (keys_from key maps (map (given (input_of v) c) n.labels))
keys_covered v before c n to m key [] is e h = tt
keys_covered v before c n to m key (decl ∷ maps) is e h =
    let p = input_of v in
    let labels = map (given p c) n.labels in
    let site = name_site v.door n m decl in
    let q = drop_at m (maps_of v.f.chains n.chain) maps decl e in
    let parts = key_in decl labels in
    let zero_on : m + 0 ≡ m = omega arith in
    let one : CoveredBy v before (AskedNew n.place n.chain labels to) (KeyOf n.chain m parts) = record {
      touched = record {
        site = site;
        is_site = first_in_all v.all site (name_sites v.door n (suc m) maps) h;
        door = refl;
        object = refl;
        context = c;
        fits = (eq-eqb m m refl, key_given p c decl n.labels ∙ ap (λ (o : Option MapDecl). numbered (first_in o) parts) (sym q.0));
      };
      stands = record { place = refl; own = refl };
    } in (
      subst (λ (x : Location). CoveredBy v before (AskedNew n.place n.chain labels to) x) (sym (is 0 parts ∙ ap (λ k. KeyOf n.chain k parts) zero_on)) one,
      keys_covered v before c n to (suc m) (λ j. key (suc j)) maps (λ j ks. let step : m + suc j ≡ suc m + j = omega arith in is (suc j) ks ∙ ap (λ k. KeyOf n.chain k ks) step) q.1 (rest_in v.all site (name_sites v.door n (suc m) maps) h),
    )

abbrev new_covered : (v : View) (c : Context) (n : Creation) (k : ℕ) → Contains v.all (new_site v.door n) → AreTogether v.f n.chain (map (given (input_of v) c) n.labels) → MadeAs (v.table n.chain k) (map (given (input_of v) c) n.labels) → Covered v (EntryNo n.chain k)
new_covered v c n k h together made = record {
  site = new_site v.door n;
  is_site = h;
  door = refl;
  object = refl;
  context = c;
  fits = (
    refl,
    fits_labels v.f (input_of v) c n.chain (v.table n.chain k) (map (given (input_of v) c) n.labels) (numbered 0 n.labels) (made_labelled v.f n.chain (v.table n.chain k) (map (given (input_of v) c) n.labels) made together)
        (given_labels (input_of v) c n.labels (map (given (input_of v) c) n.labels) refl),
  );
}

new_good : (v : View) (before : List Event) (ns : Numbers) (place chain : ℕ) (labels left : List ℕ) (to : NewResult) (made : ℕ → Completion) (taken full : Completion) (on : Context → Completion) (es : ℕ → List Event) (fs hs : List Event) →
    AllCovered v before (AskedNew place chain labels to) (keys_of v.f.chains chain labels) →
    ((i : ℕ) → to ≡ Made i → MadeAs (v.table chain (ns.made chain)) labels →
    CoveredBy v before (AskedNew place chain labels to) (EntryNo chain (ns.made chain)) × Good v (before ++ AskedNew place chain labels to ∷ []) (one_more chain i ns) (and_then (made i) on) (es i)) →
    (to ≡ Taken → Good v (before ++ AskedNew place chain labels to ∷ []) ns (and_then taken on) fs) → (to ≡ Full → Good v (before ++ AskedNew place chain labels to ∷ []) ns (and_then full on) hs) →
    Good v before ns (and_then (if_new to made taken full NoStep (StoppedAt chain left)) on) (AskedNew place chain labels to ∷ if_new to es fs hs [] [])
new_good v before ns place chain labels left (Made i) made taken full on es fs hs names m t u = λ l. let q = m i refl l.0 in let r = q.1 l.1 in (((q.0, names), r.0), r.1)
new_good v before ns place chain labels left Taken made taken full on es fs hs names m t u = λ l. let r = t refl l.1 in ((names, r.0), r.1)
new_good v before ns place chain labels left Full made taken full on es fs hs names m t u = λ l. let r = u refl l.1 in ((names, r.0), r.1)
new_good v before ns place chain labels left Illegal made taken full on es fs hs names m t u = λ l. ((names, tt), tt)
new_good v before ns place chain labels left Stopped made taken full on es fs hs names m t u = λ l. ((names, tt), tt)

-- a `new` that makes an entry touches it
in_made : (ns ms : Numbers) (chain i : ℕ) (to : NewResult) (rest : List Location) → ms ≡ ns → to ≡ Made i → Contains (entry_made ms chain to ++ rest) (EntryNo chain (ns.made chain))
in_made ns ms chain i to rest e h =
    subst (λ (n : Numbers). Contains (entry_made n chain to ++ rest) (EntryNo chain (ns.made chain))) (sym e)
    (subst (λ (o : NewResult). Contains (entry_made ns chain o ++ rest) (EntryNo chain (ns.made chain))) (sym h) (here (EntryNo chain (ns.made chain)) rest))

abbrev asked_for : View → Stops → Context → Creation → Event
asked_for v stops c n = AskedNew n.place n.chain (map (given (input_of v) c) n.labels) (new_result stops (input_of v) c n)

new_keeps : (v : View) (before : List Event) (ns : Numbers) (stops : Stops) (c : Context) (n : Creation) (i : ℕ) → Keeping v before ns c.state.chains c.vars → new_result stops (input_of v) c n ≡ Made i → MadeAs (v.table n.chain (ns.made n.chain)) (map (given (input_of v) c) n.labels) →
    AreTogether v.f n.chain (map (given (input_of v) c) n.labels) → Contains v.all (new_site v.door n) →
    Keeping v (before ++ asked_for v stops c n ∷ []) (one_more n.chain i ns) (with_new (input_of v) c n i).state.chains (with_new (input_of v) c n i).vars
new_keeps v before ns stops c n i a e made together own =
    let p = input_of v in
    let chains = c.state.chains in
    let labels = map (given p c) n.labels in
    let event = asked_for v stops c n in
    let gap : slot chains n.chain i ≡ Some None = (((news_answer stops p c n).made i).0 e).1.vacant in
    let ch = chain_at chains n.chain in
    let f : Entry = record (new_entry p c n) { stamp = next_stamp p.time ch } in
    let now = stamped p.time i (new_entry p c n) ch in
    let seen : Bound v (before ++ event ∷ []) n.chain (ns.made n.chain) = record {
      covered = new_covered v c n (ns.made n.chain) own together made;
      binder = record {
        earlier = before;
        event = event;
        later = [];
        is_before = refl;
        touches = in_made ns (all_numbers v.start before) n.chain i (new_result stops p c n) (keys_of v.f.chains n.chain labels) a.count e;
        stands = record { place = refl; own = refl };
      };
    } in
    keeping_bind v (before ++ event ∷ []) (one_more n.chain i ns) (slice_set chains n.chain now) c.vars n.var (record { chain = n.chain; index = i })
    (keeping_made v before ns chains c.vars n.chain i f now event labels (ap (made_by n.chain labels) e) a gap refl (made_labelled v.f n.chain (v.table n.chain (ns.made n.chain)) labels made together))
    (record {
      entry = f;
      is = slot_here chains n.chain i (Some f) now refl ∙ ap (option_map (λ _. Some f)) gap;
      seen = subst (λ (k : ℕ). Bound v (before ++ event ∷ []) n.chain k) (sym (number_here n.chain i ns)) seen;
    })

not_made : (chain : ℕ) (labels : List ℕ) (to : NewResult) → (to ≡ Taken) ⊎ (to ≡ Full) → made_by chain labels to ≡ None
not_made chain labels to (inl e) = ap (made_by chain labels) e
not_made chain labels to (inr e) = ap (made_by chain labels) e

-- **Cover**: each location is touched at a site of the path
pub covers : (v : View) (stops : Stops) (b : Block) (before : List Event) (ns : Numbers) (c : Context) (g : Context → Completion) (k : Context → List Event) (r : Context → List PathStep) →
    Keeping v before ns c.state.chains c.vars → On v (route stops (input_of v) b c r) → ((d : Context) (ms : Numbers) (later : List Event) → Keeping v later ms d.state.chains d.vars → On v (r d) → Good v later ms (g d) (k d)) →
    Good v before ns (and_then (exec stops (input_of v) b c) g) (events stops (input_of v) b c k)
covers v stops (End FallsOff) before ns c g k r a on h = h c ns before a on
covers v stops (End Flood) before ns c g k r a on h = λ t. (tt, a.entries)
covers v stops (End Discard) before ns c g k r a on h = λ t. (tt, a.entries)
covers v stops (End (Forward door)) before ns c g k r a on h = reads_ahead v before ns c (and_then (exec stops (input_of v) (End (Forward door)) c) g) door [] a on.0 (λ later b t. (tt, b.entries))
covers v stops (Do op next) before ns c g k r a on h =
    let p = input_of v in
    did_ahead v before ns c (and_then (exec stops p (Do op next) c) g) op (events stops p next (after p c op) k) a on.0 (λ later b. covers v stops next later ns (after p c op) g k r (keeping_op v later ns c op b) on.2 h)
covers v stops (Ask q hit miss next) before ns c g k r a on h =
    let p = input_of v in
    let go = λ (d : Context). events stops p next d k in
    let path = λ (d : Context). route stops p next d r in
    let then_ = λ (d : Context). and_then (exec stops p next d) g in
    let o = answer p c q in
    let follows : (d : Context) (ms : Numbers) (later : List Event) → Keeping v later ms d.state.chains d.vars → On v (path d) → Good v later ms (then_ d) (go d) = λ d ms later b s. covers v stops next later ms d g k r b s h in
    subst (λ (w : Completion). Good v before ns w (events stops p (Ask q hit miss next) c k)) (sym (then_then (if_hit o (exec stops p hit) (exec stops p miss c)) (exec stops p next) g))
    (asked_ahead v before ns c (and_then (if_hit o (exec stops p hit) (exec stops p miss c)) then_) q (if_hit o (λ d. events stops p hit d go) (events stops p miss c go)) a on.0
    (λ last b. hit_good v (last ++ question_event p c q ∷ []) ns o (exec stops p hit) (exec stops p miss c) then_ (λ d. events stops p hit d go) (events stops p miss c go)
    (λ d e. covers v stops hit (last ++ question_event p c q ∷ []) ns d then_ go path (answer_keeps v last ns c d q b on.0 e) (subst (λ (x : Option Context). On v (if_hit x (λ d. route stops p hit d path) (route stops p miss c path))) e on.2) follows)
    (λ e. covers v stops miss (last ++ question_event p c q ∷ []) ns c then_ go path (past v last ns c.state.chains c.vars (question_event p c q) (no_entry_asked p c q) b) (subst (λ (x : Option Context). On v (if_hit x (λ d. route stops p hit d path) (route stops p miss c path))) e on.2) follows)))
covers v stops (Make n made taken full next) before ns c g k r a on h =
    let p = input_of v in
    let go = λ (d : Context). events stops p next d k in
    let path = λ (d : Context). route stops p next d r in
    let then_ = λ (d : Context). and_then (exec stops p next d) g in
    let to = new_result stops p c n in
    let labels = map (given p c) n.labels in
    let event = AskedNew n.place n.chain labels to in
    let maps = maps_of v.f.chains n.chain in
    let names = name_sites v.door n 0 maps in
    let follows : (d : Context) (ms : Numbers) (later : List Event) → Keeping v later ms d.state.chains d.vars → On v (path d) → Good v later ms (then_ d) (go d) = λ d ms later b s. covers v stops next later ms d g k r b s h in
    let reads_of = given_sites v.door (by_first_read n.labels) in
    let own = first_in_all v.all (new_site v.door n) (names ++ reads_of) on.0 in
    let rest = rest_in v.all (new_site v.door n) (names ++ reads_of) on.0 in
    let goes : (x : NewResult) → to ≡ x → On v (if_new x (λ i. route stops p made (with_new p c n i) path) (route stops p taken c path) (route stops p full c path) (route stops p full c path) (route stops p full c path)) = λ x e.
    subst (λ (x : NewResult). On v (if_new x (λ i. route stops p made (with_new p c n i) path) (route stops p taken c path) (route stops p full c path) (route stops p full c path) (route stops p full c path))) e on.2 in
    let tail = if_new to (λ i. events stops p made (with_new p c n i) go) (events stops p taken c go) (events stops p full c go) [] [] in
    let whole = if_new to (λ i. exec stops p made (with_new p c n i)) (exec stops p taken c) (exec stops p full c) NoStep (StoppedAt n.chain c.left) in
    subst (λ (w : Completion). Good v before ns w (events stops p (Make n made taken full next) c k)) (sym (then_then whole (exec stops p next) g))
    (all_ahead v before ns c (and_then whole then_) n.labels (event ∷ tail) a (values_in v.all v.door n.labels (right_in v.all names reads_of rest))
    (λ last b. new_good v last ns n.place n.chain labels c.left to (λ i. exec stops p made (with_new p c n i)) (exec stops p taken c) (exec stops p full c) then_ (λ i. events stops p made (with_new p c n i) go) (events stops p taken c go) (events stops p full c go)
    (keys_covered v last c n to 0 (KeyOf n.chain) maps (λ j ks. let e : 0 + j ≡ j = omega arith in ap (λ k. KeyOf n.chain k ks) (sym e)) refl (left_in v.all names reads_of rest))
    (λ i e table. (
      record { touched = new_covered v c n (ns.made n.chain) own (on.1 c) table; stands = record { place = refl; own = refl } },
      covers v stops made (last ++ event ∷ []) (one_more n.chain i ns) (with_new p c n i) then_ go path (new_keeps v last ns stops c n i b e table (on.1 c) own) (goes (Made i) e) follows,
    ))
    (λ e. covers v stops taken (last ++ event ∷ []) ns c then_ go path (past v last ns c.state.chains c.vars event (not_made n.chain labels to (inl e)) b) (goes Taken e) follows)
    (λ e. covers v stops full (last ++ event ∷ []) ns c then_ go path (past v last ns c.state.chains c.vars event (not_made n.chain labels to (inr e)) b) (goes Full e) follows)))
