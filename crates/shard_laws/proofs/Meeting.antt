-- A home for each place, from the packets that meet: the queue of the first packet of the run that touches it.
use Rattle.nf_base.specs.Events.{Event, Tested, LookedUp, Found, AskedNew, EntryUsed, EntryFreed, CellRead, CellWritten}
use Rattle.nf_base.specs.Record.{NewEntry, made_of}
use Rattle.std.proofs.Common.{◌≡◌, ℕ, ◌<◌, Bool, true, false, ◌==◌, ◌&&◌, eq-eqb, eqb-true, List, [], ◌∷◌, Contains, Option, Some, if◌then◌else◌, refl, ap, ap₂, sym, ◌∙◌, subst, ◌⊎◌, inl, inr, bytes_eq, None}
use Rattle.std.proofs.lemmas.Bool.{cases_Bool}
use Rattle.std.proofs.lemmas.Slice.Eq.{bytes_eq-Decides}
use Rattle.nf_base.specs.declared.packet.Packet.{Packet}
use Rattle.nf_base.specs.declared.state.State.{State}
use Rattle.nf_base.specs.Text.{Function}
use Rattle.nf_base.specs.Objects.{is_written}
use Rattle.nf_base.specs.Locations.{Location, EntryNo, KeyOf, CellAt, object_of, Numbers, no_numbers, all_numbers, numbers_after}
use Rattle.nf_base.specs.Step.{StepResult, step, recorded, opening}
use Rattle.nf_base.specs.Runs.{Handling, Report, report_of, if_stepped, reports}
use Rattle.nf_laws.proofs.Listed.{here, there, has, has_none}
use Rattle.shard_laws.specs.Homes.{Homes, AllAt, TellsMade, TellsStored, AllTold}
use Rattle.shard_laws.specs.Queues.{StayHome, MeetAtOneQueue}
use Rattle.shard_laws.specs.Parts.{opened_of}
use Rattle.shard_laws.specs.Laws.{Undivided, MeetingQueuesCompose, MeetingUndividedRuns}
use Rattle.shard_laws.proofs.Merged.{queues_compose, whole_union}
use Rattle.shard_laws.proofs.Recomposed.{undivided_runs}

-- locations are told apart
abbrev pub same_place : Location → Location → Bool
same_place (EntryNo c k) (EntryNo d l) = (c == d) && (k == l)
same_place (KeyOf c m key) (KeyOf d n other) = (c == d) && ((m == n) && bytes_eq key other)
same_place (CellAt a i) (CellAt b j) = (a == b) && (i == j)
same_place x y = false

both : (a b : Bool) → (a && b) ≡ true → (a ≡ true) × (b ≡ true)
both true b e = (refl, e)
both false b e = cc

and_true : (a b : Bool) → a ≡ true → b ≡ true → (a && b) ≡ true
and_true true b e f = f
and_true false b e f = cc

same_is : (x y : Location) → same_place x y ≡ true → x ≡ y
same_is (EntryNo c k) (EntryNo d l) e = let q = both _ _ e in ap₂ EntryNo (eqb-true _ _ q.0) (eqb-true _ _ q.1)
same_is (EntryNo c k) (KeyOf d n other) e = cc
same_is (EntryNo c k) (CellAt b j) e = cc
same_is (KeyOf c m key) (EntryNo d l) e = cc
same_is (KeyOf c m key) (KeyOf d n other) e =
    let q = both _ _ e in
    let r = both _ _ q.1 in
    ap₂ (λ (a b : ℕ). KeyOf a b key) (eqb-true _ _ q.0) (eqb-true _ _ r.0) ∙ ap (KeyOf d n) ((bytes_eq-Decides key other).0 r.1)
same_is (KeyOf c m key) (CellAt b j) e = cc
same_is (CellAt a i) (EntryNo d l) e = cc
same_is (CellAt a i) (KeyOf d n other) e = cc
same_is (CellAt a i) (CellAt b j) e = let q = both _ _ e in ap₂ CellAt (eqb-true _ _ q.0) (eqb-true _ _ q.1)

same_self : (x : Location) → same_place x x ≡ true
same_self (EntryNo c k) = and_true _ _ (eq-eqb c c refl) (eq-eqb k k refl)
same_self (KeyOf c m key) = and_true _ _ (eq-eqb c c refl) (and_true _ _ (eq-eqb m m refl) ((bytes_eq-Decides key key).1 refl))
same_self (CellAt a i) = and_true _ _ (eq-eqb a a refl) (eq-eqb i i refl)

abbrev pub touches : Location → List Location → Bool
touches x [] = false
touches x (y ∷ ys) = if same_place x y then true else touches x ys

if_or : (a b : Bool) → (if a then true else b) ≡ true → (a ≡ true) ⊎ (b ≡ true)
if_or true b e = inl refl
if_or false b e = inr e

or_left : (a b : Bool) → a ≡ true → (if a then true else b) ≡ true
or_left true b e = refl
or_left false b e = cc

or_right : (a b : Bool) → b ≡ true → (if a then true else b) ≡ true
or_right true b e = refl
or_right false b e = e

touched_in : (x : Location) (ys : List Location) → touches x ys ≡ true → Contains ys x
touched_in x [] e = cc
touched_in x (y ∷ ys) e = elim (if_or (same_place x y) (touches x ys) e) [
  | inl q ↦ subst (λ (z : Location). Contains (y ∷ ys) z) (sym (same_is x y q)) (here y ys)
  | inr q ↦ there y ys x (touched_in x ys q)
]

is_touched : (x : Location) (ys : List Location) → Contains ys x → touches x ys ≡ true
is_touched x [] h = absurd (has_none x h)
is_touched x (y ∷ ys) h = elim (has y ys x h) [
  | inl q ↦ or_left (same_place x y) (touches x ys) (subst (λ (z : Location). same_place x z ≡ true) (sym q) (same_self x))
  | inr q ↦ or_right (same_place x y) (touches x ys) (is_touched x ys q)
]

-- the queue of the first packet that touches a place
abbrev pub first_home : (Packet → ℕ) → List Report → Location → ℕ
first_home queue [] x = 0
first_home queue (r ∷ rs) x = if touches x r.touched then queue r.packet else first_home queue rs x

if_below : (b : Bool) (x y n : ℕ) → x < n → y < n → (if b then x else y) < n
if_below true x y n h g = h
if_below false x y n h g = g

home_below : (queue : Packet → ℕ) (n : ℕ) (rs : List Report) (x : Location) → 0 < n → ((p : Packet) → queue p < n) → first_home queue rs x < n
home_below queue n [] x lt q = lt
home_below queue n (r ∷ rs) x lt q = if_below (touches x r.touched) _ _ n (q r.packet) (home_below queue n rs x lt q)

home_is : (queue : Packet → ℕ) (rs : List Report) (r : Report) (x : Location) → Contains rs r → Contains r.touched x → (a : Report) × Contains rs a × Contains a.touched x × (first_home queue rs x ≡ queue a.packet)
home_is queue [] r x h t = absurd (has_none r h)
home_is queue (q ∷ rs) r x h t = elim (cases_Bool (touches x q.touched)) [
  | inl y ↦ (q, here q rs, touched_in x q.touched y, rw y refl)
  | inr n ↦ elim (has q rs r h) [
    | inl e ↦ let y : touches x q.touched ≡ true = subst (λ (z : Report). touches x z.touched ≡ true) (sym e) (is_touched x r.touched t) in cc
    | inr d ↦ let a = home_is queue rs r x d t in (a.0, there q rs a.0 a.1, a.2, rw n a.3)
  ]
]

pub all_at : (h : Homes) (w : ℕ) (xs : List Location) → ((x : Location) → Contains xs x → h.written (object_of x) ≡ true → h.home x ≡ w) → AllAt h w xs
all_at h w [] f = tt
all_at h w (x ∷ xs) f = (f x (here x xs), all_at h w xs (λ y c. f y (there x xs y c)))

-- homes at buckets, each of a queue; entries and cells may be anything
abbrev pub homes_at : (ℕ → ℕ → ℕ) → (ℕ → ℕ) → (Packet → ℕ) → Function → List Handling → Homes
homes_at owner at bucket f ts = record { owner = owner; home = first_home bucket (reports f (opening f) no_numbers ts); at = at; written = is_written f; kept = λ chain index no. true; stored = λ array index. true }

-- where each queue has one bucket, its own
abbrev pub met_homes : (ℕ → ℕ → ℕ) → (Packet → ℕ) → Function → List Handling → Homes
met_homes owner queue f ts = homes_at owner (λ b. b) queue f ts

made_told : (h : Homes) (ns : Numbers) (o : Option NewEntry) → ((k i no : ℕ) → h.kept k i no ≡ true) → TellsMade h ns o
made_told h ns None any = tt
made_told h ns (Some made) any = any made.chain made.index (ns.made made.chain)

stored_told : (h : Homes) (e : Event) → ((a i : ℕ) → h.stored a i ≡ true) → TellsStored h e
stored_told h (Tested place holds) any = tt
stored_told h (LookedUp place chain m key hit) any = tt
stored_told h (Found place chain hit) any = tt
stored_told h (AskedNew place chain labels result) any = tt
stored_told h (EntryUsed chain i changed) any = tt
stored_told h (EntryFreed chain i) any = tt
stored_told h (CellRead place array i) any = tt
stored_told h (CellWritten place array i changed) any = any array i

-- where anything may be, all is told
pub any_told : (h : Homes) (ns : Numbers) (es : List Event) → ((k i no : ℕ) → h.kept k i no ≡ true) → ((a i : ℕ) → h.stored a i ≡ true) → AllTold h ns es
any_told h ns [] any cells = tt
any_told h ns (e ∷ es) any cells = ((made_told h ns (made_of e) any, stored_told h e cells), any_told h (numbers_after ns e) es any cells)

-- what a packet of a run touches of a written object is at home at its queue
pub home_of : (queue : Packet → ℕ) (f : Function) (ts : List Handling) → MeetAtOneQueue queue f ts → (r : Report) → Contains (reports f (opening f) no_numbers ts) r → (x : Location) → Contains r.touched x → is_written f (object_of x) ≡ true → first_home queue (reports f (opening f) no_numbers ts) x ≡ queue r.packet
home_of queue f ts meet r h x t wr =
    let a = home_is queue (reports f (opening f) no_numbers ts) r x h t in
    a.3 ∙ meet a.0 r (record { first = a.1; second = h; location = x; written = wr; by_first = a.2; by_second = t })

pub at_home : (owner : ℕ → ℕ → ℕ) (at : ℕ → ℕ) (queue : Packet → ℕ) (f : Function) (ts : List Handling) → MeetAtOneQueue queue f ts → (r : Report) → Contains (reports f (opening f) no_numbers ts) r → AllAt (homes_at owner at queue f ts) (queue r.packet) r.touched
at_home owner at queue f ts meet r h = all_at (homes_at owner at queue f ts) (queue r.packet) r.touched (λ x t wr.
    let a = home_is queue (reports f (opening f) no_numbers ts) r x h t in
    a.3 ∙ meet a.0 r (record { first = a.1; second = h; location = x; written = wr; by_first = a.2; by_second = t }))

rest_in : (r q : Report) (o : Option StepResult) (next : StepResult) (rest : State → List Report) → o ≡ Some next → Contains (rest next.state) q → Contains (r ∷ if_stepped o rest) q
rest_in r q o next rest e h = there r (if_stepped o rest) q (subst (λ (z : Option StepResult). Contains (if_stepped z rest) q) (sym e) h)

pub stays_met : (h : Homes) (queue : Packet → ℕ) (f : Function) (all : List Report) → ((r : Report) → Contains all r → AllAt h (queue r.packet) r.touched) → ((ns : Numbers) (es : List Event) → AllTold h ns es) → (s : State) (ns : Numbers) (ts : List Handling) → ((r : Report) → Contains (reports f s ns ts) r → Contains all r) → StayHome h queue f s ns ts
stays_met h queue f all at any s ns [] within = tt
stays_met h queue f all at any s ns (t ∷ ts) within = (
  (at (report_of f s ns t) (within (report_of f s ns t) (here (report_of f s ns t) _)), any ns _),
  λ next e. stays_met h queue f all at any next.state (all_numbers ns (recorded f s t.packet t.choices)) ts
      (λ r c. within r (rest_in (report_of f s ns t) r (step f s t.packet t.choices) next (λ u. reports f u (all_numbers ns (recorded f s t.packet t.choices)) ts) e c)),
)

pub met_stays : (owner : ℕ → ℕ → ℕ) (queue : Packet → ℕ) (f : Function) (ts : List Handling) → MeetAtOneQueue queue f ts → StayHome (met_homes owner queue f ts) queue f (opening f) no_numbers ts
met_stays owner queue f ts meet = stays_met (met_homes owner queue f ts) queue f (reports f (opening f) no_numbers ts) (at_home owner (λ b. b) queue f ts meet) (λ ns es. any_told (met_homes owner queue f ts) ns es (λ k i no. refl) (λ a i. refl)) (opening f) no_numbers ts (λ r c. c)

pub met_below : (owner : ℕ → ℕ → ℕ) (queue : Packet → ℕ) (f : Function) (n : ℕ) (ts : List Handling) → 0 < n → ((p : Packet) → queue p < n) → (x : Location) → (met_homes owner queue f ts).home x < n
met_below owner queue f n ts lt below x = home_below queue n (reports f (opening f) no_numbers ts) x lt below

pub meeting_queues_compose : MeetingQueuesCompose
meeting_queues_compose owner queue f n hs r lt queues meet rising own full e =
    queues_compose (met_homes owner queue f hs) queue f n hs r (λ o w. w) lt (met_below owner queue f n hs lt queues) queues rising (met_stays owner queue f hs meet) own full e

pub meeting_undivided_runs : MeetingUndividedRuns
meeting_undivided_runs owner stops queue f n hs runs lt queues halts meet rising own each =
    let h = met_homes owner queue f hs in
    let u : Undivided h (opened_of f) queue f 0 (opening f) (λ v. opening f) no_numbers hs runs = undivided_runs h stops queue f hs runs (λ o w. w) halts rising (met_stays owner queue f hs meet) own each in
    record {
      ran = u.ran;
      is = u.is;
      answers = u.answers;
      union = whole_union h queue f n hs runs (met_below owner queue f n hs lt queues) u (u.tops n queues (λ k. (0, lt, refl)));
    }
