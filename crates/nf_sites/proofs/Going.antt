-- What one packet touches, and what its step leaves of the invariant.
use Rattle.std.proofs.Common.{append_assoc, append-nil, sym, ◌≡◌, ℕ, List, [], ◌∷◌, ◌++◌, Contains, Option, Some, None, slice_get, refl, ap, subst, inl, inr}
use Rattle.std.proofs.lemmas.Option.{same_Some}
use Rattle.std.proofs.lemmas.List.Elements.{Contains-append_cases}
use Rattle.nf_base.specs.declared.packet.Door.{Door}
use Rattle.nf_base.specs.Doors.{handler_at}
use Rattle.nf_base.specs.Families.{door_of, door_for}
use Rattle.nf_base.specs.declared.packet.Packet.{Packet}
use Rattle.nf_base.specs.declared.packet.Fields.{Fields}
use Rattle.nf_base.specs.declared.state.State.{State}
use Rattle.nf_base.specs.declared.done.Action.{Action}
use Rattle.nf_base.specs.declared.done.Action.TheVariants.{Drop}
use Rattle.nf_base.specs.Text.{Function, Block}
use Rattle.nf_base.specs.Chains.{lifetime_of}
use Rattle.nf_base.specs.Context.{Context}
use Rattle.nf_base.specs.Operations.{never}
use Rattle.nf_base.specs.Events.{Event}
use Rattle.nf_base.specs.Course.{Completion, Normal, Ended, NoStep, StoppedAt, exec, route}
use Rattle.nf_base.specs.Step.{StepResult, input, step_of, record_of, route_of, records, routes, completes, start_context, step_result, if_none_left, skipped}
use Rattle.nf_base.specs.Locations.{Location, Numbers, numbers_after, all_numbers, locations_of, locations}
use Rattle.nf_laws.proofs.Listed.{has, has_none}
use Rattle.nf_laws.proofs.Legal.{then_normal}
use Rattle.nf_sites.specs.Sites.{Site}
use Rattle.nf_sites.specs.OnPaths.{path_sites, sites_of}
use Rattle.nf_sites.specs.Covers.{Table, TouchedAt, TouchedBy}
use Rattle.nf_sites.specs.Labelled.{AllLabelled, Listed}
use Rattle.nf_sites.proofs.Slots.{slot_alive}
use Rattle.nf_sites.proofs.Keeping.{View, input_of, Covered, CoveredBy, Keeping}
use Rattle.nf_sites.proofs.Courses.{AllCovered, EachCovered, Keeps, Good, covers}
use Rattle.nf_sites.proofs.Along.{on_route, of_function}

-- a location of a record that is covered
one_covered : (v : View) (before : List Event) (e : Event) (xs : List Location) (x : Location) → AllCovered v before e xs → Contains xs x → CoveredBy v before e x
one_covered v before e [] x a h = absurd (has_none x h)
one_covered v before e (y ∷ xs) x a h = elim (has y xs x h) [
  | inl q ↦ subst (λ (z : Location). CoveredBy v before e z) q a.0
  | inr i ↦ one_covered v before e xs x a.1 i
]

record_covered : (v : View) (before : List Event) (ns : Numbers) (es : List Event) (x : Location) → EachCovered v before ns es → Contains (locations v.f.chains ns es) x → Covered v x
record_covered v before ns [] x a h = absurd (has_none x h)
record_covered v before ns (e ∷ es) x a h = elim (Contains-append_cases (locations_of v.f.chains ns e) (locations v.f.chains (numbers_after ns e) es) x h) [
  | inl i ↦ (one_covered v before e (locations_of v.f.chains ns e) x a.0 i).touched
  | inr i ↦ record_covered v (before ++ e ∷ []) (numbers_after ns e) es x a.1 i
]

event_covered : (v : View) (before : List Event) (ns : Numbers) (es fs : List Event) (e : Event) (x : Location) → EachCovered v before ns (es ++ e ∷ fs) → Contains (locations_of v.f.chains (all_numbers ns es) e) x → CoveredBy v (before ++ es) e x
event_covered v before ns [] fs e x a h = subst (λ ds. CoveredBy v ds e x) (sym (append-nil before)) (one_covered v before e (locations_of v.f.chains ns e) x a.0 h)
event_covered v before ns (d ∷ es) fs e x a h = subst (λ ds. CoveredBy v ds e x) (append_assoc before (d ∷ []) es) (event_covered v (before ++ d ∷ []) (numbers_after ns d) es fs e x a.1 h)

-- the labels of the entries that a step leaves
left_labelled : (v : View) (ns : Numbers) (choices left : List ℕ) (c : Context) (a : Action) (r : StepResult) → AllLabelled v.f v.table ns c.state.chains → if_none_left choices left c a ≡ Some r → AllLabelled v.f v.table ns r.state.chains
left_labelled v ns choices [] c a r h e = subst (λ (x : StepResult). AllLabelled v.f v.table ns x.state.chains) (same_Some _ _ e) h
left_labelled v ns choices (i ∷ left) c a r h e = cc

result_labelled : (v : View) (ns : Numbers) (choices : List ℕ) (w : Completion) (r : StepResult) → Keeps v ns w → step_result choices w ≡ Some r → AllLabelled v.f v.table ns r.state.chains
result_labelled v ns choices (Normal c) r h e = left_labelled v ns choices c.left c Drop r h e
result_labelled v ns choices (Ended a c) r h e = left_labelled v ns choices c.left c a r h e
result_labelled v ns choices NoStep r h e = cc
result_labelled v ns choices (StoppedAt chain left) r h e = cc

abbrev view : Function → List Site → Numbers → Table → Packet → Fields → View
view f all ns table packet fields = record { f = f; all = all; start = ns; table = table; door = door_of packet.id.port fields; time = packet.time; fields = fields }

handled : (f : Function) (table : Table) (s : State) (ns : Numbers) (packet : Packet) (choices : List ℕ) (fields : Fields) (handler : Option Block) → AllLabelled f table ns s.chains → handler_at f (door_of packet.id.port fields) ≡ handler →
    Good (view f (path_sites f.chains (door_of packet.id.port fields) (routes never f s packet.time fields choices handler)) ns table packet fields) [] ns (completes never f s packet.time fields choices handler) (records never f s packet.time fields choices handler)
handled f table s ns packet choices fields None a at = λ t. (tt, tt)
handled f table s ns packet choices fields (Some block) a at =
    let c = start_context f s packet.time choices in
    let v = view f (path_sites f.chains (door_of packet.id.port fields) (route never (input f packet.time fields) block c (λ _. []))) ns table packet fields in
    let first : Keeping v [] ns c.state.chains c.vars = record { count = refl; entries = λ chain i e h. a chain i e (slot_alive packet.time (lifetime_of f.chains) s.chains chain i e h); live = λ k w h. cc } in
    subst (λ (w : Completion). Good v [] ns w (records never f s packet.time fields choices (Some block))) (then_normal (exec never (input_of v) block c))
    (covers v never block [] ns c Normal (λ _. []) (λ _. []) first (on_route v block c at refl) (λ d ms later b o t. (tt, b.entries)))

-- the sites on the path of a packet
abbrev pub Taken : Function → State → Packet → List ℕ → Option Fields → Site → Type 0
Taken f s packet choices fields site = Contains (path_sites f.chains (door_for packet.id.port fields) (route_of never f s packet choices fields)) site

-- one packet
pub record Went (f : Function) (table : Table) (s : State) (ns : Numbers) (packet : Packet) (choices : List ℕ) (o : Option Fields) : Type 0 where
  pub seen : (q : Fields) → o ≡ Some q → (x : Location) → Contains (locations f.chains ns (record_of never f s packet choices o)) x →
      TouchedAt (Taken f s packet choices o) f table (input f packet.time q) (door_of packet.id.port q) x
  pub each : (q : Fields) → o ≡ Some q → (es fs : List Event) (e : Event) (x : Location) → record_of never f s packet choices o ≡ es ++ e ∷ fs → Contains (locations_of f.chains (all_numbers ns es) e) x →
      TouchedBy (Taken f s packet choices o) f table (input f packet.time q) (door_of packet.id.port q) ns es e x
  pub kept : (r : StepResult) → step_of never f s packet choices o ≡ Some r → AllLabelled f table (all_numbers ns (record_of never f s packet choices o)) r.state.chains

skip_state : (s : State) (choices : List ℕ) (r : StepResult) → skipped s choices ≡ Some r → s ≡ r.state
skip_state s [] r e = ap (λ (x : StepResult). x.state) (same_Some _ _ e)
skip_state s (i ∷ choices) r e = cc

pub went : (f : Function) (table : Table) (s : State) (ns : Numbers) (packet : Packet) (choices : List ℕ) (o : Option Fields) → AllLabelled f table ns s.chains → Listed table ns (record_of never f s packet choices o) → Went f table s ns packet choices o
went f table s ns packet choices None a l = record {
  seen = λ q e x h. absurd (has_none x h);
  each = λ q e es fs d x is h. cc;
  kept = λ r e. subst (λ (x : State). AllLabelled f table ns x.chains) (skip_state s choices r e) a;
}
went f table s ns packet choices (Some w) a l =
    let handler = handler_at f (door_of packet.id.port w) in
    let told = records never f s packet.time w choices handler in
    let v = view f (path_sites f.chains (door_of packet.id.port w) (routes never f s packet.time w choices handler)) ns table packet w in
    let good = handled f table s ns packet choices w handler a refl l in
    record {
      seen = λ q e x h. subst (λ (z : Fields). TouchedAt (Taken f s packet choices (Some w)) f table (input f packet.time z) (door_of packet.id.port z) x) (same_Some w q e) (record_covered v [] ns told x good.0 h);
      each = λ q e es fs d x is h. subst (λ (z : Fields). TouchedBy (Taken f s packet choices (Some w)) f table (input f packet.time z) (door_of packet.id.port z) ns es d x) (same_Some w q e)
          (event_covered v [] ns es fs d x (subst (λ (r : List Event). EachCovered v [] ns r) is good.0) h);
      kept = λ r e. result_labelled v (all_numbers ns told) choices (completes never f s packet.time w choices handler) r good.1 e;
    }

-- touched at more sites
pub wider : (ok more : Site → Type 0) (f : Function) (table : Table) (packet : Packet) (q : Fields) (x : Location) → ((s : Site) → ok s → more s) → TouchedAt ok f table (input f packet.time q) (door_of packet.id.port q) x → TouchedAt more f table (input f packet.time q) (door_of packet.id.port q) x
wider ok more f table packet q x h t = record { site = t.site; is_site = h t.site t.is_site; door = t.door; object = t.object; context = t.context; fits = t.fits }

pub wider_by : (ok more : Site → Type 0) (f : Function) (table : Table) (packet : Packet) (q : Fields) (ns : Numbers) (es : List Event) (e : Event) (x : Location) → ((s : Site) → ok s → more s) → TouchedBy ok f table (input f packet.time q) (door_of packet.id.port q) ns es e x →
    TouchedBy more f table (input f packet.time q) (door_of packet.id.port q) ns es e x
wider_by ok more f table packet q ns es e x h t = record {
  touched = record { site = t.touched.site; is_site = h t.touched.site t.touched.is_site; door = t.touched.door; object = t.touched.object; context = t.touched.context; fits = t.touched.fits };
  stands = t.stands;
}

pub in_function : (f : Function) (s : State) (packet : Packet) (choices : List ℕ) (o : Option Fields) (site : Site) → Taken f s packet choices o site → Contains (sites_of f) site
in_function f s packet choices o site h = of_function f s packet choices o site h
