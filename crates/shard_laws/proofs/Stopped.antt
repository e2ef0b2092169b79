-- Where a share's handler stops on its part, it stops on the whole state.
use Rattle.shard_laws.proofs.Traces.{IsTrace, fine, exec_traces}
use Rattle.nf_base.specs.Chains.{is_full}
use Rattle.std.proofs.lemmas.Bool.{cases_Bool, lt-ltb}
use Rattle.shard_laws.proofs.Taken.{block_own}
use Rattle.std.proofs.Common.{◌≡◌, ℕ, ◌<◌, ◌≤◌, Bool, true, false, ◌&&◌, nat_lt, List, [], Option, Some, None, slice_get, refl, ap, ap₂, sym, ◌∙◌, subst, inl, inr}
use Rattle.std.proofs.lemmas.Option.{none-some}
use Rattle.nf_base.specs.Doors.{blocks, handler_at}
use Rattle.nf_base.specs.Families.{door_of}
use Rattle.nf_base.specs.declared.share.Share.{Share}
use Rattle.nf_base.specs.declared.packet.Packet.{Packet}
use Rattle.nf_base.specs.declared.packet.Fields.{Fields}
use Rattle.nf_base.specs.declared.state.Chain.{Chain}
use Rattle.nf_base.specs.declared.state.State.{State}
use Rattle.nf_base.specs.Text.{Function, Block}
use Rattle.nf_base.specs.Context.{Context}
use Rattle.nf_base.specs.Events.{Event}
use Rattle.nf_base.specs.Course.{Completion, Normal, Ended, NoStep, StoppedAt, events, and_then}
use Rattle.nf_base.specs.Record.{answers_full}
use Rattle.nf_base.specs.Locations.{Numbers, locations, all_numbers}
use Rattle.nf_base.specs.Operations.{Stops, never}
use Rattle.nf_base.specs.Step.{StepResult, step_result, input, completes, records, step_of, record_of}
use Rattle.nf_base.specs.Shares.{owns, none_vacant, share_stops, mix}
use Rattle.nf_base.proofs.Mixes.{free_own}
use Rattle.nf_laws.specs.Shares.{is_stopped}
use Rattle.nf_laws.proofs.AlikeTold.{shares_alike}
use Rattle.shard_laws.specs.Homes.{Homes, AllAt, AllOwn, owned, unseen, IsTold, KnowsWritten, AllTold, entries_made, MadeOwn}
use Rattle.shard_laws.specs.Agreement.{Scene, Alike}
use Rattle.shard_laws.specs.Parts.{Whole, Part, at_time, HaltsOwn, own_stops}
use Rattle.shard_laws.specs.Queues.{time_of}
use Rattle.shard_laws.specs.Rule.{owner_of}
use Rattle.shard_laws.specs.ShareLaws.{SharesHaltOwn, StopsAreUndivided}
use Rattle.shard_laws.proofs.Courses.{exec_alike}
use Rattle.shard_laws.proofs.Front.{front}
use Rattle.shard_laws.proofs.Granting.{full_none_vacant, and_both, grants}
use Rattle.shard_laws.proofs.Handled.{told}
use Rattle.shard_laws.proofs.Living.{goes_from, whole_later}
use Rattle.shard_laws.proofs.Starting.{course_of, part_begins, start_agree}

and_right : (a b : Bool) → (a && b) ≡ true → b ≡ true
and_right true b e = e
and_right false b e = cc

pub shares_halt_own : SharesHaltOwn
shares_halt_own share k chain e = and_right (nat_lt 1 share.of) (none_vacant (owns share) chain.slots) e

pub own_halts : (many : Bool) (owner : ℕ → ℕ → ℕ) (w : ℕ) → HaltsOwn owner w (own_stops many owner w)
own_halts many owner w k chain e = and_right many (none_vacant (owned owner w k) chain.slots) e

pub stops_same : (many : Bool) (owner : ℕ → ℕ → ℕ) (w k : ℕ) (now part : Chain) → part.slots ≡ mix (owned owner w k) unseen now.slots → own_stops many owner w k part ≡ own_stops many owner w k now
stops_same many owner w k now part e = ap (λ (b : Bool). many && b) (ap (none_vacant (owned owner w k)) e ∙ free_own (owned owner w k) now.slots)

-- where such a queue doesn't stop, its chain is not full
pub own_room : (owner : ℕ → ℕ → ℕ) (w k : ℕ) (now : Chain) → own_stops true owner w k now ≡ false → is_full now.slots ≡ false
own_room owner w k now e = elim (cases_Bool (is_full now.slots)) [
  | inl full ↦
      let stop : own_stops true owner w k now ≡ true = and_both true (none_vacant (owned owner w k) now.slots) refl (full_none_vacant (owned owner w k) now.slots full) in
      cc
  | inr room ↦ room
]

-- how a share of several goes on the whole state and on its part
pub record TightAlike (side : Bool) (f g : Completion) : Type 0 where
  pub scene : Scene
  pub last : Numbers
  pub tight : scene.tight ≡ true
  pub side_is : scene.by_part ≡ side
  pub alike : Alike scene last (λ _. []) (λ _. []) f g

stop_back : (s : Scene) (z : Numbers) (k l : Context → List Event) (f : Completion) (j : ℕ) (left : List ℕ) → s.tight ≡ true → s.by_part ≡ true → Alike s z k l f (StoppedAt j left) → f ≡ StoppedAt j left
stop_back s z k l (Normal c) j left t part h = let q : s.tight ≡ false = h.1 in cc
stop_back s z k l (Ended a c) j left t part h = let q : s.tight ≡ false = h.1 in cc
stop_back s z k l NoStep j left t part h = let q : true ≡ false = sym part ∙ h t in cc
stop_back s z k l (StoppedAt chain rest) j left t part h = let q = h t in ap₂ StoppedAt (sym q.0) (sym q.1)

stop_on : (s : Scene) (z : Numbers) (k l : Context → List Event) (g : Completion) (j : ℕ) (left : List ℕ) → s.tight ≡ true → Alike s z k l (StoppedAt j left) g → g ≡ StoppedAt j left
stop_on s z k l (Normal c) j left t h = absurd h
stop_on s z k l (Ended a c) j left t h = absurd h
stop_on s z k l NoStep j left t h = cc
stop_on s z k l (StoppedAt chain rest) j left t h = let q = h t in ap₂ StoppedAt q.0 q.1

goes_on : (s : Scene) (z : Numbers) (k l : Context → List Event) (f g : Completion) (choices : List ℕ) (q : StepResult) → s.tight ≡ true → Alike s z k l f g → step_result choices g ≡ Some q → is_stopped f ≡ false
goes_on s z k l (Normal c) g choices q t h e = refl
goes_on s z k l (Ended a c) g choices q t h e = refl
goes_on s z k l NoStep g choices q t h e = refl
goes_on s z k l (StoppedAt chain left) (Normal d) choices q t h e = absurd h
goes_on s z k l (StoppedAt chain left) (Ended b d) choices q t h e = absurd h
goes_on s z k l (StoppedAt chain left) NoStep choices q t h e = absurd (none-some _ e)
goes_on s z k l (StoppedAt chain left) (StoppedAt j rest) choices q t h e = absurd (none-some _ e)

-- the premise for the share's own record
pub own_record : (h : Homes) (stops : Stops) (f : Function) (b : ℕ) (ns : Numbers) (s : State) (time : ℕ) (fields : Fields) (choices : List ℕ) (block : Block) → AllAt h b (locations f.chains ns (records never f s time fields choices (Some block))) → AllTold h ns (records never f s time fields choices (Some block))
    → AllAt h b (locations f.chains ns (records stops f s time fields choices (Some block))) × AllTold h ns (records stops f s time fields choices (Some block))
own_record h stops f b ns s time fields choices block a t =
    front (record { homes = h; queue = b; packet = input f time fields }) stops block (course_of (at_time time f.chains s) choices) (λ _. []) (λ _. []) (λ d n x. x) ns (a, t)

-- a queue's own stops, with what is known of the entries that are made on one of the two sides
abbrev pub queue_scene : (side : Bool) (h : Homes) (b : ℕ) (opened : ℕ → ℕ → ℕ) (f : Function) (s part : State) (now : ℕ) (fields : Fields) → Scene
queue_scene side h b opened f s part now fields = record {
  homes = h;
  strict = false;
  tight = true;
  by_part = side;
  over = own_stops true h.owner (h.at b);
  stops = own_stops true h.owner (h.at b);
  opened = opened;
  bucket = b;
  queue = h.at b;
  packet = input f now fields;
  whole = at_time now f.chains s;
  part = at_time now f.chains part;
  is = refl;
  firm = λ x y. cc;
  lax = λ x. refl;
  halts = own_halts true h.owner (h.at b);
  follows = λ j c d q o. stops_same true h.owner (h.at b) j c d q ∙ o;
  leads = λ t j c d q o. sym (stops_same true h.owner (h.at b) j c d q) ∙ o;
  roomy = λ t j c o. own_room h.owner (h.at b) j c o;
}

pub tight_alike : (side : Bool) (h : Homes) (b : ℕ) (opened : ℕ → ℕ → ℕ) (f : Function) (time : ℕ) (ns : Numbers) (s part : State) (now : ℕ) (fields : Fields) (choices : List ℕ) (block : Block) → IsTold h.written block
    → Whole h opened f.chains time ns s → Part h opened f.chains time (h.at b) s part → time ≤ now → AllAt h b (locations f.chains ns (records never f s now fields choices (Some block))) → AllTold h ns (records never f s now fields choices (Some block))
    → (side ≡ false → MadeOwn h.owner (h.at b) (entries_made (records (own_stops true h.owner (h.at b)) f s now fields choices (Some block))))
    → (side ≡ true → MadeOwn h.owner (h.at b) (entries_made (records (own_stops true h.owner (h.at b)) f part now fields choices (Some block))))
    → TightAlike side (completes (own_stops true h.owner (h.at b)) f s now fields choices (Some block)) (completes (own_stops true h.owner (h.at b)) f part now fields choices (Some block))
tight_alike side h b opened f time ns s part now fields choices block told_ whole a le at told_all own own_part =
    let stops = own_stops true h.owner (h.at b) in
    let p = input f now fields in
    let s_now = at_time now f.chains s in
    let part_now = at_time now f.chains part in
    let es = events stops p block (course_of s_now choices) (λ _. []) in
    let z = all_numbers ns es in
    let scene : Scene = queue_scene side h b opened f s part now fields in
    let mine = own_record h stops f b ns s now fields choices block at told_all in
    record {
      scene = scene;
      last = z;
      tight = refl;
      side_is = refl;
      alike = exec_alike scene z block ns (course_of s_now choices) (course_of part_now choices) (λ _. []) (λ _. []) told_
          (start_agree scene ns choices (whole_later h opened f.chains time now ns s whole le) (part_begins h opened f.chains time now (h.at b) s part a le))
          (goes_from scene ns es mine.0 mine.1 (λ x. cc) own) own_part;
    }

-- the two ways, each with what is known of the entries that are made there
abbrev pub StopOn : Bool → Homes → ℕ → Function → State → State → ℕ → Fields → List ℕ → Option Block → ℕ → List ℕ → Type 0
StopOn side h b f s t time fields choices o chain left =
    MadeOwn h.owner (h.at b) (entries_made (records (own_stops true h.owner (h.at b)) f s time fields choices o)) →
    completes (own_stops true h.owner (h.at b)) f s time fields choices o ≡ StoppedAt chain left → completes (own_stops true h.owner (h.at b)) f t time fields choices o ≡ StoppedAt chain left

pub block_stops : (h : Homes) (b : ℕ) (opened : ℕ → ℕ → ℕ) (f : Function) (time : ℕ) (ns : Numbers) (s part : State) (packet : Packet) (fields : Fields) (choices : List ℕ) (chain : ℕ) (left : List ℕ) (o : Option Block) → handler_at f (door_of packet.id.port fields) ≡ o → KnowsWritten h f
    → Whole h opened f.chains time ns s → Part h opened f.chains time (h.at b) s part → time ≤ packet.time → AllAt h b (locations f.chains ns (records never f s packet.time fields choices o)) → AllTold h ns (records never f s packet.time fields choices o)
    → StopOn true h b f part s packet.time fields choices o chain left × StopOn false h b f s part packet.time fields choices o chain left
block_stops h b opened f time ns s part packet fields choices chain left None is knows whole a le at told_all = ((λ own e. cc), (λ own e. cc))
block_stops h b opened f time ns s part packet fields choices chain left (Some block) is knows whole a le at told_all =
    let stops = own_stops true h.owner (h.at b) in
    let x = completes stops f s packet.time fields choices (Some block) in
    let y = completes stops f part packet.time fields choices (Some block) in
    let text = told h f (door_of packet.id.port fields) block knows is in (
      (λ own e. let both = tight_alike true h b opened f time ns s part packet.time fields choices block text whole a le at told_all (λ q. cc) (λ q. own) in
          stop_back both.scene both.last (λ _. []) (λ _. []) x chain left both.tight both.side_is (subst (λ (g : Completion). Alike both.scene both.last (λ _. []) (λ _. []) x g) e both.alike)),
      (λ own e. let both = tight_alike false h b opened f time ns s part packet.time fields choices block text whole a le at told_all (λ q. own) (λ q. cc) in
          stop_on both.scene both.last (λ _. []) (λ _. []) y chain left both.tight (subst (λ (g : Completion). Alike both.scene both.last (λ _. []) (λ _. []) g y) e both.alike)),
    )

-- the shares of several are such stops
pub share_is_own : (share : Share) (owner : ℕ → ℕ → ℕ) (w : ℕ) → 1 < share.of → owner ≡ owner_of share.of → w ≡ share.queue → share_stops share ≡ own_stops true owner w
share_is_own share owner w many by is =
    let m : nat_lt 1 share.of ≡ true = lt-ltb _ _ many in
    let is_gen : share_stops share ≡ own_stops (nat_lt 1 share.of) (owner_of share.of) share.queue = refl in
    is_gen ∙ ap (λ (b : Bool). own_stops b (owner_of share.of) share.queue) m ∙ ap₂ (λ (o : ℕ → ℕ → ℕ) (v : ℕ). own_stops true o v) (sym by) (sym is)

pub stops_are_undivided : StopsAreUndivided
stops_are_undivided h share b opened f time ns s part packet fields choices chain left many by is knows whole a le at told_all own =
    let o = handler_at f (door_of packet.id.port fields) in
    let gen : share_stops share ≡ own_stops true h.owner (h.at b) = share_is_own share h.owner (h.at b) many by is in
    let mine : AllOwn h.owner (h.at b) choices = subst (λ (v : ℕ). AllOwn h.owner v choices) (sym is) own in
    let both = block_stops h b opened f time ns s part packet fields choices chain left o refl knows whole (subst (λ (v : ℕ). Part h opened f.chains time v s part) (sym is) a) le at told_all in (
      (λ e. subst (λ (x : Stops). completes x f s packet.time fields choices o ≡ StoppedAt chain left) (sym gen)
          (both.0 (block_own h.owner (h.at b) (own_stops true h.owner (h.at b)) f part packet.time fields choices o mine) (subst (λ (x : Stops). completes x f part packet.time fields choices o ≡ StoppedAt chain left) gen e))),
      (λ e. subst (λ (x : Stops). completes x f part packet.time fields choices o ≡ StoppedAt chain left) (sym gen)
          (both.1 (block_own h.owner (h.at b) (own_stops true h.owner (h.at b)) f s packet.time fields choices o mine) (subst (λ (x : Stops). completes x f s packet.time fields choices o ≡ StoppedAt chain left) gen e))),
    )

-- a packet that has a step by its queue's own stops meets no full chain on the whole state
block_grants : (h : Homes) (b : ℕ) (opened : ℕ → ℕ → ℕ) (f : Function) (time : ℕ) (ns : Numbers) (s part : State) (packet : Packet) (fields : Fields) (choices : List ℕ) (q : StepResult) (o : Option Block) → handler_at f (door_of packet.id.port fields) ≡ o → KnowsWritten h f
    → Whole h opened f.chains time ns s → Part h opened f.chains time (h.at b) s part → time ≤ packet.time → AllAt h b (locations f.chains ns (records never f s packet.time fields choices o)) → AllTold h ns (records never f s packet.time fields choices o)
    → MadeOwn h.owner (h.at b) (entries_made (records (own_stops true h.owner (h.at b)) f part packet.time fields choices o)) → step_result choices (completes (own_stops true h.owner (h.at b)) f part packet.time fields choices o) ≡ Some q → answers_full (records never f s packet.time fields choices o) ≡ false
block_grants h b opened f time ns s part packet fields choices q None is knows whole a le at told_all own e = refl
block_grants h b opened f time ns s part packet fields choices q (Some block) is knows whole a le at told_all own e =
    let stops = own_stops true h.owner (h.at b) in
    let both = tight_alike true h b opened f time ns s part packet.time fields choices block (told h f (door_of packet.id.port fields) block knows is) whole a le at told_all (λ q. cc) (λ q. own) in
    let x = completes stops f s packet.time fields choices (Some block) in
    let y = completes stops f part packet.time fields choices (Some block) in
    let p = input f packet.time fields in
    let start = course_of (at_time packet.time f.chains s) choices in
    ap answers_full (sym (shares_alike stops p block start (goes_on both.scene both.last (λ _. []) (λ _. []) x y choices q both.tight both.alike e)).told)
    ∙ grants stops p block start (λ _. []) (λ j now r. own_room h.owner (h.at b) j now r) (λ d. refl)

pub grants_on : (h : Homes) (b : ℕ) (opened : ℕ → ℕ → ℕ) (f : Function) (time : ℕ) (ns : Numbers) (s part : State) (packet : Packet) (choices : List ℕ) (o : Option Fields) (q : StepResult) → KnowsWritten h f
    → Whole h opened f.chains time ns s → Part h opened f.chains time (h.at b) s part → time ≤ time_of time packet.time o → AllAt h b (locations f.chains ns (record_of never f s packet choices o)) → AllTold h ns (record_of never f s packet choices o)
    → MadeOwn h.owner (h.at b) (entries_made (record_of (own_stops true h.owner (h.at b)) f part packet choices o)) → step_of (own_stops true h.owner (h.at b)) f part packet choices o ≡ Some q → answers_full (record_of never f s packet choices o) ≡ false
grants_on h b opened f time ns s part packet choices None q knows whole a le at told_all own e = refl
grants_on h b opened f time ns s part packet choices (Some fields) q knows whole a le at told_all own e =
    block_grants h b opened f time ns s part packet fields choices q (handler_at f (door_of packet.id.port fields)) refl knows whole a le at told_all own e

-- where both sides stop, they made and stored the same before
stop_block : {A : Type 0} (tr : List Event → A) → IsTrace tr → (side : Bool) (h : Homes) (b : ℕ) (opened : ℕ → ℕ → ℕ) (f : Function) (time : ℕ) (ns : Numbers) (s part : State) (now : ℕ) (fields : Fields) (choices : List ℕ) (block : Block) (chain : ℕ) (left : List ℕ) → IsTold h.written block
    → Whole h opened f.chains time ns s → Part h opened f.chains time (h.at b) s part → time ≤ now → AllAt h b (locations f.chains ns (records never f s now fields choices (Some block))) → AllTold h ns (records never f s now fields choices (Some block))
    → (side ≡ false → MadeOwn h.owner (h.at b) (entries_made (records (own_stops true h.owner (h.at b)) f s now fields choices (Some block))))
    → (side ≡ true → MadeOwn h.owner (h.at b) (entries_made (records (own_stops true h.owner (h.at b)) f part now fields choices (Some block))))
    → completes (own_stops true h.owner (h.at b)) f s now fields choices (Some block) ≡ StoppedAt chain left → completes (own_stops true h.owner (h.at b)) f part now fields choices (Some block) ≡ StoppedAt chain left
    → tr (records (own_stops true h.owner (h.at b)) f s now fields choices (Some block)) ≡ tr (records (own_stops true h.owner (h.at b)) f part now fields choices (Some block))
stop_block tr t side h b opened f time ns s part now fields choices block chain left told_ whole a le at told_all own own_part e g =
    let stops = own_stops true h.owner (h.at b) in
    let p = input f now fields in
    let s_now = at_time now f.chains s in
    let part_now = at_time now f.chains part in
    let es = events stops p block (course_of s_now choices) (λ _. []) in
    let scene : Scene = queue_scene side h b opened f s part now fields in
    let mine = own_record h stops f b ns s now fields choices block at told_all in
    let cut : (x : Completion) → x ≡ StoppedAt chain left → fine scene (and_then x (λ c. Normal c)) ≡ true = λ x q. ap (λ (y : Completion). fine scene (and_then y (λ c. Normal c))) q in
    exec_traces tr t scene (all_numbers ns es) block ns (course_of s_now choices) (course_of part_now choices) (λ _. []) (λ _. []) (λ c. Normal c) (λ c. Normal c) told_
    (start_agree scene ns choices (whole_later h opened f.chains time now ns s whole le) (part_begins h opened f.chains time now (h.at b) s part a le))
    (goes_from scene ns es mine.0 mine.1 (λ x. cc) own) own_part (cut _ e) (cut _ g) (λ n c d x y z u v. refl)

pub stop_traces : {A : Type 0} (tr : List Event → A) → IsTrace tr → (side : Bool) (h : Homes) (b : ℕ) (opened : ℕ → ℕ → ℕ) (f : Function) (time : ℕ) (ns : Numbers) (s part : State) (packet : Packet) (fields : Fields) (choices : List ℕ) (o : Option Block) (chain : ℕ) (left : List ℕ) → handler_at f (door_of packet.id.port fields) ≡ o → KnowsWritten h f
    → Whole h opened f.chains time ns s → Part h opened f.chains time (h.at b) s part → time ≤ packet.time → AllAt h b (locations f.chains ns (records never f s packet.time fields choices o)) → AllTold h ns (records never f s packet.time fields choices o)
    → (side ≡ false → MadeOwn h.owner (h.at b) (entries_made (records (own_stops true h.owner (h.at b)) f s packet.time fields choices o)))
    → (side ≡ true → MadeOwn h.owner (h.at b) (entries_made (records (own_stops true h.owner (h.at b)) f part packet.time fields choices o)))
    → completes (own_stops true h.owner (h.at b)) f s packet.time fields choices o ≡ StoppedAt chain left → completes (own_stops true h.owner (h.at b)) f part packet.time fields choices o ≡ StoppedAt chain left
    → tr (records (own_stops true h.owner (h.at b)) f s packet.time fields choices o) ≡ tr (records (own_stops true h.owner (h.at b)) f part packet.time fields choices o)
stop_traces tr t side h b opened f time ns s part packet fields choices None chain left is knows whole a le at told_all own own_part e g = refl
stop_traces tr t side h b opened f time ns s part packet fields choices (Some block) chain left is knows whole a le at told_all own own_part e g =
    stop_block tr t side h b opened f time ns s part packet.time fields choices block chain left (told h f (door_of packet.id.port fields) block knows is) whole a le at told_all own own_part e g
