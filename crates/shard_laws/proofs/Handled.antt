-- One packet on the whole state, beside the part of a queue.
use Rattle.std.proofs.Common.{◌≡◌, ◌≢◌, ℕ, ◌≤◌, true, false, List, [], ◌∷◌, length, map, Contains, Option, Some, None, slice_get, refl, ap, ap₂, sym, ◌∙◌, subst, arith, inl, inr}
use Rattle.std.proofs.lemmas.Option.{same_Some, none-some}
use Rattle.nf_base.specs.declared.packet.Door.{Door}
use Rattle.nf_base.specs.Doors.{blocks, handler_at}
use Rattle.nf_base.specs.Families.{door_of}
use Rattle.nf_base.specs.declared.packet.Packet.{Packet}
use Rattle.nf_base.specs.declared.packet.Fields.{Fields}
use Rattle.nf_base.specs.declared.state.State.{State}
use Rattle.nf_base.specs.declared.done.Action.{Action}
use Rattle.nf_base.specs.declared.done.Action.TheVariants.{Drop}
use Rattle.nf_base.specs.declared.done.Edits.{Edits}
use Rattle.nf_base.specs.declared.done.Done.{Done}
use Rattle.nf_base.specs.Text.{Function, Block, Store}
use Rattle.nf_base.specs.Statements.{Does, Makes}
use Rattle.nf_base.specs.Chains.{chain_at, array_at, alive, lifetime_of}
use Rattle.nf_base.specs.Context.{Context}
use Rattle.nf_base.specs.Operations.{Stops, never}
use Rattle.nf_base.specs.Course.{Completion, Normal, Ended, NoStep, StoppedAt, exec, events}
use Rattle.nf_base.specs.Locations.{Numbers, locations, all_numbers}
use Rattle.nf_base.specs.Step.{StepResult, if_none_left, step_result, input, skipped, completes, records, step_of, record_of}
use Rattle.nf_base.specs.Shares.{mix}
use Rattle.nf_base.specs.declared.decl.ObjectId.TheVariants as object
use Rattle.nf_base.proofs.Mixes.{mix_map}
use Rattle.nf_laws.specs.Objects.{by_new, by_store}
use Rattle.nf_laws.proofs.Doors.{at_door}
use Rattle.nf_laws.proofs.Written.{written_is}
use Rattle.nf_laws.proofs.Shaped.{expired_length}
use Rattle.shard_laws.specs.Homes.{Homes, queue_home, AllTold, entries_made, MadeOwn, AllAt, owned, unseen, cell_owned, seen, IsTold, KnowsWritten}
use Rattle.shard_laws.specs.Agreement.{Scene, ChainsAgree, ArraysAgree, Agree, Alike}
use Rattle.nf_base.specs.Record.{answers_full}
use Rattle.shard_laws.specs.Queues.{time_of}
use Rattle.shard_laws.specs.Parts.{Whole, Part, at_time, RiseAlike, HaltsOwn, OneOn}
use Rattle.shard_laws.proofs.Courses.{exec_alike}
use Rattle.shard_laws.proofs.Living.{all_fresh, goes_from, greatest_at, whole_later}
use Rattle.shard_laws.proofs.Starting.{StartsOn, aged, course_of, part_begins, seen_begins, start_agree}

-- a step that ends, undivided and on the part
pub record After (s : Scene) (z : Numbers) (r q : StepResult) : Type 0 where
  pub done : q.done ≡ r.done
  pub chains : ChainsAgree s z r.state.chains q.state.chains
  pub arrays : ArraysAgree s r.state.arrays q.state.arrays

pub answer_is : (a b : Action) (e f : Edits) (choices : List ℕ) → b ≡ a → f ≡ e → ◌≡◌ {A = Done} (record { action = b; edits = f; picks = choices }) (record { action = a; edits = e; picks = choices })
answer_is a b e f choices p q = ap₂ (λ (x : Action) (y : Edits). done_of x y choices) p q
  where
    done_of : Action → Edits → List ℕ → Done
    done_of x y choices = record { action = x; edits = y; picks = choices }

left_after : (s : Scene) (z : Numbers) (choices : List ℕ) (a b : Action) (c d : Context) (r : StepResult) (left : List ℕ) → b ≡ a → Agree s z c d → if_none_left choices left c a ≡ Some r → (q : StepResult) × (if_none_left choices left d b ≡ Some q) × After s z r q
left_after s z choices a b c d r [] e g h =
    let same : ◌≡◌ {A = StepResult} (record { state = c.state; done = record { action = a; edits = c.edits; picks = choices } }) r = same_Some _ _ h in (
      record { state = d.state; done = record { action = b; edits = d.edits; picks = choices } },
      refl,
      subst (λ (x : StepResult). After s z x (record { state = d.state; done = record { action = b; edits = d.edits; picks = choices } })) same (record { done = answer_is a b c.edits d.edits choices e g.edits; chains = g.chains; arrays = g.arrays }),
    )
left_after s z choices a b c d r (i ∷ left) e g h = absurd (none-some _ h)

settled_after : (s : Scene) (z : Numbers) (choices : List ℕ) (f g : Completion) (r : StepResult) → s.strict ≡ true → Alike s z (λ c. []) (λ c. []) f g → step_result choices f ≡ Some r → (q : StepResult) × (step_result choices g ≡ Some q) × After s z r q
settled_after s z choices (Normal c) (Normal d) r strict h e =
    let g : Agree s z c d = subst (λ (m : Numbers). Agree s m c d) h.2 h.1 in
    let t = left_after s z choices Drop Drop c d r c.left refl g e in
    (t.0, ap (λ (l : List ℕ). if_none_left choices l d Drop) g.left.same ∙ t.1, t.2)
settled_after s z choices (Normal c) (Ended a d) r strict h e = absurd h
settled_after s z choices (Normal c) NoStep r strict h e = let f : s.strict ≡ false = h.0 in cc
settled_after s z choices (Normal c) (StoppedAt k left) r strict h e = let f : s.strict ≡ false = h.0 in cc
settled_after s z choices (Ended a c) (Normal d) r strict h e = absurd h
settled_after s z choices (Ended a c) (Ended b d) r strict h e =
    let t = left_after s z choices a b c d r c.left h.0 h.1 e in
    (t.0, ap (λ (l : List ℕ). if_none_left choices l d b) h.1.left.same ∙ t.1, t.2)
settled_after s z choices (Ended a c) NoStep r strict h e = let f : s.strict ≡ false = h.0 in cc
settled_after s z choices (Ended a c) (StoppedAt k left) r strict h e = let f : s.strict ≡ false = h.0 in cc
settled_after s z choices NoStep g r strict h e = absurd (none-some _ e)
settled_after s z choices (StoppedAt k left) g r strict h e = absurd (none-some _ e)

-- one packet's handler, beside any state that is its queue's part of the undivided one at its time
pub handled : (s : Scene) (n : Numbers) (block : Block) (choices : List ℕ) (r : StepResult) → s.strict ≡ true → s.by_part ≡ false → IsTold s.homes.written block → Whole s.homes s.opened s.packet.decls s.packet.time n s.whole → StartsOn s.homes s.opened s.queue s.whole s.part
    → AllAt s.homes s.bucket (locations s.packet.decls n (events s.over s.packet block (course_of s.whole choices) (λ _. []))) → AllTold s.homes n (events s.over s.packet block (course_of s.whole choices) (λ _. [])) → MadeOwn s.homes.owner s.queue (entries_made (events s.over s.packet block (course_of s.whole choices) (λ _. [])))
    → answers_full (events s.over s.packet block (course_of s.whole choices) (λ _. [])) ≡ false
    → step_result choices (exec s.over s.packet block (course_of s.whole choices)) ≡ Some r
    → (q : StepResult) × (step_result choices (exec s.stops s.packet block (course_of s.part choices)) ≡ Some q) × After s (all_numbers n (events s.over s.packet block (course_of s.whole choices) (λ _. []))) r q
handled s n block choices r strict by text w b home told own full e =
    let es = events s.over s.packet block (course_of s.whole choices) (λ _. []) in
    settled_after s (all_numbers n es) choices (exec s.over s.packet block (course_of s.whole choices)) (exec s.stops s.packet block (course_of s.part choices)) r strict
    (exec_alike s (all_numbers n es) block n (course_of s.whole choices) (course_of s.part choices) (λ _. []) (λ _. []) text (start_agree s n choices w b) (goes_from s n es home told (λ b. full) (λ b. own)) (λ b. let q : true ≡ false = sym b ∙ by in cc)) e

pub after_whole : (s : Scene) (z : Numbers) (r q : StepResult) → After s z r q → Whole s.homes s.opened s.packet.decls s.packet.time z r.state
after_whole s z r q a = record { each = λ k. (a.chains.each k).slots.each; low = λ k. (a.chains.each k).stamps.low; idle = λ k. (a.arrays.each k).idle; stays = λ k. (a.arrays.each k).stays }

-- the part of the packet's own queue
part_low : (time now before shard before_part : ℕ) → RiseAlike time before now before_part shard → before_part ≤ before → shard ≤ now
part_low time now before shard before_part t le = elim t [
  | inl q ↦ omega (arith, q.0, q.1)
  | inr q ↦ omega (arith, q.0, q.1)
]

pub after_part : (s : Scene) (z : Numbers) (r q : StepResult) → After s z r q → ((k : ℕ) → (chain_at s.part.chains k).greatest ≤ (chain_at s.whole.chains k).greatest) → Part s.homes s.opened s.packet.decls s.packet.time s.queue r.state q.state
after_part s z r q a le = record {
  chains = a.chains.long_part ∙ sym a.chains.long;
  slots = λ k.
      ap (map (alive s.packet.time (lifetime_of s.packet.decls k))) (a.chains.each k).slots.here
      ∙ mix_map (alive s.packet.time (lifetime_of s.packet.decls k)) (owned s.homes.owner s.queue k) unseen (chain_at r.state.chains k).slots (λ i. refl)
      ∙ ap (mix (owned s.homes.owner s.queue k) unseen) (all_fresh s.packet.time (lifetime_of s.packet.decls k) (chain_at r.state.chains k).slots (λ i e at. ((a.chains.each k).slots.each i e at).within));
  arrays = a.arrays.long_part ∙ sym a.arrays.long;
  cells = λ k. (a.arrays.each k).here;
  low = λ k. part_low s.packet.time _ _ _ _ (a.chains.each k).stamps.top (le k);
}

-- the part of another queue, which doesn't move
beside_low : (time now before shard before_part : ℕ) → RiseAlike time before now before_part shard → before ≤ time → before ≤ now
beside_low time now before shard before_part t le = elim t [
  | inl q ↦ omega (arith, q.0)
  | inr q ↦ omega (arith, q.0)
]

pub part_beside : (s : Scene) (time v : ℕ) (m part : State) (z : Numbers) (r q : StepResult) → s.whole ≡ at_time s.packet.time s.packet.decls m → Part s.homes s.opened s.packet.decls time v m part → time ≤ s.packet.time → ((k : ℕ) → (chain_at m.chains k).greatest ≤ time) → v ≢ s.queue
    → After s z r q → Part s.homes s.opened s.packet.decls s.packet.time v r.state part
part_beside s time v m part z r q is a le low ne after =
    record {
      chains = a.chains ∙ sym (expired_length s.packet.time (lifetime_of s.packet.decls) m.chains) ∙ ap (λ (x : State). length x.chains) (sym is) ∙ sym after.chains.long;
      slots = λ k. aged s.homes s.opened s.packet.decls time s.packet.time v m part k a le
          ∙ ap (λ (x : State). mix (owned s.homes.owner v k) unseen (chain_at x.chains k).slots) (sym is) ∙ sym ((after.chains.each k).slots.beside v ne);
      arrays = a.arrays ∙ ap (λ (x : State). length x.arrays) (sym is) ∙ sym after.arrays.long;
      cells = λ k. a.cells k ∙ ap (λ (x : State). mix (cell_owned (queue_home s.homes) v k) (s.opened k) (array_at x.arrays k)) (sym is) ∙ sym ((after.arrays.each k).beside v ne);
      low = λ k.
          let g : (chain_at s.whole.chains k).greatest ≡ (chain_at m.chains k).greatest = ap (λ (x : State). (chain_at x.chains k).greatest) is ∙ greatest_at s.packet.time s.packet.decls m.chains k in
          let l : (chain_at m.chains k).greatest ≤ time = low k in
          let p : (chain_at part.chains k).greatest ≤ (chain_at m.chains k).greatest = a.low k in
          let up : (chain_at s.whole.chains k).greatest ≤ (chain_at r.state.chains k).greatest = beside_low s.packet.time _ _ _ _ (after.chains.each k).stamps.top (omega (arith, le)) in
          omega arith;
    }

-- what a handler makes and stores to is written
pub told : (h : Homes) (f : Function) (door : Door) (block : Block) → KnowsWritten h f → handler_at f door ≡ Some block → IsTold h.written block
told h f door block knows e =
    let stands : Contains (blocks f) block = at_door f door block e in
    record {
      news = λ n t. knows (object.Chain n.chain) ((written_is f (object.Chain n.chain)).1 (record { block = block; statement = Makes n; handler = stands; stands = t; writes = by_new n }));
      stores = λ at a i g t. knows (object.Array a) ((written_is f (object.Array a)).1 (record { block = block; statement = Does (Store at a i g); handler = stands; stands = t; writes = by_store at a i g }));
    }

block_on : (h : Homes) (opened : ℕ → ℕ → ℕ) (stops : Stops) (f : Function) (time c w : ℕ) (ns : Numbers) (m part : State) (now : ℕ) (fields : Fields) (choices : List ℕ) (block : Block) (r : StepResult) → IsTold h.written block → HaltsOwn h.owner w stops → Whole h opened f.chains time ns m → Part h opened f.chains time w m part → time ≤ now
    → AllAt h c (locations f.chains ns (records never f m now fields choices (Some block))) → AllTold h ns (records never f m now fields choices (Some block)) → MadeOwn h.owner (h.at c) (entries_made (records never f m now fields choices (Some block))) → answers_full (records never f m now fields choices (Some block)) ≡ false → step_result choices (completes never f m now fields choices (Some block)) ≡ Some r
    → (Whole h opened f.chains now (all_numbers ns (records never f m now fields choices (Some block))) r.state)
    × (h.at c ≡ w → (q : StepResult) × (step_result choices (completes stops f part now fields choices (Some block)) ≡ Some q) × (q.done ≡ r.done) × Part h opened f.chains now w r.state q.state
    × ((k : ℕ) → RiseAlike now (chain_at m.chains k).greatest (chain_at r.state.chains k).greatest (chain_at part.chains k).greatest (chain_at q.state.chains k).greatest))
    × (h.at c ≢ w → Part h opened f.chains now w r.state part)
block_on h opened stops f time c w ns m part now fields choices block r text halts whole a le home told_all own full e =
    let p = input f now fields in
    let m_now = at_time now f.chains m in
    let z = all_numbers ns (records never f m now fields choices (Some block)) in
    let s : Scene = record { homes = h; strict = true; tight = false; by_part = false; bucket = c; is = refl; firm = λ x y. refl; lax = λ x. cc; over = never; follows = λ k c d e q. cc; leads = λ t. cc; roomy = λ t. cc; stops = never; opened = opened; queue = h.at c; packet = p; whole = m_now; part = seen h opened (h.at c) m_now; halts = λ k c q. cc } in
    let whole_now : Whole h opened f.chains now ns m_now = whole_later h opened f.chains time now ns m whole le in
    let aside = handled s ns block choices r refl refl text whole_now (seen_begins h opened (h.at c) m_now) home told_all own full e in (
      after_whole s z r aside.0 aside.2,
      (λ same.
          let s_w : Scene = record { homes = h; strict = true; tight = false; by_part = false; bucket = c; is = same; firm = λ x y. refl; lax = λ x. cc; over = never; follows = λ k c d e q. cc; leads = λ t. cc; roomy = λ t. cc; stops = stops; opened = opened; queue = w; packet = p; whole = m_now; part = at_time now f.chains part; halts = halts } in
          let b : StartsOn h opened w m_now (at_time now f.chains part) = part_begins h opened f.chains time now w m part a le in
          let here = handled s_w ns block choices r refl refl text whole_now b home told_all
          (subst (λ (v : ℕ). MadeOwn h.owner v (entries_made (records never f m now fields choices (Some block)))) same own) full e in (
            here.0,
            here.1,
            here.2.done,
            after_part s_w z r here.0 here.2 b.low,
            λ k. subst (λ (g : ℕ). RiseAlike now g (chain_at r.state.chains k).greatest (chain_at part.chains k).greatest (chain_at here.0.state.chains k).greatest) (greatest_at now f.chains m.chains k)
                (subst (λ (g : ℕ). RiseAlike now (chain_at m_now.chains k).greatest (chain_at r.state.chains k).greatest g (chain_at here.0.state.chains k).greatest) (greatest_at now f.chains part.chains k) (here.2.chains.each k).stamps.top),
          )),
      λ ne. part_beside s time w m part z r aside.0 refl a le whole.low (λ q. ne (sym q)) aside.2,
    )

fields_on : (h : Homes) (opened : ℕ → ℕ → ℕ) (stops : Stops) (f : Function) (time c w : ℕ) (ns : Numbers) (m part : State) (packet : Packet) (choices : List ℕ) (fields : Fields) (o : Option Block) (r : StepResult) → handler_at f (door_of packet.id.port fields) ≡ o → KnowsWritten h f → HaltsOwn h.owner w stops → Whole h opened f.chains time ns m → Part h opened f.chains time w m part → time ≤ packet.time
    → AllAt h c (locations f.chains ns (records never f m packet.time fields choices o)) → AllTold h ns (records never f m packet.time fields choices o) → MadeOwn h.owner (h.at c) (entries_made (records never f m packet.time fields choices o)) → answers_full (records never f m packet.time fields choices o) ≡ false → step_result choices (completes never f m packet.time fields choices o) ≡ Some r
    → OneOn h opened stops f time (h.at c) w ns m part packet choices (Some fields) r
fields_on h opened stops f time c w ns m part packet choices fields None r is knows halts whole a le home told_all own full e = absurd (none-some _ e)
fields_on h opened stops f time c w ns m part packet choices fields (Some block) r is knows halts whole a le home told_all own full e =
    let one = block_on h opened stops f time c w ns m part packet.time fields choices block r (told h f (door_of packet.id.port fields) block knows is) halts whole a le home told_all own full e in
    record {
      whole = subst (λ (o : Option Block). Whole h opened f.chains packet.time (all_numbers ns (records never f m packet.time fields choices o)) r.state) (sym is) one.0;
      own = λ same. let q = one.1 same in record { next = q.0; stepped = ap (λ (o : Option Block). step_result choices (completes stops f part packet.time fields choices o)) is ∙ q.1; done = q.2; stays = q.3; rise = q.4 };
      other = one.2;
    }

skip_on : (h : Homes) (opened : ℕ → ℕ → ℕ) (stops : Stops) (f : Function) (time u w : ℕ) (ns : Numbers) (m part : State) (packet : Packet) (choices : List ℕ) (r : StepResult) → Whole h opened f.chains time ns m → Part h opened f.chains time w m part → skipped m choices ≡ Some r → OneOn h opened stops f time u w ns m part packet choices None r
skip_on h opened stops f time u w ns m part packet [] r whole a e =
    subst (λ (x : StepResult). OneOn h opened stops f time u w ns m part packet [] None x) (same_Some _ _ e)
    (record { whole = whole; own = λ same. record { next = record { state = part; done = _ }; stepped = refl; done = refl; stays = a; rise = λ k. inl (refl, refl) }; other = λ ne. a })
skip_on h opened stops f time u w ns m part packet (i ∷ choices) r whole a e = absurd (none-some _ e)

pub one_on : (h : Homes) (opened : ℕ → ℕ → ℕ) (stops : Stops) (f : Function) (time c w : ℕ) (ns : Numbers) (m part : State) (packet : Packet) (choices : List ℕ) (o : Option Fields) (r : StepResult) → KnowsWritten h f → HaltsOwn h.owner w stops → Whole h opened f.chains time ns m → Part h opened f.chains time w m part → time ≤ time_of time packet.time o
    → AllAt h c (locations f.chains ns (record_of never f m packet choices o)) → AllTold h ns (record_of never f m packet choices o) → MadeOwn h.owner (h.at c) (entries_made (record_of never f m packet choices o)) → answers_full (record_of never f m packet choices o) ≡ false → step_of never f m packet choices o ≡ Some r → OneOn h opened stops f time (h.at c) w ns m part packet choices o r
one_on h opened stops f time c w ns m part packet choices None r knows halts whole a le home told_all own full e = skip_on h opened stops f time (h.at c) w ns m part packet choices r whole a e
one_on h opened stops f time c w ns m part packet choices (Some fields) r knows halts whole a le home told_all own full e = fields_on h opened stops f time c w ns m part packet choices fields (handler_at f (door_of packet.id.port fields)) r refl knows halts whole a le home told_all own full e
