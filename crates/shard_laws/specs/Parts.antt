-- The whole state in a run, and the part of it that is one queue's.
use Rattle.std.specs.Prelude.{◌≡◌, ◌≢◌, ◌≤◌, ◌⊎◌, ℕ, ◌&&◌, Bool, true, false, List, length, map, Option, Some, slice_get}
use Rattle.nf_base.specs.declared.decl.ChainDecl.{ChainDecl}
use Rattle.nf_base.specs.declared.decl.ObjectId.TheVariants as object
use Rattle.nf_base.specs.declared.packet.Packet.{Packet}
use Rattle.nf_base.specs.declared.packet.Fields.{Fields}
use Rattle.nf_base.specs.declared.state.Entry.{Entry}
use Rattle.nf_base.specs.declared.state.Chain.{Chain}
use Rattle.nf_base.specs.declared.state.State.{State}
use Rattle.nf_base.specs.Text.{Function}
use Rattle.nf_base.specs.Chains.{chain_at, array_at, alive, expired, lifetime_of}
use Rattle.nf_base.specs.Context.{or_zero}
use Rattle.nf_base.specs.Operations.{Stops, never}
use Rattle.nf_base.specs.Locations.{Numbers, all_numbers}
use Rattle.nf_base.specs.Step.{StepResult, step_of, record_of, opening}
use Rattle.nf_base.specs.Shares.{mix, none_vacant}
use Rattle.shard_laws.specs.Homes.{Homes, queue_home, owned, unseen, cell_owned, Holds}
use Rattle.shard_laws.specs.Queues.{time_of}

-- what holds of the whole state in a run, after the packets up to a time
pub record Whole (h : Homes) (opened : ℕ → ℕ → ℕ) (decls : List ChainDecl) (time : ℕ)
    (ns : Numbers) (s : State) : Type 0 where
  pub each : (k i : ℕ) (e : Entry) → slice_get (chain_at s.chains k).slots i ≡ Some (Some e) →
      Holds h decls time ns k i e
  pub low : (k : ℕ) → (chain_at s.chains k).greatest ≤ time
  pub idle : (a : ℕ) → h.written (object.Array a) ≡ false →
      (i v : ℕ) → slice_get (array_at s.arrays a) i ≡ Some v → opened a i ≡ v
  pub stays : (a i v : ℕ) → h.stored a i ≡ false → slice_get (array_at s.arrays a) i ≡ Some v →
      opened a i ≡ v

-- A state is queue w's part of the whole one: what is not past its lifetime in it, its own copy of
-- the cells at home there, and no stamp above the greatest one.
pub record Part (h : Homes) (opened : ℕ → ℕ → ℕ) (decls : List ChainDecl) (time w : ℕ)
    (s part : State) : Type 0 where
  pub chains : length part.chains ≡ length s.chains
  pub slots : (k : ℕ) →
      map (alive time (lifetime_of decls k)) (chain_at part.chains k).slots
      ≡ mix (owned h.owner w k) unseen (chain_at s.chains k).slots
  pub arrays : length part.arrays ≡ length s.arrays
  pub cells : (a : ℕ) →
      array_at part.arrays a ≡ mix (cell_owned (queue_home h) w a) (opened a) (array_at s.arrays a)
  pub low : (k : ℕ) → (chain_at part.chains k).greatest ≤ (chain_at s.chains k).greatest

-- a state without what is past its lifetime
abbrev pub at_time : ℕ → List ChainDecl → State → State
at_time time decls s =
    record { chains = expired time (lifetime_of decls) s.chains; arrays = s.arrays }

-- the two greatest stamps of a chain stay as they were, or both rise to the time
abbrev pub RiseAlike : (time before now before_part now_part : ℕ) → Type 0
RiseAlike time before now before_part now_part =
    ((now ≡ before) × (now_part ≡ before_part)) ⊎ ((now ≡ time) × (now_part ≡ time))

-- a queue stops only where no index that it owns is vacant
abbrev pub HaltsOwn : (ℕ → ℕ → ℕ) → ℕ → Stops → Type 0
HaltsOwn owner w stops =
    (k : ℕ) (chain : Chain) → stops k chain ≡ true →
    none_vacant (owned owner w k) chain.slots ≡ true

-- A queue's own stops: where no index that it owns is vacant; the only queue of a run stops nowhere.
abbrev pub own_stops : Bool → (ℕ → ℕ → ℕ) → ℕ → Stops
own_stops many owner w k chain = many && none_vacant (owned owner w k) chain.slots

-- what a function's cells hold at the opening
abbrev pub opened_of : Function → ℕ → ℕ → ℕ
opened_of f a i = or_zero (slice_get (array_at (opening f).arrays a) i)

-- the step of queue w's own packet on its part
pub record OwnStep (h : Homes) (opened : ℕ → ℕ → ℕ) (stops : Stops) (f : Function) (time w : ℕ)
    (s part : State) (packet : Packet) (choices : List ℕ) (fields : Option Fields)
    (r : StepResult) : Type 0 where
  pub next : StepResult
  pub stepped : step_of stops f part packet choices fields ≡ Some next
  pub done : next.done ≡ r.done
  pub stays : Part h opened f.chains (time_of time packet.time fields) w r.state next.state
  pub rise : (k : ℕ) →
      RiseAlike packet.time (chain_at s.chains k).greatest (chain_at r.state.chains k).greatest
      (chain_at part.chains k).greatest (chain_at next.state.chains k).greatest

-- One packet of queue u, of these fields, that has a step on the whole state, beside the part of
-- queue w: where it is w's own it has one there too, with the same answer, and else the part stays
-- as it is.
pub record OneOn (h : Homes) (opened : ℕ → ℕ → ℕ) (stops : Stops) (f : Function) (time u w : ℕ)
    (ns : Numbers) (s part : State) (packet : Packet) (choices : List ℕ) (fields : Option Fields)
    (r : StepResult) : Type 0 where
  pub whole :
      Whole h opened f.chains (time_of time packet.time fields)
      (all_numbers ns (record_of never f s packet choices fields)) r.state
  pub own : u ≡ w → OwnStep h opened stops f time w s part packet choices fields r
  pub other : u ≢ w → Part h opened f.chains (time_of time packet.time fields) w r.state part
