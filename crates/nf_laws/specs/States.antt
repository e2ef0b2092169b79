-- What holds of the states of a function.
use Rattle.std.specs.Prelude.{◌≡◌, ◌≤◌, ℕ, List, length, Some, slice_get}
use Rattle.nf_base.specs.Doors.{blocks}
use Rattle.nf_base.specs.declared.decl.MapDecl.{MapDecl}
use Rattle.nf_base.specs.declared.decl.ChainDecl.{ChainDecl}
use Rattle.nf_base.specs.declared.decl.ArrayDecl.{ArrayDecl}
use Rattle.nf_base.specs.declared.packet.Packet.{Packet}
use Rattle.nf_base.specs.declared.state.Entry.{Entry}
use Rattle.nf_base.specs.declared.state.Chain.{Chain}
use Rattle.nf_base.specs.declared.state.State.{State}
use Rattle.nf_base.specs.Text.{Function}
use Rattle.nf_base.specs.FitsOnce.{AllFit}
use Rattle.nf_base.specs.Chains.{maps_of, key_in}
use Rattle.nf_base.specs.Operations.{Stops}
use Rattle.nf_base.specs.Step.{StepResult, step_by, opening}
use Rattle.nf_laws.specs.Entries.{IsLive}

-- no stamp is above the greatest one, and no two entries share a key of one map
pub record IsSoundChain (maps : List MapDecl) (chain : Chain) : Type 0 where
  pub stamps : (i : ℕ) (entry : Entry) → IsLive chain.slots i entry → entry.stamp ≤ chain.greatest
  pub keys : (n i j : ℕ) (m : MapDecl) (a b : Entry) → slice_get maps n ≡ Some m →
      IsLive chain.slots i a → IsLive chain.slots j b → key_in m a.labels ≡ key_in m b.labels →
      i ≡ j

-- so it is of each chain
abbrev pub IsSound : Function → State → Type 0
IsSound f s = (k : ℕ) (chain : Chain) → slice_get s.chains k ≡ Some chain →
    IsSoundChain (maps_of f.chains k) chain

-- a chain of its declared size, whose entries have as many labels and columns as are declared
pub record HasChainShape (decl : ChainDecl) (chain : Chain) : Type 0 where
  pub size : length chain.slots ≡ decl.size
  pub labels : (i : ℕ) (entry : Entry) → IsLive chain.slots i entry →
      length entry.labels ≡ length decl.labels
  pub columns : (i : ℕ) (entry : Entry) → IsLive chain.slots i entry →
      length entry.columns ≡ length decl.columns

-- the declared chains and arrays, each of its shape
pub record HasShape (f : Function) (s : State) : Type 0 where
  pub chains : length s.chains ≡ length f.chains
  pub arrays : length s.arrays ≡ length f.arrays
  pub chain : (k : ℕ) (decl : ChainDecl) (chain : Chain) →
      slice_get f.chains k ≡ Some decl → slice_get s.chains k ≡ Some chain →
      HasChainShape decl chain
  pub cells : (k : ℕ) (decl : ArrayDecl) (cells : List ℕ) →
      slice_get f.arrays k ≡ Some decl → slice_get s.arrays k ≡ Some cells →
      length cells ≡ length decl.cells

-- the state before the first packet is sound
abbrev pub OpeningsAreSound : Type 0
OpeningsAreSound = (f : Function) → IsSound f (opening f)

-- nothing is remembered yet: no entry is live, no stamp was given, and cells are as declared
pub record IsEmpty (f : Function) (s : State) : Type 0 where
  pub entries : (k : ℕ) (chain : Chain) (i : ℕ) (entry : Entry) →
      slice_get s.chains k ≡ Some chain → IsLive chain.slots i entry → ⊥
  pub stamps : (k : ℕ) (chain : Chain) → slice_get s.chains k ≡ Some chain → chain.greatest ≡ 0
  pub cells : (k : ℕ) (decl : ArrayDecl) →
      slice_get f.arrays k ≡ Some decl → slice_get s.arrays k ≡ Some decl.cells

-- so it is before the first packet
abbrev pub OpeningsAreEmpty : Type 0
OpeningsAreEmpty = (f : Function) → IsEmpty f (opening f)

-- and it has the function's shape
abbrev pub OpeningsHaveTheirShape : Type 0
OpeningsHaveTheirShape = (f : Function) → HasShape f (opening f)

-- from any sound state, a step comes to a sound one, a share's too
abbrev pub StepsKeepSoundness : Type 0
StepsKeepSoundness =
    (stops : Stops) (f : Function) (s : State) (packet : Packet) (choices : List ℕ)
    (r : StepResult) →
    IsSound f s → step_by stops f s packet choices ≡ Some r → IsSound f r.state

-- and to one of the function's shape, where each `new` gives as many labels as its chain has
abbrev pub StepsKeepTheShape : Type 0
StepsKeepTheShape =
    (stops : Stops) (f : Function) (s : State) (packet : Packet) (choices : List ℕ)
    (r : StepResult) →
    AllFit f.chains (blocks f) → HasShape f s → step_by stops f s packet choices ≡ Some r →
    HasShape f r.state
