-- What expiry leaves.
use Rattle.std.specs.Prelude.{◌≡◌, ◌↔◌, ◌≤◌, ◌<◌, ℕ, suc, ◌+◌, true, false, List, length, Some, None, slice_get}
use Rattle.nf_base.specs.declared.decl.MapDecl.{MapDecl}
use Rattle.nf_base.specs.declared.packet.Packet.{Packet}
use Rattle.nf_base.specs.declared.packet.Fields.{Fields}
use Rattle.nf_base.specs.declared.state.Entry.{Entry}
use Rattle.nf_base.specs.declared.state.Chain.{Chain}
use Rattle.nf_base.specs.declared.state.State.{State}
use Rattle.nf_base.specs.Text.{Function}
use Rattle.nf_base.specs.Chains.{found, is_found, alive, expired, is_due}
use Rattle.nf_base.specs.Step.{step, expired_state}
use Rattle.nf_laws.specs.Entries.{IsLive, IsVacant, HasKeyAt}

-- an entry stays at the last nanosecond of its lifetime, and is gone at the next one
pub record StaysToItsLastTick (lifetime : ℕ) (entry : Entry) : Type 0 where
  pub last : alive (entry.stamp + lifetime) lifetime (Some entry) ≡ Some entry
  pub next : alive (suc (entry.stamp + lifetime)) lifetime (Some entry) ≡ None
  pub not_due : is_due (entry.stamp + lifetime) lifetime (Some entry) ≡ false
  pub due : is_due (suc (entry.stamp + lifetime)) lifetime (Some entry) ≡ true

-- so each entry stays
abbrev pub EntriesStayToTheirLastTick : Type 0
EntriesStayToTheirLastTick = (lifetime : ℕ) (entry : Entry) → StaysToItsLastTick lifetime entry

-- an entry that is not past a lifetime at a time
abbrev pub IsWithin : ℕ → ℕ → Entry → Type 0
IsWithin time lifetime entry = time ≤ entry.stamp + lifetime

-- some entry of a chain that is within its lifetime has a key in a map
pub record HasKeyWithin (time lifetime : ℕ) (chain : Chain) (m : MapDecl)
    (key : List ℕ) : Type 0 where
  pub index : ℕ
  pub has : HasKeyAt m key chain.slots index
  pub within : IsWithin time lifetime has.entry

-- What is past its lifetime is gone, its index vacant and its keys unbound; the rest stands as it
-- stood.
pub record IsExpiry (time lifetime : ℕ) (before after : Chain) : Type 0 where
  pub entries : (i : ℕ) (entry : Entry) →
      IsLive after.slots i entry ↔ (IsLive before.slots i entry × IsWithin time lifetime entry)
  pub freed : (i : ℕ) (entry : Entry) →
      IsLive before.slots i entry → entry.stamp + lifetime < time → IsVacant after.slots i
  pub vacant : (i : ℕ) → IsVacant before.slots i → IsVacant after.slots i
  pub keys : (m : MapDecl) (key : List ℕ) →
      (is_found (found m key after.slots) ≡ true) ↔ HasKeyWithin time lifetime before m key
  pub size : length after.slots ≡ length before.slots
  pub greatest : after.greatest ≡ before.greatest

-- each chain expires by its own lifetime, and there are as many as before
abbrev pub ChainsExpire : Type 0
ChainsExpire = (time : ℕ) (lifetime : ℕ → ℕ) (chains : List Chain) (k : ℕ) (before : Chain) →
    slice_get chains k ≡ Some before →
    (after : Chain)
    × ((slice_get (expired time lifetime chains) k ≡ Some after)
    × IsExpiry time (lifetime k) before after)

-- there are as many chains as before
abbrev pub NoChainIsLost : Type 0
NoChainIsLost = (time : ℕ) (lifetime : ℕ → ℕ) (chains : List Chain) →
    length (expired time lifetime chains) ≡ length chains

-- expiry comes before all else that a packet's handler does: what has expired by then makes no
-- difference
abbrev pub StepsExpireFirst : Type 0
StepsExpireFirst =
    (f : Function) (s : State) (packet : Packet) (fields : Fields) (choices : List ℕ) →
    packet.fields ≡ Some fields →
    step f (expired_state f packet.time s) packet choices ≡ step f s packet choices
