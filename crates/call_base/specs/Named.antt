-- The names of objects in a status.
use Rattle.std.specs.Prelude.{◌≡◌, ℕ, List, take, slice_get}
use Rattle.nf_base.specs.Text.{Function}
use Rattle.nf_base.specs.declared.packet.Packet.{Packet}
use Rattle.key_synth.specs.declared.verdict.Cause.{Cause}
use Rattle.key_synth.specs.declared.verdict.Cause.TheVariants as cause
use Rattle.nf_base.specs.Names.{object_name, chain_name}
use Rattle.shard_core.specs.declared.collected.Stop.{Stop as ShareStop}
use Rattle.call_base.specs.declared.status.FullShare.{FullShare}
use Rattle.call_base.specs.declared.object_name.ObjectName.{ObjectName}
use Rattle.call_base.specs.declared.status.NoKeys.{NoKeys}
use Rattle.call_base.specs.declared.status.NoKeys.TheVariants as none

-- the bytes of a name
abbrev pub name_bytes : ObjectName → List ℕ
name_bytes name = take name.len name.bytes

-- Why a function has no keys, by the names of its objects.
abbrev pub SaysCause : Function → Cause → NoKeys → Type 0
SaysCause f (cause.Object object rule) why =
    (name : ObjectName) × (name_bytes name ≡ object_name f object) × (why ≡ none.Object name rule)
SaysCause f cause.Hash why = why ≡ none.Hash

-- a share stop as it is told, with the name of its chain
pub record IsToldStop (f : Function) (stop : ShareStop) (full : FullShare) : Type 0 where
  pub chain : name_bytes full.chain ≡ chain_name (slice_get f.chains stop.chain)
  pub queue : full.queue ≡ stop.queue
  pub packet : full.packet ≡ stop.packet.id
