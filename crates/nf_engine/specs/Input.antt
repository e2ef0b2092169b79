-- What does not change while a handler runs, and the packet that it reads.
use Rattle.std.specs.Prelude.{ℕ, Bool, List, Option, Some}
use Rattle.std.specs.Borrow.{Bor}
use Rattle.nf_base.specs.declared.decl.ChainDecl.{ChainDecl}
use Rattle.nf_base.specs.declared.packet.Fields.{Fields}
use Rattle.nf_base.specs.declared.packet.Packet.{Packet}
use Rattle.nf_base.specs.declared.packet.PacketId.{PacketId}
use Rattle.nf_base.specs.declared.share.Share.{Share}

-- a packet that is not skipped
pub record Seen : Type 0 where
  pub id : PacketId
  pub time : ℕ
  pub fields : Fields

-- the same as one of all packets
abbrev pub packet_of : Seen → Packet
packet_of s = record { id = s.id; time = s.time; fields = Some s.fields }

-- what a handler runs with: the chains, how many ports there are, its packet, whose indices new entries
-- get, whether a `new` stops also where the share is the whole, and the choices, if they are given
pub record Input : Type 0 where
  pub decls : List ChainDecl
  pub ports : ℕ
  pub time : ℕ
  pub fields : Fields
  pub share : Share
  pub strict : Bool
  pub choices : Option (Bor (List ℕ))
