-- Handlers by their doors, as blocks of the text.
use Rattle.std.proofs.Common.{◌≡◌, ℕ, zero, suc, ◌<◌, ◌≤◌, refl, ap, sym, ◌∙◌, subst, List, [], ◌∷◌, ◌++◌, length, Option, Some, None, slice_get, arith}
use Rattle.std.specs.Prelude.{Contains}
use Rattle.std.specs.List.{flat_map}
use Rattle.nf_base.specs.declared.packet.Family.{Family}
use Rattle.nf_base.specs.declared.packet.Family.TheVariants.{Four, Six}
use Rattle.nf_base.specs.declared.packet.Door.{Door}
use Rattle.nf_base.specs.Text.{Block, PortBlocks, Function}
use Rattle.nf_base.specs.Doors.{listed, port_blocks, blocks, handler_in, handler_at}
use Rattle.std.specs.Option.{option_and_then}
use Rattle.std.proofs.lemmas.Option.{same_Some}
use Rattle.nf_laws.proofs.Listed.{here, there, at_index, in_flat}

in_listed : (o : Option Block) (block : Block) → o ≡ Some block → Contains (listed o) block
in_listed None block e = cc
in_listed (Some b) block e = subst (λ z. Contains (b ∷ []) z) (same_Some _ _ e) (here b [])

in_port : (family : Family) (h : PortBlocks) (block : Block) → handler_in family h ≡ Some block → Contains (port_blocks h) block
in_port Four h block e = subst (λ z. Contains (port_blocks h) z) (same_Some _ _ e) (here h.four (listed h.six))
in_port Six h block e = there h.four (listed h.six) block (in_listed h.six block e)

at_handler : (family : Family) (hs : List PortBlocks) (port : ℕ) (o : Option PortBlocks) (block : Block) → slice_get hs port ≡ o →
    option_and_then (handler_in family) o ≡ Some block → Contains (flat_map port_blocks hs) block
at_handler family hs port None block at e = cc
at_handler family hs port (Some h) block at e = in_flat port_blocks hs h block (at_index hs port h at) (in_port family h block e)

-- the handler of a door is one of the text
pub at_door : (f : Function) (door : Door) (block : Block) → handler_at f door ≡ Some block → Contains (blocks f) block
at_door f door block e = at_handler door.family f.handlers door.port (slice_get f.handlers door.port) block refl e

pub none_past : {A : Type 0} (xs : List A) (i : ℕ) → length xs ≤ i → slice_get xs i ≡ None
none_past [] i le = refl
none_past (x ∷ xs) zero le = absurd (omega (arith, le))
none_past (x ∷ xs) (suc i) le = none_past xs i (omega (arith, le))
