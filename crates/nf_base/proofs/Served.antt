-- Packets whose fields are those that their port's handlers see have a handler.
use Rattle.std.proofs.Common.{◌≡◌, ℕ, ◌<◌, Bool, true, false, IsSome, length, map, Option, Some, None, slice_get, get_or, refl, ap, sym, ◌∙◌, subst}
use Rattle.std.specs.Option.{option_map, option_and_then}
use Rattle.std.proofs.lemmas.Option.{same_Some, none-some, slice_get-map, slice_get-get_or, get_or_from_slice_get}
use Rattle.nf_base.specs.declared.packet.Family.{Family}
use Rattle.nf_base.specs.declared.packet.Family.TheVariants.{Four, Six}
use Rattle.nf_base.specs.declared.packet.Fields.{Fields}
use Rattle.nf_base.specs.declared.packet.Packet.{Packet}
use Rattle.nf_base.specs.Families.{family_of, door_of}
use Rattle.nf_base.specs.Text.{End, FallsOff, PortBlocks, Function}
use Rattle.nf_base.specs.Doors.{handler_in, handler_at, has_six, six_ports, six_at, served_as, served_fields, IsServed}

in_port : (family : Family) (six : Bool) (h : PortBlocks) (fields seen : Fields) → has_six h ≡ six → served_as family six fields ≡ Some seen → IsSome (handler_in family h)
in_port Four six h fields seen e s = refl
in_port Six true h fields seen e s = e
in_port Six false h fields seen e s = absurd (none-some _ s)

same_family : (family : Family) (six : Bool) (fields seen : Fields) → served_as family six fields ≡ Some seen → fields ≡ seen
same_family Four six fields seen s = same_Some _ _ s
same_family Six true fields seen s = same_Some _ _ s
same_family Six false fields seen s = absurd (none-some _ s)

at_port : (f : Function) (port : ℕ) (h : PortBlocks) (raw : Option Fields) (seen : Fields) → slice_get f.handlers port ≡ Some h → served_fields (six_at (six_ports f) port) raw ≡ Some seen → IsSome (handler_at f (door_of port seen))
at_port f port h None seen is s = absurd (none-some _ s)
at_port f port h (Some fields) seen is s =
    let flag : has_six h ≡ six_at (six_ports f) port =
    sym (get_or_from_slice_get (map has_six f.handlers) port (has_six h) false (slice_get-map has_six f.handlers port ∙ ap (option_map has_six) is)) in
    let same : fields ≡ seen = same_family (family_of fields) (six_at (six_ports f) port) fields seen s in
    let there : IsSome (handler_in (family_of fields) h) = in_port (family_of fields) (six_at (six_ports f) port) h fields seen flag s in
    let at : IsSome (handler_in (family_of seen) h) = subst (λ (x : Fields). IsSome (handler_in (family_of x) h)) same there in
    subst (λ (o : Option PortBlocks). IsSome (option_and_then (handler_in (family_of seen)) o)) (sym is) at

-- a packet has a handler where its fields are as its port's handlers see them
pub seen_is_served : (f : Function) (packet : Packet) (raw : Option Fields) → packet.id.port < length f.handlers → packet.fields ≡ served_fields (six_at (six_ports f) packet.id.port) raw → IsServed f packet
seen_is_served f packet raw lt e fields is =
    at_port f packet.id.port (get_or f.handlers packet.id.port (record { four = End FallsOff; six = None })) raw fields (slice_get-get_or f.handlers packet.id.port _ lt) (sym e ∙ is)
