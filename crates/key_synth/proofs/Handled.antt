-- A port that is keyed for IPv6 has a handler for it.
use Rattle.std.proofs.Common.{◌≡◌, ℕ, true, false, IsSome, map, Contains, Option, Some, None, slice_get, refl, ap, sym, ◌∙◌, subst}
use Rattle.std.specs.Option.{option_map, option_and_then}
use Rattle.std.proofs.lemmas.Option.{slice_get-map, get_or_from_slice_get}
use Rattle.nf_base.specs.declared.packet.Door.{Door}
use Rattle.nf_base.specs.declared.packet.Family.{Family}
use Rattle.nf_base.specs.declared.packet.Family.TheVariants.{Six}
use Rattle.nf_base.specs.Doors.{handler_in, handler_at, doors_of, has_six, six_ports, six_at}
use Rattle.nf_base.specs.Text.{Block, PortBlocks, Function}
use Rattle.nf_laws.proofs.Listed.{has_none, from_flat}
use Rattle.nf_sites.specs.Sites.{Site}
use Rattle.nf_sites.specs.OnPaths.{handler_sites, door_sites, sites_of}
use Rattle.nf_sites.proofs.Rising.{of_their_port}
use Rattle.key_synth.specs.Keys.{IsKeyedFor}

some_handler : (f : Function) (door : Door) (o : Option Block) (x : Site) → Contains (handler_sites f door o) x → IsSome o
some_handler f door None x i = absurd (has_none x i)
some_handler f door (Some block) x i = refl

-- a site's handler is there
handler_of : (f : Function) (x : Site) → Contains (sites_of f) x → IsSome (handler_at f x.door)
handler_of f x i =
    let w = from_flat (door_sites f) (doors_of f) x i in
    subst (λ (door : Door). IsSome (handler_at f door)) (sym (of_their_port f w.0 x w.2)) (some_handler f w.0 (handler_at f w.0) x w.2)

at_port : (f : Function) (port : ℕ) (o : Option PortBlocks) → slice_get f.handlers port ≡ o → IsSome (option_and_then (handler_in Six) o) → six_at (six_ports f) port ≡ true
at_port f port None is some = cc
at_port f port (Some h) is some =
    get_or_from_slice_get (map has_six f.handlers) port (has_six h) false (slice_get-map has_six f.handlers port ∙ ap (option_map has_six) is) ∙ some

pub six_there : (f : Function) (port : ℕ) → IsKeyedFor f Six port → six_at (six_ports f) port ≡ true
six_there f port is =
    at_port f port (slice_get f.handlers port) refl
    (subst (λ (g : Family). IsSome (option_and_then (handler_in g) (slice_get f.handlers port))) is.of
    (subst (λ (p : ℕ). IsSome (option_and_then (handler_in is.site.door.family) (slice_get f.handlers p))) is.here (handler_of f is.site is.among)))
