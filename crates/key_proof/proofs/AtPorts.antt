-- A function's places are at its ports, and what a certificate of it is about.
use Rattle.std.proofs.Common.{◌≡◌, ℕ, ◌<◌, ◌≤◌, refl, sym, ap, ◌∙◌, subst, true, List, All, Contains, length, map, get_or, IsSome, Option, Some, None, slice_get, arith}
use Rattle.std.specs.List.{range_with_len}
use Rattle.std.specs.Option.{option_and_then}
use Rattle.std.proofs.lemmas.Option.{slice_get_within}
use Rattle.std.proofs.lemmas.List.Elements.{All-map}
use Rattle.std.proofs.lemmas.List.FromFn.{length-map-range_with_len}
use Rattle.nf_base.specs.declared.packet.Door.{Door}
use Rattle.nf_base.specs.Doors.{handler_in, handler_at, doors_of, six_ports}
use Rattle.nf_base.specs.Text.{Block, PortBlocks, Function}
use Rattle.nf_laws.proofs.Listed.{has_none, from_flat}
use Rattle.nf_sites.specs.Sites.{Site}
use Rattle.nf_sites.specs.OnPaths.{handler_sites, door_sites, sites_of}
use Rattle.nf_sites.proofs.Rising.{of_their_port}
use Rattle.key_rows.specs.declared.place.Object.{Object}
use Rattle.key_rows.specs.Keyed.{is_keyed, AreAtPorts}
use Rattle.key_rows.specs.Positions.{positions_at}
use Rattle.key_rows.proofs.Grouped.{keyed_at}
use Rattle.shard_rules.specs.Served.{own_plan}
use Rattle.key_synth.specs.Keys.{IsKeyed}
use Rattle.key_synth.proofs.Placed.{keyed_to}
use Rattle.certificate_laws.proofs.Telling.{at_most}
use Rattle.key_proof.specs.declared.subject.Subject.{Subject}
use Rattle.key_proof.specs.Faults.{subject_of, ports_of}
use Rattle.key_proof.specs.Reading.{IsSubject}

some_handler : (f : Function) (door : Door) (o : Option Block) (x : Site) → Contains (handler_sites f door o) x → IsSome o
some_handler f door None x i = absurd (has_none x i)
some_handler f door (Some block) x i = refl

-- a site's handler is there
handler_of : (f : Function) (x : Site) → Contains (sites_of f) x → IsSome (handler_at f x.door)
handler_of f x i =
    let w = from_flat (door_sites f) (doors_of f) x i in
    subst (λ (door : Door). IsSome (handler_at f door)) (sym (of_their_port f w.0 x w.2)) (some_handler f w.0 (handler_at f w.0) x w.2)

port_there : (f : Function) (door : Door) (o : Option PortBlocks) → slice_get f.handlers door.port ≡ o → IsSome (option_and_then (handler_in door.family) o) → door.port < length f.handlers
port_there f door None is some = cc
port_there f door (Some h) is some = slice_get_within f.handlers door.port h is

keyed_there : (f : Function) (port : ℕ) → IsKeyed f port → port < length f.handlers
keyed_there f port is =
    subst (λ (p : ℕ). p < length f.handlers) is.here (port_there f is.site.door (slice_get f.handlers is.site.door.port) refl (handler_of f is.site is.among))

pub own_at_ports : (f : Function) → All (λ object. AreAtPorts (length f.handlers) object.places) (own_plan f).objects
own_at_ports f i o within j p inside =
    keyed_there f (get_or (get_or (own_plan f).objects i o).places j p).port (keyed_to f (get_or (get_or (own_plan f).objects i o).places j p).port (keyed_at (own_plan f).objects i j o p within inside))

pub ports_same : (f : Function) → ports_of (subject_of f) ≡ length f.handlers
ports_same f = length-map-range_with_len (positions_at (six_ports f) (own_plan f).objects) 0 (length f.handlers)

pub all_at_ports : (f : Function) (s : Subject) (objects : List Object) → s ≡ subject_of f → objects ≡ (own_plan f).objects → All (λ object. AreAtPorts (ports_of s) object.places) objects
all_at_ports f s objects same own =
    subst (λ (l : List Object). All (λ object. AreAtPorts (ports_of s) object.places) l) (sym own)
    (subst (λ (n : ℕ). All (λ object. AreAtPorts n object.places) (own_plan f).objects) (sym (ap ports_of same ∙ ports_same f)) (own_at_ports f))

pub is_subject : (f : Function) (s : Subject) → s ≡ subject_of f → length s.positions ≤ 4 → IsSubject s
is_subject f s same few = record {
  few = few;
  low = subst (λ (t : Subject). All (λ n. n ≤ 319) t.positions) (sym same)
      (All-map (λ n. n ≤ 319) (positions_at (six_ports f) (own_plan f).objects) (range_with_len 0 (length f.handlers)) (λ k d below. at_most (six_ports f) (own_plan f).objects (get_or (range_with_len 0 (length f.handlers)) k d)));
}
