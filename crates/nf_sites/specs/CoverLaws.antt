-- Cover: what a packet touches, it touches at a site.
use Rattle.std.specs.Prelude.{◌≡◌, ℕ, List, ◌∷◌, ◌++◌, Some, Contains}
use Rattle.nf_base.specs.Families.{door_of, door_for}
use Rattle.nf_base.specs.declared.packet.Packet.{Packet}
use Rattle.nf_base.specs.declared.packet.Fields.{Fields}
use Rattle.nf_base.specs.declared.state.State.{State}
use Rattle.nf_base.specs.Text.{Function}
use Rattle.nf_base.specs.Events.{Event}
use Rattle.nf_base.specs.Locations.{Location, Numbers, no_numbers, all_numbers, locations_of, locations}
use Rattle.nf_base.specs.Step.{input, recorded, path_taken, opening}
use Rattle.nf_base.specs.Runs.{Handling, RunResult, run, Report, reports, numbers_of}
use Rattle.nf_sites.specs.Sites.{Site}
use Rattle.nf_sites.specs.OnPaths.{path_sites, sites_of}
use Rattle.nf_sites.specs.Covers.{Table, no_table, TouchedAt, TouchedBy}
use Rattle.nf_sites.specs.Labelled.{AllLabelled, Listed, table_of}

-- the sites on the path that a packet takes
abbrev pub IsOnPath : Function → State → Packet → List ℕ → Site → Type 0
IsOnPath f s packet choices site =
    Contains (path_sites f.chains (door_for packet.id.port packet.fields) (path_taken f s packet choices)) site

-- the sites of a function
abbrev pub IsOf : Function → Site → Type 0
IsOf f site = Contains (sites_of f) site

-- Whatever the state, the choices and the numbers of entries, each event of a handled packet
-- touches what it touches at one of some sites: at one of its own statement, or of the `get`,
-- `find` or `new` that bound its variable.
abbrev pub Covers : Function → (Site → Type 0) → Type 0
Covers f ok =
    (s : State) (ns : Numbers) (packet : Packet) (fields : Fields) (choices : List ℕ)
    (es fs : List Event) (e : Event) (x : Location) → packet.fields ≡ Some fields →
    recorded f s packet choices ≡ es ++ e ∷ fs →
    Contains (locations_of f.chains (all_numbers ns es) e) x →
    TouchedBy ok f no_table (input f packet.time fields) (door_of packet.id.port fields) ns es e x

-- the sites of a function are such
abbrev pub SitesCover : Type 0
SitesCover = (f : Function) → Covers f (IsOf f)

-- Where live entries, and those that the packet makes, have the labels that a table tells by their
-- numbers: at a site on the path that the packet takes, with these labels.
abbrev pub RecordsAreCovered : Type 0
RecordsAreCovered =
    (f : Function) (table : Table) (s : State) (ns : Numbers) (packet : Packet) (fields : Fields)
    (choices : List ℕ) (x : Location) →
    packet.fields ≡ Some fields → AllLabelled f table ns s.chains →
    Listed table ns (recorded f s packet choices) →
    Contains (locations f.chains ns (recorded f s packet choices)) x →
    TouchedAt (IsOnPath f s packet choices) f table (input f packet.time fields) (door_of packet.id.port fields) x

-- and so does each event
abbrev pub EventsAreCovered : Type 0
EventsAreCovered =
    (f : Function) (table : Table) (s : State) (ns : Numbers) (packet : Packet) (fields : Fields)
    (choices : List ℕ) (es fs : List Event) (e : Event) (x : Location) →
    packet.fields ≡ Some fields → AllLabelled f table ns s.chains →
    Listed table ns (recorded f s packet choices) → recorded f s packet choices ≡ es ++ e ∷ fs →
    Contains (locations_of f.chains (all_numbers ns es) e) x →
    TouchedBy (IsOnPath f s packet choices) f table (input f packet.time fields) (door_of packet.id.port fields) ns
    es e x

-- each live entry of a run has the labels that its `new` gave, and those that are together are
-- equal
abbrev pub EntriesKeepTheirLabels : Type 0
EntriesKeepTheirLabels =
    (f : Function) (hs : List Handling) (r : RunResult) → run f (opening f) hs ≡ Some r →
    AllLabelled f (table_of f hs) (numbers_of f (opening f) no_numbers hs) r.state.chains

-- a packet of a run is handled, and touches a location at one of the function's sites
pub record TouchedInRun (f : Function) (hs : List Handling) (packet : Packet)
    (x : Location) : Type 0 where
  pub fields : Fields
  pub handled : packet.fields ≡ Some fields
  pub touched : TouchedAt (IsOf f) f (table_of f hs) (input f packet.time fields) (door_of packet.id.port fields) x

-- so is each location touched that a packet of a run touches, up to and with the first packet that
-- has no step
abbrev pub RunsAreCovered : Type 0
RunsAreCovered =
    (f : Function) (hs : List Handling) (a : Report) (x : Location) →
    Contains (reports f (opening f) no_numbers hs) a → Contains a.touched x →
    TouchedInRun f hs a.packet x
