-- The sites of a function: those of its text that stand on feasible paths.
use Rattle.std.specs.Prelude.{ℕ, ◌==◌, Bool, List, [], length, map, filter, Option, Some, None, slice_get, Contains}
use Rattle.std.specs.List.{flat_map, list_any, range_with_len}
use Rattle.nf_base.specs.Doors.{handler_at, doors_of}
use Rattle.nf_base.specs.declared.packet.Door.{Door}
use Rattle.nf_base.specs.declared.decl.ChainDecl.{ChainDecl}
use Rattle.nf_base.specs.Text.{Block, Function}
use Rattle.nf_base.specs.Statements.{Statement, Ends, Does, Asks, Makes, statements}
use Rattle.nf_base.specs.TextPlaces.{places_in}
use Rattle.nf_base.specs.Paths.{PathStep, Doing, Asking, Making, Closing}
use Rattle.path_walk.specs.Feasible.{door_paths}
use Rattle.nf_sites.specs.Sites.{Site, statement_sites}

-- the statement of a path's step, however it branches
abbrev pub statement_of : PathStep → Statement
statement_of (Doing op) = Does op
statement_of (Asking q b) = Asks q
statement_of (Making n b) = Makes n
statement_of (Closing e) = Ends e

-- the sites of statements, one after another
abbrev pub sites_along : List ChainDecl → Door → List Statement → List Site
sites_along decls door ss = flat_map (statement_sites decls door) ss

-- all sites of a port's text, in text order
abbrev pub text_sites : List ChainDecl → Door → Block → List Site
text_sites decls door block = sites_along decls door (statements block)

-- the sites on a path
abbrev pub path_sites : List ChainDecl → Door → List PathStep → List Site
path_sites decls door path = sites_along decls door (map statement_of path)

-- whether a place of the text is on a path
abbrev pub is_on : ℕ → List PathStep → Bool
is_on place path =
    list_any (λ (s : PathStep). list_any (λ n. n == place) (places_in (statement_of s))) path

-- whether a place of a port's text is on a feasible path
abbrev pub is_reached : Function → Door → ℕ → Bool
is_reached f door place = list_any (is_on place) (door_paths f door)

-- of a handler's sites, those that are reached
abbrev pub handler_sites : Function → Door → Option Block → List Site
handler_sites f door None = []
handler_sites f door (Some block) =
    filter (λ (x : Site). is_reached f door x.place) (text_sites f.chains door block)

-- the sites of a port, in text order
abbrev pub door_sites : Function → Door → List Site
door_sites f door = handler_sites f door (handler_at f door)

-- the sites of a function, by port, those of its IPv4 handler first, and then in text order
abbrev pub sites_of : Function → List Site
sites_of f = flat_map (door_sites f) (doors_of f)

-- A site as it stands: one of a statement on a feasible path of its port.
pub record IsSite (f : Function) (x : Site) : Type 0 where
  pub door : Door
  pub path : List PathStep
  pub is_path : Contains (door_paths f door) path
  pub on_path : Contains (path_sites f.chains door path) x
