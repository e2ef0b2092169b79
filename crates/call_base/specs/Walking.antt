-- What counting the paths of a tree's function comes to.
use Rattle.std.specs.Prelude.{◌≡◌, ◌<◌, ◌≤◌, ℕ, false, List, length, Option, Some, None, Result, Ok, Err}
use Rattle.nf_base.specs.Text.{Function}
use Rattle.nf_base.specs.declared.packet.Door.{Door}
use Rattle.nf_base.specs.declared.packet.Family.{Family}
use Rattle.nf_base.specs.declared.packet.Family.TheVariants.{Six}
use Rattle.nf_base.specs.Functions.{function_of}
use Rattle.nf_tokens.specs.declared.token.Place.{Place}
use Rattle.nf_tree.specs.Tree.{Tree, Handler}
use Rattle.nf_types.specs.TextFaults.{is_handled}
use Rattle.call_base.specs.declared.function.Source.{Source}
use Rattle.call_base.specs.declared.function.Uncounted.{Uncounted}
use Rattle.call_base.specs.declared.function.Uncounted.TheVariants as causes
use Rattle.call_base.specs.declared.function.Unread.{Unread}
use Rattle.call_base.specs.declared.function.Unread.TheVariants.{Text, Memory}
use Rattle.call_base.specs.Source.{four_door, path_count, path_counts, IsPastPaths, IsHandlerPlace, IsFunctionOf, IsTreeFault, place_at}

-- the handlers of a port have few enough paths
abbrev pub HasFewAt : Function → ℕ → Type 0
HasFewAt f port = (family : Family) → path_count f (record { port = port; family = family }) ≤ 4096

-- a handler has too many paths; want of memory is free
abbrev pub IsPast : Function → Door → Uncounted → Type 0
IsPast f door (causes.TooMany one) = (one ≡ door) × (4096 < path_count f door)
IsPast f door causes.Memory = Unit {0}

-- the first handler of a port that has too many paths
pub record IsPastAt (f : Function) (port : ℕ) (door : Door) : Type 0 where
  pub of_port : door.port ≡ port
  pub past : 4096 < path_count f door
  pub first : door.family ≡ Six → path_count f (four_door port) ≤ 4096

-- a handler of a port has too many paths, the first such one; want of memory is free
abbrev pub IsUncountedAt : Function → ℕ → Uncounted → Type 0
IsUncountedAt f port (causes.TooMany door) = IsPastAt f port door
IsUncountedAt f port causes.Memory = Unit {0}

-- a handler of the function has too many paths, the first such one; want of memory is free
abbrev pub IsUncounted : Function → Uncounted → Type 0
IsUncounted f (causes.TooMany door) = (door.port < length f.handlers) × IsPastPaths f door
IsUncounted f causes.Memory = Unit {0}

-- where the handler of a port for a family stands among some, if it is one of them
abbrev pub FindsHandler : List Handler → Door → Option Place → Type 0
FindsHandler handlers door (Some place) = IsHandlerPlace handlers door place
FindsHandler handlers door None = is_handled door.port door.family handlers ≡ false

-- a tree's function as the code holds it, with its numbers of paths
pub record HoldsTree (tree : Tree) (source : Source) : Type 0 where
  pub of_tree : IsFunctionOf tree (function_of source.func)
  pub counts : source.paths.items ≡ path_counts (function_of source.func)

-- what a tree comes to; want of memory is free
abbrev pub Checks : Tree → Result Source Unread → Type 0
Checks tree (Ok source) = HoldsTree tree source
Checks tree (Err (Text fault)) = IsTreeFault tree fault.kind (place_at fault.line fault.column)
Checks tree (Err Memory) = Unit {0}
