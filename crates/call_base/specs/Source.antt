-- From a text to the network function that it is.
use Rattle.std.specs.Prelude.{◌≡◌, ◌⊎◌, ◌<◌, ◌≤◌, ℕ, Bool, true, false, List, [], length, map, Option, Some, None, Result, Ok, Err, Contains}
use Rattle.std.specs.List.{range_with_len}
use Rattle.nf_base.specs.Text.{Function}
use Rattle.nf_base.specs.Doors.{six_ports, six_at}
use Rattle.nf_base.specs.declared.packet.Door.{Door}
use Rattle.nf_base.specs.declared.packet.Family.TheVariants.{Four, Six}
use Rattle.nf_base.specs.Functions.{function_of}
use Rattle.nf_files.specs.Told.{Told, IsToldAs}
use Rattle.nf_tokens.specs.declared.token.Place.{Place}
use Rattle.nf_tree.specs.Tree.{Tree, Handler}
use Rattle.nf_syntax.specs.Language as syntax
use Rattle.nf_types.specs.Faults.{first}
use Rattle.nf_types.specs.Function.{function}
use Rattle.nf_types.specs.TextFaults.{faults}
use Rattle.path_walk.specs.Feasible.{door_paths}
use Rattle.call_base.specs.declared.function.PathCounts.{PathCounts}
use Rattle.call_base.specs.declared.function.Source.{Source}
use Rattle.call_base.specs.declared.status.Fault.{Fault}
use Rattle.call_base.specs.declared.status.Fault.TheVariants as kinds
use Rattle.call_base.specs.declared.status.TextFault.{TextFault}
use Rattle.call_base.specs.declared.function.Unread.{Unread}
use Rattle.call_base.specs.declared.function.Unread.TheVariants.{Text, Memory}

-- how many feasible paths a handler has: none where there is no such handler
abbrev pub path_count : Function → Door → ℕ
path_count f door = length (door_paths f door)

-- the handlers of a port
abbrev pub four_door : ℕ → Door
four_door port = record { port = port; family = Four }

abbrev pub six_door : ℕ → Door
six_door port = record { port = port; family = Six }

-- a number, where it is asked for
abbrev pub count_if : Bool → ℕ → Option ℕ
count_if false n = None
count_if true n = Some n

-- that of a port's handler for IPv6, where it has one
abbrev pub six_count : Function → ℕ → Option ℕ
six_count f port = count_if (six_at (six_ports f) port) (path_count f (six_door port))

-- the numbers of a port's handlers
abbrev pub port_counts : Function → ℕ → PathCounts
port_counts f port = record { four = path_count f (four_door port); six = six_count f port }

-- the numbers of all ports, in their order
abbrev pub path_counts : Function → List PathCounts
path_counts f = map (port_counts f) (range_with_len 0 (length f.handlers))

-- no handler has more than 4,096 feasible paths
abbrev pub HasFewPaths : Function → Type 0
HasFewPaths f = (door : Door) → path_count f door ≤ 4096

-- a tree breaks no rule, and this is its function, each handler of which has few enough paths
pub record IsFunctionOf (tree : Tree) (f : Function) : Type 0 where
  pub faultless : faults tree ≡ []
  pub stands_for : function tree ≡ f
  pub few : HasFewPaths f

-- the text spells a tree, and this is its function
pub record IsFunction (text : List ℕ) (f : Function) : Type 0 where
  pub tree : Tree
  pub spelled : syntax.IsTextOf text tree
  pub of_tree : IsFunctionOf tree f

-- A handler stands before another: that of a lesser port, or of the same port that for IPv4 before
-- that for IPv6.
abbrev pub IsBefore : Door → Door → Type 0
IsBefore a b = (a.port < b.port) ⊎ ((a.port ≡ b.port) × (a.family ≡ Four) × (b.family ≡ Six))

-- a handler is the first of those with more than 4,096 feasible paths
pub record IsPastPaths (f : Function) (door : Door) : Type 0 where
  pub past : 4096 < path_count f door
  pub least : (other : Door) → IsBefore other door → path_count f other ≤ 4096

-- this is where the word of the handler of a port for a family stands
pub record IsHandlerPlace (handlers : List Handler) (door : Door) (place : Place) : Type 0 where
  pub handler : Handler
  pub among : Contains handlers handler
  pub of_port : handler.port.value ≡ door.port
  pub of_family : handler.family ≡ door.family
  pub at : handler.place ≡ place

-- A tree breaks no rule, but a handler has too many paths, and this is where the first such one stands.
pub record HasManyPaths (tree : Tree) (place : Place) : Type 0 where
  pub faultless : faults tree ≡ []
  pub door : Door
  pub past : IsPastPaths (function tree) door
  pub at : IsHandlerPlace tree.handlers door place

-- the first fault of a tree: it breaks a rule, or else has too many paths
abbrev pub IsTreeFault : Tree → Fault → Place → Type 0
IsTreeFault tree (kinds.Syntax kind) place = ⊥
IsTreeFault tree (kinds.Typing kind) place = first (faults tree) ≡ Some (record { kind = kind; place = place })
IsTreeFault tree kinds.TooManyPaths place = HasManyPaths tree place

-- the text spells a tree that has a fault, and this is its first
pub record BreaksRule (text : List ℕ) (kind : Fault) (place : Place) : Type 0 where
  pub tree : Tree
  pub spelled : syntax.IsTextOf text tree
  pub fault : IsTreeFault tree kind place

abbrev pub place_at : (line column : ℕ) → Place
place_at line column = record { line = line; column = column }

-- the first fault of a text that is no network function: of the grammar, or else of its tree
abbrev pub IsFault : List ℕ → Fault → ℕ → ℕ → Type 0
IsFault text (kinds.Syntax kind) line column = syntax.IsFault kind (place_at line column) text
IsFault text (kinds.Typing kind) line column = BreaksRule text (kinds.Typing kind) (place_at line column)
IsFault text kinds.TooManyPaths line column = BreaksRule text kinds.TooManyPaths (place_at line column)

-- what stands under a name is this function
pub record IsFunctionUnder (told : Told) (name : List ℕ) (f : Function) : Type 0 where
  pub text : List ℕ
  pub text_told : IsToldAs text (told.content name)
  pub is_function : IsFunction text f

-- what stands under a name is no function, and this is its first fault
pub record IsNoFunctionUnder (told : Told) (name : List ℕ) (fault : TextFault) : Type 0 where
  pub text : List ℕ
  pub text_told : IsToldAs text (told.content name)
  pub is_fault : IsFault text fault.kind fault.line fault.column

-- a text's function as the code holds it, with its numbers of paths
pub record Holds (text : List ℕ) (source : Source) : Type 0 where
  pub is_function : IsFunction text (function_of source.func)
  pub counts : source.paths.items ≡ path_counts (function_of source.func)

-- what reading a text comes to; want of memory is free
abbrev pub Reads : List ℕ → Result Source Unread → Type 0
Reads text (Ok source) = Holds text source
Reads text (Err (Text fault)) = IsFault text fault.kind fault.line fault.column
Reads text (Err Memory) = Unit {0}
