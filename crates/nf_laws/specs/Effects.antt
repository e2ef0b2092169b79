-- What each statement does, and what it leaves as it was.
use Rattle.std.specs.Prelude.{◌≡◌, ◌≢◌, ◌<◌, ◌≤◌, ℕ, max, true, false, List, [], ◌∷◌, length, map, Option, Some, None, slice_get}
use Rattle.nf_base.specs.declared.decl.ChainDecl.{ChainDecl}
use Rattle.nf_base.specs.declared.decl.ColumnDecl.{ColumnDecl}
use Rattle.nf_base.specs.declared.packet.Field.{Field}
use Rattle.nf_base.specs.declared.packet.Field.TheVariants.{Time, Length, SrcMac, DstMac, SrcIp, DstIp, SrcIp6, DstIp6, Proto, Ttl, SrcPort, DstPort}
use Rattle.nf_base.specs.declared.width.Width.TheVariants.{W16}
use Rattle.nf_base.specs.declared.done.Action.TheVariants.{Drop, Flood, To}
use Rattle.nf_base.specs.declared.done.Edits.{Edits}
use Rattle.nf_base.specs.declared.state.Entry.{Entry}
use Rattle.nf_base.specs.declared.state.Chain.{Chain}
use Rattle.nf_base.specs.declared.state.State.{State}
use Rattle.nf_base.specs.Values.{field_width, narrowed, is_settable}
use Rattle.nf_base.specs.Text.{Expression, Given, FallsOff, Forward, Discard, Touch, Free, Set, Write, Store, Creation, End}
use Rattle.nf_base.specs.Text as text
use Rattle.nf_base.specs.Chains.{chain_at, array_at, maps_of, zeros_of, lifetime_of}
use Rattle.nf_base.specs.Context.{Context, Input, EntryRef, var_at, value, given}
use Rattle.nf_base.specs.Operations.{Stops, Made, new_result, with_new, after}
use Rattle.nf_base.specs.Course.{Normal, Ended, exec}
use Rattle.nf_base.specs.Step.{step_result}
use Rattle.nf_laws.specs.Entries.{IsLive, IsVacant}
use Rattle.nf_laws.specs.Telling.{Names}

-- the entry at an index of a chain of a state
abbrev pub StandsAt : State → EntryRef → Entry → Type 0
StandsAt s at entry = IsLive (chain_at s.chains at.chain).slots at.index entry

-- all as before but one index of one chain, and the greatest stamp of that
pub record KeepsOthers (at : EntryRef) (before after : State) : Type 0 where
  pub arrays : after.arrays ≡ before.arrays
  pub count : length after.chains ≡ length before.chains
  pub chains : (k : ℕ) → k ≢ at.chain → chain_at after.chains k ≡ chain_at before.chains k
  pub size : length (chain_at after.chains at.chain).slots
      ≡ length (chain_at before.chains at.chain).slots
  pub slots : (i : ℕ) → i ≢ at.index →
      slice_get (chain_at after.chains at.chain).slots i
      ≡ slice_get (chain_at before.chains at.chain).slots i

-- the variables, the edits and the choices as before
pub record KeepsRest (c d : Context) : Type 0 where
  pub vars : d.vars ≡ c.vars
  pub edits : d.edits ≡ c.edits
  pub left : d.left ≡ c.left

-- the greatest stamp of an entry's chain
abbrev pub greatest_at : State → EntryRef → ℕ
greatest_at s at = (chain_at s.chains at.chain).greatest

-- a touched entry has the time as its stamp, or the greatest stamp of its chain if that is later
pub record Restamps (p : Input) (at : EntryRef) (entry : Entry) (c d : Context) : Type 0 where
  pub entry_now : StandsAt d.state at (record entry { stamp = max p.time (greatest_at c.state at) })
  pub greatest : greatest_at d.state at ≡ max p.time (greatest_at c.state at)
  pub others : KeepsOthers at c.state d.state
  pub rest : KeepsRest c d

-- a touch restamps its entry
abbrev pub TouchesRestamp : Type 0
TouchesRestamp = (p : Input) (c : Context) (var : ℕ) (at : EntryRef) (entry : Entry) →
    Names c var at → StandsAt c.state at entry → Restamps p at entry c (after p c (Touch var))

-- a written entry has the value in its column, where it has such a column, and all else as before
pub record Rewrites (column v : ℕ) (at : EntryRef) (entry : Entry) (c d : Context) : Type 0 where
  pub now : Entry
  pub entry_now : StandsAt d.state at now
  pub stamp : now.stamp ≡ entry.stamp
  pub labels : now.labels ≡ entry.labels
  pub value_now : (before : ℕ) → slice_get entry.columns column ≡ Some before →
      slice_get now.columns column ≡ Some v
  pub columns : (other : ℕ) → other ≢ column →
      slice_get now.columns other ≡ slice_get entry.columns other
  pub greatest : greatest_at d.state at ≡ greatest_at c.state at
  pub others : KeepsOthers at c.state d.state
  pub rest : KeepsRest c d

-- a write rewrites its entry
abbrev pub WritesRewrite : Type 0
WritesRewrite =
    (p : Input) (c : Context) (var column : ℕ) (g : Given) (at : EntryRef) (entry : Entry) →
    Names c var at → StandsAt c.state at entry →
    Rewrites column (given p c g) at entry c (after p c (Write var column g))

-- where a freed entry stood the index is vacant, and no variable stands for it any more
pub record Frees (at : EntryRef) (c d : Context) : Type 0 where
  pub vacant : IsVacant (chain_at d.state.chains at.chain).slots at.index
  pub unnamed : (v : ℕ) → var_at d.vars v ≢ Some at
  pub names : (v : ℕ) (other : EntryRef) → Names c v other → other ≢ at → Names d v other
  pub greatest : greatest_at d.state at ≡ greatest_at c.state at
  pub others : KeepsOthers at c.state d.state
  pub edits : d.edits ≡ c.edits
  pub left : d.left ≡ c.left

-- a free vacates the index of its entry
abbrev pub FreesVacate : Type 0
FreesVacate = (p : Input) (c : Context) (var : ℕ) (at : EntryRef) (entry : Entry) →
    Names c var at → StandsAt c.state at entry → Frees at c (after p c (Free var))

-- an operation at a variable whose entry was freed does nothing
pub record DoNothing (p : Input) (c : Context) (var : ℕ) : Type 0 where
  pub touch : after p c (Touch var) ≡ c
  pub free : after p c (Free var) ≡ c
  pub write : (column : ℕ) (g : Given) → after p c (Write var column g) ≡ c

-- so it is of each such variable
abbrev pub FreedVariablesDoNothing : Type 0
FreedVariablesDoNothing = (p : Input) (c : Context) (var : ℕ) → var_at c.vars var ≡ None →
    DoNothing p c var

-- a stored cell has its value, and all other cells, arrays and chains are as before
pub record Stores (array i v : ℕ) (c d : Context) : Type 0 where
  pub value_now : (before : ℕ) → slice_get (array_at c.state.arrays array) i ≡ Some before →
      slice_get (array_at d.state.arrays array) i ≡ Some v
  pub cells : (other : ℕ) → other ≢ i →
      slice_get (array_at d.state.arrays array) other
      ≡ slice_get (array_at c.state.arrays array) other
  pub size : length (array_at d.state.arrays array) ≡ length (array_at c.state.arrays array)
  pub arrays : (k : ℕ) → k ≢ array → array_at d.state.arrays k ≡ array_at c.state.arrays k
  pub count : length d.state.arrays ≡ length c.state.arrays
  pub chains : d.state.chains ≡ c.state.chains
  pub rest : KeepsRest c d

-- a store gives a cell its value, by the index in 16 bits
abbrev pub StoresGiveCells : Type 0
StoresGiveCells = (p : Input) (c : Context) (place array : ℕ) (at : Expression) (g : Given) →
    Stores array (narrowed W16 (value p c at)) (given p c g) c (after p c (Store place array at g))

-- the value that edits have for a field
abbrev pub edit_of : Field → Edits → Option ℕ
edit_of SrcMac edits = edits.src_mac
edit_of DstMac edits = edits.dst_mac
edit_of SrcIp edits = edits.src_ip
edit_of DstIp edits = edits.dst_ip
edit_of SrcIp6 edits = edits.src_ip6
edit_of DstIp6 edits = edits.dst_ip6
edit_of Ttl edits = edits.ttl
edit_of SrcPort edits = edits.src_port
edit_of DstPort edits = edits.dst_port
edit_of Time edits = None
edit_of Length edits = None
edit_of Proto edits = None

-- a field that may be set has the value in its width, and all other fields, the state, the variables and the
-- choices are as before
pub record Sets (field : Field) (v : ℕ) (c d : Context) : Type 0 where
  pub value_now : is_settable field ≡ true → edit_of field d.edits ≡ Some (narrowed (field_width field) v)
  pub none : is_settable field ≡ false → d.edits ≡ c.edits
  pub fields : (other : Field) → other ≢ field → edit_of other d.edits ≡ edit_of other c.edits
  pub state : d.state ≡ c.state
  pub vars : d.vars ≡ c.vars
  pub left : d.left ≡ c.left

-- a `set` edits its field
abbrev pub SetsEdit : Type 0
SetsEdit = (p : Input) (c : Context) (field : Field) (g : Given) →
    Sets field (given p c g) c (after p c (Set field g))

-- a new entry at the next choice, with the labels given and a 0 in each column, bound to its
-- variable
pub record Makes (p : Input) (n : Creation) (at : EntryRef) (c d : Context) : Type 0 where
  pub entry_now : StandsAt d.state at (record {
    stamp = max p.time (greatest_at c.state at);
    labels = map (given p c) n.labels;
    columns = zeros_of p.decls n.chain;
  })
  pub greatest : greatest_at d.state at ≡ max p.time (greatest_at c.state at)
  pub others : KeepsOthers at c.state d.state
  pub names : n.var ≤ length c.vars → Names d n.var at
  pub earlier : n.var ≤ length c.vars → (v : ℕ) → v < n.var → var_at d.vars v ≡ var_at c.vars v
  pub edits : d.edits ≡ c.edits
  pub left : c.left ≡ at.index ∷ d.left

-- a `new` that makes an entry puts it so
abbrev pub NewsPutEntries : Type 0
NewsPutEntries = (stops : Stops) (p : Input) (c : Context) (n : Creation) (i : ℕ) →
    new_result stops p c n ≡ Made i →
    Makes p n (record { chain = n.chain; index = i }) c (with_new p c n i)

-- what is declared of a chain is found by its number
pub record IsFound (decls : List ChainDecl) (k : ℕ) (decl : ChainDecl) : Type 0 where
  pub maps : maps_of decls k ≡ decl.maps
  pub zeros : zeros_of decls k ≡ map (λ (column : ColumnDecl). 0) decl.columns
  pub lifetime : lifetime_of decls k ≡ decl.lifetime

-- so it is of each chain that is declared
abbrev pub DeclarationsAreFound : Type 0
DeclarationsAreFound = (decls : List ChainDecl) (k : ℕ) (decl : ChainDecl) →
    slice_get decls k ≡ Some decl → IsFound decls k decl

-- the state of a chain is found by its number
abbrev pub ChainsAreFound : Type 0
ChainsAreFound = (chains : List Chain) (k : ℕ) (chain : Chain) →
    slice_get chains k ≡ Some chain → chain_at chains k ≡ chain

-- the cells of an array are found by its number
abbrev pub ArraysAreFound : Type 0
ArraysAreFound = (arrays : List (List ℕ)) (k : ℕ) (cells : List ℕ) →
    slice_get arrays k ≡ Some cells → array_at arrays k ≡ cells

-- how a block ends: a packet goes out at a port that there is, and is dropped at another
pub record EndsSo (stops : Stops) (p : Input) (c : Context) (port : Expression) : Type 0 where
  pub falls_off : exec stops p (End FallsOff) c ≡ Normal c
  pub flood : exec stops p (End text.Flood) c ≡ Ended Flood c
  pub discard : exec stops p (End Discard) c ≡ Ended Drop c
  pub forward : value p c port < p.ports →
      exec stops p (End (Forward port)) c ≡ Ended (To (value p c port)) c
  pub no_port : p.ports ≤ value p c port → exec stops p (End (Forward port)) c ≡ Ended Drop c

-- so each block ends, a share's too
abbrev pub BlocksEndSo : Type 0
BlocksEndSo = (stops : Stops) (p : Input) (c : Context) (port : Expression) → EndsSo stops p c port

-- a handler that falls off its end drops its packet
abbrev pub FallingOffDrops : Type 0
FallingOffDrops = (choices : List ℕ) (c : Context) → c.left ≡ [] →
    step_result choices (Normal c)
    ≡ Some (record {
      state = c.state;
      done = record { action = Drop; edits = c.edits; picks = choices };
    })
