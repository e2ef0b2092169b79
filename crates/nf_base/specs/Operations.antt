-- What each statement does to the context.
use Rattle.std.specs.Prelude.{ℕ, ◌==◌, ◌&&◌, Bool, false, List, [], ◌∷◌, ◌++◌, take, drop, Option, Some, None, if◌then◌else◌, map, slice_get, slice_set}
use Rattle.std.specs.Option.{option_map, option_and_then}
use Rattle.nf_base.specs.Text.{Guard, Operation, Touch, Free, Set, Write, Store, Question, Get, Find, Test, Creation}
use Rattle.nf_base.specs.declared.width.Width.TheVariants.{W8, W16, W32, W48, W128}
use Rattle.nf_base.specs.declared.packet.Field.{Field}
use Rattle.nf_base.specs.declared.packet.Field.TheVariants.{Time, Length, SrcMac, DstMac, SrcIp, DstIp, SrcIp6, DstIp6, Proto, Ttl, SrcPort, DstPort}
use Rattle.nf_base.specs.declared.done.Edits.{Edits}
use Rattle.nf_base.specs.declared.state.Entry.{Entry}
use Rattle.nf_base.specs.declared.state.Chain.{Chain}
use Rattle.nf_base.specs.Values.{narrowed, compares}
use Rattle.nf_base.specs.Chains.{chain_at, array_at, maps_of, zeros_of, found, is_taken, is_full, is_vacant, entry_at, stamped, fresh, touched, freed, written}
use Rattle.nf_base.specs.Context.{EntryRef, Var, Context, Input, var_at, value, given, has_labels}

-- the context with these chains
abbrev pub with_chains : List Chain → Context → Context
with_chains chains c = record c { state = record { chains = chains; arrays = c.state.arrays } }

-- the context with the entry at an index of a chain bound to a variable
abbrev pub bound : ℕ → ℕ → Context → ℕ → Context
bound var chain c i =
    record c { vars = take var c.vars ++ Some (record { chain = chain; index = i }) ∷ [] }

-- the index that a `get` finds under a key in a map of a chain
abbrev pub key_found : Input → Context → ℕ → ℕ → List ℕ → Option ℕ
key_found p c chain m key =
    option_and_then
    (λ decl. found decl key (chain_at c.state.chains chain).slots)
    (slice_get (maps_of p.decls chain) m)

-- an index whose entry has the labels that are asked for
abbrev pub index_if : Input → Context → List Guard → ℕ → Option Entry → Option ℕ
index_if p c guards i None = None
index_if p c guards i (Some entry) = if has_labels p c guards entry then Some i else None

-- the index that a `find` finds in a chain
abbrev pub index_found : Input → Context → ℕ → ℕ → List Guard → Option ℕ
index_found p c chain i guards =
    index_if p c guards i (entry_at (chain_at c.state.chains chain).slots i)

-- the context in which a question hits; none where it misses
abbrev pub answer : Input → Context → Question → Option Context
answer p c (Get place chain m key var) =
    option_map (bound var chain c) (key_found p c chain m (map (given p c) key))
answer p c (Find place chain at guards var) =
    option_map (bound var chain c) (index_found p c chain (value p c at) guards)
answer p c (Test place comparison left right) =
    if compares comparison (value p c left) (value p c right) then Some c else None

-- where a `new` stops, by the number and the state of its chain
abbrev pub Stops : Type 0
Stops = (chain : ℕ) → Chain → Bool

-- the undivided step stops nowhere
abbrev pub never : Stops
never chain state = false

-- what a `new` comes to
pub data NewResult : Type 0 where
  Made : (index : ℕ) → NewResult
  Taken Full Illegal Stopped : NewResult

-- the next choice, where it is vacant
abbrev pub chosen : List (Option Entry) → List ℕ → NewResult
chosen slots [] = Illegal
chosen slots (i ∷ left) = if is_vacant (slice_get slots i) then Made i else Illegal

-- in this order: a key that is taken, a stop, no index vacant, the next choice
abbrev pub new_result : Stops → Input → Context → Creation → NewResult
new_result stops p c n =
    let chain = chain_at c.state.chains n.chain in
    if is_taken (maps_of p.decls n.chain) (map (given p c) n.labels) chain.slots then Taken
    else if stops n.chain chain then Stopped
    else if is_full chain.slots then Full
    else chosen chain.slots c.left

-- the entry that a `new` makes, to be stamped
abbrev pub new_entry : Input → Context → Creation → Entry
new_entry p c n = fresh (map (given p c) n.labels) (zeros_of p.decls n.chain)

-- the context with an entry made at an index, by the next choice
abbrev pub with_new : Input → Context → Creation → ℕ → Context
with_new p c n i =
    let chain = stamped p.time i (new_entry p c n) (chain_at c.state.chains n.chain) in
    let d = bound n.var n.chain (with_chains (slice_set c.state.chains n.chain chain) c) i in
    record d { left = drop 1 c.left }

-- the chains after an operation at a variable's index
abbrev pub on_var : (ℕ → Chain → Chain) → Var → List Chain → List Chain
on_var op None chains = chains
on_var op (Some at) chains =
    slice_set chains at.chain (op at.index (chain_at chains at.chain))

-- a variable, unless it stands for the entry that was freed
abbrev pub unless_at : EntryRef → Var → Var
unless_at gone None = None
unless_at gone (Some at) =
    if at.chain == gone.chain && at.index == gone.index then None else Some at

-- the variables after one's entry was freed: none stands for it any more
abbrev pub without : Var → List Var → List Var
without None vars = vars
without (Some gone) vars = map (unless_at gone) vars

-- the edits with a value of so many bits for a field; fields that may not be set have none
abbrev pub edited : Field → ℕ → Edits → Edits
edited SrcMac v edits = record edits { src_mac = Some (narrowed W48 v) }
edited DstMac v edits = record edits { dst_mac = Some (narrowed W48 v) }
edited SrcIp v edits = record edits { src_ip = Some (narrowed W32 v) }
edited DstIp v edits = record edits { dst_ip = Some (narrowed W32 v) }
edited SrcIp6 v edits = record edits { src_ip6 = Some (narrowed W128 v) }
edited DstIp6 v edits = record edits { dst_ip6 = Some (narrowed W128 v) }
edited Ttl v edits = record edits { ttl = Some (narrowed W8 v) }
edited SrcPort v edits = record edits { src_port = Some (narrowed W16 v) }
edited DstPort v edits = record edits { dst_port = Some (narrowed W16 v) }
edited Time v edits = edits
edited Length v edits = edits
edited Proto v edits = edits

-- the context with a value in a cell of an array; past the array's end nothing is written
abbrev pub stored : ℕ → ℕ → ℕ → Context → Context
stored array i v c = record c {
  state = record {
    chains = c.state.chains;
    arrays = slice_set c.state.arrays array (slice_set (array_at c.state.arrays array) i v);
  };
}

-- the context after an operation
abbrev pub after : Input → Context → Operation → Context
after p c (Touch var) =
    with_chains (on_var (touched p.time) (var_at c.vars var) c.state.chains) c
after p c (Free var) =
    record (with_chains (on_var freed (var_at c.vars var) c.state.chains) c) { vars = without (var_at c.vars var) c.vars }
after p c (Set field g) = record c { edits = edited field (given p c g) c.edits }
after p c (Write var column g) =
    with_chains (on_var (written column (given p c g)) (var_at c.vars var) c.state.chains) c
after p c (Store place array at g) = stored array (narrowed W16 (value p c at)) (given p c g) c
