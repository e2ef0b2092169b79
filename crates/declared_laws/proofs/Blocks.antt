-- Where nothing is wrong with the handlers of a text, what each statement of their blocks touches is declared.
use Rattle.std.proofs.Common.{◌≡◌, ℕ, ◌+◌, List, [], ◌∷◌, ◌++◌, Option, Some, None, nat_le}
use Rattle.std.specs.Prelude.{All}
use Rattle.std.specs.List.{flat_map, range_with_len}
use Rattle.std.proofs.lemmas.List.Elements.{All-nil, All-cons, All-append}
use Rattle.nf_base.specs.declared.decl.ChainDecl.{ChainDecl}
use Rattle.nf_base.specs.declared.packet.Door.{Door}
use Rattle.nf_base.specs.declared.packet.Family.{Family}
use Rattle.nf_base.specs.Doors.{port_blocks}
use Rattle.nf_base.specs.Text.{Block, FallsOff}
use Rattle.nf_base.specs.Statements.{Statement, Ends, Does, Asks, Makes, statements}
use Rattle.nf_tree.specs.Tree as tree
use Rattle.nf_types.specs.declared.room.Room.{Room}
use Rattle.nf_types.specs.declared.objects.Objects.{Objects}
use Rattle.nf_types.specs.declared.fault.TypingKind.TheVariants.{Limit, Twice}
use Rattle.nf_types.specs.Faults.{first, fault_if, each_behind}
use Rattle.nf_types.specs.Variables.{Variable}
use Rattle.nf_types.specs.Places.{operation_places, question_places, creation_places, places}
use Rattle.nf_types.specs.Counts.{behind, behind_question, behind_new, whole_room}
use Rattle.nf_types.specs.Blocks.{bound, bound_by, checked_ending, checked_operation, checked_question, checked_creation, checked_block}
use Rattle.nf_types.specs.BlockFaults.{operation_faults, block_faults}
use Rattle.nf_types.specs.Function.{is_at, block_at, checked_at, handlers_of}
use Rattle.nf_types.specs.TextFaults.{handler_faults, is_handled}
use Rattle.nf_types.proofs.First.{front_none, back_none}
use Rattle.nf_types.proofs.Faultless.{ask_faultless, make_faultless}
use Rattle.nf_types.proofs.Fitting.{one_of, ports_hold}
use Rattle.nf_sites.specs.Sites.{statement_sites}
use Rattle.declared_laws.proofs.Values.{IsOf, AllOf}
use Rattle.declared_laws.proofs.Asking.{question_has, creation_has, operation_has, ending_has}

-- a statement that touches what is declared, at a door
abbrev Touches : Objects → List ChainDecl → Door → Statement → Type 0
Touches o decls door s = AllOf o (statement_sites decls door s)

block_has : (family : Family) (place : ℕ) (room : Room) (o : Objects) (xs : List Variable) (decls : List ChainDecl) (door : Door) (b : tree.Block) →
    first (block_faults family room o xs b) ≡ None → All (Touches o decls door) (statements (checked_block place o xs b))
block_has family place room o xs decls door (tree.End end) e =
    All-cons (Touches o decls door) (Ends (checked_ending place o xs end)) [] (ending_has family o xs decls door place end e) (All-nil (Touches o decls door))
block_has family place room o xs decls door (tree.Do op next) e =
    let front = operation_faults family o xs op in
    let rest = block_faults family room o xs next in
    All-cons (Touches o decls door) (Does (checked_operation place o xs op))
    (statements (checked_block (place + operation_places op) o xs next))
    (operation_has family o xs decls door place op (front_none front rest e))
    (block_has family (place + operation_places op) room o xs decls door next (back_none front rest e))
block_has family place room o xs decls door (tree.Ask q hit miss next) e =
    let T = Touches o decls door in
    let at = place + question_places q in
    let inner = behind_question room q in
    let none = ask_faultless family room o xs q hit miss next e in
    let h = statements (checked_block at o (bound_by o xs q) hit) in
    let m = statements (checked_block (at + places hit) o xs miss) in
    let n = statements (checked_block (at + places hit + places miss) o xs next) in
    All-cons T (Asks (checked_question place o xs q)) (h ++ (m ++ n)) (question_has family o xs decls door room place q none.question)
    (All-append T h (m ++ n) (block_has family at inner o (bound_by o xs q) decls door hit none.hit)
    (All-append T m n (block_has family (at + places hit) (behind inner hit) o xs decls door miss none.miss)
    (block_has family (at + places hit + places miss) (behind (behind inner hit) miss) o xs decls door next none.next)))
block_has family place room o xs decls door (tree.Make c made taken full next) e =
    let T = Touches o decls door in
    let at = place + creation_places c in
    let inner = behind_new room in
    let none = make_faultless family room o xs c made taken full next e in
    let m = statements (checked_block at o (bound o xs c.variable c.chain) made) in
    let t = statements (checked_block (at + places made) o xs taken) in
    let f = statements (checked_block (at + places made + places taken) o xs full) in
    let n = statements (checked_block (at + places made + places taken + places full) o xs next) in
    All-cons T (Makes (checked_creation place o xs c)) (m ++ (t ++ (f ++ n))) (creation_has family o xs decls door room place c none.creation)
    (All-append T m (t ++ (f ++ n)) (block_has family at inner o (bound o xs c.variable c.chain) decls door made none.made)
    (All-append T t (f ++ n) (block_has family (at + places made) (behind inner made) o xs decls door taken none.taken)
    (All-append T f n (block_has family (at + places made + places taken) (behind (behind inner made) taken) o xs decls door full none.full)
    (block_has family (at + places made + places taken + places full) (behind (behind (behind inner made) taken) full) o xs decls door next none.next))))

-- a block whose statements touch what is declared, at each door
abbrev pub BlockTouches : Objects → Block → Type 0
BlockTouches o b = (door : Door) → All (Touches o o.chains door) (statements b)

handler_has : (place ports : ℕ) (o : Objects) (before : List tree.Handler) (h : tree.Handler) →
    first (handler_faults ports o before h) ≡ None → BlockTouches o (checked_block place o [] h.block)
unfolding handler_faults
handler_has place ports o before h e door =
    let twice = fault_if (is_handled h.port.value h.family before) Twice h.port.place in
    let limit = fault_if (nat_le ports h.port.value) Limit h.port.place in
    let inner = block_faults h.family whole_room o [] h.block in
    block_has h.family place whole_room o [] o.chains door h.block (back_none limit inner (back_none twice (limit ++ inner) e))

none_has : (o : Objects) → BlockTouches o (checked_at o None)
none_has o door = All-cons (Touches o o.chains door) (Ends FallsOff) [] (All-nil (IsOf o)) (All-nil (Touches o o.chains door))

-- the handler of a port for a version of IP, if there is one
port_has : (port : ℕ) (family : Family) (place ports : ℕ) (o : Objects) (before hs : List tree.Handler) →
    first (each_behind (handler_faults ports o) before hs) ≡ None → BlockTouches o (checked_at o (block_at port family place hs))
port_has port family place ports o before [] e = none_has o
port_has port family place ports o before (h ∷ hs) e =
    let one = handler_faults ports o before h in
    let rest = each_behind (handler_faults ports o) (before ++ h ∷ []) hs in
    one_of (λ (found : Option (ℕ × tree.Block)). BlockTouches o (checked_at o found)) (is_at port family h) (Some (place, h.block)) (block_at port family (place + places h.block) hs)
    (handler_has place ports o before h (front_none one rest e))
    (port_has port family (place + places h.block) ports o (before ++ h ∷ []) hs (back_none one rest e))

-- the blocks of a text
pub all_have : (count ports : ℕ) (o : Objects) (hs : List tree.Handler) →
    first (each_behind (handler_faults ports o) [] hs) ≡ None →
    All (BlockTouches o) (flat_map port_blocks (handlers_of o count hs))
all_have count ports o hs e =
    ports_hold (BlockTouches o) o hs (λ port family. port_has port family 0 ports o [] hs e) (range_with_len 0 count)
