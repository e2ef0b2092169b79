-- What is wrong with a block of the text.
use Rattle.std.specs.Prelude.{◌==◌, ◌||◌, List, [], ◌++◌}
use Rattle.nf_base.specs.declared.packet.Family.{Family}
use Rattle.nf_tokens.specs.declared.token.Place.{Place}
use Rattle.nf_tree.specs.declared.place.Name.{Name}
use Rattle.nf_tree.specs.Tree.{Expression, Guards, Ending, FallsOff, Missing, Flood, Discard, Forward, Operation, Touch, Free, Set, Write, Store, Question, Get, Find, Test, Creation, Block, End, Do, Ask, Make}
use Rattle.nf_types.specs.declared.room.Room.{Room}
use Rattle.nf_types.specs.declared.fault.TypingKind.TheVariants.{Limit}
use Rattle.nf_types.specs.declared.fault.Fault.{Fault}
use Rattle.nf_types.specs.Faults.{fault_if}
use Rattle.nf_types.specs.declared.objects.Objects.{Objects}
use Rattle.nf_types.specs.Variables.{Variable}
use Rattle.nf_types.specs.Expressions.{value_faults}
use Rattle.nf_types.specs.Counts.{behind, behind_question, behind_new, behind_asked, behind_made}
use Rattle.nf_types.specs.StatementFaults.{binding_faults, use_faults, look_up_faults, making_faults, finding_faults, set_faults, write_faults, store_faults}
use Rattle.nf_types.specs.Blocks.{bound, bound_by}

-- an end
abbrev pub ending_faults : Family → Objects → List Variable → Ending → List Fault
ending_faults family o xs FallsOff = []
ending_faults family o xs Missing = []
ending_faults family o xs Flood = []
ending_faults family o xs Discard = []
ending_faults family o xs (Forward v) = value_faults family o xs v

-- a statement with no block
abbrev pub operation_faults : Family → Objects → List Variable → Operation → List Fault
operation_faults family o xs (Touch x) = use_faults xs x
operation_faults family o xs (Free at x) = use_faults xs x
operation_faults family o xs (Set f at v) = set_faults family o xs f at v
operation_faults family o xs (Write x y v) = write_faults family o xs x y v
operation_faults family o xs (Store a i v) = store_faults family o xs a i v

-- a `get` without its blocks, where so many may still come
unfoldable pub get_faults : Family → Room → Objects → List Variable → (at : Place) →
    (x c m : Name) → List Expression → (close : Place) → List Fault
get_faults family room o xs at x c m key close =
    fault_if (room.lookups == 0) Limit at
    ++ (binding_faults o xs x
    ++ look_up_faults family o xs c m key close)

-- a `find` without its blocks
unfoldable pub find_faults : Family → Room → Objects → List Variable → (at : Place) →
    (x c : Name) → Expression → Guards → List Fault
find_faults family room o xs at x c i gs =
    fault_if (room.lookups == 0) Limit at
    ++ (binding_faults o xs x
    ++ finding_faults family o xs c i gs)

-- a statement with two blocks, without the blocks
abbrev pub question_faults : Family → Room → Objects → List Variable → Question → List Fault
question_faults family room o xs (Get at x c m key close) =
    get_faults family room o xs at x c m key close
question_faults family room o xs (Find at x c i gs) = find_faults family room o xs at x c i gs
question_faults family room o xs (Test l comparison r) =
    value_faults family o xs l ++ value_faults family o xs r

-- a `new` without its blocks
unfoldable pub creation_faults : Family → Room → Objects → List Variable → Creation → List Fault
creation_faults family room o xs n =
    fault_if (room.lookups == 0 || room.news == 0) Limit n.place
    ++ (binding_faults o xs n.variable
    ++ making_faults family o xs n.chain n.given n.close)

-- The faults of a block of a handler for a version of IP, where so many `get`, `find` and `new` may
-- still come: over these chains and arrays, with these variables in scope. A variable is in scope in
-- the first block of its statement alone.
abbrev pub block_faults : Family → Room → Objects → List Variable → Block → List Fault
block_faults family room o xs (End e) = ending_faults family o xs e
block_faults family room o xs (Do op next) =
    operation_faults family o xs op ++ block_faults family room o xs next
block_faults family room o xs (Ask q hit miss next) =
    (question_faults family room o xs q
    ++ (block_faults family (behind_question room q) o (bound_by o xs q) hit
    ++ block_faults family (behind (behind_question room q) hit) o xs miss))
    ++ block_faults family (behind_asked room q hit miss) o xs next
block_faults family room o xs (Make n made taken full next) =
    (creation_faults family room o xs n
    ++ (block_faults family (behind_new room) o (bound o xs n.variable n.chain) made
    ++ (block_faults family (behind (behind_new room) made) o xs taken
    ++ block_faults family (behind (behind (behind_new room) made) taken) o xs full)))
    ++ block_faults family (behind_made room made taken full) o xs next

-- a question with its blocks
abbrev pub asked_faults : Family → Room → Objects → List Variable → Question →
    (hit miss : Block) → List Fault
asked_faults family room o xs q hit miss =
    question_faults family room o xs q
    ++ (block_faults family (behind_question room q) o (bound_by o xs q) hit
    ++ block_faults family (behind (behind_question room q) hit) o xs miss)

-- a `new` with its blocks
abbrev pub made_faults : Family → Room → Objects → List Variable → Creation →
    (made taken full : Block) → List Fault
made_faults family room o xs n made taken full =
    creation_faults family room o xs n
    ++ (block_faults family (behind_new room) o (bound o xs n.variable n.chain) made
    ++ (block_faults family (behind (behind_new room) made) o xs taken
    ++ block_faults family (behind (behind (behind_new room) made) taken) o xs full))
