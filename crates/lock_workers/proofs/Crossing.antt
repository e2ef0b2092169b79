-- What may cross threads: the text of a function, tables with the history that they have run, and so
-- all that a seat and shared tables are made of.
use Rattle.std.proofs.Common.{ℕ, List, Bool}
use denote.RattleType.{RattleType}
use denote.Param.Send.{IsSend, IsSync, sendable, view_send, view_sync}
use denote.Param.SendFields.{as_row_send, as_row_sync, variants_send, declared_send, declared_sync}
use denote.Enum.Declared as enum
use denote.Hole.FixLaws.{layer_row}
use denote.Hole.FixSend.{fix_send}
use denote.Plain.{UInt}
use mir.Syntax.{w32}
use Rattle.std.proofs.Crossing as heap
use Rattle.std.proofs.Crossing.{crosses}
use Rattle.nf_base.proofs.Shared.{func_sync}
use Rattle.nf_base.specs.declared.expr.Expr.TheBlock as expr_members
use Rattle.nf_base.specs.contracts.expr.Expr as expr
use Rattle.nf_base.specs.contracts.expr.Expr.TheKnot as expr_knot
use Rattle.nf_base.specs.contracts.expr.Given as given
use Rattle.nf_base.specs.contracts.expr.Guard as guard
use Rattle.nf_base.specs.contracts.block.Ending as ending
use Rattle.nf_base.specs.contracts.block.Operation as operation
use Rattle.nf_base.specs.contracts.block.Question as question
use Rattle.nf_base.specs.contracts.block.Creation as creation
use Rattle.nf_base.specs.declared.block.Block.TheBlock as block_members
use Rattle.nf_base.specs.contracts.block.Block as block
use Rattle.nf_base.specs.contracts.block.Block.TheKnot as block_knot
use Rattle.nf_base.specs.contracts.decl.ChainDecl as chain
use Rattle.nf_base.specs.contracts.decl.ArrayDecl as array
use Rattle.nf_base.specs.contracts.handler.Handler as handler
use Rattle.nf_base.specs.contracts.port_handlers.PortHandlers as port_handlers
use Rattle.nf_base.specs.contracts.func.Func as func
use Rattle.nf_base.specs.contracts.seq.Seq as seq
use Rattle.nf_base.proofs.seq.Seq.TheSendSync as seq_law
use Rattle.nf_base.specs.contracts.packet.Packet as packet
use Rattle.nf_base.proofs.packet.Packet.TheSendSync as packet_law
use Rattle.vig_tables.proofs.tables.Tables.TheSendSync as tables_law
use Rattle.lock_core.specs.declared.call.Entry.{Entry}
use Rattle.lock_log.proofs.Crossing.{log_send}
use Rattle.left_right.proofs.part.Part.TheSendSync as part
use Rattle.left_right.proofs.writer.Writer.TheSendSync as writer_law
use Rattle.atomic_table.proofs.shared.Seat.TheSendSync as place
use Rattle.atomic_table.proofs.shared.Shared.TheSendSync as table
use Rattle.atomic_table.proofs.send_lease.SendLease.TheSendSync as lease
use Rattle.left_right.specs.declared.Absorb as absorb
use Rattle.crossbeam_utils.specs.declared.rule.Protocol as protocol
use Rattle.lock_mode.specs.declared.history_counter.Naming as naming
use Rattle.lock_mode.specs.declared.gate.Gate as gate
use Rattle.lock_mode.specs.declared.rule.Rising.{Rising}
use Rattle.lock_mode.proofs.history_counter.SeenHistory.TheSendSync as front_law
use Rattle.lock_mode.proofs.history_counter.HistoryCounter.TheSendSync as book_law
use Rattle.lock_mode.proofs.table_copy.Op.TheSendSync as op_law
use Rattle.lock_mode.specs.contracts.table_copy.TableCopy as side
use Rattle.lock_mode.specs.contracts.table_copy.TableCopy.TheInside as side_inside
use Rattle.lock_mode.specs.contracts.history_end.HistoryEnd as tail
use Rattle.lock_mode.specs.contracts.history_end.HistoryEnd.TheInside as tail_inside
use Rattle.lock_mode.specs.contracts.seat_reader.SeatReader as viewer
use Rattle.lock_mode.specs.contracts.seat.Seat as seat
use Rattle.lock_mode.specs.contracts.seat.Seat.TheInside as seat_inside
use Rattle.lock_mode.specs.contracts.publisher.Publisher as desk
use Rattle.lock_mode.specs.contracts.shared.Shared as shared

-- ---- the text of a function: expressions and blocks hold themselves, in boxes

expr_layer : (R : RattleType) → IsSend R → IsSend (enum.row (enum.declared (expr_knot.type-Expr R R R)))
expr_layer R s = variants_send (expr_knot.type-Expr R R R) (search (sendable, crosses, as_row_send, s) depth 40)

each_expr : (h : expr_knot.the_members → RattleType) → ((j : expr_knot.the_members) → IsSend (h j)) → (i : expr_knot.the_members) → IsSend (layer_row expr_knot.ring i h)
each_expr h all expr_members.member-Expr = expr_layer (h expr_members.member-Expr) (all expr_members.member-Expr)

expr_hole : IsSend expr_knot.hole-Expr
expr_hole = fix_send expr_knot.ring (λ i. record { send = λ h all. each_expr h all i }) expr_members.member-Expr

expr_send : IsSend expr.the_row
expr_send = variants_send expr.enum (search (sendable, crosses, as_row_send, expr_hole) depth 40)

given_send : IsSend given.the_row
given_send = declared_send given.the_type (search (sendable, crosses, as_row_send, expr_send) depth 40)

guard_send : IsSend guard.the_row
guard_send = declared_send guard.the_type (search (sendable, crosses, as_row_send, given_send) depth 40)

ending_send : IsSend ending.the_row
ending_send = variants_send ending.enum (search (sendable, crosses, expr_send) depth 40)

operation_send : IsSend operation.the_row
operation_send = variants_send operation.enum (search (sendable, crosses, as_row_send, expr_send, given_send) depth 40)

question_send : IsSend question.the_row
question_send = variants_send question.enum (search (sendable, crosses, as_row_send, expr_send, given_send, guard_send) depth 40)

creation_send : IsSend creation.the_row
creation_send = search (sendable, crosses, given_send) depth 40

block_layer : (R : RattleType) → IsSend R → IsSend (enum.row (enum.declared (block_knot.type-Block R R R R R R R R)))
block_layer R s = variants_send (block_knot.type-Block R R R R R R R R) (search (sendable, crosses, s, ending_send, operation_send, question_send, creation_send) depth 40)

each_block : (h : block_knot.the_members → RattleType) → ((j : block_knot.the_members) → IsSend (h j)) → (i : block_knot.the_members) → IsSend (layer_row block_knot.ring i h)
each_block h all block_members.member-Block = block_layer (h block_members.member-Block) (all block_members.member-Block)

block_hole : IsSend block_knot.hole-Block
block_hole = fix_send block_knot.ring (λ i. record { send = λ h all. each_block h all i }) block_members.member-Block

block_send : IsSend block.the_row
block_send = variants_send block.enum (search (sendable, crosses, as_row_send, block_hole, ending_send, operation_send, question_send, creation_send) depth 40)

handler_send : IsSend handler.the_row
handler_send = declared_send handler.the_type (search (sendable, crosses, block_send) depth 40)

port_handlers_send : IsSend port_handlers.the_row
port_handlers_send = declared_send port_handlers.the_type (search (sendable, crosses, as_row_send, handler_send) depth 40)

chain_send : IsSend chain.the_row
chain_send = search (sendable, crosses) depth 40

array_send : IsSend array.the_row
array_send = search (sendable, crosses) depth 40

pub func_send : IsSend func.the_row
func_send = declared_send func.the_type (
  search (sendable, crosses, as_row_send) depth 40,
  (
    search (sendable, crosses, as_row_send, chain_send) depth 40,
    (
      search (sendable, crosses, as_row_send, array_send) depth 40,
      (
        search (sendable, crosses, as_row_send) depth 40,
        (search (sendable, crosses, as_row_send, port_handlers_send) depth 40, tt),
      ),
    ),
  ),
)

-- ---- what a seat and shared tables are made of

pub packet_sync : IsSync packet.the_row
packet_sync = packet_law.the_sync

pub places_sync : IsSync (seq.the_row (seq.the_row (UInt w32)))
places_sync = seq_law.the_sync (seq.the_row (UInt w32)) (seq_law.the_sync (UInt w32) (search sendable))

module _ (J : RattleType) (n : naming.Ghosts J.Denot) where
  side_send : IsSend (side.the_row J n)
  side_send = view_send _ _ _ _ _ (declared_send (side_inside.the_type J n) (
    search (sendable, func_send) depth 40,
    (
      search (sendable, tables_law.the_send) depth 40,
      (search (sendable, as_row_send) depth 40, (search (sendable, as_row_send, front_law.the_send) depth 40, tt)),
    ),
  ))

  side_sync : IsSync (side.the_row J n)
  side_sync = view_sync _ _ _ _ _ (declared_sync (side_inside.the_type J n) (
    search (sendable, func_sync) depth 40,
    (
      search (sendable, tables_law.the_sync) depth 40,
      (search (sendable, as_row_sync) depth 40, (search (sendable, as_row_sync, front_law.the_sync) depth 40, tt)),
    ),
  ))

  tail_send : IsSend (tail.the_row J n)
  tail_send = view_send _ _ _ _ _ (declared_send (tail_inside.the_type J n) (
    search (sendable, func_send) depth 40,
    (
      search (sendable, tables_law.the_send) depth 40,
      (
        search (sendable, as_row_send, front_law.the_send) depth 40,
        (search (sendable, crosses, as_row_send) depth 40, tt),
      ),
    ),
  ))

  viewer_send : IsSend (viewer.the_row J n)
  viewer_send = search (sendable, crosses, front_law.the_send, side_sync, part.the_send, place.the_send, table.the_send, table.the_sync, lease.the_send, lease.the_sync) depth 40

  pub seat_send : (G : RattleType) (t : gate.Ghosts G.Denot) → IsSend G → IsSend (seat.the_row J G n t)
  seat_send G t g = view_send _ _ _ _ _ (declared_send (seat_inside.the_type J G n t) (
    search (sendable, as_row_send) depth 40,
    (
      search (sendable, as_row_send, g) depth 40,
      (
        search (sendable, as_row_send, viewer_send) depth 40,
        (search (sendable, as_row_send, log_send) depth 40, tt),
      ),
    ),
  ))

  module _ (S : RattleType) (a : absorb.Ghosts (List Entry × Bool) (List Entry) S.Denot) (p : protocol.Ghosts Rising (List Entry × Bool) ℕ) where
    desk_send : IsSend (desk.the_row J S n a p)
    desk_send = declared_send (desk.the_type J S n a p) (
      search (sendable, as_row_send, writer_law.the_send, side_send, side_sync, op_law.the_send, heap.send, heap.sync, heap.frees) depth 40,
      (
        search (sendable, crosses, as_row_send, tail_send) depth 40,
        (
          search (sendable, as_row_send, front_law.the_send) depth 40,
          (search (sendable, as_row_send, book_law.the_send) depth 40, tt),
        ),
      ),
    )

    pub shared_sync : IsSync (shared.the_row J S n a p)
    shared_sync = declared_sync (shared.the_type J S n a p) (search (sendable, crosses, as_row_sync, desk_send) depth 40, tt)
