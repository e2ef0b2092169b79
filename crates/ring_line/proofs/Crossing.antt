-- What may cross to a worker's thread: the text of a function, tables, and so a queue handler between its rings.
use denote.RattleType.{RattleType}
use denote.Param.Send.{IsSend, IsSync, sendable, view_send}
use denote.Param.SendFields.{as_row_send, variants_send, declared_send}
use denote.Enum.Declared as enum
use denote.Hole.FixLaws.{layer_row}
use denote.Hole.FixSend.{fix_send}
use Rattle.std.proofs.Crossing.{crosses}
use Rattle.nf_base.specs.declared.expr.Expr.TheBlock as expr_members
use Rattle.nf_base.specs.contracts.expr.Expr as expr
use Rattle.nf_base.specs.contracts.expr.Expr.TheKnot as expr_knot
use Rattle.nf_base.specs.contracts.expr.Given as given
use Rattle.nf_base.specs.contracts.expr.Guard as guard
use Rattle.nf_base.specs.contracts.block.Ending as ending
use Rattle.nf_base.specs.contracts.block.Operation as operation
use Rattle.nf_base.specs.contracts.block.Question as question
use Rattle.nf_base.specs.contracts.block.Creation as creation
use Rattle.nf_base.specs.declared.block.Block.TheBlock as block_members
use Rattle.nf_base.specs.contracts.block.Block as block
use Rattle.nf_base.specs.contracts.block.Block.TheKnot as block_knot
use Rattle.nf_base.specs.contracts.decl.ChainDecl as chain
use Rattle.nf_base.specs.contracts.decl.ArrayDecl as array
use Rattle.nf_base.specs.contracts.handler.Handler as handler
use Rattle.nf_base.specs.contracts.port_handlers.PortHandlers as port_handlers
use Rattle.nf_base.specs.contracts.func.Func as func
use Rattle.ring_line.proofs.halt.Halt.TheSendSync as halt_law
use Rattle.ring_line.proofs.worker_ends.RingEnds.TheSendSync as ends_law
use Rattle.ring_line.proofs.bell.Looks.TheSendSync as looks_law
use Rattle.vig_tables.proofs.tables.Tables.TheSendSync as tables_law
use Rattle.ring_line.specs.contracts.queue_handler.QueueHandler as queue_handler
use Rattle.ring_line.specs.contracts.queue_handler.QueueHandler.TheInside as queue_handler_inside
use Rattle.ring_line.specs.contracts.worker_loop.WorkerLoop as worker_loop

-- ---- the text of a function: expressions and blocks hold themselves, in boxes

expr_layer : (R : RattleType) → IsSend R → IsSend (enum.row (enum.declared (expr_knot.type-Expr R R R)))
expr_layer R s = variants_send (expr_knot.type-Expr R R R) (search (sendable, crosses, as_row_send, s) depth 40)

each_expr : (h : expr_knot.the_members → RattleType) → ((j : expr_knot.the_members) → IsSend (h j)) → (i : expr_knot.the_members) → IsSend (layer_row expr_knot.ring i h)
each_expr h all expr_members.member-Expr = expr_layer (h expr_members.member-Expr) (all expr_members.member-Expr)

expr_hole : IsSend expr_knot.hole-Expr
expr_hole = fix_send expr_knot.ring (λ i. record { send = λ h all. each_expr h all i }) expr_members.member-Expr

expr_send : IsSend expr.the_row
expr_send = variants_send expr.enum (search (sendable, crosses, as_row_send, expr_hole) depth 40)

given_send : IsSend given.the_row
given_send = declared_send given.the_type (search (sendable, crosses, as_row_send, expr_send) depth 40)

guard_send : IsSend guard.the_row
guard_send = declared_send guard.the_type (search (sendable, crosses, as_row_send, given_send) depth 40)

ending_send : IsSend ending.the_row
ending_send = variants_send ending.enum (search (sendable, crosses, expr_send) depth 40)

operation_send : IsSend operation.the_row
operation_send = variants_send operation.enum (search (sendable, crosses, as_row_send, expr_send, given_send) depth 40)

question_send : IsSend question.the_row
question_send = variants_send question.enum (search (sendable, crosses, as_row_send, expr_send, given_send, guard_send) depth 40)

creation_send : IsSend creation.the_row
creation_send = search (sendable, crosses, given_send) depth 40

block_layer : (R : RattleType) → IsSend R → IsSend (enum.row (enum.declared (block_knot.type-Block R R R R R R R R)))
block_layer R s = variants_send (block_knot.type-Block R R R R R R R R) (search (sendable, crosses, s, ending_send, operation_send, question_send, creation_send) depth 40)

each_block : (h : block_knot.the_members → RattleType) → ((j : block_knot.the_members) → IsSend (h j)) → (i : block_knot.the_members) → IsSend (layer_row block_knot.ring i h)
each_block h all block_members.member-Block = block_layer (h block_members.member-Block) (all block_members.member-Block)

block_hole : IsSend block_knot.hole-Block
block_hole = fix_send block_knot.ring (λ i. record { send = λ h all. each_block h all i }) block_members.member-Block

block_send : IsSend block.the_row
block_send = variants_send block.enum (search (sendable, crosses, as_row_send, block_hole, ending_send, operation_send, question_send, creation_send) depth 40)

handler_send : IsSend handler.the_row
handler_send = declared_send handler.the_type (search (sendable, crosses, block_send) depth 40)

port_handlers_send : IsSend port_handlers.the_row
port_handlers_send = declared_send port_handlers.the_type (search (sendable, crosses, as_row_send, handler_send) depth 40)

chain_send : IsSend chain.the_row
chain_send = search (sendable, crosses) depth 40

array_send : IsSend array.the_row
array_send = search (sendable, crosses) depth 40

pub func_send : IsSend func.the_row
func_send = declared_send func.the_type (
  search (sendable, crosses, as_row_send) depth 40,
  (
    search (sendable, crosses, as_row_send, chain_send) depth 40,
    (
      search (sendable, crosses, as_row_send, array_send) depth 40,
      (
        search (sendable, crosses, as_row_send) depth 40,
        (search (sendable, crosses, as_row_send, port_handlers_send) depth 40, tt),
      ),
    ),
  ),
)

-- ---- a worker's queue handler and its rings

module _ (G : RattleType) (s : IsSend G) (y : IsSync G) where
  queue_handler_send : IsSend (queue_handler.the_row G)
  queue_handler_send = view_send _ _ _ _ _ (declared_send (queue_handler_inside.the_type G) (
    search (sendable, func_send) depth 40,
    (
      search (sendable, tables_law.the_send) depth 40,
      (
        search (sendable, crosses, as_row_send, halt_law.the_send) depth 40,
        (search (sendable, crosses, as_row_send) depth 40, (search (sendable, crosses, as_row_send, s, y) depth 40, tt)),
      ),
    ),
  ))

  pub worker_loop_send : IsSend (worker_loop.the_row G)
  worker_loop_send = declared_send (worker_loop.the_type G) (
    search (sendable, as_row_send, ends_law.the_send) depth 40,
    (
      search (sendable, as_row_send, queue_handler_send) depth 40,
      (
        search (sendable, crosses, as_row_send) depth 40,
        (
          search (sendable, crosses, as_row_send) depth 40,
          (
            search (sendable, as_row_send, looks_law.the_send) depth 40,
            (search (sendable, crosses, as_row_send) depth 40, tt),
          ),
        ),
      ),
    ),
  )
