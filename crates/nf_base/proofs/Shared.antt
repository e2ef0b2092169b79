-- A function may be shared between threads: so may each type of its text. Expressions and blocks hold
-- themselves, in boxes, so theirs is shown layer by layer.
use denote.RattleType.{RattleType}
use denote.Param.Send.{IsSync, sendable}
use denote.Param.SendFields.{as_row_sync, variants_sync, declared_sync}
use denote.Enum.Declared as enum
use denote.Hole.Fix.{holes}
use denote.Hole.FixLaws.{layer_row}
use denote.Hole.FixSend.{fix_sync}
use Rattle.std.proofs.Crossing.{crosses}
use Rattle.nf_base.specs.declared.expr.Expr.TheBlock as expr_members
use Rattle.nf_base.specs.contracts.expr.Expr as expr
use Rattle.nf_base.specs.contracts.expr.Expr.TheKnot as expr_knot
use Rattle.nf_base.specs.contracts.expr.Given as given
use Rattle.nf_base.specs.contracts.expr.Guard as guard
use Rattle.nf_base.specs.contracts.block.Ending as ending
use Rattle.nf_base.specs.contracts.block.Operation as operation
use Rattle.nf_base.specs.contracts.block.Question as question
use Rattle.nf_base.specs.contracts.block.Creation as creation
use Rattle.nf_base.specs.declared.block.Block.TheBlock as block_members
use Rattle.nf_base.specs.contracts.block.Block as block
use Rattle.nf_base.specs.contracts.block.Block.TheKnot as block_knot
use Rattle.nf_base.specs.contracts.decl.ChainDecl as chain
use Rattle.nf_base.specs.contracts.decl.ArrayDecl as array
use Rattle.nf_base.specs.contracts.handler.Handler as handler
use Rattle.nf_base.specs.contracts.port_handlers.PortHandlers as port_handlers
use Rattle.nf_base.specs.contracts.func.Func as func

expr_layer : (R : RattleType) → IsSync R → IsSync (enum.row (enum.declared (expr_knot.type-Expr R R R)))
expr_layer R s = variants_sync (expr_knot.type-Expr R R R) (search (sendable, crosses, as_row_sync, s) depth 40)

each_expr : (h : expr_knot.the_members → RattleType) → ((j : expr_knot.the_members) → IsSync (h j)) → (i : expr_knot.the_members) → IsSync (layer_row expr_knot.ring i h)
each_expr h all expr_members.member-Expr = expr_layer (h expr_members.member-Expr) (all expr_members.member-Expr)

expr_hole : IsSync expr_knot.hole-Expr
expr_hole = fix_sync expr_knot.ring (λ i. record { sync = λ h all. each_expr h all i }) expr_members.member-Expr

pub expr_sync : IsSync expr.the_row
expr_sync = variants_sync expr.enum (search (sendable, crosses, as_row_sync, expr_hole) depth 40)

given_sync : IsSync given.the_row
given_sync = declared_sync given.the_type (search (sendable, crosses, as_row_sync, expr_sync) depth 40)

guard_sync : IsSync guard.the_row
guard_sync = declared_sync guard.the_type (search (sendable, crosses, as_row_sync, given_sync) depth 40)

ending_sync : IsSync ending.the_row
ending_sync = variants_sync ending.enum (search (sendable, crosses, expr_sync) depth 40)

operation_sync : IsSync operation.the_row
operation_sync = variants_sync operation.enum (search (sendable, crosses, as_row_sync, expr_sync, given_sync) depth 40)

question_sync : IsSync question.the_row
question_sync = variants_sync question.enum (search (sendable, crosses, as_row_sync, expr_sync, given_sync, guard_sync) depth 40)

creation_sync : IsSync creation.the_row
creation_sync = search (sendable, crosses, given_sync) depth 40

block_layer : (R : RattleType) → IsSync R → IsSync (enum.row (enum.declared (block_knot.type-Block R R R R R R R R)))
block_layer R s = variants_sync (block_knot.type-Block R R R R R R R R) (search (sendable, crosses, s, ending_sync, operation_sync, question_sync, creation_sync) depth 40)

each_block : (h : block_knot.the_members → RattleType) → ((j : block_knot.the_members) → IsSync (h j)) → (i : block_knot.the_members) → IsSync (layer_row block_knot.ring i h)
each_block h all block_members.member-Block = block_layer (h block_members.member-Block) (all block_members.member-Block)

block_hole : IsSync block_knot.hole-Block
block_hole = fix_sync block_knot.ring (λ i. record { sync = λ h all. each_block h all i }) block_members.member-Block

block_sync : IsSync block.the_row
block_sync = variants_sync block.enum (search (sendable, crosses, as_row_sync, block_hole, ending_sync, operation_sync, question_sync, creation_sync) depth 40)

handler_sync : IsSync handler.the_row
handler_sync = declared_sync handler.the_type (search (sendable, crosses, block_sync) depth 40)

port_handlers_sync : IsSync port_handlers.the_row
port_handlers_sync = declared_sync port_handlers.the_type (search (sendable, crosses, as_row_sync, handler_sync) depth 40)

chain_sync : IsSync chain.the_row
chain_sync = search (sendable, crosses) depth 40

array_sync : IsSync array.the_row
array_sync = search (sendable, crosses) depth 40

pub func_sync : IsSync func.the_row
func_sync = declared_sync func.the_type (
  search (sendable, crosses, as_row_sync) depth 40,
  (
    search (sendable, crosses, as_row_sync, chain_sync) depth 40,
    (
      search (sendable, crosses, as_row_sync, array_sync) depth 40,
      (
        search (sendable, crosses, as_row_sync) depth 40,
        (search (sendable, crosses, as_row_sync, port_handlers_sync) depth 40, tt),
      ),
    ),
  ),
)
