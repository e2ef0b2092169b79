use Rattle.nf_base.specs.Chains.{array_at}
use Rattle.std.proofs.Common.{◌≡◌, [], slice_get, ◌∙◌, ap, sym}
use Rattle.nf_base.specs.declared.width.Width.TheVariants.{W16}
use Rattle.nf_base.specs.Context.{Var, entry_in, value}
use Rattle.nf_base.specs.Events.{restamps_at, rewrites, differs}
use Rattle.nf_base.specs.Text.{Touch, Write, Store}
use Rattle.nf_base.specs.Values.{narrowed}
use Rattle.nf_base.specs.View.{given_of, expression_of}
use Rattle.nf_engine.specs.View.{context_of, input_of}
use Rattle.nf_engine.proofs.QuietOperations.{on_true, on_false, touch_decided, write_decided, store_decided}
use Rattle.nf_engine.proofs.quiet_block.operate_quietly.Goals as goal

pub returns-in-Touch-clause-done : goal.returns-in-Touch-clause-done
returns-in-Touch-clause-done g c =
    let p = c.args.p.now in
    let t = c.args.tables.now in
    let d = c.args.context.now in
    let o = c.in-Touch in
    let is = ap (λ (v : Var). restamps_at p.time t.state.chains v) (sym c.at-at.ensures) ∙ sym (rw c.time.ensures at c.restamps.ensures) in
    rw o.is (on_true c.restamps.result p (Touch o.var) t d (touch_decided c.restamps.result p o.var t d is))

pub returns-in-Write-clause-done : goal.returns-in-Write-clause-done
returns-in-Write-clause-done g c =
    let p = c.args.p.now in
    let t = c.args.tables.now in
    let d = c.args.context.now in
    let o = c.in-Write in
    let v = c.given-v-in-Write in
    let is = ap (λ (at : Var). rewrites o.column v.result (entry_in t.state.chains at)) (sym c.at-at-in-Write.ensures) ∙ sym c.rewrites.ensures in
    rw o.is (on_true c.rewrites.result p (Write o.var o.column (given_of o.g)) t d (write_decided c.rewrites.result p o.var o.column v.result (given_of o.g) t d v.ensures is))

pub returns-in-Store-clause-done : goal.returns-in-Store-clause-done
returns-in-Store-clause-done g c =
    let p = c.args.p.now in
    let t = c.args.tables.now in
    let d = c.args.context.now in
    let o = c.in-Store in
    let v = c.given-v-in-Store in
    let index : c.narrowed-i.result ≡ narrowed W16 (value (input_of p) (context_of t [] d) (expression_of o.at)) = rw c.value.ensures at c.narrowed-i.ensures in
    let is : differs v.result (slice_get (array_at t.state.arrays o.array) c.narrowed-i.result) ≡ c.differs.result = sym (rw c.array_cell.ensures at c.differs.ensures) in
    rw o.is (on_true c.differs.result p (Store o.place o.array (expression_of o.at) (given_of o.g)) t d (store_decided c.differs.result p o.place o.array c.narrowed-i.result v.result (expression_of o.at) (given_of o.g) t d index v.ensures is))

pub returns-in-Store-clause-writes : goal.returns-in-Store-clause-writes
returns-in-Store-clause-writes g c =
    let p = c.args.p.now in
    let t = c.args.tables.now in
    let d = c.args.context.now in
    let o = c.in-Store in
    let v = c.given-v-in-Store in
    let index : c.narrowed-i.result ≡ narrowed W16 (value (input_of p) (context_of t [] d) (expression_of o.at)) = rw c.value.ensures at c.narrowed-i.ensures in
    let is : differs v.result (slice_get (array_at t.state.arrays o.array) c.narrowed-i.result) ≡ c.differs.result = sym (rw c.array_cell.ensures at c.differs.ensures) in
    rw o.is (on_false c.differs.result p (Store o.place o.array (expression_of o.at) (given_of o.g)) t d (store_decided c.differs.result p o.place o.array c.narrowed-i.result v.result (expression_of o.at) (given_of o.g) t d index v.ensures is))
