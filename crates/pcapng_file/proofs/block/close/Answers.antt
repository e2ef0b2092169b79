use Rattle.std.proofs.Common.{◌≡◌, ◌∙◌, ◌+◌, ◌-◌, ◌≤◌, ℕ, List, Option, Bool, true, Some, drop, sym, ap, subst}
use Rattle.std.specs.Result.{IfOk}
use Rattle.pcapng_file.specs.Taking.{IsBody, IsClosing}
use Rattle.pcapng_file.proofs.Taking.{closed_result}
use Rattle.pcapng_file.proofs.block.close.Goals as goal

pub returns-clause-closed : goal.returns-clause-closed
returns-clause-closed g c = λ bytes e.
    let told = g.F.Files.told in
    let file = c.args.front.now.file in
    let total = c.args.total in
    let body = subst (λ (b : Bool). IsBody total bytes c.body.new.front.bytes ((told c.body.new.files).rest file) b) c.if-not-branch.false (c.in_ok-body.ensures.body bytes e) in
    let behind = subst (λ (f : ℕ). (told c.body.new.files).rest f ≡ Some (drop (total - 4) bytes)) (sym c.body.ensures.same_file) body.2 in
    let closing = subst (λ (f : ℕ). IfOk c.closing.result (IsClosing c.args.order total (drop (total - 4) bytes) ((told c.closing.new.files).rest f))) c.body.ensures.same_file (c.closing.ensures.closing (drop (total - 4) bytes) behind) in
    closed_result c.closing.result c.args.order total bytes c.body.new.front c.closing.new.front ((told c.closing.new.files).rest file) c.requires.least body.0 body.1 closing c.closing.ensures.held
