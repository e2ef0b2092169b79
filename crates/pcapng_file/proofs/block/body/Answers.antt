use Rattle.std.proofs.Common.{◌≡◌, ◌∙◌, ◌-◌, ◌≤◌, ℕ, List, Option, Bool, Some, length, sym, ap, subst, arith}
use Rattle.std.specs.Result.{IfOk}
use Rattle.pcap_file.specs.Held.{Held, Skips, to_come}
use Rattle.pcapng_file.specs.Taking.{held_of}
use Rattle.pcapng_file.proofs.Taking.{body_result, filled_long}
use Rattle.pcapng_file.proofs.block.body.Goals as goal

pub returns-clause-body : goal.returns-clause-body
returns-clause-body g c = λ bytes e.
    let told = g.F.Files.told in
    let file = c.args.front.now.file in
    let total = c.args.total in
    let long = filled_long c.min-held.result c.fill.new.self.bytes ((told c.fill.new.files).rest file) c.in_ok-fill.field-0 c.if-not-branch.false c.in_ok-fill.ensures.filled in
    let skipped = subst (λ (f : ℕ). IfOk c.skip.result (Skips (total - 4 - c.min-held.result) ((told c.fill.new.files).rest f) ((told c.skip.new.files).rest f))) c.fill.ensures.grows.same_file c.skip.ensures.skipped in
    body_result c.skip.result total c.fill.new.self c.skip.new.self bytes ((told c.fill.new.files).rest file) ((told c.skip.new.files).rest file) c.requires.least
    (c.fill.ensures.grows.same_bytes ∙ e) (omega (arith, long, c.fill.ensures.most, c.min-held.ensures))
    (subst (λ (n : ℕ). IfOk c.skip.result (Skips (total - 4 - n) ((told c.fill.new.files).rest file) ((told c.skip.new.files).rest file))) c.min-held.ensures skipped)
    c.skip.ensures.held
