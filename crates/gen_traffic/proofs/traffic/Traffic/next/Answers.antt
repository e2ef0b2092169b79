use Rattle.std.proofs.Common.{sym, ap, ◌∙◌, arith}
use Rattle.std.specs.Prelude.{Some}
use Rattle.gen_traffic.specs.Traffic.{Giving}
use Rattle.gen_traffic.proofs.Streams.{next_is, none_left}
use Rattle.gen_traffic.proofs.traffic.Traffic.next.Goals as goal

pub returns-then-self-clause-next : goal.returns-then-self-clause-next
returns-then-self-clause-next c =
    let given = ap (λ (g : Giving). g.given) c.self.view_is in
    let count = ap (λ (g : Giving). g.recipe.count) c.self.view_is in
    sym (none_left c.args.self.now.recipe c.args.self.now.given (omega (arith, given, count)))

pub returns-clause-next : goal.returns-clause-next
returns-clause-next c =
    let given = ap (λ (g : Giving). g.given) c.self.view_is in
    let count = ap (λ (g : Giving). g.recipe.count) c.self.view_is in
    ap Some c.give.ensures.sent ∙ sym (next_is c.args.self.now.recipe c.args.self.now.given (omega (arith, given, count, c.self.invariant.1)))
