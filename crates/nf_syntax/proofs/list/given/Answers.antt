use Rattle.std.proofs.Common.{map}
use Rattle.nf_tree.specs.View.{given_of}
use Rattle.nf_syntax.proofs.Steps.{by_name}
use Rattle.nf_syntax.proofs.list.given.Goals as goal

pub returns-in-Name : goal.returns-in-Name
returns-in-Name c = by_name (λ x. map given_of x.0) (λ x. x.1.now) c.some_given.result c.args.tokens.now c.first-item.result c.in-Name.field-0
    c.in-len1-up.len_at_least c.first-item.is c.in-Name.is c.some_given.ensures
