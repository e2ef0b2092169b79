use Rattle.std.proofs.Common.{arith, map, ap, ◌∙◌, subst}
use Rattle.nf_base.specs.Text as text
use Rattle.nf_sites.specs.Sites.{expression_sites, given_sites}
use Rattle.access_keys.specs.Order.{given_seen}
use Rattle.access_keys.specs.Shown.{Puts}
use Rattle.access_keys.proofs.Putting.{puts_all}
use Rattle.access_keys.proofs.access.put_labels.Goals as goal

pub returns : goal.returns
returns c =
    let here = c.args.here.now in
    let old = c.args.sites.now.items in
    let new = c.loop-one.sites.items in
    let items = c.as_slice-one-items.result.now in
    subst (λ gs. Puts here old new (given_sites here.door gs)) (ap (map given_seen) c.as_slice-one-items.ensures.value ∙ c.in_ok-values.ensures)
    (puts_all here old new (λ (g : text.Given). expression_sites here.door g.value) given_seen items c.loop-one.one-index (omega arith) c.loop-one.invariant)
