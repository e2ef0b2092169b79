use Rattle.std.proofs.Common.{◌∷◌, List, map, subst}
use Rattle.std.specs.Result.{OnOk}
use Rattle.nf_base.specs.declared.expr.Given as given
use Rattle.nf_base.specs.Chains.{maps_of}
use Rattle.nf_base.specs.View.{given_of, creation_of}
use Rattle.nf_sites.specs.Sites.{new_site, name_sites, given_sites}
use Rattle.nf_sites.specs.ReadOrder.{by_first_read}
use Rattle.access_keys.specs.Shown.{Puts}
use Rattle.access_keys.proofs.Putting.{puts_both_ok}
use Rattle.access_keys.proofs.statement.put_creation.Goals as goal

pub returns : goal.returns
returns c =
    let here = c.args.here.now in
    let n = creation_of c.args.creation.now in
    let old = c.args.sites.now.items in
    let mid = c.put_new.new.sites.items in
    let new = c.put_labels.new.sites.items in
    puts_both_ok c.put_labels.result here old mid new (new_site here.door n ∷ name_sites here.door n 0 (maps_of here.decls.now n.chain)) (given_sites here.door (by_first_read n.labels)) c.in_ok-put_new.ensures
    (subst (λ (gs : List given.Given). OnOk c.put_labels.result (Puts here mid new (given_sites here.door (by_first_read (map given_of gs))))) c.as_slice.ensures c.put_labels.ensures)
