use Rattle.std.proofs.Common.{◌∙◌, ap, map}
use Rattle.nf_base.specs.declared.decl.MapDecl.{MapDecl}
use Rattle.vig_tables.specs.Tagged.{opened_map}
use Rattle.vig_tables.proofs.Kept.{opened_kept}
use Rattle.vig_tables.proofs.Making.{opened_is}
use Rattle.vig_tables.proofs.chain_tables.ChainTables.new.Goals as goal

pub invariant_of-result : goal.invariant_of-result
invariant_of-result c =
    let decl = c.args.decl.now in
    let maps = c.in_ok-maps.ensures ∙ ap (map (λ (d : MapDecl). opened_map d decl.size)) c.as_slice.ensures.value in
    let labels = rw (c.len.ensures.value, c.get-size.ensures.value) at c.in_ok-labels.ensures in
    let columns = rw (c.len-2.ensures.value, c.get-size.ensures.value) at c.in_ok-columns.ensures in
    rw (c.in_ok-decl.ensures, c.in_ok-chain.ensures) (opened_kept decl c.args.share c.in_ok-maps.maps.items c.in_ok-labels.labels c.in_ok-columns.columns maps labels columns)

pub returns : goal.returns
returns c =
    let decl = c.args.decl.now in
    let labels = rw (c.len.ensures.value, c.get-size.ensures.value) at c.in_ok-labels.ensures in
    let columns = rw (c.len-2.ensures.value, c.get-size.ensures.value) at c.in_ok-columns.ensures in
    rw (c.in_ok-decl.ensures, c.in_ok-chain.ensures) (opened_is decl c.args.share c.in_ok-labels.labels c.in_ok-columns.columns labels columns)
