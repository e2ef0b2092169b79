use Rattle.std.proofs.Common.{◌≡◌, ◌∙◌, ◌∷◌, [], map, ap, sym, refl}
use Rattle.nf_base.specs.declared.expr.Given as given
use Rattle.nf_base.specs.Chains.{maps_of}
use Rattle.nf_base.specs.View.{given_of, creation_of}
use Rattle.nf_sites.specs.Known.{field_set}
use Rattle.nf_sites.specs.Named.{numbered}
use Rattle.nf_sites.specs.Sites.{new_site, name_sites}
use Rattle.access_keys.specs.Speaking.{named_seen}
use Rattle.access_keys.proofs.Putting.{map-map, puts_both_ok, same_numbered}
use Rattle.access_keys.proofs.lookup.put_new.Goals as goal

pub put_names-requires : goal.put_names-requires
put_names-requires c =
    let value = λ (g : given.Given). field_set (given_of g) in
    let fields : c.in_ok-fields.fields.items ≡ map value c.args.creation.now.labels = c.in_ok-fields.ensures ∙ ap (map value) c.as_slice.ensures in
    c.as_slice-4.ensures.value ∙ fields ∙ sym (map-map field_set given_of c.args.creation.now.labels)

pub returns : goal.returns
returns c =
    let here = c.args.here.now in
    let labels = c.args.creation.now.labels in
    let n = creation_of c.args.creation.now in
    let value = λ (g : given.Given). field_set (given_of g) in
    let named = map named_seen c.as_slice-3.result.now in
    let fields : c.in_ok-fields.fields.items ≡ map value labels = c.in_ok-fields.ensures ∙ ap (map value) c.as_slice.ensures in
    puts_both_ok c.put_names.result here c.args.sites.now.items c.put_chain.new.sites.items c.put_names.new.sites.items (new_site here.door n ∷ []) (name_sites here.door n 0 (maps_of here.decls.now n.chain))
    (c.in_ok-put_chain.ensures (numbered 0 (map given_of labels))
    (same_numbered 0 0 labels c.as_slice-2.result.now named refl (c.as_slice-2.ensures.value ∙ fields) (ap (map named_seen) c.as_slice-3.ensures.value ∙ c.in_ok-named.ensures)))
    c.put_names.ensures
