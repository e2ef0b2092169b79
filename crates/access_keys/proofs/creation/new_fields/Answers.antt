use Rattle.std.proofs.Common.{◌∙◌, List, Option, map, sym, ap}
use Rattle.nf_base.specs.declared.expr.Given as given
use Rattle.nf_base.specs.View.{given_of}
use Rattle.nf_base.specs.declared.packet.Field.{Field}
use Rattle.nf_sites.specs.Known.{field_set}
use Rattle.access_keys.specs.Together.{SetFields}
use Rattle.access_keys.proofs.Putting.{map-map}
use Rattle.access_keys.proofs.creation.new_fields.Goals as goal

pub returns : goal.returns
returns c =
    ap (λ (fields : List (Option Field)). let r : SetFields = record { chain = c.args.creation.now.chain; fields = fields } in r)
    (c.in_ok-fields.ensures ∙ ap (map (λ (g : given.Given). field_set (given_of g))) c.as_slice.ensures
    ∙ sym (map-map field_set given_of c.args.creation.now.labels))
