-- What is known of a label, by the fields that the labels of a site are given.
use Rattle.std.specs.Prelude.{ℕ, ◌==◌, Bool, false, List, [], ◌∷◌, map, Option, Some, None}
use Rattle.std.specs.List.{range_with_len}
use Rattle.std.specs.Option.{option_and_then}
use Rattle.nf_base.specs.declared.decl.ObjectId.{ObjectId}
use Rattle.nf_base.specs.declared.decl.ObjectId.TheVariants as object
use Rattle.nf_base.specs.declared.decl.ChainDecl.{ChainDecl}
use Rattle.nf_base.specs.declared.expr.Guard as guard
use Rattle.nf_base.specs.View.{given_of}
use Rattle.nf_base.specs.declared.packet.Field.{Field}
use Rattle.nf_base.specs.declared.packet.Family.{Family}
use Rattle.nf_base.specs.declared.hash_fields.Hashable.{Hashable}
use Rattle.nf_base.specs.Hashed.{hashable}
use Rattle.nf_sites.specs.Named.{Named, speaker}
use Rattle.nf_sites.specs.Known.{field_set, label_count}
use Rattle.access_keys.specs.declared.named.NamedField.{NamedField}
use Rattle.access_keys.specs.Together.{SetFields, are_together}

-- a label with the field that it is given, if it is one
abbrev pub named_seen : NamedField → Named (Option Field)
named_seen n = record { label = n.label; given = n.field }

-- a label that a `find` asks for, with the field that it has to be
abbrev pub field_asked : guard.Guard → NamedField
field_asked g = record { label = g.label; field = field_set (given_of g.given) }

-- a label with its field, where there is one
abbrev pub best_seen : Option NamedField → Option (Named (Option Field))
best_seen None = None
best_seen (Some n) = Some (named_seen n)

-- whether a label is this one
abbrev pub is_label : ℕ → ℕ → Bool
is_label l r = r == l

-- the field that a label is given, where there is one
abbrev pub field_of : Option (Named (Option Field)) → Option Field
field_of None = None
field_of (Some n) = n.given

-- what a field is to packets of a family
abbrev pub field_in : Family → Option Field → Option Hashable
field_in family field = option_and_then (hashable family) field

-- the field that speaks for a label of a chain where some are given fields
abbrev pub field_said : List SetFields → ℕ → List (Named (Option Field)) → ℕ → Option Field
field_said all chain named l = field_of (speaker (are_together all chain l) l named)

-- the hashed field of a family by which it is known
abbrev pub field_known : Family → List SetFields → ℕ → List (Named (Option Field)) → ℕ →
    Option Hashable
field_known family all chain named l = field_in family (field_said all chain named l)

-- the fields by which the first labels of a chain are known
abbrev pub fields_known : Family → List SetFields → ℕ → List (Named (Option Field)) → ℕ →
    List (Option Hashable)
fields_known family all chain named count =
    map (field_known family all chain named) (range_with_len 0 count)

-- the fields by which the labels of an object are known
abbrev pub known_by : Family → List SetFields → List ChainDecl → ObjectId →
    List (Named (Option Field)) → List (Option Hashable)
known_by family all decls (object.Chain chain) named =
    fields_known family all chain named (label_count decls chain)
known_by family all decls (object.Array array) named =
    field_in family (field_of (speaker (λ r. false) 0 named)) ∷ []
