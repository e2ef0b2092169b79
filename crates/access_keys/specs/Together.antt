-- Labels that are together, by the fields that each `new` of a text sets them from.
use Rattle.std.specs.Prelude.{ℕ, ◌==◌, Bool, true, List, [], ◌∷◌, map, get_or, Option, None, if◌then◌else◌}
use Rattle.std.specs.List.{flat_map, list_all}
use Rattle.nf_base.specs.Text.{Creation, Block, PortBlocks, Function}
use Rattle.nf_base.specs.Doors.{port_blocks}
use Rattle.nf_base.specs.Statements.{Statement, Ends, Does, Asks, Makes, statements}
use Rattle.nf_base.specs.declared.packet.Field.{Field}
use Rattle.nf_sites.specs.Known.{field_set, same_field}
use Rattle.access_keys.specs.declared.creation.NewFields.{NewFields}

-- the fields that a `new` sets the labels of its chain from
pub record SetFields : Type 0 where
  pub chain : ℕ
  pub fields : List (Option Field)

abbrev pub new_seen : NewFields → SetFields
new_seen n = record { chain = n.chain; fields = n.fields.items }

-- those of a `new` of the text
abbrev pub set_fields : Creation → SetFields
set_fields n = record { chain = n.chain; fields = map field_set n.labels }

-- and of a statement, where it is one
abbrev pub set_in : Statement → List SetFields
set_in (Ends e) = []
set_in (Does op) = []
set_in (Asks q) = []
set_in (Makes n) = set_fields n ∷ []

-- the fields that each `new` of a block sets, at all depths
abbrev pub set_along : Block → List SetFields
set_along block = flat_map set_in (statements block)

-- and of the handlers of a port
abbrev pub set_at : PortBlocks → List SetFields
set_at h = flat_map set_along (port_blocks h)

-- and of a function
abbrev pub all_set : Function → List SetFields
all_set f = flat_map set_at f.handlers

-- whether a `new`, where it is of a chain, sets two labels from one field
abbrev pub alike : ℕ → ℕ → ℕ → SetFields → Bool
alike chain l r n =
    if n.chain == chain then same_field (get_or n.fields l None) (get_or n.fields r None) else true

-- whether each does
abbrev pub are_together : List SetFields → ℕ → ℕ → ℕ → Bool
are_together all chain l r = list_all (alike chain l r) all
