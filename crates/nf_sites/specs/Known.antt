-- Labels that are known at a site by a field that is hashed, and labels that are kept.
use Rattle.std.specs.Prelude.{◌≡◌, ℕ, ◌==◌, ◌&&◌, Bool, true, false, List, [], ◌∷◌, length, map, get_or, filter, Option, Some, None, IsSome, if◌then◌else◌, slice_get}
use Rattle.std.specs.List.{list_all, range_with_len}
use Rattle.std.specs.Option.{option_and_then, is_some}
use Rattle.nf_base.specs.Doors.{blocks}
use Rattle.nf_base.specs.declared.packet.Field.{Field}
use Rattle.nf_base.specs.declared.packet.Family.{Family}
use Rattle.nf_base.specs.declared.decl.ObjectId.{ObjectId}
use Rattle.nf_base.specs.declared.decl.ObjectId.TheVariants as object
use Rattle.nf_base.specs.declared.decl.ChainDecl.{ChainDecl}
use Rattle.nf_base.specs.Text.{Expression, Number, Read, Index, Label, Column, Cell, Both, Given, Function}
use Rattle.nf_base.specs.Values.{bits, field_width, is_hashable}
use Rattle.nf_base.specs.Statements.{Statement, Ends, Does, Asks, Makes, statements}
use Rattle.path_walk.specs.Tests.{field_number}
use Rattle.nf_base.specs.declared.hash_fields.Hashable.{Hashable}
use Rattle.nf_base.specs.Hashed.{width, hashable}
use Rattle.nf_sites.specs.Named.{Named, speaker}
use Rattle.nf_sites.specs.Sites.{Site}
use Rattle.nf_sites.specs.OnPaths.{sites_of, IsSite}

-- a hashed field of a family, where it has a width
abbrev pub of_width : Family → ℕ → Option Hashable → Option Hashable
of_width family w None = None
of_width family w (Some h) = if w == width family h then Some h else None

-- the field that an expression is
abbrev pub plain_field : Expression → Option Field
plain_field (Number n) = None
plain_field (Read field) = Some field
plain_field (Index var) = None
plain_field (Label var label) = None
plain_field (Column var column) = None
plain_field (Cell place array at) = None
plain_field (Both operator left right) = None

-- the hashed field of a family that a value is, where it has the width of what it is given to
abbrev pub field_given : Family → Given → Option Hashable
field_given family g = of_width family (bits g.width) (option_and_then (hashable family) (plain_field g.value))

-- a field that is hashed, where it has a width
abbrev pub hashed_of : ℕ → Option Field → Option Field
hashed_of w None = None
hashed_of w (Some field) = if is_hashable field && (w == bits (field_width field)) then Some field else None

-- the hashed field that a value is, whatever the family, where it has the width of what it is given to
abbrev pub field_set : Given → Option Field
field_set g = hashed_of (bits g.width) (plain_field g.value)

-- whether these are one field
abbrev pub same_field : Option Field → Option Field → Bool
same_field None b = false
same_field (Some a) None = false
same_field (Some a) (Some b) = field_number a == field_number b

-- the hashed field that a `new` sets a label from
abbrev pub field_at : List Given → ℕ → Option Field
field_at labels l = option_and_then field_set (slice_get labels l)

-- whether a statement, where it is a `new` of a chain, sets two labels from one hashed field
abbrev pub sets_alike : ℕ → ℕ → ℕ → Statement → Bool
sets_alike chain l r (Ends e) = true
sets_alike chain l r (Does op) = true
sets_alike chain l r (Asks q) = true
sets_alike chain l r (Makes n) =
    if n.chain == chain then same_field (field_at n.labels l) (field_at n.labels r) else true

-- Whether two labels are together: each `new` of the chain in the whole text sets both from one
-- hashed field. An array has one label, which is together with none.
abbrev pub together : Function → ObjectId → ℕ → ℕ → Bool
together f (object.Chain chain) l r =
    list_all (λ block. list_all (sets_alike chain l r) (statements block)) (blocks f)
together f (object.Array array) l r = false

-- the hashed field that a named label is given
abbrev pub field_of_named : Family → Option (Named Given) → Option Hashable
field_of_named family None = None
field_of_named family (Some x) = field_given family x.given

-- the hashed field by which a label is known at a site, if it is
abbrev pub known : Function → Site → ℕ → Option Hashable
known f site l = field_of_named site.door.family (speaker (together f site.object l) l site.named)

-- how many labels a chain has
abbrev pub label_count : List ChainDecl → ℕ → ℕ
label_count decls chain = get_or (map (λ (decl : ChainDecl). length decl.labels) decls) chain 0

-- an object's labels in text order; an array's one label is its index
abbrev pub labels_of : Function → ObjectId → List ℕ
labels_of f (object.Chain chain) = range_with_len 0 (label_count f.chains chain)
labels_of f (object.Array array) = 0 ∷ []

-- how each label of a site's object is known there
abbrev pub known_labels : Function → Site → List (Option Hashable)
known_labels f site = map (known f site) (labels_of f site.object)

-- whether two objects are one
abbrev pub same_object : ObjectId → ObjectId → Bool
same_object (object.Chain a) (object.Chain b) = a == b
same_object (object.Chain a) (object.Array b) = false
same_object (object.Array a) (object.Chain b) = false
same_object (object.Array a) (object.Array b) = a == b

-- whether a label is known at a site, if that is one of an object
abbrev pub is_known_at : Function → ObjectId → ℕ → Site → Bool
is_known_at f o l x = if same_object x.object o then is_some (known f x l) else true

-- whether a label of an object is kept: known at each of the object's sites
abbrev pub is_kept : Function → ObjectId → ℕ → Bool
is_kept f o l = list_all (is_known_at f o l) (sites_of f)

-- an object's kept labels, in text order
abbrev pub kept : Function → ObjectId → List ℕ
kept f o = filter (is_kept f o) (labels_of f o)

-- Kept, as it stands: known at each site of the object.
abbrev pub IsKept : Function → ObjectId → ℕ → Type 0
IsKept f o l = (x : Site) → IsSite f x → x.object ≡ o → IsSome (known f x l)
