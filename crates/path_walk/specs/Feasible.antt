-- Paths that some packet may take, as far as the tests of the packet alone say.
use Rattle.std.specs.Prelude.{◌≡◌, ℕ, Bool, true, false, ◌&&◌, ◌||◌, ◌==◌, not, List, [], ◌∷◌, Option, Some, None, Contains, map, slice_get}
use Rattle.std.specs.List.{filter, list_any}
use Rattle.nf_base.specs.Doors.{handler_at}
use Rattle.nf_base.specs.declared.packet.Door.{Door}
use Rattle.nf_base.specs.declared.packet.Field.{Field}
use Rattle.nf_base.specs.Text.{Expression, Number, Read, Block, Function}
use Rattle.nf_base.specs.Paths.{Branch, PathStep, paths, Outcome, outcomes_along}
use Rattle.path_walk.specs.declared.test.Sign.{Sign}
use Rattle.path_walk.specs.declared.test.Sign.TheVariants.{Equal, Less, AtMost}
use Rattle.path_walk.specs.declared.test.FieldIs.{FieldIs}
use Rattle.path_walk.specs.Tests.{TestText, Told, tests, field_number, same_text}

-- what `field == number` says, where a test is one, the field on the left
abbrev pub field_is : Sign → Expression → Expression → Option FieldIs
field_is Equal (Read field) (Number n) = Some (record { field = field; number = n })
field_is Equal left right = None
field_is Less left right = None
field_is AtMost left right = None

abbrev pub equals_of : TestText → Option FieldIs
equals_of t = field_is t.sign t.left t.right

-- whether these are two numbers of one field
abbrev pub are_two : Option FieldIs → Option FieldIs → Bool
are_two None b = false
are_two (Some a) None = false
are_two (Some a) (Some b) =
    field_number a.field == field_number b.field && not (a.number == b.number)

-- whether two ways differ
abbrev pub differ : Bool → Bool → Bool
differ true b = not b
differ false b = b

-- Whether no packet has both: one text that goes both ways, or one field that is two numbers.
abbrev pub contradicts : Told → Told → Bool
contradicts a b =
    (same_text a.text b.text && differ a.holds b.holds)
    || ((a.holds && b.holds) && are_two (equals_of a.text) (equals_of b.text))

-- whether no two tests contradict each other
abbrev pub is_consistent : List Told → Bool
is_consistent [] = true
is_consistent (t ∷ ts) = not (list_any (contradicts t) ts) && is_consistent ts

-- whether a path is feasible
abbrev pub is_feasible : List PathStep → Bool
is_feasible path = is_consistent (tests path)

-- the feasible paths of a block, in text order
abbrev pub feasible_paths : Block → List (List PathStep)
feasible_paths block = filter is_feasible (paths block ([] ∷ []))

-- those of a handler, where there is one
abbrev pub handler_paths : Option Block → List (List PathStep)
handler_paths None = []
handler_paths (Some block) = feasible_paths block

-- the feasible paths of a port's handler for a family; there are none where there is no handler
abbrev pub door_paths : Function → Door → List (List PathStep)
door_paths f door = handler_paths (handler_at f door)

-- how each outcome branches
abbrev pub branches : List Outcome → List Branch
branches outcomes = map (λ (o : Outcome). o.branch) outcomes

-- how the statements of a path branch, in order
abbrev pub branches_along : List PathStep → List Branch
branches_along path = branches (outcomes_along path)

-- Feasible, of a path as it stands: no test of one text goes both ways on it, and no test of a field
-- against a number is true for two numbers.
pub record IsFeasible (path : List PathStep) : Type 0 where
  pub one_way :
      (a b : Told) → Contains (tests path) a → Contains (tests path) b →
      a.text ≡ b.text → a.holds ≡ b.holds
  pub one_number :
      (a b : Told) (field : Field) (m n : ℕ) → Contains (tests path) a → Contains (tests path) b →
      equals_of a.text ≡ Some (record { field = field; number = m }) →
      equals_of b.text ≡ Some (record { field = field; number = n }) →
      a.holds ≡ true → b.holds ≡ true → m ≡ n
