-- The values of a text at their edges.
use Rattle.std.specs.Prelude.{◌≡◌, ◌≢◌, ◌↔◌, ◌<◌, ◌≤◌, ℕ, ◌+◌, ◌-◌, ◌*◌, ◌^◌, min, true, false, List, [], ◌∷◌, map, Some, None, slice_get}
use Rattle.std.specs.Int.{bit_at}
use Rattle.nf_base.specs.Families.{source, destination}
use Rattle.nf_base.specs.declared.packet.Field.{Field}
use Rattle.nf_base.specs.declared.packet.Field.TheVariants.{Time, Length, SrcMac, DstMac, SrcIp, DstIp, SrcIp6, DstIp6, Proto, Ttl, SrcPort, DstPort}
use Rattle.nf_base.specs.declared.packet.Fields.{Fields}
use Rattle.nf_base.specs.declared.width.Width.{Width}
use Rattle.nf_base.specs.declared.width.Width.TheVariants.{W8, W16, W32, W48, W64, W128}
use Rattle.nf_base.specs.declared.expr.Operator.{Operator}
use Rattle.nf_base.specs.declared.expr.Operator.TheVariants.{Plus, Minus, Times, Over, Modulo, And}
use Rattle.nf_base.specs.declared.expr.Comparison.TheVariants.{Equal, NotEqual, Less, LessOrEqual, Greater, GreaterOrEqual}
use Rattle.nf_base.specs.declared.state.Entry.{Entry}
use Rattle.nf_base.specs.Values.{field_of, bits, field_width, is_settable, is_hashable, narrowed, result_of, compares}
use Rattle.nf_base.specs.Text.{Expression, Number, Read, Index, Label, Column, Cell, Both, Given}
use Rattle.nf_base.specs.Chains.{array_at}
use Rattle.nf_base.specs.Context.{Context, Input, EntryRef, var_at, value, given}
use Rattle.nf_laws.specs.Effects.{StandsAt}
use Rattle.nf_laws.specs.Telling.{Names, HasCell}

-- the fields, in the order in which they are declared
abbrev pub all_fields : List Field
all_fields =
    Time ∷ Length ∷ SrcMac ∷ DstMac ∷ SrcIp ∷ DstIp ∷ SrcIp6 ∷ DstIp6 ∷ Proto ∷ Ttl ∷ SrcPort ∷ DstPort ∷ []

-- how many bits each width and each field has, and which fields may be set and hashed
pub record HaveTheirWidths : Type 0 where
  pub widths : map bits (W8 ∷ W16 ∷ W32 ∷ W48 ∷ W64 ∷ W128 ∷ []) ≡ 8 ∷ 16 ∷ 32 ∷ 48 ∷ 64 ∷ 128 ∷ []
  pub fields : map (λ field. bits (field_width field)) all_fields
      ≡ 64 ∷ 32 ∷ 48 ∷ 48 ∷ 32 ∷ 32 ∷ 128 ∷ 128 ∷ 8 ∷ 8 ∷ 16 ∷ 16 ∷ []
  pub settable : map is_settable all_fields
      ≡ false ∷ false ∷ true ∷ true ∷ true ∷ true ∷ true ∷ true ∷ false ∷ true ∷ true ∷ true ∷ []
  pub hashable : map is_hashable all_fields
      ≡ false ∷ false ∷ false ∷ false ∷ true ∷ true ∷ true ∷ true ∷ false ∷ false ∷ true ∷ true ∷ []

-- what is read of a packet that came at a time
abbrev pub FieldsAreRead : Type 0
FieldsAreRead = (time : ℕ) (p : Fields) →
    map (field_of time p) all_fields
    ≡ time ∷ p.length ∷ p.src_mac ∷ p.dst_mac ∷ source p ∷ destination p ∷ source p ∷ destination p ∷ p.proto ∷ p.ttl ∷ p.src_port
    ∷ p.dst_port ∷ []

-- a value taken to a width: itself where it fits, and the same again one round of the width later
pub record IsNarrowed (w : Width) (v : ℕ) : Type 0 where
  pub below : narrowed w v < 2 ^ bits w
  pub fits : v < 2 ^ bits w → narrowed w v ≡ v
  pub round : narrowed w (v + 2 ^ bits w) ≡ narrowed w v

-- so each value is taken to each width
abbrev pub ValuesAreNarrowed : Type 0
ValuesAreNarrowed = (w : Width) (v : ℕ) → IsNarrowed w v

-- sums and products stop at the largest value, and differences at 0
pub record Saturates (a b : ℕ) : Type 0 where
  pub sum : a + b < 2 ^ 128 → result_of Plus a b ≡ a + b
  pub most : 2 ^ 128 ≤ a + b → result_of Plus a b ≡ 2 ^ 128 - 1
  pub difference : b ≤ a → result_of Minus a b + b ≡ a
  pub least : a ≤ b → result_of Minus a b ≡ 0
  pub product : a * b < 2 ^ 128 → result_of Times a b ≡ a * b
  pub most_product : 2 ^ 128 ≤ a * b → result_of Times a b ≡ 2 ^ 128 - 1

-- a quotient is rounded down, and leaves the remainder; by 0 both are 0
pub record Divides (a b : ℕ) : Type 0 where
  pub whole : 0 < b → result_of Over a b * b + result_of Modulo a b ≡ a
  pub below : 0 < b → result_of Modulo a b < b
  pub by_none : b ≡ 0 → result_of Over a b ≡ 0
  pub none_left : b ≡ 0 → result_of Modulo a b ≡ 0

-- `&` has a bit where both have it
abbrev pub HasCommonBits : ℕ → ℕ → Type 0
HasCommonBits a b = (i : ℕ) → bit_at (result_of And a b) i ≡ min (bit_at a i) (bit_at b i)

-- what two values come to
pub record ComesTo (a b : ℕ) : Type 0 where
  pub saturates : Saturates a b
  pub divides : Divides a b
  pub common : HasCommonBits a b

-- so any two values come to one
abbrev pub OperatorsCompute : Type 0
OperatorsCompute = (a b : ℕ) → ComesTo a b

-- values of 128 bits come to one of 128 bits
abbrev pub ValuesStayInBounds : Type 0
ValuesStayInBounds = (operator : Operator) (a b : ℕ) →
    a < 2 ^ 128 → b < 2 ^ 128 → result_of operator a b < 2 ^ 128

-- each comparison holds exactly where its sign says so
pub record Compares (a b : ℕ) : Type 0 where
  pub equal : (compares Equal a b ≡ true) ↔ (a ≡ b)
  pub not_equal : (compares NotEqual a b ≡ true) ↔ (a ≢ b)
  pub less : (compares Less a b ≡ true) ↔ (a < b)
  pub at_most : (compares LessOrEqual a b ≡ true) ↔ (a ≤ b)
  pub greater : (compares Greater a b ≡ true) ↔ (b < a)
  pub at_least : (compares GreaterOrEqual a b ≡ true) ↔ (b ≤ a)

-- so any two values compare
abbrev pub ComparisonsCompare : Type 0
ComparisonsCompare = (a b : ℕ) → Compares a b

-- what a variable reads of a live entry
pub record ReadsEntry (p : Input) (c : Context) (var : ℕ) (at : EntryRef)
    (entry : Entry) : Type 0 where
  pub index : value p c (Index var) ≡ at.index
  pub label : (label v : ℕ) → slice_get entry.labels label ≡ Some v →
      value p c (Label var label) ≡ v
  pub column : (column v : ℕ) → slice_get entry.columns column ≡ Some v →
      value p c (Column var column) ≡ v

-- so each variable of a live entry reads
abbrev pub VariablesRead : Type 0
VariablesRead = (p : Input) (c : Context) (var : ℕ) (at : EntryRef) (entry : Entry) →
    Names c var at → StandsAt c.state at entry → ReadsEntry p c var at entry

-- a variable whose entry was freed reads 0
pub record ReadsNothing (p : Input) (c : Context) (var : ℕ) : Type 0 where
  pub index : value p c (Index var) ≡ 0
  pub label : (label : ℕ) → value p c (Label var label) ≡ 0
  pub column : (column : ℕ) → value p c (Column var column) ≡ 0

-- so each variable of a freed entry reads
abbrev pub FreedVariablesReadNothing : Type 0
FreedVariablesReadNothing = (p : Input) (c : Context) (var : ℕ) →
    var_at c.vars var ≡ None → ReadsNothing p c var

-- a cell reads its value, and one past the end 0
pub record ReadsCell (p : Input) (c : Context) (place array : ℕ) (at : Expression) : Type 0 where
  pub within : (v : ℕ) → HasCell p c array at v → value p c (Cell place array at) ≡ v
  pub past : slice_get (array_at c.state.arrays array) (narrowed W16 (value p c at)) ≡ None →
      value p c (Cell place array at) ≡ 0

-- so each cell reads
abbrev pub CellsRead : Type 0
CellsRead = (p : Input) (c : Context) (place array : ℕ) (at : Expression) →
    ReadsCell p c place array at

-- numbers are themselves, fields are read, operators take the values of both sides, and what is
-- given is taken to its width
pub record ReadsRest (p : Input) (c : Context) : Type 0 where
  pub number : (n : ℕ) → value p c (Number n) ≡ n
  pub field : (field : Field) → value p c (Read field) ≡ field_of p.time p.fields field
  pub both : (operator : Operator) (a b : Expression) →
      value p c (Both operator a b) ≡ result_of operator (value p c a) (value p c b)
  pub given_ : (g : Given) → given p c g ≡ narrowed g.width (value p c g.value)

-- so all other expressions read
abbrev pub ExpressionsRead : Type 0
ExpressionsRead = (p : Input) (c : Context) → ReadsRest p c
