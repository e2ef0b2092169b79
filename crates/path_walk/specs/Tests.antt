-- Tests as they are compared with one another, and those on a path that read the packet alone.
use Rattle.std.specs.Prelude.{ℕ, Bool, true, false, ◌&&◌, not, List, [], ◌∷◌, ◌++◌, Option, Some, None, if◌then◌else◌}
use Rattle.std.specs.Str.{bytes_eq}
use Rattle.nf_base.specs.declared.packet.Field.{Field}
use Rattle.nf_base.specs.declared.packet.Field.TheVariants.{Time, Length, SrcMac, DstMac, SrcIp, DstIp, SrcIp6, DstIp6, Proto, Ttl, SrcPort, DstPort}
use Rattle.nf_base.specs.declared.expr.Operator.{Operator}
use Rattle.nf_base.specs.declared.expr.Operator.TheVariants.{Plus, Minus, Times, Over, Modulo, And}
use Rattle.nf_base.specs.declared.expr.Comparison.{Comparison}
use Rattle.nf_base.specs.declared.expr.Comparison.TheVariants as comparison
use Rattle.nf_base.specs.Text.{Expression, Number, Read, Index, Label, Column, Cell, Both, Get, Find, Test}
use Rattle.nf_base.specs.Paths.{Branch, Hits, Misses, Makes, IsTaken, IsFull, PathStep, Doing, Asking, Making, Closing}
use Rattle.nf_laws.specs.Paths.{of_packet}
use Rattle.path_walk.specs.declared.test.Sign.{Sign}
use Rattle.path_walk.specs.declared.test.Sign.TheVariants.{Equal, Less, AtMost}

-- a test is brought to one of three signs; the other three are these with outcomes exchanged
abbrev pub sign_of : Comparison → Sign
sign_of comparison.Equal = Equal
sign_of comparison.NotEqual = Equal
sign_of comparison.Less = Less
sign_of comparison.GreaterOrEqual = Less
sign_of comparison.LessOrEqual = AtMost
sign_of comparison.Greater = AtMost

-- whether outcomes are exchanged
abbrev pub is_exchanged : Comparison → Bool
is_exchanged comparison.Equal = false
is_exchanged comparison.NotEqual = true
is_exchanged comparison.Less = false
is_exchanged comparison.GreaterOrEqual = true
is_exchanged comparison.LessOrEqual = false
is_exchanged comparison.Greater = true

-- a test as it is compared; its sides stay where they stand
pub record TestText : Type 0 where
  pub sign : Sign
  pub left : Expression
  pub right : Expression

-- the numbers of fields, operators and signs, for texts as lists of numbers
abbrev pub field_number : Field → ℕ
field_number Time = 0
field_number Length = 1
field_number SrcMac = 2
field_number DstMac = 3
field_number SrcIp = 4
field_number DstIp = 5
field_number SrcIp6 = 10
field_number DstIp6 = 11
field_number Proto = 6
field_number Ttl = 7
field_number SrcPort = 8
field_number DstPort = 9

abbrev pub operator_number : Operator → ℕ
operator_number Plus = 0
operator_number Minus = 1
operator_number Times = 2
operator_number Over = 3
operator_number Modulo = 4
operator_number And = 5

abbrev pub sign_number : Sign → ℕ
sign_number Equal = 0
sign_number Less = 1
sign_number AtMost = 2

-- an expression in prefix notation, which needs no parentheses
abbrev pub tokens : Expression → List ℕ
tokens (Number n) = 0 ∷ n ∷ []
tokens (Read field) = 1 ∷ field_number field ∷ []
tokens (Index var) = 2 ∷ var ∷ []
tokens (Label var label) = 3 ∷ var ∷ label ∷ []
tokens (Column var column) = 4 ∷ var ∷ column ∷ []
tokens (Cell place array at) = 5 ∷ place ∷ array ∷ tokens at
tokens (Both operator left right) = 6 ∷ operator_number operator ∷ (tokens left ++ tokens right)

-- a test in prefix notation
abbrev pub test_tokens : TestText → List ℕ
test_tokens t = sign_number t.sign ∷ (tokens t.left ++ tokens t.right)

-- whether two tests are of one text
abbrev pub same_text : TestText → TestText → Bool
same_text a b = bytes_eq (test_tokens a) (test_tokens b)

-- a test with how it went, so brought
pub record Told : Type 0 where
  pub text : TestText
  pub holds : Bool

-- whether a branch is the one where a question hits
abbrev pub is_hit : Branch → Bool
is_hit Hits = true
is_hit Misses = false
is_hit Makes = false
is_hit IsTaken = false
is_hit IsFull = false

-- the other way, where outcomes are exchanged
abbrev pub flipped : Bool → Bool → Bool
flipped true b = not b
flipped false b = b

-- a test that branched so
abbrev pub told : Comparison → Expression → Expression → Branch → Told
told c left right b = record {
  text = record { sign = sign_of c; left = left; right = right };
  holds = flipped (is_exchanged c) (is_hit b);
}

-- the test of a path's statement, where it is one of fields and numbers alone
abbrev pub test_of : PathStep → Option Told
test_of (Doing op) = None
test_of (Asking (Get place chain m key var) b) = None
test_of (Asking (Find place chain at guards var) b) = None
test_of (Asking (Test place c left right) b) =
    if of_packet left && of_packet right then Some (told c left right b) else None
test_of (Making n b) = None
test_of (Closing e) = None

-- a test in front of others, where there is one
abbrev pub test_in_front : Option Told → List Told → List Told
test_in_front None rest = rest
test_in_front (Some t) rest = t ∷ rest

-- the tests on a path that read the packet alone, in order
abbrev pub tests : List PathStep → List Told
tests [] = []
tests (s ∷ ss) = test_in_front (test_of s) (tests ss)
