-- What the grammar sees of a token. Names, numbers, fields, the words that begin something, and `)` have their
-- places; other signs have none. A token may be marked as one that passes a limit.
use Rattle.std.specs.Prelude.{ℕ, ◌==◌, nat_le, Bool, false, List, map}
use Rattle.nf_base.specs.declared.packet.Field.{Field}
use Rattle.nf_tokens.specs.declared.token.Flaw.TheVariants as flaws
use Rattle.nf_tokens.specs.declared.token.Sign.{Sign}
use Rattle.nf_tokens.specs.declared.token.Sign.TheVariants as signs
use Rattle.nf_tokens.specs.declared.token.Token.{Token}
use Rattle.nf_tokens.specs.declared.token.Token.TheVariants as tokens
use Rattle.nf_tokens.specs.declared.token.Place.{Place}
use Rattle.nf_tokens.specs.declared.token.Placed.{Placed}
use Rattle.nf_tree.specs.declared.place.Name.{Name}
use Rattle.nf_tree.specs.declared.place.Literal.{Literal}
use Rattle.nf_syntax.specs.declared.fault.SyntaxKind.{SyntaxKind}
use Rattle.nf_syntax.specs.declared.fault.SyntaxKind.TheVariants as kinds

-- how a sign is seen: without its place, with it, or as one that only goes on with what may end before it
pub data Class : Type 0 where
  Plain : Class
  Begins : Class
  Joins : Class

abbrev pub class_of : Sign → Class
class_of signs.CloseParenthesis = Begins
class_of signs.Chain = Begins
class_of signs.Map = Begins
class_of signs.Fixed = Begins
class_of signs.Free = Begins
class_of signs.Array = Begins
class_of signs.On = Begins
class_of signs.Get = Begins
class_of signs.Find = Begins
class_of signs.New = Begins
class_of signs.Comma = Joins
class_of signs.Plus = Joins
class_of signs.Minus = Joins
class_of signs.Times = Joins
class_of signs.Over = Joins
class_of signs.Modulo = Joins
class_of signs.And = Joins
class_of signs.Else = Joins
class_of signs.Taken = Joins
class_of signs.Full = Joins
class_of signs.Where = Joins
class_of signs.Six = Joins
class_of s = Plain

-- a token, as the grammar sees it
pub data Item : Type 0 where
  AName : Name → Item
  ANumber : Literal → Item
  AField : Field → Place → Item
  ASign : Sign → Item
  AWord : Sign → Place → Item
  AJoin : Sign → Item
  Unfit : Item

abbrev pub seen_as : Class → Sign → Place → Item
seen_as Plain s at = ASign s
seen_as Begins s at = AWord s at
seen_as Joins s at = AJoin s

abbrev pub named : List ℕ → Place → Name
named x at = record { bytes = x; place = at }

-- what the grammar sees of a token at its place; it has no bad token
abbrev pub item : Token → Place → Item
item (tokens.Name x) at = AName (named x at)
item (tokens.Number n) at = ANumber (record { value = n; place = at })
item (tokens.Field field) at = AField field at
item (tokens.Sign s) at = seen_as (class_of s) s at
item (tokens.Bad flaw) at = Unfit

-- the kind of fault of a token that may not stand where it stands
abbrev pub kind_of : Token → SyntaxKind
kind_of (tokens.Bad flaws.Byte) = kinds.Byte
kind_of (tokens.Bad flaws.Number) = kinds.Number
kind_of (tokens.Bad flaws.Name) = kinds.Limit
kind_of t = kinds.Token

-- an item, and whether it passes a limit
pub record Marked : Type 0 where
  pub item : Item
  pub past : Bool

abbrev pub plain : Item → Marked
plain i = record { item = i; past = false }

-- the items of these tokens, none of which passes a limit
abbrev pub unmarked : List Placed → List Marked
unmarked ps = map (λ p. plain (item p.token p.place)) ps

abbrev pub sign : Sign → Marked
sign s = plain (ASign s)

abbrev pub word : Sign → Place → Marked
word s at = plain (AWord s at)

abbrev pub join : Sign → Marked
join s = plain (AJoin s)

-- a sign that opens what only so many more may stand in
abbrev pub opening : Sign → ℕ → Marked
opening s room = record { item = ASign s; past = room == 0 }

-- the first item of an operand, with so many operands before it
abbrev pub operand : ℕ → Item → Marked
operand n i = record { item = i; past = nat_le 64 n }

abbrev pub name : Name → Marked
name x = plain (AName x)

abbrev pub number : Literal → Marked
number n = plain (ANumber n)

abbrev pub field : Field → Place → Marked
field f at = plain (AField f at)
