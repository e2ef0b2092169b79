-- Every sign and reserved word has a number of its own.
use Rattle.std.specs.Prelude.{ℕ}
use Rattle.nf_tokens.specs.declared.token.Sign.{Sign}
use Rattle.nf_tokens.specs.declared.token.Sign.TheVariants as signs

abbrev pub number_of : Sign → ℕ
number_of signs.OpenBrace = 0
number_of signs.CloseBrace = 1
number_of signs.OpenParenthesis = 2
number_of signs.CloseParenthesis = 3
number_of signs.OpenBracket = 4
number_of signs.CloseBracket = 5
number_of signs.Semicolon = 6
number_of signs.Colon = 7
number_of signs.Comma = 8
number_of signs.Dot = 9
number_of signs.Assign = 10
number_of signs.Equal = 11
number_of signs.NotEqual = 12
number_of signs.Less = 13
number_of signs.LessOrEqual = 14
number_of signs.Greater = 15
number_of signs.GreaterOrEqual = 16
number_of signs.Plus = 17
number_of signs.Minus = 18
number_of signs.Times = 19
number_of signs.Over = 20
number_of signs.Modulo = 21
number_of signs.And = 22
number_of signs.Nf = 23
number_of signs.Ports = 24
number_of signs.Chain = 25
number_of signs.Lifetime = 26
number_of signs.Map = 27
number_of signs.Fixed = 28
number_of signs.Free = 29
number_of signs.Array = 30
number_of signs.On = 31
number_of signs.Get = 32
number_of signs.Else = 33
number_of signs.Find = 34
number_of signs.Where = 35
number_of signs.New = 36
number_of signs.Taken = 37
number_of signs.Full = 38
number_of signs.If = 39
number_of signs.Touch = 40
number_of signs.Set = 41
number_of signs.Forward = 42
number_of signs.Flood = 43
number_of signs.Discard = 44
number_of signs.Index = 45
number_of signs.Six = 46
