-- A sign is known by its number.
use Rattle.std.proofs.Common.{◌≡◌, ◌∙◌, ◌∷◌, List, [], nat_eq, true, get_or, refl, ap, sym, eqb-true}
use Rattle.nf_tokens.specs.declared.token.Sign.{Sign}
use Rattle.nf_tokens.specs.declared.token.Sign.TheVariants as signs
use Rattle.nf_tokens.specs.Signs.{number_of}

all_signs : List Sign
all_signs = signs.OpenBrace ∷ signs.CloseBrace ∷ signs.OpenParenthesis ∷ signs.CloseParenthesis ∷ signs.OpenBracket ∷ signs.CloseBracket ∷ signs.Semicolon ∷ signs.Colon ∷ signs.Comma ∷ signs.Dot ∷ signs.Assign ∷ signs.Equal ∷ signs.NotEqual ∷ signs.Less ∷ signs.LessOrEqual ∷ signs.Greater ∷ signs.GreaterOrEqual ∷ signs.Plus ∷ signs.Minus ∷ signs.Times ∷ signs.Over ∷ signs.Modulo ∷ signs.And ∷ signs.Nf ∷ signs.Ports ∷ signs.Chain ∷ signs.Lifetime ∷ signs.Map ∷ signs.Fixed ∷ signs.Free ∷ signs.Array ∷ signs.On ∷ signs.Get ∷ signs.Else ∷ signs.Find ∷ signs.Where ∷ signs.New ∷ signs.Taken ∷ signs.Full ∷ signs.If ∷ signs.Touch ∷ signs.Set ∷ signs.Forward ∷ signs.Flood ∷ signs.Discard ∷ signs.Index ∷ signs.Six ∷ []

numbered : (s : Sign) → get_or all_signs (number_of s) signs.Index ≡ s
unfolding all_signs
numbered signs.OpenBrace = refl
numbered signs.CloseBrace = refl
numbered signs.OpenParenthesis = refl
numbered signs.CloseParenthesis = refl
numbered signs.OpenBracket = refl
numbered signs.CloseBracket = refl
numbered signs.Semicolon = refl
numbered signs.Colon = refl
numbered signs.Comma = refl
numbered signs.Dot = refl
numbered signs.Assign = refl
numbered signs.Equal = refl
numbered signs.NotEqual = refl
numbered signs.Less = refl
numbered signs.LessOrEqual = refl
numbered signs.Greater = refl
numbered signs.GreaterOrEqual = refl
numbered signs.Plus = refl
numbered signs.Minus = refl
numbered signs.Times = refl
numbered signs.Over = refl
numbered signs.Modulo = refl
numbered signs.And = refl
numbered signs.Nf = refl
numbered signs.Ports = refl
numbered signs.Chain = refl
numbered signs.Lifetime = refl
numbered signs.Map = refl
numbered signs.Fixed = refl
numbered signs.Free = refl
numbered signs.Array = refl
numbered signs.On = refl
numbered signs.Get = refl
numbered signs.Else = refl
numbered signs.Find = refl
numbered signs.Where = refl
numbered signs.New = refl
numbered signs.Taken = refl
numbered signs.Full = refl
numbered signs.If = refl
numbered signs.Touch = refl
numbered signs.Set = refl
numbered signs.Forward = refl
numbered signs.Flood = refl
numbered signs.Discard = refl
numbered signs.Index = refl
numbered signs.Six = refl

pub same_sign : (s t : Sign) → nat_eq (number_of t) (number_of s) ≡ true → t ≡ s
same_sign s t h = sym (numbered t) ∙ ap (λ n. get_or all_signs n signs.Index) (eqb-true (number_of t) (number_of s) h) ∙ numbered s
