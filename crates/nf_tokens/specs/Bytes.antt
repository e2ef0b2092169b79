-- Which bytes are which.
use Rattle.std.specs.Prelude.{ℕ, suc, ◌-◌, nat_lt, nat_eq, ◌&&◌, ◌||◌, not, Bool, Option, Some, None, List, [], ◌∷◌, if◌then◌else◌}
use Rattle.nf_tokens.specs.declared.token.Sign.{Sign}
use Rattle.nf_tokens.specs.declared.token.Sign.TheVariants as signs

abbrev pub between : ℕ → ℕ → ℕ → Bool
between low high b = not (nat_lt b low) && not (nat_lt high b)

abbrev pub is_digit : ℕ → Bool
is_digit b = between 48 57 b

-- a letter or `_`
abbrev pub is_letter : ℕ → Bool
is_letter b = between 65 90 b || between 97 122 b || nat_eq b 95

-- a digit, or one of `a` to `f`
abbrev pub is_hex_digit : ℕ → Bool
is_hex_digit b = is_digit b || between 97 102 b

-- what a word goes on with, and what a number does
abbrev pub in_word : ℕ → Bool
in_word b = is_letter b || is_digit b

abbrev pub in_number : ℕ → Bool
in_number b = is_letter b || is_digit b || nat_eq b 46

abbrev pub in_comment : ℕ → Bool
in_comment b = not (nat_eq b 10)

abbrev pub in_octet : ℕ → Bool
in_octet b = not (nat_eq b 46)

abbrev pub is_blank : ℕ → Bool
is_blank b = nat_eq b 32 || nat_eq b 9 || nat_eq b 13 || nat_eq b 10

-- the value of a digit
abbrev pub digit_of : ℕ → ℕ
digit_of b = if is_digit b then b - 48 else (if between 97 102 b then b - 87 else 0)

-- how many bytes at the front have the property
abbrev pub front_length : (ℕ → Bool) → List ℕ → ℕ
front_length p [] = 0
front_length p (b ∷ bs) = if p b then suc (front_length p bs) else 0

-- a sign of one byte
abbrev pub sign_of : ℕ → Option Sign
sign_of b =
    if nat_eq b 123 then Some signs.OpenBrace else
    if nat_eq b 125 then Some signs.CloseBrace else
    if nat_eq b 40 then Some signs.OpenParenthesis else
    if nat_eq b 41 then Some signs.CloseParenthesis else
    if nat_eq b 91 then Some signs.OpenBracket else
    if nat_eq b 93 then Some signs.CloseBracket else
    if nat_eq b 59 then Some signs.Semicolon else
    if nat_eq b 58 then Some signs.Colon else
    if nat_eq b 44 then Some signs.Comma else
    if nat_eq b 46 then Some signs.Dot else
    if nat_eq b 61 then Some signs.Assign else
    if nat_eq b 60 then Some signs.Less else
    if nat_eq b 62 then Some signs.Greater else
    if nat_eq b 43 then Some signs.Plus else
    if nat_eq b 45 then Some signs.Minus else
    if nat_eq b 42 then Some signs.Times else
    if nat_eq b 47 then Some signs.Over else
    if nat_eq b 37 then Some signs.Modulo else
    if nat_eq b 38 then Some signs.And else
    None

-- a sign of two bytes, the second being `=`
abbrev pub compared_of : ℕ → Option Sign
compared_of b =
    if nat_eq b 61 then Some signs.Equal else
    if nat_eq b 33 then Some signs.NotEqual else
    if nat_eq b 60 then Some signs.LessOrEqual else
    if nat_eq b 62 then Some signs.GreaterOrEqual else
    None
