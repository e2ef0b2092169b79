-- The tokens of a text: at each byte that no token before it has, the longest piece that begins there.
use Rattle.std.specs.Prelude.{ℕ, zero, suc, ◌+◌, ◌-◌, ◌≤◌, nat_eq, Bool, true, false, Option, Some, None, List, [], ◌∷◌, take, if◌then◌else◌}
use Rattle.nf_tokens.specs.declared.token.Sign.{Sign}
use Rattle.nf_tokens.specs.declared.token.Flaw.TheVariants as flaws
use Rattle.nf_tokens.specs.declared.token.Token.{Token}
use Rattle.nf_tokens.specs.declared.token.Token.TheVariants as tokens
use Rattle.nf_tokens.specs.declared.token.Place.{Place}
use Rattle.nf_tokens.specs.declared.token.Placed.{Placed}
use Rattle.nf_tokens.specs.declared.lexer.Kind.{Kind}
use Rattle.nf_tokens.specs.declared.lexer.Kind.TheVariants as kinds
use Rattle.nf_tokens.specs.declared.lexer.Piece.{Piece}
use Rattle.nf_tokens.specs.Bytes.{is_blank, is_letter, is_digit, in_word, in_number, in_comment, front_length, sign_of, compared_of}
use Rattle.nf_tokens.specs.Numbers.{number_of_run}
use Rattle.nf_tokens.specs.Words.{token_of_word}

abbrev pub begins_equals : List ℕ → Bool
begins_equals [] = false
begins_equals (b ∷ bs) = nat_eq b 61

abbrev pub piece : ℕ → Kind → Piece
piece n kind = record { len = n; kind = kind }

abbrev pub short_sign : Option Sign → Piece
short_sign None = piece 1 kinds.Stray
short_sign (Some s) = piece 1 (kinds.Sign s)

abbrev pub long_sign : Bool → Option Sign → Option Sign → Piece
long_sign true (Some s) short = piece 2 (kinds.Sign s)
long_sign true None short = short_sign short
long_sign false long short = short_sign short

-- the longest sign at the front
abbrev pub sign_at : ℕ → List ℕ → Piece
sign_at b bs = long_sign (begins_equals bs) (compared_of b) (sign_of b)

-- the piece at the front: b and the bytes behind it
abbrev pub piece_at : ℕ → List ℕ → Piece
piece_at b bs =
    if is_blank b then piece 1 kinds.Space else
    if nat_eq b 35 then piece (suc (front_length in_comment bs)) kinds.Space else
    if is_letter b then piece (suc (front_length in_word bs)) kinds.Word else
    if is_digit b then piece (suc (front_length in_number bs)) kinds.Number else
    sign_at b bs

abbrev pub number_or_bad : Option ℕ → Token
number_or_bad None = tokens.Bad flaws.Number
number_or_bad (Some n) = tokens.Number n

abbrev pub token_of_number : List ℕ → Token
token_of_number run = number_or_bad (number_of_run run)

-- the token of a piece, if it is one
abbrev pub token_of : Kind → List ℕ → Option Token
token_of kinds.Space run = None
token_of kinds.Word run = Some (token_of_word run)
token_of kinds.Number run = Some (token_of_number run)
token_of (kinds.Sign s) run = Some (tokens.Sign s)
token_of kinds.Stray run = Some (tokens.Bad flaws.Byte)

-- the place behind a byte
abbrev pub behind : Place → ℕ → Place
behind at b = if nat_eq b 10
    then record { line = at.line + 1; column = 1 }
    else record { line = at.line; column = at.column + 1 }

abbrev pub behind_all : Place → List ℕ → Place
behind_all at [] = at
behind_all at (b ∷ bs) = behind_all (behind at b) bs

-- the second place is at most so many bytes behind the first
pub record IsWithin (at later : Place) (n : ℕ) : Type 0 where
  pub line : later.line ≤ at.line + n
  pub column : later.column ≤ at.column + n
  pub from_one : 1 ≤ later.column

abbrev pub with_token : Option Token → Place → List Placed → List Placed
with_token None at ts = ts
with_token (Some t) at ts = record { token = t; place = at } ∷ ts

-- the tokens of a text, where the first `skip` bytes belong to the piece before
abbrev pub tokens_of : ℕ → Place → List ℕ → List Placed
tokens_of skip at [] = []
tokens_of (suc skip) at (b ∷ bs) = tokens_of skip (behind at b) bs
tokens_of zero at (b ∷ bs) = with_token (token_of (piece_at b bs).kind (take (piece_at b bs).len (b ∷ bs))) at (tokens_of ((piece_at b bs).len - 1) (behind at b) bs)

abbrev pub start : Place
start = record { line = 1; column = 1 }
