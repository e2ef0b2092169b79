-- The three forms of a number, and their values.
use Rattle.std.specs.Prelude.{ℕ, ◌+◌, ◌*◌, ◌^◌, nat_lt, nat_le, nat_eq, ◌&&◌, not, Bool, true, false, Option, Some, None, List, [], ◌∷◌, length, take, drop, if◌then◌else◌}
use Rattle.nf_tokens.specs.Bytes.{is_digit, is_hex_digit, in_octet, digit_of, front_length}

-- the value of digits behind a value
abbrev pub value_from : ℕ → ℕ → List ℕ → ℕ
value_from base v [] = v
value_from base v (d ∷ ds) = value_from base (v * base + digit_of d) ds

-- numbers are 64 bits
abbrev pub fitting : ℕ → Option ℕ
fitting v = if nat_lt v (2 ^ 64) then Some v else None

abbrev pub all_are : (ℕ → Bool) → List ℕ → Bool
all_are p bs = nat_eq (front_length p bs) (length bs)

abbrev pub has_no_leading_zero : List ℕ → Bool
has_no_leading_zero [] = false
has_no_leading_zero (b ∷ []) = true
has_no_leading_zero (b ∷ c ∷ bs) = not (nat_eq b 48)

abbrev pub decimal : List ℕ → Option ℕ
decimal bs = if all_are is_digit bs && has_no_leading_zero bs then fitting (value_from 10 0 bs) else None

-- what stands behind `0x`
abbrev pub hex_digits : List ℕ → Option ℕ
hex_digits bs = if all_are is_hex_digit bs && (nat_le 1 (length bs) && nat_le (length bs) 16) then fitting (value_from 16 0 bs) else None

abbrev pub hexadecimal : List ℕ → Option ℕ
hexadecimal [] = None
hexadecimal (a ∷ []) = None
hexadecimal (a ∷ b ∷ bs) = if nat_eq a 48 && nat_eq b 120 then hex_digits bs else None

abbrev pub up_to_255 : Option ℕ → Option ℕ
up_to_255 None = None
up_to_255 (Some v) = if nat_le v 255 then Some v else None

-- a decimal from 0 to 255
abbrev pub octet : List ℕ → Option ℕ
octet bs = up_to_255 (decimal bs)

-- how long the run up to a dot is
abbrev pub octet_length : List ℕ → ℕ
octet_length bs = front_length in_octet bs

abbrev pub first_octet : List ℕ → Option ℕ
first_octet bs = octet (take (octet_length bs) bs)

-- what stands behind the first dot
abbrev pub behind_dot : List ℕ → List ℕ
behind_dot bs = drop (octet_length bs + 1) bs

abbrev pub appended : Option ℕ → Option ℕ → Option ℕ
appended None b = None
appended (Some a) None = None
appended (Some a) (Some b) = Some (a * 256 + b)

-- four octets with dots between them, the first one highest
abbrev pub address : List ℕ → Option ℕ
address bs = appended (appended (appended (first_octet bs) (first_octet (behind_dot bs))) (first_octet (behind_dot (behind_dot bs)))) (octet (behind_dot (behind_dot (behind_dot bs))))

abbrev pub either : Option ℕ → Option ℕ → Option ℕ
either None b = b
either (Some a) b = Some a

abbrev pub number_of_run : List ℕ → Option ℕ
number_of_run bs = either (decimal bs) (either (hexadecimal bs) (address bs))
