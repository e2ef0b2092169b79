-- A list of options, one after the other, and units that are never 0.
use Rattle.std.proofs.Common.{◌≡◌, ◌≢◌, ◌⊎◌, inl, inr, ℕ, zero, suc, ◌+◌, ◌-◌, ◌*◌, ◌/◌, ◌^◌, ◌<◌, ◌≤◌, min, Bool, true, false, ◌&&◌, cond, leb, eqb, List, [], ◌∷◌, length, drop, slice_index, Option, Some, None, refl, sym, ap, ◌∙◌, arith}
use Rattle.std.proofs.lemmas.Bool.{le-leb, lt-leb}
use Rattle.std.proofs.lemmas.Bool.Decides.{nat_tests}
use Rattle.std.proofs.lemmas.List.{length-drop}
use Rattle.std.proofs.Math.Nat.{one-le-pow, div-eq_of_lt}
use Rattle.pcap_file.specs.declared.form.Endian.{Endian}
use Rattle.pcap_file.specs.Record.{greatest_time}
use Rattle.pcapng_file.specs.Options.{padded, code_in, length_in, resolution_within, resolution_in, units_of, time_in}

-- what one option comes to, by its tests
abbrev chosen : Bool → Bool → Bool → Bool → Option ℕ → Option ℕ → Option ℕ
chosen long ended fits unit one more = cond long (cond ended None (cond fits (cond unit one more) None)) None

-- whether it is the unit
abbrev is_unit : Endian → List ℕ → Bool
is_unit order bytes = eqb (code_in order bytes) 9 && eqb (length_in order bytes) 1

behind_option : ℕ → Endian → List ℕ → Option ℕ
behind_option most order bytes = resolution_within most order (drop (4 + padded (length_in order bytes)) bytes)

one_step : (most : ℕ) (order : Endian) (bytes : List ℕ)
    → resolution_within (suc most) order bytes ≡ chosen (leb 4 (length bytes)) (eqb (code_in order bytes) 0) (leb (4 + length_in order bytes) (length bytes)) (is_unit order bytes) (Some (slice_index bytes 4)) (behind_option most order bytes)
unfolding resolution_within behind_option
one_step most order bytes = refl

same_rest : (long ended fits unit : Bool) (one more more' : Option ℕ) → (long ≡ true → more ≡ more') → chosen long ended fits unit one more ≡ chosen long ended fits unit one more'
same_rest true ended fits unit one more more' h = ap (chosen true ended fits unit one) (h refl)
same_rest false ended fits unit one more more' h = refl

nothing_short : (n : ℕ) (order : Endian) (bytes : List ℕ) → length bytes < 4 → resolution_within n order bytes ≡ None
unfolding resolution_within
nothing_short zero order bytes lt = refl
nothing_short (suc n) order bytes lt = one_step n order bytes ∙ ap (λ (b : Bool). chosen b (eqb (code_in order bytes) 0) (leb (4 + length_in order bytes) (length bytes)) (is_unit order bytes) (Some (slice_index bytes 4)) (behind_option n order bytes)) (lt-leb 4 (length bytes) lt)

-- any limit that is no less than the bytes gives the same
within_same : (m n : ℕ) (order : Endian) (bytes : List ℕ) → length bytes ≤ m → length bytes ≤ n → resolution_within m order bytes ≡ resolution_within n order bytes
unfolding behind_option
within_same zero n order bytes le le' = nothing_short zero order bytes (omega arith) ∙ sym (nothing_short n order bytes (omega arith))
within_same (suc m) zero order bytes le le' = nothing_short (suc m) order bytes (omega arith) ∙ sym (nothing_short zero order bytes (omega arith))
within_same (suc m) (suc n) order bytes le le' =
    let left = drop (4 + padded (length_in order bytes)) bytes in
    one_step m order bytes
    ∙ same_rest (leb 4 (length bytes)) (eqb (code_in order bytes) 0) (leb (4 + length_in order bytes) (length bytes)) (is_unit order bytes) (Some (slice_index bytes 4)) (behind_option m order bytes) (behind_option n order bytes)
    (λ e. within_same m n order left (omega (arith, length-drop (4 + padded (length_in order bytes)) bytes)) (omega (arith, length-drop (4 + padded (length_in order bytes)) bytes)))
    ∙ sym (one_step n order bytes)

-- a list of options, by what the first of them says
first_of_list : (order : Endian) (bytes : List ℕ) → 4 ≤ length bytes
    → resolution_in order bytes ≡ chosen true (eqb (code_in order bytes) 0) (leb (4 + length_in order bytes) (length bytes)) (is_unit order bytes) (Some (slice_index bytes 4)) (resolution_in order (drop (4 + padded (length_in order bytes)) bytes))
unfolding resolution_in behind_option
first_of_list order [] le = absurd (omega arith)
first_of_list order (b ∷ bytes) le =
    let all = b ∷ bytes in
    let left = drop (4 + padded (length_in order all)) all in
    let more : behind_option (length bytes) order all ≡ resolution_in order left = within_same (length bytes) (length left) order left (omega (arith, length-drop (4 + padded (length_in order all)) all)) (omega arith) in
    one_step (length bytes) order all
    ∙ ap (λ (b : Bool). chosen b (eqb (code_in order all) 0) (leb (4 + length_in order all) (length all)) (is_unit order all) (Some (slice_index all 4)) (behind_option (length bytes) order all)) (le-leb 4 (length all) le)
    ∙ ap (chosen true (eqb (code_in order all) 0) (leb (4 + length_in order all) (length all)) (is_unit order all) (Some (slice_index all 4))) more

pub option_short : (order : Endian) (bytes : List ℕ) → length bytes < 4 → resolution_in order bytes ≡ None
unfolding resolution_in
option_short order bytes lt = nothing_short (length bytes) order bytes lt

pub option_ended : (order : Endian) (bytes : List ℕ) → 4 ≤ length bytes → code_in order bytes ≡ 0 → resolution_in order bytes ≡ None
option_ended order bytes le e =
    let ended : eqb (code_in order bytes) 0 ≡ true = grind (arith, nat_tests) in
    first_of_list order bytes le
    ∙ ap (λ (b : Bool). chosen true b (leb (4 + length_in order bytes) (length bytes)) (is_unit order bytes) (Some (slice_index bytes 4)) (resolution_in order (drop (4 + padded (length_in order bytes)) bytes))) ended

no_room : (ended unit : Bool) (one more : Option ℕ) → chosen true ended false unit one more ≡ None
no_room true unit one more = refl
no_room false unit one more = refl

pub option_unfit : (order : Endian) (bytes : List ℕ) → 4 ≤ length bytes → length bytes < 4 + length_in order bytes → resolution_in order bytes ≡ None
option_unfit order bytes le lt =
    let more = resolution_in order (drop (4 + padded (length_in order bytes)) bytes) in
    first_of_list order bytes le
    ∙ ap (λ (b : Bool). chosen true (eqb (code_in order bytes) 0) b (is_unit order bytes) (Some (slice_index bytes 4)) more) (lt-leb (4 + length_in order bytes) (length bytes) lt)
    ∙ no_room (eqb (code_in order bytes) 0) (is_unit order bytes) (Some (slice_index bytes 4)) more

all_four : (a b d : Bool) (one more : Option ℕ) → a ≡ false → b ≡ true → d ≡ true → chosen true a b d one more ≡ one
all_four a b d one more p q r = rw (p, q, r) refl

no_unit : (a b d : Bool) (one more : Option ℕ) → a ≡ false → b ≡ true → d ≡ false → chosen true a b d one more ≡ more
no_unit a b d one more p q r = rw (p, q, r) refl

pub option_unit : (order : Endian) (bytes : List ℕ) → 4 + length_in order bytes ≤ length bytes → code_in order bytes ≡ 9 → length_in order bytes ≡ 1 → resolution_in order bytes ≡ Some (slice_index bytes 4)
option_unit order bytes le code size =
    let ended : eqb (code_in order bytes) 0 ≡ false = grind (arith, nat_tests) in
    let unit : is_unit order bytes ≡ true = grind (arith, nat_tests) in
    first_of_list order bytes (omega arith)
    ∙ all_four (eqb (code_in order bytes) 0) (leb (4 + length_in order bytes) (length bytes)) (is_unit order bytes) (Some (slice_index bytes 4)) (resolution_in order (drop (4 + padded (length_in order bytes)) bytes))
    ended (le-leb _ _ le) unit

pub option_other : (order : Endian) (bytes : List ℕ) → 4 + length_in order bytes ≤ length bytes → code_in order bytes ≢ 0 → is_unit order bytes ≡ false → resolution_in order bytes ≡ resolution_in order (drop (4 + padded (length_in order bytes)) bytes)
option_other order bytes le code unit =
    let ended : eqb (code_in order bytes) 0 ≡ false = grind (arith, nat_tests) in
    first_of_list order bytes (omega arith)
    ∙ no_unit (eqb (code_in order bytes) 0) (leb (4 + length_in order bytes) (length bytes)) (is_unit order bytes) (Some (slice_index bytes 4)) (resolution_in order (drop (4 + padded (length_in order bytes)) bytes))
    ended (le-leb _ _ le) unit

-- ---- units

units_choice : (b : Bool) (x y : ℕ) → 1 ≤ x → 1 ≤ y → 1 ≤ cond b x y
units_choice true x y h k = h
units_choice false x y h k = k

pub units_some : (byte : ℕ) → 1 ≤ units_of byte
units_some byte = units_choice (leb 128 byte) (2 ^ (byte - 128)) (10 ^ byte) (one-le-pow (byte - 128) 2 (omega arith)) (one-le-pow byte 10 (omega arith))
