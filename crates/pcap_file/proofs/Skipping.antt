-- Bytes that are stepped over in several pieces.
use Rattle.std.proofs.Common.{◌≡◌, ℕ, ◌+◌, ◌-◌, ◌<◌, ◌≤◌, List, [], ◌++◌, length, drop, Bool, true, false, Option, Some, None, refl, sym, ap, ◌∙◌, append-nil, append_assoc, drop_of_length-le, arith}
use Rattle.std.proofs.lemmas.List.{append_cancel_left, drop-drop, drop_at, length-append, length-drop}
use Rattle.pcap_file.specs.Held.{Filled, Skips, to_come}

pub skips_none : (o : Option (List ℕ)) → Skips 0 o o true
skips_none None = tt
skips_none (Some xs) = (omega arith, refl)

some_is : (xs ys : List ℕ) → Some xs ≡ Some ys → xs ≡ ys
some_is xs ys e = cc

-- the bytes that were taken behind those held
taken_behind : (held more before now : List ℕ) → Some ((held ++ more) ++ now) ≡ Some (held ++ before) → more ++ now ≡ before
taken_behind held more before now same =
    append_cancel_left held (more ++ now) before (sym (append_assoc held more now) ∙ some_is ((held ++ more) ++ now) (held ++ before) same)

-- a piece that was taken behind the bytes that are held
pub skips_filled : (held more : List ℕ) (piece : ℕ) (before now : Option (List ℕ)) (b : Bool)
    → to_come (held ++ more) now ≡ to_come held before → Filled (length held + piece) (held ++ more) now b → length (held ++ more) ≤ length held + piece → Skips piece before now b
skips_filled held more piece None None b same filled most = tt
skips_filled held more piece None (Some now) b same filled most = absurd cc
skips_filled held more piece (Some before) None b same filled most = absurd cc
skips_filled held more piece (Some before) (Some now) true same filled most =
    let all : more ++ now ≡ before = taken_behind held more before now same in
    let size : length more ≡ piece = omega (arith, length-append held more) in
    (omega (arith, ap length all, length-append more now), sym (drop_at more now piece size) ∙ ap (drop piece) all)
skips_filled held more piece (Some before) (Some now) false same filled most =
    let all : more ++ now ≡ before = taken_behind held more before now same in
    (omega (arith, ap length all, length-append more now, length-append held more, ap length filled.1), filled.1)

-- one piece after another
pub skips_more : (a b : ℕ) (o p q : Option (List ℕ)) → Skips a o p true → Skips b p q true → Skips (a + b) o q true
skips_more a b None None None s t = tt
skips_more a b None None (Some q) s t = absurd t
skips_more a b None (Some p) q s t = absurd s
skips_more a b (Some o) None q s t = absurd s
skips_more a b (Some o) (Some p) None s t = absurd t
skips_more a b (Some o) (Some p) (Some q) s t =
    (omega (arith, s.0, t.0, ap length s.1, length-drop a o), t.1 ∙ ap (drop b) s.1 ∙ drop-drop b a o)

-- a piece that is not all there
pub skips_short : (a b n : ℕ) (o p q : Option (List ℕ)) → a + b ≤ n → Skips a o p true → Skips b p q false → Skips n o q false
skips_short a b n None None None le s t = tt
skips_short a b n None None (Some q) le s t = absurd t
skips_short a b n None (Some p) q le s t = absurd s
skips_short a b n (Some o) None q le s t = absurd s
skips_short a b n (Some o) (Some p) None le s t = absurd t
skips_short a b n (Some o) (Some p) (Some q) le s t =
    (omega (arith, s.0, t.0, ap length s.1, length-drop a o), t.1)
