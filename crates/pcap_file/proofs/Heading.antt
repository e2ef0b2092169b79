-- What the bytes that were taken tell of a header.
use Rattle.std.proofs.Common.{◌≡◌, ℕ, ◌<◌, ◌≤◌, ◌%◌, Bool, true, false, ◌&&◌, cond, leb, eqb, List, [], ◌++◌, length, drop, Option, Some, None, Err, inl, inr, refl, sym, ap, ◌∙◌, arith}
use Rattle.std.specs.Option.{option_map}
use Rattle.std.proofs.lemmas.Bool.{cases_lt, le-leb, lt-leb}
use Rattle.std.proofs.lemmas.List.{append-nil, length-append, drop-append-le}
use Rattle.nf_files.specs.Told.{Told}
use Rattle.pcap_file.specs.declared.form.Endian.TheVariants.{Big, Little}
use Rattle.pcap_file.specs.declared.form.TimeUnit.TheVariants.{Microseconds, Nanoseconds}
use Rattle.pcap_file.specs.declared.form.Form.{Form}
use Rattle.pcap_file.specs.declared.fault.CapFault.TheVariants.{NotCapture}
use Rattle.pcap_file.specs.Form.{magic_number, is_header, form_of}
use Rattle.pcap_file.specs.Capture.{capture_from}
use Rattle.pcap_file.specs.Held.{to_come, Filled}
use Rattle.pcap_file.specs.Reading.{Begins, Heads}
use Rattle.pcap_file.proofs.Reaching.{number_front, number_behind}

three : (a b d a' b' d' : Bool) → a ≡ a' → b ≡ b' → d ≡ d' → (a && (b && d)) ≡ (a' && (b' && d'))
three a b d a' b' d' p q r = cc

header_same : (form : Form) (ahead rest : List ℕ) → 24 ≤ length ahead → is_header form (ahead ++ rest) ≡ is_header form ahead
header_same form ahead rest le =
    three (leb 24 (length (ahead ++ rest))) _ _ (leb 24 (length ahead)) _ _
    (le-leb 24 (length (ahead ++ rest)) (omega (arith, length-append ahead rest)) ∙ sym (le-leb 24 (length ahead) le))
    (ap (λ (n : ℕ). eqb n (magic_number form.unit)) (number_front form.order ahead rest (omega arith)))
    (ap (λ (n : ℕ). eqb (n % 65536) 1) (number_behind form.order 20 ahead rest le))

big_micro : Form
big_micro = record { order = Big; unit = Microseconds }

big_nano : Form
big_nano = record { order = Big; unit = Nanoseconds }

little_micro : Form
little_micro = record { order = Little; unit = Microseconds }

little_nano : Form
little_nano = record { order = Little; unit = Nanoseconds }

-- the first form of which the test holds
pick : Bool → Bool → Bool → Bool → Option Form
pick a b d e = cond a (Some big_micro) (cond b (Some big_nano) (cond d (Some little_micro) (cond e (Some little_nano) None)))

picked : (a b d e a' b' d' e' : Bool) → a ≡ a' → b ≡ b' → d ≡ d' → e ≡ e' → pick a b d e ≡ pick a' b' d' e'
picked a b d e a' b' d' e' p q r s = cc

form_same : (ahead rest : List ℕ) → 24 ≤ length ahead → form_of (ahead ++ rest) ≡ form_of ahead
unfolding pick big_micro big_nano little_micro little_nano
form_same ahead rest le =
    picked (is_header big_micro (ahead ++ rest)) (is_header big_nano (ahead ++ rest)) (is_header little_micro (ahead ++ rest)) (is_header little_nano (ahead ++ rest)) (is_header big_micro ahead) (is_header big_nano ahead) (is_header little_micro ahead) (is_header little_nano ahead)
    (header_same big_micro ahead rest le) (header_same big_nano ahead rest le) (header_same little_micro ahead rest le) (header_same little_nano ahead rest le)

form_reached : (ahead rest : List ℕ) (b : Bool) → Filled 24 ahead (Some rest) b → form_of (ahead ++ rest) ≡ form_of ahead
form_reached ahead rest true filled = form_same ahead rest filled
form_reached ahead rest false filled = ap form_of (ap (λ (r : List ℕ). ahead ++ r) filled.1 ∙ append-nil ahead)

none_short : (ahead : List ℕ) → length ahead < 24 → form_of ahead ≡ None
none_short ahead lt =
    let short : leb 24 (length ahead) ≡ false = lt-leb 24 (length ahead) lt in
    rw short refl

pub form_long : (ahead : List ℕ) (form : Form) → Some form ≡ form_of ahead → 24 ≤ length ahead
form_long ahead form e = elim (cases_lt (length ahead) 24) [
  | inl short ↦ let none = none_short ahead short in absurd cc
  | inr long ↦ long
]

some_is : (xs ys : List ℕ) → Some xs ≡ Some ys → xs ≡ ys
some_is xs ys e = cc

pub no_header : (before now : Option (List ℕ)) (ahead : List ℕ) (b : Bool) (told : Told) → to_come ahead now ≡ to_come [] before → Filled 24 ahead now b → None ≡ form_of ahead → Heads before told (Err NotCapture)
no_header None now ahead b told same filled none = tt
no_header (Some bytes) None ahead b told same filled none = absurd cc
no_header (Some bytes) (Some rest) ahead b told same filled none =
    let all : ahead ++ rest ≡ bytes = some_is (ahead ++ rest) bytes same in
    let no : form_of bytes ≡ None = ap form_of (sym all) ∙ form_reached ahead rest b filled ∙ sym none in
    ap (option_map (λ form. capture_from form 24 (drop 24 bytes))) no

pub a_header : (before now : Option (List ℕ)) (ahead : List ℕ) (b : Bool) (form : Form) → to_come ahead now ≡ to_come [] before → Filled 24 ahead now b → Some form ≡ form_of ahead → Begins before (option_map (capture_from form 24) (to_come (drop 24 ahead) now))
a_header None now ahead b form same filled there = tt
a_header (Some bytes) None ahead b form same filled there = absurd cc
a_header (Some bytes) (Some rest) ahead b form same filled there =
    let all : ahead ++ rest ≡ bytes = some_is (ahead ++ rest) bytes same in
    let is : form_of bytes ≡ Some form = ap form_of (sym all) ∙ form_reached ahead rest b filled ∙ sym there in
    let behind : drop 24 bytes ≡ drop 24 ahead ++ rest = ap (drop 24) (sym all) ∙ drop-append-le 24 ahead rest (form_long ahead form there) in
    ap (option_map (λ form. capture_from form 24 (drop 24 bytes))) is ∙ ap (λ (xs : List ℕ). Some (capture_from form 24 xs)) behind
