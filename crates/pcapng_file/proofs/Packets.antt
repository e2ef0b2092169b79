-- Packets and interfaces, from as much of their blocks as is held.
use Rattle.std.proofs.Common.{◌≡◌, ◌⊎◌, ℕ, ◌+◌, ◌-◌, ◌*◌, ◌^◌, ◌<◌, ◌≤◌, min, Bool, true, false, ◌&&◌, cond, leb, ltb, eqb, List, [], length, take, drop, Option, Some, None, refl, sym, ap, ◌∙◌, slice_get, arith}
use Rattle.std.specs.Option.{option_map}
use Rattle.std.proofs.lemmas.Bool.{le-leb, lt-leb, lt-ltb}
use Rattle.std.proofs.lemmas.Bool.Decides.{nat_tests}
use Rattle.std.proofs.lemmas.List.{length-take, drop-drop}
use Rattle.pcap_file.specs.declared.form.Endian.{Endian}
use Rattle.pcap_file.specs.Form.{number_in}
use Rattle.pcapng_file.specs.declared.interface.Interface.{Interface}
use Rattle.pcapng_file.specs.Heard.{Heard}
use Rattle.pcapng_file.specs.Options.{time_in, units_of}
use Rattle.pcapng_file.specs.Blocks.{Section, Said, Describes, Gives, count_in, bounded, heard_of, interface_in, interface_said, enhanced_by, enhanced_said, simple_by, simple_said}
use Rattle.pcapng_file.specs.Taking.{IsFront}
use Rattle.pcapng_file.proofs.Fronts.{front_take, front_drop, front_number, front_first, front_all}

both : (a b : Bool) → a ≡ true → b ≡ true → (a && b) ≡ true
both a b p q = rw (p, q) refl

-- a packet whose frame is held
pub heard_given : (interface : Interface) (time original captured most count : ℕ) (held all : List ℕ) → 262144 ≤ most → IsFront most held count all → captured ≤ 262144 → captured ≤ count
    → heard_of interface time original captured all ≡ Some (Gives (record { time = time; original = original; frame = take captured held; is_ethernet = eqb interface.link 1 }))
heard_given interface time original captured most count held all big f le le' =
    let here : leb captured 262144 ≡ true = le-leb _ _ le in
    let there : leb captured (length all) ≡ true = le-leb _ _ (omega (arith, f.long)) in
    ap (λ (b : Bool). cond b (Some (Gives (record { time = time; original = original; frame = take captured all; is_ethernet = eqb interface.link 1 }))) None) (both (leb captured 262144) (leb captured (length all)) here there)
    ∙ ap (λ (xs : List ℕ). Some (Gives (record { time = time; original = original; frame = xs; is_ethernet = eqb interface.link 1 }))) (front_take captured most count held all f (omega arith))

-- ---- type 6

pub enhanced_short : (s : Section) (all : List ℕ) → length all < 20 → enhanced_said s all ≡ None
enhanced_short s all lt = ap (λ (b : Bool). cond b (enhanced_by s.order all (slice_get s.interfaces (number_in s.order all))) None) (lt-leb 20 (length all) lt)

pub enhanced_at : (s : Section) (all : List ℕ) (o : Option Interface) → 20 ≤ length all → slice_get s.interfaces (number_in s.order all) ≡ o → enhanced_said s all ≡ enhanced_by s.order all o
enhanced_at s all o le e =
    ap (λ (b : Bool). cond b (enhanced_by s.order all (slice_get s.interfaces (number_in s.order all))) None) (le-leb 20 (length all) le)
    ∙ ap (enhanced_by s.order all) e

-- the packet of an interface, by the numbers that were read
pub enhanced_given : (s : Section) (interface : Interface) (time original captured count : ℕ) (held all : List ℕ) (said : Option Said)
    → IsFront 262164 held count all → 20 ≤ length held → 20 ≤ count
    → slice_get s.interfaces (number_in s.order held) ≡ Some interface
    → time ≡ time_in (units_of interface.resolution) (number_in s.order (drop 4 held) * 2 ^ 32 + number_in s.order (drop 8 held))
    → captured ≡ number_in s.order (drop 12 held) → original ≡ number_in s.order (drop 16 held)
    → heard_of interface time original captured (drop 20 all) ≡ said → enhanced_said s all ≡ said
enhanced_given s interface time original captured count held all said f le le' found timed captured_is original_is given =
    let order = s.order in
    let there : slice_get s.interfaces (number_in order all) ≡ Some interface = ap (slice_get s.interfaces) (front_first order 262164 count held all f (omega arith)) ∙ found in
    let high = front_number order 4 262164 count held all f (omega arith) in
    let low : number_in order (drop 4 (drop 4 all)) ≡ number_in order (drop 8 held) = ap (number_in order) (drop-drop 4 4 all) ∙ front_number order 8 262164 count held all f (omega arith) in
    let units : count_in order (drop 4 all) ≡ number_in order (drop 4 held) * 2 ^ 32 + number_in order (drop 8 held) = rw (high, low) refl in
    let t : time_in (units_of interface.resolution) (count_in order (drop 4 all)) ≡ time = ap (time_in (units_of interface.resolution)) units ∙ sym timed in
    let n : number_in order (drop 12 all) ≡ captured = front_number order 12 262164 count held all f (omega arith) ∙ sym captured_is in
    let o : number_in order (drop 16 all) ≡ original = front_number order 16 262164 count held all f (omega arith) ∙ sym original_is in
    enhanced_at s all (Some interface) (omega (arith, f.long)) there
    ∙ ap (λ (x : ℕ). heard_of interface x (number_in order (drop 16 all)) (number_in order (drop 12 all)) (drop 20 all)) t
    ∙ ap (λ (x : ℕ). heard_of interface time x (number_in order (drop 12 all)) (drop 20 all)) o
    ∙ ap (λ (x : ℕ). heard_of interface time original x (drop 20 all)) n
    ∙ given

pub enhanced_none : (s : Section) (count : ℕ) (held all : List ℕ) → IsFront 262164 held count all → 20 ≤ length held → slice_get s.interfaces (number_in s.order held) ≡ None → enhanced_said s all ≡ None
enhanced_none s count held all f le none =
    enhanced_at s all None (omega (arith, ap length f.held_is, length-take 262164 all)) (ap (slice_get s.interfaces) (front_first s.order 262164 count held all f (omega arith)) ∙ none)

-- ---- type 3

pub simple_short : (s : Section) (all : List ℕ) → length all < 4 → simple_said s all ≡ None
simple_short s all lt = ap (λ (b : Bool). cond b (simple_by s.order all (slice_get s.interfaces 0)) None) (lt-leb 4 (length all) lt)

pub simple_at : (s : Section) (all : List ℕ) (o : Option Interface) → 4 ≤ length all → slice_get s.interfaces 0 ≡ o → simple_said s all ≡ simple_by s.order all o
simple_at s all o le e = ap (λ (b : Bool). cond b (simple_by s.order all (slice_get s.interfaces 0)) None) (le-leb 4 (length all) le) ∙ ap (simple_by s.order all) e

pub simple_given : (s : Section) (interface : Interface) (original captured count : ℕ) (held all : List ℕ) (said : Option Said)
    → IsFront 262164 held count all → 4 ≤ length held → 4 ≤ count → slice_get s.interfaces 0 ≡ Some interface
    → original ≡ number_in s.order held → captured ≡ bounded interface.most original
    → heard_of interface 0 original captured (drop 4 all) ≡ said → simple_said s all ≡ said
simple_given s interface original captured count held all said f le le' found original_is captured_is given =
    let o : number_in s.order all ≡ original = front_first s.order 262164 count held all f le ∙ sym original_is in
    simple_at s all (Some interface) (omega (arith, f.long)) found
    ∙ ap (λ (x : ℕ). heard_of interface 0 x (bounded interface.most x) (drop 4 all)) o
    ∙ ap (λ (x : ℕ). heard_of interface 0 original x (drop 4 all)) (sym captured_is)
    ∙ given

-- ---- type 1

abbrev is_room : Section → List ℕ → Bool
is_room s all = leb 8 (length all) && (leb (length all + 12) 65536 && ltb (length s.interfaces) 256)

described_by : (s : Section) (all : List ℕ) (b : Bool) → is_room s all ≡ b → interface_said s all ≡ cond b (Some (Describes (interface_in s.order all))) None
described_by s all b e = ap (λ (x : Bool). cond x (Some (Describes (interface_in s.order all))) None) e

no_room : (s : Section) (all : List ℕ) → (length all < 8) ⊎ ((65524 < length all) ⊎ (256 ≤ length s.interfaces)) → is_room s all ≡ false
no_room s all h = grind (arith, nat_tests)

pub described_none : (s : Section) (all : List ℕ) → (length all < 8) ⊎ ((65524 < length all) ⊎ (256 ≤ length s.interfaces)) → interface_said s all ≡ None
described_none s all h = described_by s all false (no_room s all h)

pub described_given : (s : Section) (interface : Interface) (count : ℕ) (held all : List ℕ) → IsFront 262164 held count all → 8 ≤ count → count ≤ 65524 → length s.interfaces < 256
    → interface ≡ interface_in s.order held → interface_said s all ≡ Some (Describes interface)
described_given s interface count held all f le le' few is =
    let same : all ≡ held = front_all 262164 count held all f (omega arith) in
    let room : is_room s all ≡ true = both (leb 8 (length all)) (leb (length all + 12) 65536 && ltb (length s.interfaces) 256) (le-leb _ _ (omega (arith, f.long)))
    (both (leb (length all + 12) 65536) (ltb (length s.interfaces) 256) (le-leb _ _ (omega (arith, f.long))) (lt-ltb _ _ few)) in
    described_by s all true room ∙ ap (λ (xs : List ℕ). Some (Describes (interface_in s.order xs))) same ∙ ap (λ (x : Interface). Some (Describes x)) (sym is)
