-- What a block says, from its front.
use Rattle.std.proofs.Common.{◌≡◌, ◌≢◌, ◌⊎◌, inl, inr, ℕ, ◌+◌, ◌-◌, ◌≤◌, ◌<◌, min, Bool, true, false, cond, eqb, List, ◌++◌, length, take, drop, Option, Some, refl, sym, ap, ◌∙◌, arith}
use Rattle.std.proofs.lemmas.Bool.{cases_lt}
use Rattle.std.proofs.lemmas.Bool.Decides.{nat_tests}
use Rattle.std.proofs.lemmas.List.{take-append-drop, take-take, take_all, drop-take, length-drop, length-take}
use Rattle.pcap_file.specs.declared.form.Endian.{Endian}
use Rattle.pcap_file.specs.Form.{number_in}
use Rattle.pcap_file.proofs.Reaching.{number_front}
use Rattle.pcapng_file.specs.Blocks.{Section, Said, Begins, Nothing, opened, is_section, total_in, body_in, interface_said, enhanced_said, simple_said, said_by, said_in}
use Rattle.pcapng_file.specs.Taking.{IsFront, IsBlockFront, held_of}
use Rattle.pcapng_file.proofs.Fronts.{rest_is}
use Rattle.pcapng_file.proofs.Taking.{section_front}

-- the first of at most so many
first_of : (a b : ℕ) (xs : List ℕ) → take a (take b xs) ≡ take (min b a) xs
first_of a b xs = elim (cases_lt b a) [
  | inl lt ↦ let m : min b a ≡ b = omega arith in take_all a (take b xs) (omega (arith, length-take b xs)) ∙ ap (λ (n : ℕ). take n xs) (sym m)
  | inr le ↦ let m : min b a ≡ a = omega arith in take-take a b xs le ∙ ap (λ (n : ℕ). take n xs) (sym m)
]

-- the front of a body
pub front_body : (order : Endian) (total : ℕ) (held bytes : List ℕ) → IsBlockFront order total held bytes → 12 ≤ total → IsFront 262164 (take (length held - 8) (drop 8 held)) (total - 12) (body_in order bytes)
front_body order total held bytes f le =
    let m = min (total - 12) 262164 in
    let count : held_of total ≡ 8 + m = omega arith in
    let long : length (body_in order bytes) ≡ total - 12 = omega (arith, length-take (total_in order bytes - 12) (drop 8 bytes), length-drop 8 bytes, f.total_is, f.within) in
    let size : total_in order bytes - 12 ≡ total - 12 = omega (arith, f.total_is) in
    record {
      long = long;
      held_is = rest_is 8 held ∙ ap (drop 8) (f.held_is ∙ ap (λ (n : ℕ). take n bytes) count) ∙ drop-take 8 m bytes
          ∙ sym (first_of 262164 (total - 12) (drop 8 bytes)) ∙ ap (λ (n : ℕ). take 262164 (take n (drop 8 bytes))) (sym size);
    }

all_there : (order : Endian) (total : ℕ) (held bytes : List ℕ) → IsBlockFront order total held bytes → held ++ drop (held_of total) bytes ≡ bytes
all_there order total held bytes f = ap (λ (xs : List ℕ). xs ++ drop (held_of total) bytes) f.held_is ∙ take-append-drop (held_of total) bytes

section_held : (order : Endian) (total : ℕ) (held bytes : List ℕ) → IsBlockFront order total held bytes → 8 ≤ length held → is_section bytes ≡ is_section held
section_held order total held bytes f le = ap is_section (sym (all_there order total held bytes f)) ∙ section_front held (drop (held_of total) bytes) (omega arith)

-- a section's header
pub said_section : (s : Section) (order : Endian) (total : ℕ) (held bytes : List ℕ) → IsBlockFront order total held bytes → 8 ≤ length held → is_section held ≡ true → said_in s order bytes ≡ Some (Begins (opened order))
said_section s order total held bytes f le begins =
    ap (λ (b : Bool). cond b (Some (Begins (opened order))) (said_by s (number_in order bytes) (body_in order bytes))) (section_held order total held bytes f le ∙ begins)

-- another block, by its type
pub said_at : (s : Section) (order : Endian) (total kind : ℕ) (held bytes : List ℕ) → IsBlockFront order total held bytes → 8 ≤ length held → is_section held ≡ false → number_in order held ≡ kind → said_in s order bytes ≡ said_by s kind (body_in order bytes)
said_at s order total kind held bytes f le within is =
    let number : number_in order bytes ≡ kind = ap (number_in order) (sym (all_there order total held bytes f)) ∙ number_front order held (drop (held_of total) bytes) (omega arith) ∙ is in
    ap (λ (b : Bool). cond b (Some (Begins (opened order))) (said_by s (number_in order bytes) (body_in order bytes))) (section_held order total held bytes f le ∙ within)
    ∙ ap (λ (n : ℕ). said_by s n (body_in order bytes)) number

three_false : (s : Section) (body : List ℕ) (a b d : Bool) → a ≡ false → b ≡ false → d ≡ false → cond a (interface_said s body) (cond b (enhanced_said s body) (cond d (simple_said s body) (Some Nothing))) ≡ Some Nothing
three_false s body a b d p q r = rw (p, q, r) refl

-- a block that is stepped over
pub said_nothing : (s : Section) (kind : ℕ) (body : List ℕ) → kind ≢ 1 → kind ≢ 6 → kind ≢ 3 → said_by s kind body ≡ Some Nothing
said_nothing s kind body one six three =
    let a : eqb kind 1 ≡ false = grind (arith, nat_tests) in
    let b : eqb kind 6 ≡ false = grind (arith, nat_tests) in
    let d : eqb kind 3 ≡ false = grind (arith, nat_tests) in
    three_false s body (eqb kind 1) (eqb kind 6) (eqb kind 3) a b d
