-- Words and checksums into which nothing is edited stay as they are.
use Rattle.std.proofs.Common.{◌≡◌, ℕ, ◌+◌, ◌-◌, ◌/◌, ◌%◌, Bool, true, false, cond, eqb, List, [], set, get_or, refl, ap, sym, ◌∙◌, arith}
use Rattle.std.proofs.lemmas.Bool.{eqb-true, eqb-false}
use Rattle.std.proofs.lemmas.List.{set-get_or}
use Rattle.frame_ip.specs.Bytes.{number_at}
use Rattle.frame_ip.specs.Writes.{Write, put}
use Rattle.frame_ip.specs.Checksum.{updated, udp_checksum}
use Rattle.frame_ip.proofs.Folding.{fold_small}
use Rattle.frame_ip.proofs.Ones.{AreBytes, word_small}
use Rattle.frame_ip.proofs.Parts.{word_is}

-- a word that stands there already
pub put_same : (f : List ℕ) (at word : ℕ) → AreBytes f → word ≡ number_at f at 2 → put (record { at = at; word = word }) f ≡ f
put_same f at word bytes same =
    let is = word_is f at in
    let low = bytes (at + 1) in
    let p : word / 256 ≡ get_or f at 0 = omega arith in
    let q : word % 256 ≡ get_or f (at + 1) 0 = omega arith in
    ap (λ (n : ℕ). set (set f at n) (at + 1) (word % 256)) p ∙ ap (λ (g : List ℕ). set g (at + 1) (word % 256)) (set-get_or f at 0) ∙ ap (λ (n : ℕ). set f (at + 1) n) q ∙ set-get_or f (at + 1) 0

pub updated_none : (f : List ℕ) (at : ℕ) (ws : List Write) → AreBytes f → ws ≡ [] → updated f at ws ≡ number_at f at 2
updated_none f at ws bytes none =
    let small = word_small f at bytes in
    let same = fold_small ((65535 - number_at f at 2) + 0) (omega arith) in
    let is : updated f at [] ≡ number_at f at 2 = omega arith in
    ap (λ (vs : List Write). updated f at vs) none ∙ is

sent_none : (b : Bool) (old new : ℕ) → eqb new 0 ≡ b → new ≡ old → (old ≡ 0 → ⊥) → cond b 65535 new ≡ old
sent_none true old new is same some = absurd (some (sym same ∙ eqb-true new 0 is))
sent_none false old new is same some = same

udp_none : (b : Bool) (old new : ℕ) → eqb old 0 ≡ b → new ≡ old → cond b 0 (cond (eqb new 0) 65535 new) ≡ old
udp_none true old new is same = sym (eqb-true old 0 is)
udp_none false old new is same = sent_none (eqb new 0) old new refl same (eqb-false old 0 is)

pub by_protocol : (b : Bool) (old new : ℕ) → new ≡ old → cond b (udp_checksum old new) new ≡ old
by_protocol true old new same = udp_none (eqb old 0) old new refl same
by_protocol false old new same = same
