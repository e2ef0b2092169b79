-- Where the words of edits stand, and what is the same of a checksum of TCP or UDP in frames of either version.
use Rattle.std.proofs.Common.{◌≡◌, ℕ, ◌+◌, Bool, true, false, cond, eqb, List, Option, Some, None, refl, sym, subst, arith}
use Rattle.std.proofs.lemmas.Bool.{eqb-true, eqb-false}
use Rattle.nf_base.specs.declared.done.Edits.{Edits}
use Rattle.frame_ip.specs.Writes.{mac_words, port_words, macs, ports}
use Rattle.frame_ip.specs.Checksum.{fold, udp_checksum}
use Rattle.frame_ip.specs.Sums.{word_sum, part}
use Rattle.frame_ip.proofs.Parts.{double}
use Rattle.frame_ip.proofs.Rising.{Rises, Even, rises_to, rises_more, even_more}

mac_rises : (at : ℕ) (v : Option ℕ) → Rises at (at + 6) (mac_words at v)
mac_rises at None = omega arith
mac_rises at (Some v) = (omega arith, (omega arith, (omega arith, omega arith)))

port_rises : (at : ℕ) (v : Option ℕ) → Rises at (at + 2) (port_words at v)
port_rises at None = omega arith
port_rises at (Some v) = (omega arith, omega arith)

port_even : (s at k : ℕ) (v : Option ℕ) → at ≡ s + double k → Even s (port_words at v)
port_even s at k None e = tt
port_even s at k (Some v) e = ((k, e), tt)

pub macs_rise : (e : Edits) → Rises 0 12 (macs e)
macs_rise e = rises_more 0 6 12 (mac_words 0 e.dst_mac) (mac_words 6 e.src_mac) (mac_rises 0 e.dst_mac) (mac_rises 6 e.src_mac)

pub ports_rise : (e : Edits) (s : ℕ) → Rises s (s + 4) (ports e s)
ports_rise e s = rises_more s (s + 2) (s + 4) (port_words s e.src_port) (port_words (s + 2) e.dst_port) (port_rises s e.src_port) (rises_to (s + 2) ((s + 2) + 2) (s + 4) (port_words (s + 2) e.dst_port) (omega arith) (port_rises (s + 2) e.dst_port))

pub ports_even : (e : Edits) (s : ℕ) → Even s (ports e s)
ports_even e s = even_more s (port_words s e.src_port) (port_words (s + 2) e.dst_port) (port_even s s 0 e.src_port (omega arith)) (port_even s (s + 2) 1 e.dst_port refl)

-- ---- checksums

-- a UDP checksum that isn't the 0 of none doesn't become that
sent_some : (b : Bool) (new : ℕ) → eqb new 0 ≡ b → cond b 65535 new ≡ 0 → ⊥
sent_some true new is zero = omega arith
sent_some false new is zero = eqb-false new 0 is zero

udp_some : (b : Bool) (old new : ℕ) → eqb old 0 ≡ b → (old ≡ 0 → ⊥) → cond b 0 (cond (eqb new 0) 65535 new) ≡ 0 → ⊥
udp_some true old new is some zero = some (eqb-true old 0 is)
udp_some false old new is some zero = sent_some (eqb new 0) new refl zero

pub with_checksum : (b : Bool) (old new : ℕ) → b ≡ true → (old ≡ 0 → ⊥) → cond b (udp_checksum old new) new ≡ 0 → ⊥
with_checksum true old new is some zero = udp_some (eqb old 0) old new refl some zero
with_checksum false old new is some zero = cc

-- the sum of addresses of m bytes at b, the protocol, and a segment with its length
pub sum_at : (g : List ℕ) (b m proto s n q t l : ℕ) → q ≡ proto → t ≡ s → l ≡ n → fold ((word_sum (part b m g) + (proto + n)) + word_sum (part s n g)) ≡ 65535 → fold ((word_sum (part b m g) + (q + l)) + word_sum (part t l g)) ≡ 65535
sum_at g b m proto s n q t l eq et el right =
    subst (λ (x : ℕ). fold ((word_sum (part b m g) + (x + l)) + word_sum (part t l g)) ≡ 65535) (sym eq)
    (subst (λ (x : ℕ). fold ((word_sum (part b m g) + (proto + x)) + word_sum (part t x g)) ≡ 65535) (sym el)
    (subst (λ (x : ℕ). fold ((word_sum (part b m g) + (proto + n)) + word_sum (part x n g)) ≡ 65535) (sym et) right))
