-- Words that are written one list after the other.
use Rattle.std.proofs.Common.{◌≡◌, ℕ, ◌+◌, Bool, cond, eqb, List, [], ◌∷◌, ◌++◌, refl, ap, eq-eqb, arith}
use Rattle.std.proofs.lemmas.Bool.{ne_eqb}
use Rattle.frame_ip.specs.Writes.{Write, put, put_all}
use Rattle.frame_ip.specs.Checksum.{changes, udp_checksum}

pub put_more : (a b : List Write) (frame : List ℕ) → put_all (a ++ b) frame ≡ put_all b (put_all a frame)
put_more [] b frame = refl
put_more (w ∷ a) b frame = put_more a b (put w frame)

pub changes_more : (frame : List ℕ) (a b : List Write) → changes frame (a ++ b) ≡ changes frame a + changes frame b
changes_more frame [] b = omega arith
changes_more frame (w ∷ a) b = let more = changes_more frame a b in omega arith

pub four_changes : (f : List ℕ) (a b p q : List Write) (x y z w : ℕ) → x ≡ changes f a → y ≡ changes f b → z ≡ changes f p → w ≡ changes f q → (x + y) + (z + w) ≡ changes f ((a ++ b) ++ (p ++ q))
four_changes f a b p q x y z w ex ey ez ew = omega (arith, changes_more f (a ++ b) (p ++ q), changes_more f a b, changes_more f p q)

-- the checksum by the protocol
pub by_udp : (proto old new : ℕ) → proto ≡ 17 → cond (eqb proto 17) (udp_checksum old new) new ≡ udp_checksum old new
by_udp proto old new is = ap (λ (b : Bool). cond b (udp_checksum old new) new) (eq-eqb proto 17 is)

pub by_tcp : (proto old new : ℕ) → (proto ≡ 17 → ⊥) → cond (eqb proto 17) (udp_checksum old new) new ≡ new
by_tcp proto old new is = ap (λ (b : Bool). cond b (udp_checksum old new) new) (ne_eqb proto 17 is)
