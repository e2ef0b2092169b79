-- A capture, one record after the other.
use Rattle.std.proofs.Common.{◌≡◌, ℕ, zero, suc, ◌+◌, ◌<◌, ◌≤◌, ◌^◌, Bool, true, false, ◌&&◌, cond, leb, ltb, List, [], ◌∷◌, length, drop, refl, ap, arith}
use Rattle.std.proofs.lemmas.Bool.{leb-true, ltb-true}
use Rattle.std.proofs.lemmas.List.{length-drop}
use Rattle.pcap_file.specs.declared.form.Endian.{Endian}
use Rattle.pcap_file.specs.declared.form.Form.{Form}
use Rattle.pcap_file.specs.Capture.{Capture, captured_in, is_sized, is_whole, record_in, no_record, behind, capture_within, capture_from}

pub both_true : (a b : Bool) → (a && b) ≡ true → (a ≡ true) × (b ≡ true)
both_true true b e = (refl, e)
both_true false b e = absurd cc

-- a choice between two captures, of which both keep a property
pub either_way : (P : Capture → Type 0) (b : Bool) (x y : Capture) → (b ≡ true → P x) → (b ≡ false → P y) → P (cond b x y)
either_way P true x y h k = h refl
either_way P false x y h k = k refl

-- what a whole record says of its numbers
pub record IsWhole (order : Endian) (offset : ℕ) (bytes : List ℕ) : Type 0 where
  pub headed : 16 ≤ length bytes
  pub captured : captured_in order bytes ≤ 262144
  pub ends : offset + (16 + captured_in order bytes) < 2 ^ 64
  pub within : 16 + captured_in order bytes ≤ length bytes

pub whole : (order : Endian) (offset : ℕ) (bytes : List ℕ) → is_whole order offset bytes ≡ true → IsWhole order offset bytes
whole order offset bytes e =
    let a = both_true (leb 16 (length bytes)) (is_sized order offset bytes && leb (16 + captured_in order bytes) (length bytes)) e in
    let b = both_true (is_sized order offset bytes) (leb (16 + captured_in order bytes) (length bytes)) a.1 in
    let d = both_true (leb (captured_in order bytes) 262144) (ltb (offset + (16 + captured_in order bytes)) (2 ^ 64)) b.0 in
    record { headed = leb-true _ _ a.0; captured = leb-true _ _ d.0; ends = ltb-true _ _ d.1; within = leb-true _ _ b.1 }

same_choice : (b : Bool) (x y z : Capture) → (b ≡ true → x ≡ y) → cond b x z ≡ cond b y z
same_choice true x y z h = h refl
same_choice false x y z h = refl

-- any limit that is no less than the bytes gives the same
within_same : (m n : ℕ) (form : Form) (offset : ℕ) (bytes : List ℕ) → length bytes ≤ m → length bytes ≤ n → capture_within m form offset bytes ≡ capture_within n form offset bytes
unfolding capture_within
within_same zero zero form offset bytes le le' = refl
within_same zero (suc n) form offset [] le le' = refl
within_same zero (suc n) form offset (b ∷ bytes) le le' = absurd (omega arith)
within_same (suc m) zero form offset [] le le' = refl
within_same (suc m) zero form offset (b ∷ bytes) le le' = absurd (omega arith)
within_same (suc m) (suc n) form offset bytes le le' =
    let size : ℕ = 16 + captured_in form.order bytes in
    let r = record_in form.order bytes in
    same_choice (is_whole form.order offset bytes) (behind (r ∷ []) (capture_within m form (offset + size) (drop size bytes))) (behind (r ∷ []) (capture_within n form (offset + size) (drop size bytes))) (no_record form offset bytes)
    (λ e. ap (behind (r ∷ [])) (within_same m n form (offset + size) (drop size bytes) (omega (arith, length-drop size bytes)) (omega (arith, length-drop size bytes))))

-- a whole record, and what follows it
pub steps : (form : Form) (offset : ℕ) (bytes : List ℕ) → is_whole form.order offset bytes ≡ true
    → capture_from form offset bytes ≡ behind (record_in form.order bytes ∷ []) (capture_from form (offset + (16 + captured_in form.order bytes)) (drop (16 + captured_in form.order bytes) bytes))
unfolding capture_within capture_from
steps form offset [] e = absurd (let w = whole form.order offset [] e in omega arith)
steps form offset (b ∷ bytes) e =
    let size : ℕ = 16 + captured_in form.order (b ∷ bytes) in
    rw e (ap (behind (record_in form.order (b ∷ bytes) ∷ [])) (within_same (length bytes) (length (drop size (b ∷ bytes))) form (offset + size) (drop size (b ∷ bytes)) (omega (arith, length-drop size (b ∷ bytes))) (omega arith)))

-- no whole record
pub stops : (form : Form) (offset : ℕ) (bytes : List ℕ) → is_whole form.order offset bytes ≡ false → capture_from form offset bytes ≡ no_record form offset bytes
unfolding capture_within capture_from
stops form offset [] e = refl
stops form offset (b ∷ bytes) e = rw e refl

-- nothing
pub ends : (form : Form) (offset : ℕ) → capture_from form offset [] ≡ no_record form offset []
unfolding capture_within capture_from
ends form offset = refl
