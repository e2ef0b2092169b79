-- The record in front of bytes, and the form of a capture behind it.
use Rattle.std.proofs.Common.{◌≡◌, ℕ, zero, suc, ◌+◌, Bool, true, false, cond, List, [], ◌∷◌, length, drop, Some, None, refl, arith}
use Rattle.std.proofs.lemmas.List.{length-drop, length-take}
use Rattle.pcap_file.specs.declared.form.Endian.{Endian}
use Rattle.pcap_file.specs.declared.form.Form.{Form}
use Rattle.pcap_file.specs.Record.{Record}
use Rattle.pcap_file.specs.Capture.{captured_in, is_whole, record_in, no_record, behind, capture_within, capture_from}
use Rattle.pcap_file.proofs.Steps.{either_way, whole}

pub frame_long : (order : Endian) (offset : ℕ) (bytes : List ℕ) → is_whole order offset bytes ≡ true → length (record_in order bytes).frame ≡ captured_in order bytes
frame_long order offset bytes e =
    let w = whole order offset bytes e in
    omega (arith, length-take (captured_in order bytes) (drop 16 bytes), length-drop 16 bytes)

none_form : (form : Form) (offset : ℕ) (bytes : List ℕ) → (no_record form offset bytes).form ≡ form
none_form form offset [] = refl
none_form form offset (b ∷ bytes) = refl

within_form : (most : ℕ) (form : Form) (offset : ℕ) (bytes : List ℕ) → (capture_within most form offset bytes).form ≡ form
unfolding capture_within
within_form zero form offset bytes = none_form form offset bytes
within_form (suc most) form offset bytes =
    let size : ℕ = 16 + captured_in form.order bytes in
    either_way (λ c. c.form ≡ form) (is_whole form.order offset bytes) (behind (record_in form.order bytes ∷ []) (capture_within most form (offset + size) (drop size bytes))) (no_record form offset bytes)
    (λ e. within_form most form (offset + size) (drop size bytes))
    (λ e. none_form form offset bytes)

pub form_kept : (form : Form) (offset : ℕ) (bytes : List ℕ) → (capture_from form offset bytes).form ≡ form
unfolding capture_from
form_kept form offset bytes = within_form (length bytes) form offset bytes

-- what a test for a record says where there is one, and where there is none
pub some_there : (b : Bool) (x y : Record) → Some y ≡ cond b (Some x) None → (b ≡ true) × (x ≡ y)
some_there true x y e = (refl, cc)
some_there false x y e = absurd cc

pub none_there : (b : Bool) (x : Record) → None ≡ cond b (Some x) None → b ≡ false
none_there true x e = absurd cc
none_there false x e = refl
