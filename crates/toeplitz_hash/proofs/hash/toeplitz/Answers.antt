use Rattle.std.proofs.Common.{◌≡◌, ℕ, ap, sym, ◌∙◌, ◌∷◌, [], List, length, take, drop, get_or, arith}
use Rattle.std.specs.Int.Bits.{bit_xor}
use Rattle.std.proofs.lemmas.Slice.{between_to_end}
use Rattle.toeplitz_hash.specs.Toeplitz.{toeplitz_of}
use Rattle.toeplitz_hash.proofs.Hashes.{toeplitz_of_none, toeplitz_of_more}
use Rattle.toeplitz_hash.proofs.hash.toeplitz.Goals as goal

pub loop-i-init : goal.loop-i-init
loop-i-init c = sym (toeplitz_of_none c.args.key.now)

pub loop-i-preserved : goal.loop-i-preserved
loop-i-preserved c =
    let i : ℕ = c.loop-i.i in
    let key : List ℕ = c.args.key.now in
    let input : List ℕ = c.args.input.now in
    let byte : c.byte_hash-hash.result ≡ toeplitz_of (drop i key) (get_or input i 0 ∷ []) =
    c.byte_hash-hash.ensures ∙ ap (λ (k : List ℕ). toeplitz_of k (get_or input i 0 ∷ [])) (between_to_end key i (length key) (omega arith)) in
    ap (λ (h : ℕ). bit_xor h c.byte_hash-hash.result) c.loop-i.invariant
    ∙ ap (bit_xor (toeplitz_of key (take i input))) byte
    ∙ sym (toeplitz_of_more key input i c.loop-i-test.true)
