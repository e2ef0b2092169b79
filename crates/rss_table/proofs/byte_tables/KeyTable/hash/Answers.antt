use Rattle.std.proofs.Common.{◌≡◌, ◌<◌, ◌+◌, ◌*◌, ◌∙◌, ◌∷◌, [], ℕ, List, length, sym, ap, take, drop, get_or, arith}
use Rattle.std.specs.Int.Bits.{bit_xor}
use Rattle.std.proofs.lemmas.List.{get_or_read}
use Rattle.toeplitz_hash.specs.Toeplitz.{toeplitz_of}
use Rattle.toeplitz_hash.proofs.Hashes.{toeplitz_of_none, toeplitz_of_more}
use Rattle.rss_table.proofs.byte_tables.KeyTable.hash.Goals as goal

pub loop-i-init : goal.loop-i-init
loop-i-init c = sym (toeplitz_of_none c.args.self.now)

pub loop-i-preserved : goal.loop-i-preserved
loop-i-preserved c =
    let i : ℕ = c.loop-i.i in
    let input : List ℕ = c.args.input.now in
    let byte : ℕ = get_or input i 0 in
    let table : List ℕ = c.self.inside.hashes.items in
    let at : ℕ = i * 256 + byte in
    let small : byte < 256 = omega (arith, c.type_inv.input i) in
    let within : i < length input = c.loop-i-test.true in
    let one : c.index.result.now ≡ toeplitz_of (drop i c.args.self.now) (byte ∷ []) =
    get_or_read table at c.index.result.now (omega (arith, c.self.invariant.count, small, c.loop-i-test.true, c.requires)) c.index.ensures 0 ∙ c.self.invariant.each i byte (omega (arith, c.loop-i-test.true, c.requires)) small ∙ ap (λ (k : List ℕ). toeplitz_of (drop i k) (byte ∷ [])) c.self.view_is in
    ap (λ (h : ℕ). bit_xor h c.index.result.now) c.loop-i.invariant
    ∙ ap (bit_xor (toeplitz_of c.args.self.now (take i input))) one
    ∙ sym (toeplitz_of_more c.args.self.now input i within)
