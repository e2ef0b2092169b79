use Rattle.std.proofs.Common.{◌≡◌, ◌<◌, ◌≤◌, ◌+◌, ◌∙◌, sym, subst, ℕ, List, length, take, get_or, slice_set, arith}
use Rattle.std.proofs.Math.ListN.{length-set}
use Rattle.std.proofs.lemmas.List.{get_or-take, length-take-le}
use Rattle.std.proofs.lemmas.List.Edits.{fill_by_more}
use Rattle.std.proofs.lemmas.List.FromFn.{fill_by_all}
use Rattle.nf_base.specs.Cards.{key_bytes}
use Rattle.nf_base.specs.declared.card.KeySize.{KeySize}
use Rattle.certificate_text.specs.Words.{byte_at, bytes_of_digits}
use Rattle.certificate_text.proofs.Sizes.{key_fits}
use Rattle.certificate_text.proofs.key.bytes_of_digits.Goals as goal

pub loop-i-preserved : goal.loop-i-preserved
loop-i-preserved c = record {
  whole = length-set c.loop-i.bytes c.loop-i.i c.byte_at.result ∙ c.loop-i.invariant.whole;
  made = subst (λ (v : ℕ). (k : ℕ) → k < c.loop-i.i + 1 → get_or (slice_set c.loop-i.bytes c.loop-i.i v) k 0 ≡ byte_at c.args.digits.now k) (sym c.byte_at.ensures)
      (fill_by_more (byte_at c.args.digits.now) c.loop-i.bytes c.loop-i.i 0 (omega (arith, c.loop-i.invariant.whole, key_fits c.args.size)) c.loop-i.invariant.made);
}

made_of :
    (size : KeySize) (digits bytes : List ℕ) → key_bytes size ≤ length bytes
    → ((i : ℕ) → i < key_bytes size → get_or bytes i 0 ≡ byte_at digits i)
    → take (key_bytes size) bytes ≡ bytes_of_digits size digits
unfolding bytes_of_digits
made_of size digits bytes long made =
    fill_by_all (byte_at digits) (take (key_bytes size) bytes) (key_bytes size) 0 (length-take-le (key_bytes size) bytes long)
    (λ i within. get_or-take (key_bytes size) bytes i 0 within ∙ made i within)

pub returns : goal.returns
returns c = made_of c.args.size c.args.digits.now c.loop-i.bytes (omega (arith, c.loop-i.invariant.whole, key_fits c.args.size)) (λ i within. c.loop-i.invariant.made i (omega arith))
