use Rattle.std.proofs.Common.{◌≡◌, ◌∙◌, ◌/◌, ◌%◌, ◌∷◌, [], ℕ, List, length, get_or, drop, ap, arith}
use Rattle.toeplitz_hash.specs.Toeplitz.{toeplitz_of}
use Rattle.rss_table.proofs.Placed.{given_more}
use Rattle.rss_table.proofs.byte_tables.KeyTable.new.Goals as goal

pub loop-k-preserved : goal.loop-k-preserved
loop-k-preserved c =
    let inv = c.loop-k.invariant in
    let xs = c.loop-k.hashes.items in
    let long : length xs ≡ c.loop-k.k = omega (arith, c.loop-k.hashes.ok.0, inv.len) in
    record {
      len = omega (arith, c.push_reserved.ensures.len, inv.len);
      room = c.push_reserved.ensures.capacity ∙ inv.room;
      each = λ j within.
          ap (λ (ys : List ℕ). get_or ys j 0) c.push_reserved.ensures.items
          ∙ given_more (λ n. toeplitz_of (drop (n / 256) c.args.key.now) ((n % 256) ∷ [])) xs c.loop-k.k c.hash_at.result long (c.hash_at.ensures ∙ ap (λ (key : List ℕ). toeplitz_of (drop (c.loop-k.k / 256) key) ((c.loop-k.k % 256) ∷ [])) c.as_slice.ensures.value) inv.each j within;
    }
