use Rattle.std.proofs.Common.{arith}
use Rattle.std.proofs.lemmas.Grind.{common_steps}
use Rattle.nf_tokens.proofs.Skips.{front_piece}
use Rattle.nf_tokens.proofs.lexer.tokens.Goals as goal

pub pieces-preserved : goal.pieces-preserved
pieces-preserved c =
    let f = front_piece c.pieces.out.items c.pieces.place c.pieces.rest.now c.piece_at-piece.result c.in-len1-up.len_at_least c.piece_at-piece.ensures.value c.piece_at-piece.ensures.some in
    record {
      so_far = grind (arith, common_steps, f, c.pieces.invariant.so_far, c.in_ok-token.ensures, c.in_ok-push_token.ensures, c.split_at.ensures.front, c.split_at.ensures.back, c.behind_all-place.ensures.value);
      line = omega (arith, c.behind_all-place.ensures.within.line, c.pieces.invariant.line, c.split_at.ensures.front_len, c.split_at.ensures.back_len);
      column = omega (arith, c.behind_all-place.ensures.within.column, c.pieces.invariant.column, c.split_at.ensures.front_len, c.split_at.ensures.back_len);
      from_one = c.behind_all-place.ensures.within.from_one;
    }
