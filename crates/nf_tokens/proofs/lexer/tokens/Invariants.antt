use Rattle.std.proofs.Common.{◌≡◌, ◌+◌, ◌++◌, ◌≤◌, length}
use Rattle.nf_tokens.specs.Tokens.{tokens_of, start}
use Rattle.nf_tokens.proofs.lexer.tokens.Given as goal

abbrev pub invariant-pieces : goal.invariant-pieces
invariant-pieces l = record {
  so_far : l.out.items ++ tokens_of 0 l.place l.rest ≡ tokens_of 0 start l.fn.text;
  line : l.place.line + length l.rest ≤ length l.fn.text + 1;
  column : l.place.column + length l.rest ≤ length l.fn.text + 1;
  from_one : 1 ≤ l.place.column;
}

abbrev pub decreases-pieces : goal.decreases-pieces
decreases-pieces l = length l.rest
