use Rattle.std.proofs.Common.{◌≡◌, drop}
use Rattle.nf_tokens.specs.Tokens.{behind_all, IsWithin}
use Rattle.nf_tokens.proofs.lexer.behind_all.Given as goal

abbrev pub invariant-loop-b : goal.invariant-loop-b
invariant-loop-b l = record {
  so_far : behind_all l.place (drop l.b-index l.bytes) ≡ behind_all l.fn.at l.bytes;
  within : IsWithin l.fn.at l.place l.b-index;
}
