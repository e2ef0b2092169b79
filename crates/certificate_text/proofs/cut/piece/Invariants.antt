-- so many pieces are passed
use Rattle.std.proofs.Common.{◌≡◌, drop}
use Rattle.certificate_text.specs.Pieces.{pieces}
use Rattle.certificate_text.proofs.cut.piece.Given as goal

abbrev pub invariant-loop-i : goal.invariant-loop-i
invariant-loop-i l = drop l._i (pieces l.separator l.bytes) ≡ pieces l.separator l.rest
