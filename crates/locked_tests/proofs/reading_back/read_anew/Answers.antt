use Rattle.std.proofs.Common.{◌<◌, ℕ, sym, subst}
use Rattle.std.proofs.lemmas.List.{length-map}
use Rattle.nf_base.specs.Handlers.{blocks_of}
use Rattle.locked_tests.proofs.reading_back.read_anew.Goals as goal

pub read_back-requires-clause-ports : goal.read_back-requires-clause-ports
read_back-requires-clause-ports g c =
    subst (λ (n : ℕ). 0 < n) (sym (length-map c.args.func.now.handlers blocks_of)) c.requires
