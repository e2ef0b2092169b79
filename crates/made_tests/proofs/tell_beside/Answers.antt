use Rattle.std.proofs.Common.{◌<◌, ◌^◌, arith}
use Rattle.std.proofs.lemmas.Option.{get_or_from_slice_get}
use Rattle.made_captures.specs.Outputs.{journal_of}
use Rattle.made_captures.proofs.KindsBeside.{made_is_read}
use Rattle.made_tests.proofs.tell_beside.Goals as goal

-- made captures are read
pub tell_from-requires-clause-readable : goal.tell_from-requires-clause-readable
tell_from-requires-clause-readable g c = λ port file at.
    let beside = c.args.beside.now in
    let fits : file < 2 ^ 32 = omega (arith, c.type_inv.captures port, get_or_from_slice_get c.args.captures.now port file 0 at) in
    made_is_read beside.captures.now (journal_of beside.outputs) file (g.F.Files.told beside.files.now).kind fits (c.requires.made port file at)
