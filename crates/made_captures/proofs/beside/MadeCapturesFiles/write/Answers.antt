use Rattle.std.proofs.Common.{◌≡◌, ◌≤◌, ◌<◌, ◌^◌, ◌⊎◌, inl, inr, ℕ, List, Some, length, take, arith}
use Rattle.std.proofs.lemmas.List.{length-take}
use Rattle.made_captures.specs.Outputs.{Counting, journal_of, kinds_beside}
use Rattle.made_captures.proofs.Counting.{writes_beside, same_beside, known_after}
use Rattle.made_captures.proofs.KindsBeside.{written_file}
use Rattle.made_captures.proofs.beside.MadeCapturesFiles.write.Goals as goal
use Rattle.nf_files.specs.Told.{Told, TakesBytes}
use Rattle.nf_files.specs.declared.kind.Kind.TheVariants.{Output}

-- beside made captures bytes may be given to a file that takes them, not behind the journal
takes : (captures : List (List ℕ)) (c : Counting) (told : Told) (file : ℕ) → 2 ≤ c.first → file < 2 ^ 32 → (file < 2) ⊎ (kinds_beside captures (journal_of c) told.kind file ≡ Some Output) → TakesBytes told file × (file ≤ journal_of c)
takes captures c told file two low (inl lt) = (inl lt, omega (arith, lt, two))
takes captures c told file two low (inr own) =
    let so = written_file captures (journal_of c) file told.kind low own in
    (inr so.0, so.1)

pub write-requires : goal.write-requires
write-requires g c =
    let s = c.args.self.now in
    record { created = (takes s.captures.now s.outputs (g.F.Files.told s.files.now) c.args.file c.are_numbered.ensures.from_two c.ranges.file.fits c.requires.created).0 }

pub returns-in-Ok-clause-ok : goal.returns-in-Ok-clause-ok
returns-in-Ok-clause-ok g c =
    let told = g.F.Files.told in
    let counted = g.F.Files.counted in
    let s = c.args.self.now in
    let piece = take c.in-Ok.count c.args.piece.now in
    let long : c.in-Ok.count ≡ length piece = omega (arith, length-take c.in-Ok.count c.args.piece.now, c.in-Ok.ensures.within) in
    writes_beside s.captures.now s.files.ghost_name s.outputs c.add.new.self (told s.files.now) (told c.write.new.self) (counted s.files.now) (counted c.write.new.self) c.args.file c.in-Ok.count piece c.ranges.file.fits c.are_numbered.ensures.fits long c.add.ensures c.in-Ok.ensures.cause c.in-Ok.ensures.ok

pub returns-in-Err-clause-err : goal.returns-in-Err-clause-err
returns-in-Err-clause-err g c =
    let told = g.F.Files.told in
    let counted = g.F.Files.counted in
    let s = c.args.self.now in
    same_beside s.captures.now s.files.ghost_name s.outputs (told s.files.now) (told c.write.new.self) (counted s.files.now) (counted c.write.new.self)
    (known_after (journal_of s.outputs) c.args.file ℕ (counted s.files.now) (counted c.write.new.self) c.in-Err.fault (takes s.captures.now s.outputs (told s.files.now) c.args.file c.are_numbered.ensures.from_two c.ranges.file.fits c.requires.created).1 c.in-Err.ensures.cause)
    c.in-Err.ensures.err
