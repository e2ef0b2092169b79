use Rattle.std.proofs.Common.{◌≤◌, ◌<◌, List, ℕ, take, length, subst, length-take, arith}
use Rattle.std.proofs.lemmas.List.{take-take}
use Rattle.nf_files.specs.Pieces.{Takes}
use Rattle.file_match.proofs.front.read_front.Goals as goal

pub returns-clause-within : goal.returns-clause-within
returns-clause-within g c = omega (arith, c.in_ok-count.ensures.ok.within, length-take c.args.most c.read_some.new.room)

pub returns-clause-taken : goal.returns-clause-taken
returns-clause-taken g c =
    let told = g.F.Files.told in
    let read = c.in_ok-count.ensures.ok in
    let le : c.in_ok-count.count ≤ c.args.most = omega (arith, read.within, length-take c.args.most c.read_some.new.room) in
    subst (λ (bytes : List ℕ). Takes bytes ((told c.args.files.now).rest c.args.file) ((told c.read_some.new.files).rest c.args.file)) (take-take c.in_ok-count.count c.args.most c.read_some.new.room le) read.taken

pub returns-clause-at_end : goal.returns-clause-at_end
returns-clause-at_end g c =
    λ none some.
    let long : 0 < length (take c.args.most c.read_some.new.room) = omega (arith, length-take c.args.most c.read_some.new.room, c.requires.within, c.read_some.auto.room, some) in
    c.in_ok-count.ensures.ok.at_end none long
