use Rattle.std.proofs.Common.{◌≡◌, ◌<◌, [], ◌++◌, length, take, drop, sym, ap, ◌∙◌, arith, take-append-drop}
use Rattle.std.proofs.lemmas.Grind.{common_steps}
use Rattle.std.proofs.KnownBytes.{prepend_known-read}
use Rattle.nf_files.proofs.ahead.AheadRead.read.Goals as goal

pub returns-clause-bytes : goal.returns-clause-bytes
returns-clause-bytes g c =
    let ahead = c.fill.new.self in
    let count = c.give.result in
    let front : take count ahead ≡ take count c.give.new.out = sym c.give.ensures.given in
    let split : ahead ≡ take count c.give.new.out ++ c.give.new.self =
    sym (take-append-drop count ahead) ∙ ap (λ l. l ++ drop count ahead) front ∙ ap (λ l. take count c.give.new.out ++ l) (sym c.give.ensures.rest) in
    let read = prepend_known-read _ _ _ _ _ _ c.fill.ensures.same split (λ (p : (count ≡ 0) × (0 < length c.give.new.out)).
    let empty : ahead ≡ [] = grind (arith, common_steps) in
    let none : c.give.new.self ≡ [] = c.give.ensures.rest ∙ ap (λ k. drop k ahead) p.0 ∙ empty in
    (none, c.in_ok-fill.ensures.end empty)) in
    (read.0, λ zero some. read.1 (zero, some))
