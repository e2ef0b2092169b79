use Rattle.std.proofs.Common.{◌≡◌, [], ◌∷◌, ◌++◌, drop, fold, ap, ◌∙◌}
use Rattle.left_right.specs.Sides.{view}
use Rattle.lock_mode.specs.TableCopies.{after}
use Rattle.lock_mode.proofs.Publishing.{turns}
use Rattle.lock_mode.proofs.publisher.Publisher.publish.Goals as goal

pub publish_as-writer-requires : goal.publish_as-writer-requires
publish_as-writer-requires g c next is =
    let w = c.append.new.self in
    let x = w.desk.shown.value in
    let op = c.new.result in
    let same : x ≡ c.args.self.writer.desk.shown.value = ap (λ d. d.shown.value) c.in-Ok.ensures.desk in
    let pend : drop w.behind w.log.items ≡ op ∷ [] = c.in-Ok.ensures.pending ∙ ap (λ l. l ++ op ∷ []) c.args.self.settled in
    let now : next ≡ after x op = is ∙ ap (λ l. fold after x l) pend in
    let grown = c.new.ensures ∙ c.seen.ensures ∙ c.requires.grown in
    turns w.desk.place.id (view w.desk.place) x next c.args.self.prefix op c.args.entry (ap (λ s. s.0) same ∙ c.args.self.same) (ap (λ s. s.1) same ∙ c.args.self.whole) grown now
