use Rattle.std.proofs.Common.{List, ◌∷◌, map, ap}
use Rattle.nf_base.specs.Laid.{block_seen}
use Rattle.nf_base.specs.Statements.{Statement, Does, statements}
use Rattle.nf_base.specs.View.{block_of, operation_of, question_of, creation_of}
use Rattle.path_walk.specs.Order.{waiting}
use Rattle.path_walk.proofs.Splits.{one_waits, two_wait, three_wait}
use Rattle.path_walk.proofs.listing.put_back.Goals as goal

pub returns-in_ok-push-in-Do : goal.returns-in_ok-push-in-Do
returns-in_ok-push-in-Do c =
    rw (c.in-Do.is, ← c.deref.ensures)
    (ap (λ (r : List Statement). Does (operation_of c.in-Do.operation) ∷ r)
    (one_waits c.args.left.now.items c.push.new.self.items c.deref.result c.in_ok-push-in-Do.ensures.items))

pub returns-in_ok-push-in-Ask-3 : goal.returns-in_ok-push-in-Ask-3
returns-in_ok-push-in-Ask-3 c =
    let old = c.args.left.now.items in
    let one = c.push-in-Ask.new.self.items in
    let two = c.push-in-Ask-2.new.self.items in
    let three = c.push-in-Ask-3.new.self.items in
    let next = c.deref-in-Ask.result in
    let miss = c.deref-in-Ask-2.result in
    let hit = c.deref-in-Ask-3.result in
    rw (c.in-Ask.is, ← c.deref-in-Ask.ensures, ← c.deref-in-Ask-2.ensures, ← c.deref-in-Ask-3.ensures)
    (two_wait (question_of c.in-Ask.question) (statements (block_of hit.now)) (statements (block_of miss.now)) (statements (block_of next.now))
    (waiting (map block_seen one)) (waiting (map block_seen two)) (waiting (map block_seen three)) (waiting (map block_seen old))
    (one_waits two three hit c.in_ok-push-in-Ask-3.ensures.items)
    (one_waits one two miss c.in_ok-push-in-Ask-2.ensures.items)
    (one_waits old one next c.in_ok-push-in-Ask.ensures.items))

pub returns-in_ok-push-in-Make-4 : goal.returns-in_ok-push-in-Make-4
returns-in_ok-push-in-Make-4 c =
    let old = c.args.left.now.items in
    let one = c.push-in-Make.new.self.items in
    let two = c.push-in-Make-2.new.self.items in
    let three = c.push-in-Make-3.new.self.items in
    let four = c.push-in-Make-4.new.self.items in
    let next = c.deref-in-Make.result in
    let full = c.deref-in-Make-2.result in
    let taken = c.deref-in-Make-3.result in
    let made = c.deref-in-Make-4.result in
    rw (c.in-Make.is, ← c.deref-in-Make.ensures, ← c.deref-in-Make-2.ensures, ← c.deref-in-Make-3.ensures, ← c.deref-in-Make-4.ensures)
    (three_wait (creation_of c.in-Make.creation) (statements (block_of made.now)) (statements (block_of taken.now)) (statements (block_of full.now)) (statements (block_of next.now))
    (waiting (map block_seen one)) (waiting (map block_seen two)) (waiting (map block_seen three)) (waiting (map block_seen four)) (waiting (map block_seen old))
    (one_waits three four made c.in_ok-push-in-Make-4.ensures.items)
    (one_waits two three taken c.in_ok-push-in-Make-3.ensures.items)
    (one_waits one two full c.in_ok-push-in-Make-2.ensures.items)
    (one_waits old one next c.in_ok-push-in-Make.ensures.items))
