use Rattle.std.proofs.Common.{◌<◌, ◌≤◌, take, length, ◌∙◌, length-take, arith}
use Rattle.file_match.proofs.Comparing.{none_left, taken_more, other_more, keeps_both}
use Rattle.file_match.proofs.compared.are_next.Goals as goal

pub returns-then-count-eq0-clause-next : goal.returns-then-count-eq0-clause-next
returns-then-count-eq0-clause-next g c =
    let was = c.loop-rest.invariant.taken in
    let some : 0 < length c.loop-rest.rest.now = grind arith in
    none_left was.0 c.loop-rest.rest.now c.args.bytes.now _ _ was.1 was.2 some (c.in_ok-count.ensures.at_end c.if-count-eq0.true (grind arith))

pub loop-rest-preserved : goal.loop-rest-preserved
loop-rest-preserved g c =
    let told = g.F.Files.told in
    let inv = c.loop-rest.invariant in
    let was = inv.taken in
    record {
      taken = taken_more was.0 c.loop-rest.rest.now (take c.in_ok-count.count c.read_front.new.room) c.in-Some.more.now c.args.bytes.now _ _ _ was.1 c.in-Some.ensures was.2 c.in_ok-count.ensures.taken;
      room = c.read_front.ensures.long ∙ inv.room;
      kept = keeps_both (told c.args.files.now) (told c.loop-rest.files) (told c.read_front.new.files) c.args.file inv.kept c.read_front.ensures.kept;
      count = c.in_ok-count.ensures.cause ∙ inv.count;
    }

pub returns-in-None-clause-next : goal.returns-in-None-clause-next
returns-in-None-clause-next g c =
    let was = c.loop-rest.invariant.taken in
    let le : length (take c.in_ok-count.count c.read_front.new.room) ≤ length c.loop-rest.rest.now = grind (arith, length-take c.in_ok-count.count c.read_front.new.room, c.in_ok-count.ensures.within) in
    other_more was.0 c.loop-rest.rest.now (take c.in_ok-count.count c.read_front.new.room) c.args.bytes.now _ _ _ was.1 le c.in-None.ensures was.2 c.in_ok-count.ensures.taken
