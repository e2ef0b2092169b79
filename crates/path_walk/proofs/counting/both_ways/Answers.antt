use Rattle.std.proofs.Common.{refl, ap, ◌∙◌}
use Rattle.path_walk.specs.Known.{Marks, known_seen, told_mark}
use Rattle.path_walk.proofs.Points.{point_waits, counts_both}
use Rattle.path_walk.proofs.counting.both_ways.Goals as goal

pub returns : goal.returns
returns c =
    let t = c.args.test in
    let old = c.args.point.now in
    let olds = c.args.waiting.now.items in
    let news = c.push.new.self.items in
    let told = c.tell.ensures ∙ ap (λ (m : Marks). told_mark m t.number t.equals t.exchanged) c.in_ok-known.ensures in
    counts_both t old (record { at = t.hit; known = c.tell-2.new.self }) olds news c.requires
    (point_waits olds news (record { at = t.miss; known = c.tell.new.self }) (told_mark (known_seen old.known) t.number t.equals t.exchanged) t.miss c.in_ok-push.ensures.items refl told)
    refl c.tell-2.ensures
