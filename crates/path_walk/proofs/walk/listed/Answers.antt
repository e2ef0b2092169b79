use Rattle.std.proofs.Common.{◌≡◌, ◌∙◌, ◌+◌, ◌-◌, ◌<◌, ◌++◌, ◌∷◌, [], map, length, vec_len, arith, ap}
use Rattle.path_walk.specs.Seen.{text_seen}
use Rattle.path_walk.specs.Lines.{trees, tree_at}
use Rattle.path_walk.specs.Known.{nothing_known}
use Rattle.path_walk.specs.Walks.{leaves}
use Rattle.path_walk.proofs.Walking.{begun, one_path, err_many, whole_many}
use Rattle.path_walk.proofs.walk.listed.Goals as goal

pub loop-walk-init : goal.loop-walk-init
loop-walk-init c = record {
  whole =
      let n : c.len.result ≡ length c.args.numbered.now.texts.items = omega arith in
      begun (map text_seen c.args.numbered.now.texts.items) c.args.numbered.now.lines.items c.args.at (nothing_known (length c.args.numbered.now.texts.items)) c.in_ok-first.first c.new-all.result.items c.push.new.self.items
      c.new-all.ensures.items (c.in_ok-push.ensures.items ∙ ap (λ ws. ws ++ c.in_ok-first.first ∷ []) c.new-waiting.ensures.items) c.in_ok-first.ensures.at c.in_ok-first.ensures.branches (c.in_ok-first.ensures.known ∙ ap nothing_known n);
  room = omega arith;
}

pub returns-in_err-path-clause-many : goal.returns-in_err-path-clause-many
returns-in_err-path-clause-many c =
    let texts = map text_seen c.args.numbered.now.texts.items in
    let ls = c.args.numbered.now.lines.items in
    let whole = leaves texts (tree_at ls c.args.at) (nothing_known (length c.args.numbered.now.texts.items)) in
    err_many c.from_residual-in_err-path.result c.in_err-path.field-0.0 (4096 < length whole) c.from_residual-in_err-path.ensures.1
    (λ e.
    let many = c.in_err-path.ensures.many e in
    let h : length c.loop-walk.all.items + (4096 - vec_len c.loop-walk.all) < length whole = whole_many texts (trees [] ls) c.loop-walk.all.items c.in-Some.walk c.loop-walk.waiting.items c.pop.new.self.items whole (4096 - vec_len c.loop-walk.all) c.in-Some.ensures.items c.loop-walk.invariant.whole (omega arith) in
    omega arith)

pub loop-walk-preserved : goal.loop-walk-preserved
loop-walk-preserved c = record {
  whole =
      one_path (map text_seen c.args.numbered.now.texts.items) (trees [] c.args.numbered.now.lines.items) c.loop-walk.all.items c.push-in-Some.new.self.items c.in_ok-path.path c.in-Some.walk c.loop-walk.waiting.items c.pop.new.self.items c.follow.new.waiting.items
      (leaves (map text_seen c.args.numbered.now.texts.items) (tree_at c.args.numbered.now.lines.items c.args.at) (nothing_known (length c.args.numbered.now.texts.items)))
      c.in_ok-push-2.ensures.items c.in-Some.ensures.items c.in_ok-path.ensures.left c.loop-walk.invariant.whole;
  room = omega (arith, c.in_ok-path.ensures.within, c.in_ok-push-2.ensures.len, c.in-Some.ensures.len);
}
