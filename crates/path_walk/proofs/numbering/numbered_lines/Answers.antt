use Rattle.std.proofs.Common.{◌≡◌, ◌+◌, ◌++◌, ◌∷◌, [], map, take, ap, sym, subst, ◌∙◌}
use Rattle.std.proofs.lemmas.List.{map-append, take_more}
use Rattle.path_walk.specs.declared.line.Line.{Line}
use Rattle.path_walk.specs.declared.test.Text.{Text}
use Rattle.path_walk.specs.Seen.{text_seen, line_map, lines_seen}
use Rattle.path_walk.specs.Numbering.{AreNumbered}
use Rattle.path_walk.proofs.Numbers.{one_line}
use Rattle.path_walk.proofs.numbering.numbered_lines.Goals as goal

pub loop-line-preserved : goal.loop-line-preserved
loop-line-preserved c =
    let i = c.loop-line.line-index in
    let before = take i c.args.lines.now in
    let item : Line Text = c.line-item.result in
    let old = map text_seen c.loop-line.texts.list.items in
    let new = map text_seen c.numbered_line.new.texts.list.items in
    let more : take (i + 1) c.args.lines.now ≡ before ++ item ∷ [] = take_more c.args.lines.now i item c.loop-line-test.true ∙ ap (λ x. before ++ x ∷ []) (sym c.line-item.is) in
    let seen : lines_seen (take (i + 1) c.args.lines.now) ≡ lines_seen before ++ line_map text_seen item ∷ [] = ap lines_seen more ∙ map-append (line_map text_seen) before (item ∷ []) in
    record {
      finds = c.in_ok-one.ensures.finds;
      numbered = subst (λ ls. AreNumbered ls new c.push.new.self.items) (sym seen) (subst (λ ms. AreNumbered (lines_seen before ++ line_map text_seen item ∷ []) new ms) (sym c.in_ok-push.ensures.items)
          (one_line (lines_seen before) old new c.loop-line.all.items (line_map text_seen item) c.in_ok-one.one c.loop-line.invariant.numbered c.in_ok-one.ensures.line));
    }
