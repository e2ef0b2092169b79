use Rattle.std.proofs.Common.{◌≡◌, ◌∙◌, ◌++◌, ◌∷◌, [], List, map, ap, subst}
use Rattle.nf_base.specs.View.{block_of}
use Rattle.path_walk.specs.declared.line.Line.{Line}
use Rattle.path_walk.specs.declared.line.Line.TheVariants as line
use Rattle.path_walk.specs.declared.test.Text.{Text}
use Rattle.path_walk.specs.Seen.{lines_seen, text_seen}
use Rattle.path_walk.specs.Numbering.{AreNumbered}
use Rattle.path_walk.proofs.Bridge.{laid_numbers, listed_are}
use Rattle.path_walk.proofs.ports.laid_out.Goals as goal

pub returns-clause-laid : goal.returns-clause-laid
returns-clause-laid c =
    let new = c.block_lines.new.lines.items in
    let all = c.in_ok-numbered.numbered in
    let n = subst (λ (ls : List (Line Text)). AreNumbered (lines_seen ls) (map text_seen all.texts.items) all.lines.items) c.as_slice.ensures.value c.in_ok-numbered.ensures.lines in
    laid_numbers (lines_seen new) (map text_seen all.texts.items) all.lines.items n c.in_ok-at.ensures.keeps.laid

pub returns-clause-paths : goal.returns-clause-paths
returns-clause-paths c =
    let block = block_of c.args.block.now in
    let old = c.push.new.self.items in
    let new = c.block_lines.new.lines.items in
    let all = c.in_ok-numbered.numbered in
    let start : old ≡ line.Stop ∷ [] = c.in_ok-push.ensures.items ∙ ap (λ ls. ls ++ line.Stop ∷ []) c.new-lines.ensures.items in
    let n = subst (λ (ls : List (Line Text)). AreNumbered (lines_seen ls) (map text_seen all.texts.items) all.lines.items) c.as_slice.ensures.value c.in_ok-numbered.ensures.lines in
    listed_are block old new all.texts.items all.lines.items c.in_ok-at.at start c.in_ok-at.ensures n c.in_ok-numbered.ensures.apart
