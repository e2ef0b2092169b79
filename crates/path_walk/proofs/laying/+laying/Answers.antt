use Rattle.std.proofs.Common.{◌∙◌, ◌≤◌, ◌-◌, ◌++◌, ◌∷◌, [], Bor, List, length, sym, ap, subst, map, vec_len}
use Rattle.std.specs.List.{All}
use Rattle.std.proofs.lemmas.List.Elements.{All-take}
use Rattle.nf_base.specs.declared.block.Block.{Block, size-Block}
use Rattle.nf_base.specs.View.{block_of, question_of}
use Rattle.nf_base.specs.Laid.{before, laid, block_seen}
use Rattle.nf_base.proofs.Laid.{one_more}
use Rattle.path_walk.specs.declared.line.Line.{Line}
use Rattle.path_walk.specs.Tests.{TestText}
use Rattle.path_walk.specs.Seen.{lines_seen, line_map, text_seen}
use Rattle.path_walk.specs.Trees.{unfolded, asking}
use Rattle.path_walk.specs.Lines.{tree_at}
use Rattle.path_walk.specs.Layout.{IsLaidOut}
use Rattle.path_walk.proofs.LaidOut.{one_statement, if_put, ask_lines, make_lines}
use Rattle.path_walk.proofs.laying.+laying.Goals as goal

pub block_lines-loop-last-preserved : goal.block_lines-loop-last-preserved
block_lines-loop-last-preserved t c =
    let small : Bor Block → Type 0 = λ one. size-Block one.now ≤ size-Block c.args.block.now in
    let all : List (Bor Block) → Type 0 = λ xs. All small xs in
    let inv = c.loop-last.invariant in
    let first = block_of c.in-Some.last.now in
    let a = lines_seen c.args.lines.now.items in
    let b = lines_seen c.loop-last.lines.items in
    let d = lines_seen c.statement_lines.new.lines.items in
    record {
      rest = before first inv.rest;
      whole = sym (one_more c.pop.new.self.items c.in-Some.last inv.rest)
          ∙ ap (λ xs. laid (map block_seen xs) inv.rest) (sym c.in-Some.ensures.items)
          ∙ inv.whole;
      laid_out = one_statement a b d first inv.rest c.args.exit c.loop-last.at c.in_ok-at.at c.requires.exit inv.laid_out c.in_ok-at.ensures;
      smaller = subst all (sym c.in-Some.ensures.rest) (All-take small (vec_len c.loop-last.left - 1) c.loop-last.left.items inv.smaller);
    }

pub statement_lines-returns-in_ok-misses-in-Ask : goal.statement_lines-returns-in_ok-misses-in-Ask
statement_lines-returns-in_ok-misses-in-Ask t c =
    let a = lines_seen c.args.lines.now.items in
    let b = lines_seen c.block_lines.new.lines.items in
    let m = lines_seen c.block_lines-in-Ask.new.lines.items in
    let q = question_of c.in-Ask.question in
    let hits = c.in_ok-hits-in-Ask.hits in
    let misses = c.in_ok-misses-in-Ask.misses in
    rw (c.in-Ask.is, ← c.deref.ensures, ← c.deref-in-Ask.ensures) (if_put c.put.result a m (lines_seen c.put.new.lines.items) (line_map text_seen c.asked.result) _
    (subst (λ (l : Line TestText). IsLaidOut a (m ++ l ∷ []) (length m) (asking q (unfolded (block_of c.deref.result.now) (tree_at a c.args.next)) (unfolded (block_of c.deref-in-Ask.result.now) (tree_at a c.args.next)))) (sym c.asked.ensures)
    (ask_lines a b m q (block_of c.deref.result.now) (block_of c.deref-in-Ask.result.now) c.args.next hits misses c.requires.next c.in_ok-hits-in-Ask.ensures c.in_ok-misses-in-Ask.ensures))
    c.put.ensures)

pub statement_lines-returns-in_ok-full-in-Make : goal.statement_lines-returns-in_ok-full-in-Make
statement_lines-returns-in_ok-full-in-Make t c =
    let a = lines_seen c.args.lines.now.items in
    let b = lines_seen c.block_lines-in-Make.new.lines.items in
    let m = lines_seen c.block_lines-in-Make-2.new.lines.items in
    let n = lines_seen c.block_lines-in-Make-3.new.lines.items in
    rw (c.in-Make.is, ← c.deref-in-Make.ensures, ← c.deref-in-Make-2.ensures, ← c.deref-in-Make-3.ensures) (if_put c.put-in-Make.result a n (lines_seen c.put-in-Make.new.lines.items) _ _
    (make_lines a b m n (block_of c.deref-in-Make.result.now) (block_of c.deref-in-Make-2.result.now) (block_of c.deref-in-Make-3.result.now) c.args.next
    c.in_ok-made-in-Make.made c.in_ok-taken-in-Make.taken c.in_ok-full-in-Make.full c.requires.next c.in_ok-made-in-Make.ensures c.in_ok-taken-in-Make.ensures c.in_ok-full-in-Make.ensures)
    c.put-in-Make.ensures)
