use Rattle.std.proofs.Common.{◌≡◌, ◌++◌, ◌+◌, ◌-◌, ℕ, List, length, take, drop, sym, ap, ◌∙◌}
use Rattle.std.proofs.lemmas.List.{take-append-drop, take_rest, drop-drop}
use Rattle.run_history.specs.Line.{line_bytes}
use Rattle.journal_read.specs.Journals.{Reading}
use Rattle.journal_read.proofs.journal.Journal.advance.Goals as goal

cut_at : (bytes line items : List ℕ) (end at : ℕ) → bytes ≡ drop at items → line ≡ take end bytes → bytes ≡ line ++ drop (at + end) items
cut_at bytes line items end at is front =
    sym (take-append-drop end bytes)
    ∙ ap (λ (t : List ℕ). t ++ drop end bytes) (sym front)
    ∙ ap (λ (t : List ℕ). line ++ t) (ap (drop end) is ∙ drop-drop end at items)

pub returns-in-Line-clause-advances : goal.returns-in-Line-clause-advances
returns-in-Line-clause-advances c =
    let i = c.self.inside in
    let first = c.in-Line.ensures in
    let all = c.deref.result.now in
    let bytes = take (length all - i.at) (drop i.at all) in
    let is : bytes ≡ drop i.at i.bytes.items = take_rest all i.at ∙ ap (drop i.at) c.deref.ensures.value in
    let held : c.args.self.now.held ≡ drop i.at i.bytes.items = sym (ap (λ (r : Reading). r.held) c.self.view_is) in (
      first.0,
      held ∙ sym is ∙ cut_at bytes (line_bytes c.in-Line.line) i.bytes.items c.in-Line.end i.at is first.2,
    )
