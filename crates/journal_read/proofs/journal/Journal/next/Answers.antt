use Rattle.std.proofs.Common.{◌≡◌, ℕ, subst, ◌∙◌}
use Rattle.nf_files.specs.declared.fault.FilesFault.{FilesFault}
use Rattle.nf_files.specs.Told.{IsEmptyIfTold}
use Rattle.journal_read.specs.Journals.{lines_bytes}
use Rattle.journal_read.proofs.Standing.{stands_grown, stands_line, wrong_held, end_of, none_filled}
use Rattle.journal_read.proofs.journal.Journal.next.Goals as goal

pub returns-in-Line-clause-gives : goal.returns-in-Line-clause-gives
returns-in-Line-clause-gives g c = λ start lines stands.
    let all = stands_grown (lines_bytes lines) c.args.self.now.held c.fills.self.held start _ _ stands c.fills.invariant.grows in
    let adv = c.in-Line.ensures.advances in (adv.0, stands_line lines c.in-Line.line c.fills.self.held c.advance.new.self.held start _ all adv.1)

pub returns-in-Wrong-clause-gives : goal.returns-in-Wrong-clause-gives
returns-in-Wrong-clause-gives g c = λ start lines stands.
    let all = stands_grown (lines_bytes lines) c.args.self.now.held c.fills.self.held start _ _ stands c.fills.invariant.grows in
    let adv = c.in-Wrong.ensures.advances in
    wrong_held lines c.fills.self.held start _ all adv.0 adv.1

pub returns-then-not-branch-clause-gives : goal.returns-then-not-branch-clause-gives
returns-then-not-branch-clause-gives g c = λ start lines stands.
    let told = g.F.Files.told in
    let file : c.advance.new.self.file ≡ c.args.self.now.file = c.in-Open.ensures.same_file ∙ c.fills.invariant.same_file in
    let all = stands_grown (lines_bytes lines) c.args.self.now.held c.fills.self.held start _ _ stands c.fills.invariant.grows in
    let adv = c.in-Open.ensures.advances in
    let filled = none_filled FilesFault c.in_ok-fill.field-0 c.advance.new.self.held c.fill.new.self.held _ _ c.if-not-branch.true c.in_ok-fill.ensures.fills in
    let over = subst (λ (n : ℕ). IsEmptyIfTold ((told c.fills.files).rest n)) file filled.1 in
    end_of FilesFault c.end.result lines c.fills.self.held c.fill.new.self start _ _ all (filled.0 ∙ adv.0) adv.1 over c.end.ensures
