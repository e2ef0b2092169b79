use Rattle.std.proofs.Common.{◌≡◌, ◌∷◌, [], ℕ, ap, subst}
use Rattle.run_history.specs.Headings.{IsHeading}
use Rattle.run_history.specs.declared.line.JournalLine.TheVariants.{Header}
use Rattle.journal_read.specs.Journals.{Reading, Stands, HasNoHeader}
use Rattle.replay_run.proofs.Heads.{stands_none}
use Rattle.replay_run.proofs.replaying.first_line.Goals as goal

pub returns-in-Ok-Some-clause-heads : goal.returns-in-Ok-Some-clause-heads
returns-in-Ok-Some-clause-heads g c =
    let told = g.F.Files.told in
    let old = told c.args.files.now in
    let new = told c.header.new.files in
    let v = c.in-Ok.lines in
    let header = c.in-Ok-Some.header in
    let file : v.file ≡ c.args.journal = ap (λ (x : Reading). x.file) c.in-Ok.ensures in
    let heads = (rw c.in-Ok-Some.field-0-is at c.in-Ok-Some.ensures.heads) (old.rest v.file) (stands_none (old.rest v.file) v (ap (λ (x : Reading). x.held) c.in-Ok.ensures)) in
    subst (λ (n : ℕ). IsHeading header × Stands (old.rest n) (Header header ∷ []) c.header.new.self (new.rest n)) file heads

pub returns-in-Ok-None-clause-heads : goal.returns-in-Ok-None-clause-heads
returns-in-Ok-None-clause-heads g c =
    let old = g.F.Files.told c.args.files.now in
    let v = c.in-Ok.lines in
    let file : v.file ≡ c.args.journal = ap (λ (x : Reading). x.file) c.in-Ok.ensures in
    let heads = (rw c.in-Ok-None.field-0-is at c.in-Ok-None.ensures.heads) (old.rest v.file) (stands_none (old.rest v.file) v (ap (λ (x : Reading). x.held) c.in-Ok.ensures)) in
    subst (λ (n : ℕ). HasNoHeader (old.rest n)) file heads
