use Rattle.std.proofs.Common.{◌≡◌, ◌++◌, ℕ, ap, subst}
use Rattle.nf_files.specs.declared.fault.FilesFault.{FilesFault}
use Rattle.file_match.specs.Comparing.{Comparing, FoundSo}
use Rattle.file_match.proofs.Comparing.{found_more, found_longer, found_here}
use Rattle.file_match.proofs.compared.Compared.compare.Goals as goal

pub returns-then-not-self-clause-compares : goal.returns-then-not-self-clause-compares
returns-then-not-self-clause-compares g c =
    let i = c.self.inside in
    λ start before found. found_longer i.file i.same c.args.self.now before c.args.bytes.now start (g.F.Files.told c.args.files.now) c.self.view_is c.if-not-self.true found

pub returns-clause-compares : goal.returns-clause-compares
returns-clause-compares g c =
    let told = g.F.Files.told in
    let i = c.self.inside in
    let file : i.file ≡ c.args.self.now.file = ap (λ (v : Comparing). v.file) c.self.view_is in
    λ start before found.
    let was = found_here i.file i.same c.args.self.now before start (told c.args.files.now) c.self.view_is c.if-not-self.false found in
    subst (λ (n : ℕ). FoundSo c.in_ok-same.same (before ++ c.args.bytes.now) start ((told c.are_next.new.files).rest n)) file
    (found_more FilesFault c.in_ok-same.same before c.args.bytes.now start ((told c.args.files.now).rest i.file) ((told c.are_next.new.files).rest i.file) was c.in_ok-same.ensures.next)
