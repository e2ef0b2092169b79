use Rattle.std.proofs.Common.{◌≡◌, ◌<◌, true, false, nat_eq, take, length, length-take, arith}
use Rattle.nf_files.specs.declared.fault.FilesFault.{FilesFault}
use Rattle.file_match.proofs.Comparing.{whole_if, not_whole, found_here, found_other}
use Rattle.file_match.proofs.compared.Compared.is_whole.Goals as goal

pub returns-then-not-self-clause-whole : goal.returns-then-not-self-clause-whole
returns-then-not-self-clause-whole g c =
    let told = g.F.Files.told in
    let i = c.self.inside in
    λ start bytes found.
    not_whole FilesFault bytes start (found_other i.file i.same c.args.self.now bytes start (told c.args.files.now) c.self.view_is c.if-not-self.true found)

pub returns-clause-whole : goal.returns-clause-whole
returns-clause-whole g c =
    let told = g.F.Files.told in
    let i = c.self.inside in
    let n = c.in_ok-count.count in
    let room = c.read_front.new.room in
    let some : nat_eq n 0 ≡ false → 0 < length (take n room) = λ e. grind (arith, length-take n room, c.in_ok-count.ensures.within) in
    let none : nat_eq n 0 ≡ true → n ≡ 0 = λ e. grind arith in
    λ start bytes found.
    let was = found_here i.file i.same c.args.self.now bytes start (told c.args.files.now) c.self.view_is c.if-not-self.false found in
    whole_if FilesFault _ bytes start _ _ (take n room) was c.in_ok-count.ensures.taken (λ e. c.in_ok-count.ensures.at_end (none e) (omega arith)) some
