use Rattle.std.proofs.Common.{rules, refl}
use Rattle.nf_files.specs.Untold.{good_for}
use Rattle.nf_files.proofs.Numbers.{told_of_last, told_before}
use Rattle.nf_files.proofs.real.RealFilesFiles.open_in.Goals as goal

pub returns-clause-ok : goal.returns-clause-ok
returns-clause-ok g c =
    let before = c.args.self.now.opened.items in
    let items = c.push_reserved.ensures.items in
    record {
      number = search rules;
      from_two = search rules;
      then = search rules;
      left = refl;
      rests = λ g other. refl;
      givens = λ g other. refl;
      names = λ g other. refl;
      read = rw (items, c.in_ok-reserve.ensures.items) (told_of_last good_for before _ c.in_ok-number.number (search rules));
      kinds = λ h k told. rw (items, c.in_ok-reserve.ensures.items) (told_before good_for before _ h k told);
      contents = λ n. refl;
      latest_same = λ n. refl;
    }
