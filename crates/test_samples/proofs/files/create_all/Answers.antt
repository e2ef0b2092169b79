use Rattle.test_samples.proofs.files.create_all.Goals as goal

-- the first number is the one that the next opening gave
pub returns-clause-in_order : goal.returns-clause-in_order
returns-clause-in_order g c =
    let told = g.F.Files.told in
    record {
      first = (told c.args.files.now).next;
      follow = c.loop-name.invariant.numbered;
      from_two = c.loop-name.invariant.from_two;
    }
