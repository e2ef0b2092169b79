use Rattle.made_tests.proofs.show_for.Goals as goal

pub tell_beside-requires-clause-made : goal.tell_beside-requires-clause-made
tell_beside-requires-clause-made c = rw (c.as_slice.ensures.value, c.beside-beside.ensures.captures) c.in_ok-all.ensures.made
