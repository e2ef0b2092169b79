use Rattle.file_tests.proofs.feed.tests.left_after.Goals as goal

pub left-first-requires : goal.left-first-requires
left-first-requires g c =
    let same = c.loop.invariant.files in
    let lent = c.as_slice-2.ensures.value in
    λ port file at. c.loop.invariant.readable port file (cc (same, lent, at))
