use Rattle.ring_line.proofs.opening.open_one.Goals as goal

pub returns : goal.returns
returns c = (c.share-share.result, c.share-share.ensures.queue, c.share-share.ensures.of, c.in_ok-tables.ensures)
