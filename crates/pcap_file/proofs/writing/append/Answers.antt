use Rattle.std.proofs.Common.{append_assoc}
use Rattle.pcap_file.proofs.writing.append.Goals as goal

pub returns-clause-ok : goal.returns-clause-ok
returns-clause-ok c =
    rw (c.in_ok-extend_from_slice-2.ensures.items, c.in_ok-extend_from_slice.ensures.items, c.numbers-numbers.ensures)
    (simp append_assoc)
