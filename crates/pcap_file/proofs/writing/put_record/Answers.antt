use Rattle.std.proofs.Common.{◌∙◌, ◌++◌, ℕ, List, ap, take, append_assoc}
use Rattle.pcap_file.proofs.writing.put_record.Goals as goal

pub returns-clause-put : goal.returns-clause-put
returns-clause-put c =
    c.put_bytes.ensures.put
    ∙ ap (λ (t : List ℕ). t ++ c.args.frame.now) (c.put_bytes-middle.ensures.put ∙ ap (λ (t : List ℕ). take c.args.at c.args.room.now ++ t) c.numbers-numbers.ensures)
    ∙ simp append_assoc
