use Rattle.std.proofs.Common.{◌∙◌, ◌++◌, ℕ, List, ap, length, take, append_assoc}
use Rattle.pcapng_file.specs.Written.{block_lead, block_trail}
use Rattle.pcapng_file.proofs.writing.put_block.Goals as goal

pub returns-clause-put : goal.returns-clause-put
returns-clause-put c =
    let frame = c.args.frame.now in
    let front = take c.args.at c.args.room.now in
    let lead = block_lead c.args.time c.args.original (length frame) in
    c.put_trail.ensures.put
    ∙ ap (λ (t : List ℕ). t ++ block_trail (length frame)) (c.put_bytes-stop.ensures.put ∙ ap (λ (t : List ℕ). t ++ frame) (c.put_bytes-start.ensures.put ∙ ap (λ (t : List ℕ). front ++ t) c.lead-lead.ensures))
    ∙ append_assoc (front ++ lead) frame (block_trail (length frame)) ∙ append_assoc front lead (frame ++ block_trail (length frame))
