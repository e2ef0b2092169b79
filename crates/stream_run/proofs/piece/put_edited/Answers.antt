use Rattle.std.proofs.Common.{◌∙◌, ◌++◌, ◌+◌, ℕ, List, take, ap, sym, arith}
use Rattle.std.proofs.lemmas.List.{length-take-le}
use Rattle.capture_format.specs.Written.{packet_bytes}
use Rattle.stream_run.proofs.Edited.{packet_put, unedited}
use Rattle.stream_run.proofs.piece.put_edited.Goals as goal

pub returns-clause-put : goal.returns-clause-put
returns-clause-put c =
    let at = c.args.at in
    let room = c.args.room.now in
    let front = take at room in
    let put = c.put_packet-end.new.room in
    packet_put c.args.format c.args.time c.args.original c.args.edits.now front c.args.frame.now put c.edit_within.new.bytes (at + c.lead_length.result) c.put_packet-end.result
    c.put_packet-end.ensures.put (omega (arith, c.put_packet-end.ensures.end)) (omega (arith, length-take-le at room (omega arith), c.lead_length.ensures.value))
    c.edit_within.ensures.edited c.edit_within.ensures.long

pub returns-then-not-edited-clause-put : goal.returns-then-not-edited-clause-put
returns-then-not-edited-clause-put c =
    let same = unedited c.args.edits.now c.args.frame.now (λ i. omega (arith, c.type_inv.frame i)) (c.requires.edited c.if-not-edited.true) in
    c.put_packet-end.ensures.put ∙ ap (λ (f : List ℕ). take c.args.at c.args.room.now ++ packet_bytes c.args.format c.args.time c.args.original f) (sym same)
