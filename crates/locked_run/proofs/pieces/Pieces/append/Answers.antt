use Rattle.std.proofs.Common.{[], ◌∙◌}
use Rattle.locked_run.proofs.Placing.{append_none, replaced, stay_extended, lies_extended, bytes_extended}
use Rattle.locked_run.proofs.pieces.Pieces.append.Goals as goal

pub returns-in-Err-clause-stay : goal.returns-in-Err-clause-stay
returns-in-Err-clause-stay c =
    let was = c.index_mut-held.result.now in
    let r = replaced c.args.self.now c.self.inside.all.items c.args.piece was c.self.view_is c.requires.piece c.index_mut-held.ensures.value in
    stay_extended c.args.self.now c.self.inside.all.items c.args.piece was c.extend_from_slice.new.self [] r (c.in-Err.ensures.items ∙ append_none was.items)

pub returns-clause-lies : goal.returns-clause-lies
returns-clause-lies c =
    let was = c.index_mut-held.result.now in
    let r = replaced c.args.self.now c.self.inside.all.items c.args.piece was c.self.view_is c.requires.piece c.index_mut-held.ensures.value in
    lies_extended c.args.self.now c.self.inside.all.items c.args.piece c.len-start.result was c.extend_from_slice.new.self c.args.bytes.now r c.in-Ok.ensures.items (c.len-start.ensures ∙ was.ok.0)

pub returns-clause-bytes : goal.returns-clause-bytes
returns-clause-bytes c =
    let was = c.index_mut-held.result.now in
    let r = replaced c.args.self.now c.self.inside.all.items c.args.piece was c.self.view_is c.requires.piece c.index_mut-held.ensures.value in
    bytes_extended c.args.self.now c.self.inside.all.items c.args.piece c.len-start.result was c.extend_from_slice.new.self c.args.bytes.now r c.in-Ok.ensures.items (c.len-start.ensures ∙ was.ok.0)

pub returns-clause-stay : goal.returns-clause-stay
returns-clause-stay c =
    let was = c.index_mut-held.result.now in
    let r = replaced c.args.self.now c.self.inside.all.items c.args.piece was c.self.view_is c.requires.piece c.index_mut-held.ensures.value in
    stay_extended c.args.self.now c.self.inside.all.items c.args.piece was c.extend_from_slice.new.self c.args.bytes.now r c.in-Ok.ensures.items
