use Rattle.std.proofs.Common.{◌∙◌, length, sym}
use Rattle.std.proofs.lemmas.Bool.{eqb-true}
use Rattle.made_captures.proofs.Reading.{is_none, record_given}
use Rattle.made_captures.proofs.capture.Capture.read.Goals as goal

pub returns-in-Some-clause-given : goal.returns-in-Some-clause-given
returns-in-Some-clause-given c =
    let piece = c.self.inside.piece in
    let none = is_none piece (eqb-true (length piece) 0 (sym c.is_empty.ensures ∙ c.if-not-is_empty.false)) in
    record_given c.self.inside.port c.self.inside.traffic c.next_at.new.traffic c.in-Some.sent c.args.self.now piece c.record-self-inside.result c.give-in-Some.new.out c.give-in-Some.new.self c.give-in-Some.result
    c.self.view_is none c.in-Some.ensures.next c.in-Some.ensures.long c.record-self-inside.ensures c.give-in-Some.ensures.given c.give-in-Some.ensures.rest
