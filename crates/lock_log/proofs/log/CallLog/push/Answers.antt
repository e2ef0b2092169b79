use Rattle.std.proofs.Common.{◌≡◌, ◌++◌, ◌∷◌, [], List, ap, ◌∙◌}
use Rattle.nf_base.specs.declared.done.Done.{Done}
use Rattle.nf_base.specs.declared.packet.Packet.{Packet}
use Rattle.lock_core.specs.declared.call.Call.{Call}
use Rattle.short_answers.specs.Answers.{answer_in}
use Rattle.lock_log.specs.Notes.{Note, LogState, calls_in}
use Rattle.lock_log.proofs.Keeping.{calls_pushed}
use Rattle.lock_log.proofs.log.CallLog.push.Goals as goal

pub returns-clause-put : goal.returns-clause-put
returns-clause-put c =
    let old = c.self.inside.whole.items in
    let notes = c.self.inside.notes.items in
    let new = c.keep-answer.new.whole.items in
    let a = c.args in
    let n : Note = record { packet = c.of.result.value; place = a.place; answer = c.keep-answer.result; way = a.way } in
    ap (calls_in new) c.push_reserved.ensures.items
    ∙ calls_pushed old new notes n c.keep-answer.ensures.begins c.self.invariant
    ∙ ap (λ (p : Packet). calls_in old notes ++ record { way = a.way; place = a.place; packet = p; done = answer_in new c.keep-answer.result } ∷ []) c.of.ensures
    ∙ ap (λ (d : Done). calls_in old notes ++ record { way = a.way; place = a.place; packet = a.packet.now; done = d } ∷ []) c.keep-answer.ensures.is
    ∙ ap (λ (cs : List Call). cs ++ record { way = a.way; place = a.place; packet = a.packet.now; done = a.done.now } ∷ []) (ap (λ (s : LogState). s.calls) c.self.view_is)
