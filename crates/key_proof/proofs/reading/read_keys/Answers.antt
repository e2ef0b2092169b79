use Rattle.std.proofs.Common.{◌+◌, length, refl, sym, ◌∙◌, arith}
use Rattle.key_proof.specs.declared.reading.Cursor.{Cursor}
use Rattle.key_proof.proofs.Read.{next_is, keys_early, keys_wrong, keys_more}
use Rattle.key_proof.proofs.reading.read_keys.Goals as goal

pub returns-in_default-clause-read : goal.returns-in_default-clause-read
returns-in_default-clause-read c =
    keys_early c.args.subject.now c.args.heading c.args.text.now c.args.cursor.now c.loop-port.cursor c.loop-port.keys c.loop-port.port c.loop-port.invariant
    (omega (arith, c.loop-port-test.true, c.len-port-end.ensures.value)) c.in_default.ensures.value

pub returns-in_default-2-clause-read : goal.returns-in_default-2-clause-read
returns-in_default-2-clause-read c =
    keys_wrong c.args.subject.now c.args.heading c.args.text.now c.args.cursor.now c.loop-port.cursor c.loop-port.keys c.loop-port.port c.loop-port.invariant c.in-Some.line.now _
    (omega (arith, c.loop-port-test.true, c.len-port-end.ensures.value)) c.in-Some.ensures.value (sym c.in_default-2.is ∙ c.in_ok-key.ensures)

pub loop-port-preserved : goal.loop-port-preserved
loop-port-preserved c =
    let new : Cursor = record { at = c.loop-port.cursor.at + (length c.in-Some.line.now + 1); number = c.loop-port.cursor.number + 1 } in
    keys_more c.args.subject.now c.args.heading c.args.text.now c.args.cursor.now c.loop-port.cursor c.loop-port.keys c.loop-port.port c.loop-port.invariant c.in-Some.line.now new c.in-Some-2.key c.push.new.self
    (omega (arith, c.loop-port-test.true, c.len-port-end.ensures.value))
    (next_is c.args.text.now c.in-Some.line.now c.loop-port.cursor new c.loop-port.invariant.cursor c.in-Some.ensures.value c.in-Some.ensures.within refl refl)
    (sym c.in-Some-2.is ∙ c.in_ok-key.ensures) c.in_ok-push.ensures.ok
