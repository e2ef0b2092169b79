use Rattle.std.proofs.Common.{◌+◌, length, refl, sym, ap, ◌∙◌, subst}
use Rattle.key_proof.specs.declared.reading.Cursor.{Cursor}
use Rattle.key_proof.specs.Faults.{ports_of}
use Rattle.key_proof.specs.Reading.{step_of, IsStepWithin}
use Rattle.key_proof.proofs.Read.{next_is, rows_more}
use Rattle.key_proof.proofs.reading.read_rows.Goals as goal

pub loop-line-preserved : goal.loop-line-preserved
loop-line-preserved c =
    let new : Cursor = record { at = c.loop-line.cursor.at + (length c.in-Some.line.now + 1); number = c.loop-line.cursor.number + 1 } in
    rows_more c.args.subject.now c.args.heading c.args.text.now c.args.cursor.now c.loop-line.cursor c.loop-line.rows c.loop-line.invariant c.in-Some.line.now new c.in-Listed.row c.push.new.self
    (next_is c.args.text.now c.in-Some.line.now c.loop-line.cursor new c.loop-line.invariant.cursor c.in-Some.ensures.value c.in-Some.ensures.within refl refl)
    (sym (ap step_of c.in-Listed.is) ∙ c.in_ok-row.ensures.value)
    (subst (IsStepWithin (ports_of c.args.subject.now)) c.in-Listed.is c.in_ok-row.ensures.within)
    c.in_ok-push-in-Listed.ensures.ok
