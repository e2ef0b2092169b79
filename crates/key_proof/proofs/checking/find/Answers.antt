use Rattle.std.proofs.Common.{◌≡◌, ◌+◌, ◌∙◌, ap, length, refl, sym, Some}
use Rattle.nf_base.specs.Functions.{function_of}
use Rattle.shard_rules.specs.Served.{own_plan}
use Rattle.shard_rules.specs.declared.plan.Plan.{Plan}
use Rattle.certificate_text.specs.Lines.{heading_in}
use Rattle.key_proof.specs.declared.reading.Cursor.{Cursor}
use Rattle.key_proof.specs.Found.{fault_found}
use Rattle.key_proof.proofs.AtPorts.{is_subject, all_at_ports}
use Rattle.key_proof.proofs.Certified.{shows}
use Rattle.key_proof.proofs.Checked.{headed}
use Rattle.key_proof.proofs.checking.find.Goals as goal

pub find_rows-requires-clause-subject : goal.find_rows-requires-clause-subject
find_rows-requires-clause-subject c = is_subject (function_of c.args.func.now) c.in_ok-subject.subject c.in_ok-subject.ensures.value c.in_ok-subject.ensures.few

pub find_rows-requires-clause-places : goal.find_rows-requires-clause-places
find_rows-requires-clause-places c =
    all_at_ports (function_of c.args.func.now) c.in_ok-subject.subject c.as_slice-objects.result.now c.in_ok-subject.ensures.value (c.as_slice-objects.ensures ∙ ap (λ (p : Plan). p.objects) c.requires.plan)

pub returns-clause-shows : goal.returns-clause-shows
returns-clause-shows c =
    let f = function_of c.args.func.now in
    let line = c.in-Some.line.now in
    let heading = c.in-Some-heading_in.heading in
    let cursor : Cursor = record { at = length c.in-Some.line.now + 1; number = 2 } in
    let is : Some c.in-Some-heading_in.heading ≡ heading_in c.in-Some.line.now = sym c.in-Some-heading_in.is ∙ c.heading_in.ensures in
    let own = c.as_slice-objects.ensures ∙ ap (λ (p : Plan). p.objects) c.requires.plan in
    let fault = headed f c.args.text.now line heading cursor c.as_slice-objects.result.now c.in_ok-subject.subject (fault_found c.in_ok-found.found) c.in-Some.ensures.value is refl refl own c.in_ok-subject.ensures.value c.in_ok-found.ensures.fault in
    shows f c.args.text.now line _ heading c.as_slice-objects.result.now c.in_ok-subject.subject c.in_ok-found.found c.in-Some.ensures.value is own c.in_ok-subject.ensures.value fault c.in_ok-found.ensures.finds
