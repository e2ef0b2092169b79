use Rattle.std.proofs.Common.{ℕ, List, ap, ◌∙◌}
use Rattle.std.proofs.lemmas.Result.{IfOk-weaker}
use Rattle.nf_base.specs.Functions.{function_of}
use Rattle.key_rows.specs.declared.place.Object.{Object}
use Rattle.shard_rules.specs.Served.{own_plan}
use Rattle.certificate_laws.specs.Certificates.{spans_of}
use Rattle.key_certificate.specs.Plain.{heading_for}
use Rattle.key_certificate.proofs.Final.{is_ground, whole_text, same_text, listed_there, all_there}
use Rattle.key_certificate.proofs.plain.plain.Goals as goal

pub lines_behind-requires-clause-ground : goal.lines_behind-requires-clause-ground
lines_behind-requires-clause-ground c =
    let f = function_of c.args.func.now in
    let s = c.args.subject.now in
    let listing = c.in_ok-listing.listing in
    let listed = listed_there s c.len-ports.result c.as_slice.result.now listing c.len-ports.ensures.value c.as_slice.ensures c.in_ok-listing.ensures.listed in
    let all = all_there s c.len-ports.result c.as_slice.result.now listing.rows c.len-ports.ensures.value c.as_slice.ensures c.in_ok-listing.ensures.all in
    let own = c.in_ok-spans.ensures.value ∙ ap (λ (o : List Object). spans_of o c.args.card.table c.len-ports.result) c.requires.objects
    ∙ ap (λ (n : ℕ). spans_of (own_plan (function_of c.args.func.now)).objects c.args.card.table n) c.len-ports.ensures.value in
    is_ground f c.args.card.table s listing c.in_ok-spans.spans c.requires.subject c.requires.few c.requires.numbered listed all own

pub returns : goal.returns
returns c =
    let f = function_of c.args.func.now in
    let s = c.args.subject.now in
    let listing = c.in_ok-listing.listing in
    let lines = c.in_ok-lines.lines.items in
    let h = heading_for c.args.card c.args.verdict.now in
    let listed = listed_there s c.len-ports.result c.as_slice.result.now listing c.len-ports.ensures.value c.as_slice.ensures c.in_ok-listing.ensures.listed in
    IfOk-weaker c.text_of.result _ _
    (λ text is. whole_text f h s listing lines text.items c.requires.subject c.requires.few listed c.in_ok-lines.ensures
    (same_text h c.heading_for-heading.result listing.named c.as_slice-2.result.now lines c.as_slice-3.result.now text.items c.heading_for-heading.ensures c.as_slice-2.ensures c.as_slice-3.ensures.value is))
    c.text_of.ensures
