use Rattle.std.proofs.Common.{sym, subst}
use Rattle.std.proofs.lemmas.Result.{IfOk-weaker}
use Rattle.nf_base.specs.Functions.{function_of}
use Rattle.key_synth.specs.declared.verdict.Verdict.{Verdict}
use Rattle.key_synth.specs.Verdicts.{IsVerdict}
use Rattle.key_certificate.specs.Plain.{heading_for, AreRightBehind}
use Rattle.key_certificate.proofs.Final.{sharded_count, sharded_refuted, sharded_right, locked_refuted, locked_right}
use Rattle.key_certificate.proofs.plain.lines_behind.Goals as goal

pub sharded_lines-requires-clause-count : goal.sharded_lines-requires-clause-count
sharded_lines-requires-clause-count c =
    let f = function_of c.args.func.now in
    let is = subst (λ (v : Verdict). IsVerdict (function_of c.args.func.now) c.args.card v) c.in-Sharded.is c.requires.verdict in
    sharded_count f c.args.card c.args.subject.now c.in-Sharded.keys c.requires.subject is

pub sharded_lines-requires-clause-refuted : goal.sharded_lines-requires-clause-refuted
sharded_lines-requires-clause-refuted c =
    let f = function_of c.args.func.now in
    let ground = c.args.ground.now in
    let is = subst (λ (v : Verdict). IsVerdict (function_of c.args.func.now) c.args.card v) c.in-Sharded.is c.requires.verdict in
    sharded_refuted f c.args.card c.args.subject.now ground.rows ground.spans c.in-Sharded.keys c.requires.subject c.requires.ground is

pub locked_lines-requires-clause-refuted : goal.locked_lines-requires-clause-refuted
locked_lines-requires-clause-refuted c =
    let f = function_of c.args.func.now in
    let ground = c.args.ground.now in
    let is = subst (λ (v : Verdict). IsVerdict (function_of c.args.func.now) c.args.card v) c.in-Locked.is c.requires.verdict in
    locked_refuted f c.args.card c.args.subject.now ground.rows ground.spans c.in-Locked._cause c.requires.subject c.requires.ground is

pub returns-in-Sharded : goal.returns-in-Sharded
returns-in-Sharded c =
    let f = function_of c.args.func.now in
    let ground = c.args.ground.now in
    let is = subst (λ (v : Verdict). IsVerdict (function_of c.args.func.now) c.args.card v) c.in-Sharded.is c.requires.verdict in
    IfOk-weaker c.sharded_lines.result _ _
    (λ lines leads. subst (λ (v : Verdict). AreRightBehind (function_of c.args.func.now) (heading_for c.args.card v) c.args.ground.now.rows lines.items) (sym c.in-Sharded.is)
    (sharded_right f c.args.card c.args.subject.now ground.table ground.rows ground.spans c.in-Sharded.keys lines.items c.requires.subject c.requires.few c.requires.table c.requires.ground is leads))
    c.sharded_lines.ensures

pub returns-in-Locked : goal.returns-in-Locked
returns-in-Locked c =
    let f = function_of c.args.func.now in
    let ground = c.args.ground.now in
    IfOk-weaker c.locked_lines.result _ _
    (λ lines leads. subst (λ (v : Verdict). AreRightBehind (function_of c.args.func.now) (heading_for c.args.card v) c.args.ground.now.rows lines.items) (sym c.in-Locked.is)
    (locked_right f c.args.card c.args.subject.now ground.table ground.rows ground.spans c.in-Locked._cause lines.items c.requires.subject c.requires.few c.requires.table c.requires.ground leads))
    c.locked_lines.ensures
