use Rattle.std.proofs.Common.{◌∙◌, ◌<◌, ◌^◌, length, arith}
use Rattle.std.proofs.lemmas.List.{get_or_default}
use Rattle.std.proofs.lemmas.Option.{get_or_from_slice_get}
use Rattle.nf_base.specs.Functions.{function_of}
use Rattle.nf_files.specs.Told.{IsEmptyIfTold}
use Rattle.lock_mode.specs.Gates.{Rose}
use Rattle.made_captures.specs.Outputs.{counts_right, is_known, journal_of, mark_of}
use Rattle.traffic_run.specs.TrafficSpecs.{asked_for}
use Rattle.made_captures.proofs.KindsBeside.{written_beside, made_is_read}
use Rattle.traffic_run.proofs.Back.{marks_kept, keeps_back, leaves_back, empty_beside, counts_back, known_back}
use Rattle.traffic_run.proofs.running.run_beside.Goals as goal

pub run_over-requires-clause-targets : goal.run_over-requires-clause-targets
run_over-requires-clause-targets g c = λ κs lives.
    let old = c.args.beside.now in
    let told = g.F.Files.told old.files.now in
    let h = c.requires.targets in
    record {
      writable = record {
        created = λ port file at. written_beside old.captures.now (journal_of old.outputs) file told.kind c.requires.low (c.requires.before port file at) (h.writable.created port file at);
        apart = h.writable.apart;
      };
      as_many = h.as_many;
      few = h.few;
      empty = λ k file e. empty_beside (counts_right old.outputs told) told IsEmptyIfTold file c.requires.right (h.empty k file e);
    }

pub run_over-requires-clause-opened : goal.run_over-requires-clause-opened
run_over-requires-clause-opened g c = λ κs lives port file at.
    let old = c.args.beside.now in
    let fits : file < 2 ^ 32 = omega (arith, c.type_inv.captures port, get_or_from_slice_get c.args.captures.now port file 0 at) in
    made_is_read old.captures.now (journal_of old.outputs) file (g.F.Files.told old.files.now).kind fits (c.requires.opened port file at)

pub returns-clause-same_files : goal.returns-clause-same_files
returns-clause-same_files g c =
    let told = g.F.Files.told in
    let counted = g.F.Files.counted in
    let old = c.args.beside.now in
    let new = c.run_over.new.files in
    (marks_kept c.args.targets.now old.captures.now new.captures.now old.files.ghost_name new.files.ghost_name old.outputs new.outputs (told old.files.now) (told new.files.now) (counted old.files.now) (counted new.files.now) c.run_over.ensures.went.kept).which

pub returns-clause-leaves : goal.returns-clause-leaves
returns-clause-leaves g c =
    let told = g.F.Files.told in
    let counted = g.F.Files.counted in
    let old = c.args.beside.now in
    let new = c.run_over.new.files in
    let m = marks_kept c.args.targets.now old.captures.now new.captures.now old.files.ghost_name new.files.ghost_name old.outputs new.outputs (told old.files.now) (told new.files.now) (counted old.files.now) (counted new.files.now) c.run_over.ensures.went.kept in
    let right = counts_right new.outputs (told new.files.now) in
    let known = is_known (journal_of new.outputs) (counted new.files.now).first in
    let Refused = Rose (g.G.Gate.refused c.args.gate.now) (g.G.Gate.refused c.run_over.new.gate) in
    leaves_back c.args.worker_plan.now c.args.asked.now.card c.args.asked.now.format Refused (function_of c.args.func.now) (asked_for c.args.asked.now (length c.args.func.now.handlers)) new.captures.now (mark_of new.files.ghost_name right known new.outputs.first new.outputs.count) (journal_of new.outputs) right (told new.files.now) c.args.targets.now c.run_over.result
    (m.right ∙ c.requires.right) c.run_over.ensures.leaves

pub returns-clause-counts : goal.returns-clause-counts
returns-clause-counts g c =
    let told = g.F.Files.told in
    let counted = g.F.Files.counted in
    let old = c.args.beside.now in
    let new = c.run_over.new.files in
    let m = marks_kept c.args.targets.now old.captures.now new.captures.now old.files.ghost_name new.files.ghost_name old.outputs new.outputs (told old.files.now) (told new.files.now) (counted old.files.now) (counted new.files.now) c.run_over.ensures.went.kept in
    counts_back old.outputs new.outputs (told new.files.now) m.first m.count (m.right ∙ c.requires.right)

pub returns-clause-known : goal.returns-clause-known
returns-clause-known g c =
    let told = g.F.Files.told in
    let counted = g.F.Files.counted in
    let old = c.args.beside.now in
    let new = c.run_over.new.files in
    let m = marks_kept c.args.targets.now old.captures.now new.captures.now old.files.ghost_name new.files.ghost_name old.outputs new.outputs (told old.files.now) (told new.files.now) (counted old.files.now) (counted new.files.now) c.run_over.ensures.went.kept in
    known_back old.outputs new.outputs (counted old.files.now) (counted new.files.now) m.first m.count m.known

pub returns-clause-went : goal.returns-clause-went
returns-clause-went g c =
    let told = g.F.Files.told in
    let counted = g.F.Files.counted in
    let old = c.args.beside.now in
    let new = c.run_over.new.files in
    let m = marks_kept c.args.targets.now old.captures.now new.captures.now old.files.ghost_name new.files.ghost_name old.outputs new.outputs (told old.files.now) (told new.files.now) (counted old.files.now) (counted new.files.now) c.run_over.ensures.went.kept in
    let r = counts_right old.outputs (told old.files.now) in
    let s = counts_right new.outputs (told new.files.now) in
    let p = is_known (journal_of old.outputs) (counted old.files.now).first in
    let q = is_known (journal_of new.outputs) (counted new.files.now).first in
    record {
      kept = keeps_back c.args.targets.now old.captures.now new.captures.now (mark_of old.files.ghost_name r p old.outputs.first old.outputs.count) (mark_of new.files.ghost_name s q new.outputs.first new.outputs.count) (journal_of old.outputs) (journal_of new.outputs) r s (told old.files.now) (told new.files.now)
          c.requires.right (m.right ∙ c.requires.right) (λ i d lt. omega (arith, c.type_inv.targets i, get_or_default c.args.targets.now i d 0 lt)) c.run_over.ensures.went.kept;
      cause = c.run_over.ensures.went.cause;
      among = c.run_over.ensures.went.among;
    }
