use Rattle.std.proofs.Common.{◌≡◌, ◌∙◌, ℕ, length, inr, refl, sym, ap, subst}
use Rattle.nf_base.specs.Functions.{function_of}
use Rattle.run_history.specs.declared.line.Mode.{Mode}
use Rattle.stream_run.specs.Writing.{AreFronts}
use Rattle.lock_mode.specs.Gates.{Rose}
use Rattle.locked_run.specs.Handled.{joined}
use Rattle.locked_run.specs.Going.{mode_of, AreSettled, AreWhole}
use Rattle.locked_run.proofs.Finishing.{settled_of, halted_none}
use Rattle.locked_run.proofs.running.settle.Goals as goal

pub returns-in-Err-clause-settles : goal.returns-in-Err-clause-settles
returns-in-Err-clause-settles g c =
    halted_none (function_of c.args.func.now) c.args.workers c.args.card c.args.format (Rose (g.G.Gate.refused c.args.gate.now) (g.G.Gate.refused c.work.new.gate)) (length c.args.func.now.handlers) c.args.batch.now (g.F.Files.told c.args.files.now) c.args.targets.now c.requires.fresh.empty

pub returns-in-Ok-write-clause-settles : goal.returns-in-Ok-write-clause-settles
returns-in-Ok-write-clause-settles g c =
    let f = function_of c.args.func.now in
    let workers = c.args.workers in
    let Refused = Rose (g.G.Gate.refused c.args.gate.now) (g.G.Gate.refused c.work.new.gate) in
    let batch = c.args.batch.now in
    let worked = c.in-Ok.worked in
    let hs = joined batch worked.order worked.places.items in
    let mode : c.mode_of-mode.result ≡ mode_of worked.workers workers = c.mode_of-mode.ensures ∙ ap (mode_of worked.workers) c.get.ensures.value in
    record {
      hs = hs;
      are = subst (λ (m : Mode). AreSettled f m workers Refused batch hs worked.state) (sym mode)
          (settled_of f workers Refused batch worked.order worked.places.items worked.state worked.workers c.requires.several c.in-Ok.ensures.handled c.in-Ok.ensures.as_many);
      wholes = subst (λ (n : ℕ). AreWhole c.mode_of-mode.result workers c.args.card c.args.format n hs (g.F.Files.told c.write.new.files) c.args.targets.now) c.len-ports.ensures.value c.in-Ok-write.ensures.written;
    }

pub returns-in-Err-write-clause-settles : goal.returns-in-Err-write-clause-settles
returns-in-Err-write-clause-settles g c =
    let f = function_of c.args.func.now in
    let workers = c.args.workers in
    let Refused = Rose (g.G.Gate.refused c.args.gate.now) (g.G.Gate.refused c.work.new.gate) in
    let batch = c.args.batch.now in
    let worked = c.in-Ok.worked in
    let hs = joined batch worked.order worked.places.items in
    let mode : c.mode_of-mode.result ≡ mode_of worked.workers workers = c.mode_of-mode.ensures ∙ ap (mode_of worked.workers) c.get.ensures.value in
    record {
      mode = c.mode_of-mode.result;
      given = batch;
      hs = hs;
      state = worked.state;
      some = inr refl;
      are = subst (λ (m : Mode). AreSettled f m workers Refused batch hs worked.state) (sym mode)
          (settled_of f workers Refused batch worked.order worked.places.items worked.state worked.workers c.requires.several c.in-Ok.ensures.handled c.in-Ok.ensures.as_many);
      fronts = subst (λ (n : ℕ). AreFronts c.mode_of-mode.result workers c.args.card c.args.format n hs (g.F.Files.told c.write.new.files) c.args.targets.now) c.len-ports.ensures.value c.in-Err-write.ensures.written;
    }
