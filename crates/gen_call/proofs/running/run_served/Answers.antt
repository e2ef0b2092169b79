use Rattle.std.proofs.Common.{◌+◌, ◌∙◌, ℕ, List, ap, sym, subst, slice_get}
use Rattle.call_base.specs.Names.{name_at}
use Rattle.call_base.specs.Opened.{AreAllCreated}
use Rattle.call_base.specs.Outside.{seen}
use Rattle.gen_call.specs.Progress.{Since, asked}
use Rattle.gen_call.proofs.Finishing.{halted}
use Rattle.gen_call.proofs.Workers.{uncreated}
use Rattle.gen_call.proofs.running.run_served.Goals as goal

pub returns-in-Err : goal.returns-in-Err
returns-in-Err g c =
    let told = g.F.Files.told in
    let counted = g.F.Files.counted in
    let requires = c.requires.1.1.1.1.1.1.1.1.1.1.1 in
    let job = c.args.job.now in
    let since : Since = record { before = g.before; was = g.G.Gate.refused c.args.gate.now; is = g.G.Gate.refused c.args.gate.now } in
    let a = seen (told c.args.files.now) (counted c.args.files.now) in
    let b = seen (told c.create_targets.new.files) (counted c.create_targets.new.files) in
    let stopped = uncreated since a b job c.args.worker_plan.now c.in-Err.stop requires.0 requires.1.1.1.1.0 requires.1.1.1.1.1 requires.1.1.0 c.in-Err.ensures.some c.in-Err.ensures.cause in
    record { gens = halted since b job c.in-Err.stop c.halt.result requires.0 c.halt.ensures stopped }

pub run_created-requires : goal.run_created-requires
run_created-requires g c κs within =
    let told = g.F.Files.told in
    let counted = g.F.Files.counted in
    let requires = c.requires.1.1.1.1.1.1.1.1.1.1.1 in
    let job = c.args.job.now in
    let a = seen (told c.args.files.now) (counted c.args.files.now) in
    let b = seen (told c.create_targets.new.files) (counted c.create_targets.new.files) in
    let ports = job.layout.ports in (
      within.0,
      (
        within.1.0,
        (
          within.1.1.0,
          (
            within.1.1.1,
            (
              c.requires.1.1.1.1.0,
              (
                c.requires.1.1.1.1.1.0,
                (
                  c.requires.1.1.1.1.1.1.0,
                  (
                    c.requires.1.1.1.1.1.1.1.0,
                    (
                      c.requires.1.1.1.1.1.1.1.1.0,
                      (
                        c.requires.1.1.1.1.1.1.1.1.1.0,
                        (
                          c.requires.1.1.1.1.1.1.1.1.1.1.0,
                          (
                            requires.0,
                            (
                              requires.1.0,
                              (
                                requires.1.1.0,
                                (
                                  requires.1.1.1.0,
                                  (
                                    λ p f e. c.in-Ok.ensures.writable p f (ap (λ (fs : List ℕ). slice_get fs p) (sym c.as_slice.ensures.value) ∙ e),
                                    record {
                                      old = a;
                                      next = requires.1.1.1.1.0;
                                      only = requires.1.1.1.1.1;
                                      created = subst (λ (fs : List ℕ). AreAllCreated a.told b.told (name_at (asked job).format (asked job).out ports) fs (ports + 1)) (sym c.as_slice.ensures.value) c.in-Ok.ensures.created;
                                      asked_for = c.in-Ok.ensures.cause;
                                    },
                                  ),
                                ),
                              ),
                            ),
                          ),
                        ),
                      ),
                    ),
                  ),
                ),
              ),
            ),
          ),
        ),
      ),
    )
