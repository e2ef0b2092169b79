use Rattle.std.proofs.Common.{◌+◌, ◌∙◌, ℕ, List, slice_get, ap, sym, subst}
use Rattle.nf_files.specs.declared.kind.Kind.TheVariants.{Input}
use Rattle.call_base.specs.Names.{name_at, created_by}
use Rattle.call_base.specs.Opened.{AreSomeCreated, AsksSome}
use Rattle.call_base.specs.Outside.{seen}
use Rattle.lock_mode.specs.Gates.{Rose}
use Rattle.run_call.specs.Progress.{asked}
use Rattle.run_call.proofs.Beginning.{halted}
use Rattle.run_call.proofs.Workers.{uncreated, is_ready}
use Rattle.run_call.proofs.Last.{captures_last}
use Rattle.run_call.proofs.running.run_fed.Goals as goal

pub create_targets-requires-clause-last : goal.create_targets-requires-clause-last
create_targets-requires-clause-last g c =
    let now = seen (g.F.Files.told c.args.files.now) (g.F.Files.counted c.args.files.now) in
    let requires = c.requires.1.1.1.1.1.1.1.1.1.1.1 in
    captures_last g.before now c.args.job.now c.args.captures.now c.args.feed.now requires.0 requires.1.1

pub returns-in-Err : goal.returns-in-Err
returns-in-Err g c =
    let told = g.F.Files.told in
    let counted = g.F.Files.counted in
    let job = c.args.job.now in
    let ports = c.requires.1.1.1.1.1.1.1.1.1.1.1.0.ports in
    let a = seen (told c.args.files.now) (counted c.args.files.now) in
    let b = seen (told c.create_targets.new.files) (counted c.create_targets.new.files) in
    record {
      runs = halted g.before b job c.in-Err.stop c.halt.result c.requires.1.1.1.1.1.1.1.1.1.1.1.0 c.halt.ensures
          (uncreated (Rose (g.L.Gate.refused c.args.gate.now) (g.L.Gate.refused c.args.gate.now)) g.before a b job c.args.captures.now c.args.feed.now c.in-Err.stop c.requires.1.1.1.1.1.1.1.1.1.1.1.0 c.requires.1.1.1.1.1.1.1.1.1.1.1.1.1
          (subst (λ (p : ℕ). AreSomeCreated a.told b.told (name_at (asked job).format (asked job).out p) (p + 1) c.in-Err.stop) ports c.in-Err.ensures.some)
          (subst (λ (p : ℕ). AsksSome (created_by (asked job).format (asked job).out p (p + 1)) a.counted b.counted c.in-Err.stop) ports c.in-Err.ensures.cause));
    }

pub run_ready-requires : goal.run_ready-requires
run_ready-requires g c κs within =
    let job = c.args.job.now in
    let a = seen (g.F.Files.told c.args.files.now) (g.F.Files.counted c.args.files.now) in
    let b = seen (g.F.Files.told c.create_targets.new.files) (g.F.Files.counted c.create_targets.new.files) in
    let requires = c.requires.1.1.1.1.1.1.1.1.1.1.1 in (
      within.0,
      (
        within.1.0,
        (
          within.1.1.0,
          (
            within.1.1.1,
            (
              c.requires.1.1.1.1.0,
              (
                c.requires.1.1.1.1.1.0,
                (
                  c.requires.1.1.1.1.1.1.0,
                  (
                    c.requires.1.1.1.1.1.1.1.0,
                    (
                      c.requires.1.1.1.1.1.1.1.1.0,
                      (
                        c.requires.1.1.1.1.1.1.1.1.1.0,
                        (
                          c.requires.1.1.1.1.1.1.1.1.1.1.0,
                          (
                            requires.0,
                            (
                              λ p f e. c.in-Ok.ensures.created.created.kinds f Input (requires.1.0 p f e),
                              (
                                λ p f e. c.in-Ok.ensures.writable p f (ap (λ (fs : List ℕ). slice_get fs p) (sym c.as_slice-targets.ensures.value) ∙ e),
                                is_ready g.before a b job c.args.captures.now c.as_slice-targets.result.now c.in-Ok.targets.items c.args.feed.now requires.0 requires.1.1 c.as_slice-targets.ensures.value c.in-Ok.ensures.created c.in-Ok.ensures.cause,
                              ),
                            ),
                          ),
                        ),
                      ),
                    ),
                  ),
                ),
              ),
            ),
          ),
        ),
      ),
    )
