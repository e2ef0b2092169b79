use Rattle.std.proofs.Common.{subst}
use Rattle.command_words.specs.View as view
use Rattle.call_base.specs.Outside.{Outside, seen}
use Rattle.call_base.specs.Reading.{HasFound}
use Rattle.call_base.proofs.Reading.{has_found}
use Rattle.lock_mode.specs.Gates.{Rose}
use Rattle.gen_call.proofs.Beginning.{none_since}
use Rattle.gen_call.proofs.running.generate.Goals as goal

pub run_found-requires : goal.run_found-requires
run_found-requires g c κs within =
    let told = g.F.Files.told in
    let counted = g.F.Files.counted in
    let requires = c.requires.1.1.1.1.1.1.1.1.1.1.1 in (
      within.0,
      (
        within.1.0,
        (
          within.1.1.0,
          (
            within.1.1.1,
            (
              c.requires.1.1.1.1.0,
              (
                c.requires.1.1.1.1.1.0,
                (
                  c.requires.1.1.1.1.1.1.0,
                  (
                    c.requires.1.1.1.1.1.1.1.0,
                    (
                      c.requires.1.1.1.1.1.1.1.1.0,
                      (
                        c.requires.1.1.1.1.1.1.1.1.1.0,
                        (
                          c.requires.1.1.1.1.1.1.1.1.1.1.0,
                          (
                            requires.1,
                            (let name = (view.gen c.args.command.now).function in
                                let a = seen (told c.args.files.now) (counted c.args.files.now) in
                                let now = seen (told c.read_function.new.files) (counted c.read_function.new.files) in
                                subst (λ (o : Outside). HasFound name o now c.in-Ok.found) requires.0 (has_found name a now c.in-Ok.found c.in-Ok.ensures.finds c.in-Ok.ensures.next c.read_function.ensures.untouched c.in-Ok.ensures.cause)),
                          ),
                        ),
                      ),
                    ),
                  ),
                ),
              ),
            ),
          ),
        ),
      ),
    )

pub returns-in-Err : goal.returns-in-Err
returns-in-Err g c =
    let told = g.F.Files.told in
    let counted = g.F.Files.counted in
    let count = g.G.Gate.refused c.args.gate.now in
    record {
      gens = none_since (view.gen c.args.command.now) (Rose count count) (seen (told c.args.files.now) (counted c.args.files.now)) g.before (seen (told c.read_function.new.files) (counted c.read_function.new.files)) c.in-Err.none c.halt.result c.requires.1.1.1.1.1.1.1.1.1.1.1.0 c.halt.ensures
          c.read_function.ensures.untouched c.in-Err.ensures.finds c.in-Err.ensures.cause;
    }
