use Rattle.std.proofs.Common.{refl, sym, arith}
use Rattle.std.proofs.lemmas.List.{length-map}
use Rattle.nf_base.specs.Functions.{function_of}
use Rattle.nf_base.specs.Handlers.{blocks_of}
use Rattle.command_words.specs.View as view
use Rattle.call_base.specs.Outside.{seen}
use Rattle.lock_mode.specs.Gates.{Rose}
use Rattle.gen_call.proofs.Beginning.{is_unserved}
use Rattle.gen_call.proofs.Ports.{few_ports}
use Rattle.gen_call.proofs.running.run_found.Goals as goal

pub returns-in-Err : goal.returns-in-Err
returns-in-Err g c =
    let now = seen (g.F.Files.told c.args.files.now) (g.F.Files.counted c.args.files.now) in
    let count = g.G.Gate.refused c.args.gate.now in
    record { gens = is_unserved (view.gen c.args.command.now) (Rose count count) g.before now c.args.found.now c.in-Err.halt c.requires.1.1.1.1.1.1.1.1.1.1.1.1 c.in-Err.ensures.serves }

pub run_served-requires : goal.run_served-requires
run_served-requires g c κs within =
    let requires = c.requires.1.1.1.1.1.1.1.1.1.1.1 in
    let asked = view.gen c.args.command.now in
    let found = requires.1 in
    let func = c.args.found.now.source.func in
    let ports = few_ports g.before.told asked.function (function_of func) found.is_function in
    let handlers = length-map func.handlers blocks_of in (
      within.0,
      (
        within.1.0,
        (
          within.1.1.0,
          (
            within.1.1.1,
            (
              c.requires.1.1.1.1.0,
              (
                c.requires.1.1.1.1.1.0,
                (
                  c.requires.1.1.1.1.1.1.0,
                  (
                    c.requires.1.1.1.1.1.1.1.0,
                    (
                      c.requires.1.1.1.1.1.1.1.1.0,
                      (
                        c.requires.1.1.1.1.1.1.1.1.1.0,
                        (
                          c.requires.1.1.1.1.1.1.1.1.1.1.0,
                          (
                            record {
                              is_function = found.is_function;
                              handlers = sym c.len.ensures.value;
                              first = found.number;
                              captures = refl;
                              behind = refl;
                              from_two = found.from_two;
                              some = omega (arith, c.len.ensures.value, ports.some, handlers);
                              few = omega (arith, c.len.ensures.value, ports.few, handlers);
                            },
                            (requires.0, (c.in-Ok.ensures.serves.0, (c.in-Ok.ensures.serves.1, (found.next, found.only)))),
                          ),
                        ),
                      ),
                    ),
                  ),
                ),
              ),
            ),
          ),
        ),
      ),
    )
