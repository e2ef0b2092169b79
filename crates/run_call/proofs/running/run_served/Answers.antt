use Rattle.std.proofs.Common.{◌∙◌, string_bytes, refl, sym, arith}
use Rattle.std.proofs.lemmas.List.{length-map}
use Rattle.nf_base.specs.Functions.{function_of}
use Rattle.nf_base.specs.Handlers.{blocks_of}
use Rattle.command_words.specs.View as view
use Rattle.run_call.proofs.Beginning.{keyed_by}
use Rattle.run_call.proofs.running.run_served.Goals as goal

pub run_job-requires : goal.run_job-requires
run_job-requires g c κs within =
    let requires = c.requires.1.1.1.1.1.1.1.1.1.1.1 in
    let asked = view.run c.args.command.now in
    let found = requires.1.1.1.1 in
    let names = length-map c.args.command.now.captures.items string_bytes in
    let as_many = names ∙ requires.1.1.0 in (
      within.0,
      (
        within.1.0,
        (
          within.1.1.0,
          (
            within.1.1.1,
            (
              c.requires.1.1.1.1.0,
              (
                c.requires.1.1.1.1.1.0,
                (
                  c.requires.1.1.1.1.1.1.0,
                  (
                    c.requires.1.1.1.1.1.1.1.0,
                    (
                      c.requires.1.1.1.1.1.1.1.1.0,
                      (
                        c.requires.1.1.1.1.1.1.1.1.1.0,
                        (
                          c.requires.1.1.1.1.1.1.1.1.1.1.0,
                          (
                            record {
                              has_ports = record {
                                is_function = found.is_function;
                                as_many = as_many ∙ sym (length-map c.args.found.now.source.func.handlers blocks_of);
                                keyed = λ needs. keyed_by asked (function_of c.args.found.now.source.func) c.args.worker_plan.now requires.1.1.1.0 needs;
                              };
                              worker_plan = requires.1.1.1.0;
                              handlers = sym c.len-ports.ensures.value;
                              captures = refl;
                              behind = refl;
                              first = found.number;
                              from_two = found.from_two;
                              ports = c.len-ports.ensures.value ∙ sym as_many;
                              some = omega (arith, c.len-ports.ensures.value, requires.0, requires.1.1.0);
                              few = omega (arith, c.len-ports.ensures.value, requires.1.0, requires.1.1.0);
                            },
                            (found.next, found.only),
                          ),
                        ),
                      ),
                    ),
                  ),
                ),
              ),
            ),
          ),
        ),
      ),
    )
