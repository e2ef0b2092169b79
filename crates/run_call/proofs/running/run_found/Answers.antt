use Rattle.std.proofs.Common.{rules, ◌≡◌, ◌∙◌, length, string_bytes, sym}
use Rattle.std.proofs.lemmas.List.{length-map}
use Rattle.nf_base.specs.Handlers.{blocks_of}
use Rattle.command_words.specs.View as view
use Rattle.call_base.specs.Outside.{seen}
use Rattle.lock_mode.specs.Gates.{Rose}
use Rattle.run_call.proofs.Beginning.{is_unserved}
use Rattle.run_call.proofs.running.run_found.Goals as goal

pub run_served-requires : goal.run_served-requires
run_served-requires g c κs within =
    let requires = c.requires.1.1.1.1.1.1.1.1.1.1.1 in (
      within.0,
      (
        within.1.0,
        (
          within.1.1.0,
          (within.1.1.1, (c.requires.1.1.1.1.0, (c.requires.1.1.1.1.1.0, (c.requires.1.1.1.1.1.1.0, (c.requires.1.1.1.1.1.1.1.0, (c.requires.1.1.1.1.1.1.1.1.0, (c.requires.1.1.1.1.1.1.1.1.1.0, (c.requires.1.1.1.1.1.1.1.1.1.1.0, (requires.0, (requires.1.0, search rules)))))))))),
        ),
      ),
    )

pub returns-in-Err : goal.returns-in-Err
returns-in-Err g c =
    let now = seen (g.F.Files.told c.args.files.now) (g.F.Files.counted c.args.files.now) in
    let raw : length c.args.command.now.captures.items ≡ length c.args.found.now.source.func.handlers = search rules in
    let as_many = length-map c.args.command.now.captures.items string_bytes ∙ raw ∙ sym (length-map c.args.found.now.source.func.handlers blocks_of) in
    record { runs = is_unserved (Rose (g.L.Gate.refused c.args.gate.now) (g.L.Gate.refused c.args.gate.now)) (view.run c.args.command.now) g.before now c.args.found.now c.in-Err.halt c.requires.1.1.1.1.1.1.1.1.1.1.1.1.1 as_many c.in-Err.ensures.serves }
