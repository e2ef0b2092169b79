use Rattle.nf_base.specs.Functions.{function_of}
use Rattle.command_words.specs.View as view
use Rattle.call_base.specs.Outside.{seen}
use Rattle.prove_call.proofs.Declared.{declares}
use Rattle.prove_call.proofs.Outcomes.{proved, unproved}
use Rattle.prove_call.proofs.proving.prove_keys.Goals as goal

pub prove_under-requires-clause-declares : goal.prove_under-requires-clause-declares
prove_under-requires-clause-declares g c = declares _ _ (function_of c.in-Ok.found.source.func) c.in-Ok.ensures.finds.is_function

pub returns-in-Ok-prove_under : goal.returns-in-Ok-prove_under
returns-in-Ok-prove_under g c =
    let told = g.F.Files.told in
    let counted = g.F.Files.counted in
    let a = seen (told c.args.files.now) (counted c.args.files.now) in
    let b = seen (told c.read_function.new.files) (counted c.read_function.new.files) in
    let d = seen (told c.prove_under.new.files) (counted c.prove_under.new.files) in
    proved (view.prove c.args.command.now) a b d (function_of c.in-Ok.found.source.func) c.in-Ok.ensures.finds.is_function c.in-Ok.ensures.untouched c.in-Ok.ensures.next c.in-Ok.ensures.cause c.in-Ok-prove_under.ensures

pub returns-in-Ok : goal.returns-in-Ok
returns-in-Ok g c =
    let told = g.F.Files.told in
    let counted = g.F.Files.counted in
    let a = seen (told c.args.files.now) (counted c.args.files.now) in
    let b = seen (told c.read_function.new.files) (counted c.read_function.new.files) in
    let d = seen (told c.prove_under.new.files) (counted c.prove_under.new.files) in
    unproved (Unit {0}) (view.prove c.args.command.now) a b d (function_of c.in-Ok.found.source.func) c.in-Err-prove_under.stop c.in-Ok.ensures.finds.is_function c.in-Ok.ensures.untouched c.in-Ok.ensures.next c.in-Ok.ensures.cause
    c.in-Err-prove_under.ensures
