use Rattle.std.proofs.Common.{◌≡◌, ◌∙◌, drop, sym, arith}
use Rattle.std.proofs.lemmas.List.{length-drop}
use Rattle.pcapng_file.proofs.Options.{option_short}
use Rattle.pcapng_file.proofs.resolution.resolution_in.Goals as goal

pub returns : goal.returns
returns c =
    let left = drop c.loop-at.at c.args.options.now in
    sym (c.loop-at.invariant.same ∙ option_short c.args.order left (omega (arith, length-drop c.loop-at.at c.args.options.now)))
