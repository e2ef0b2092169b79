use Rattle.std.proofs.Common.{◌≡◌, false, sym, arith}
use Rattle.access_keys.specs.Together.{new_seen, alike}
use Rattle.access_keys.proofs.Steps.{all_false}
use Rattle.access_keys.proofs.creation.are_together.Goals as goal

pub returns-then-not-is_alike : goal.returns-then-not-is_alike
returns-then-not-is_alike c =
    let t = alike c.args.chain c.args.label c.args.other in
    let fails : t (new_seen c.one-item.result) ≡ false = cc in
    sym (all_false t new_seen c.args.all.now c.loop-one.one-index c.one-item.result (omega arith) c.one-item.is fails)
