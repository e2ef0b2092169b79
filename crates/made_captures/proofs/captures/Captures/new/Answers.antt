use Rattle.std.proofs.Common.{◌∙◌, ◌+◌, ◌∷◌, [], length, ap, arith}
use Rattle.std.proofs.lemmas.List.{length-append}
use Rattle.gen_traffic.specs.Traffic.{Recipe}
use Rattle.made_captures.proofs.Wholes.{captures_more}
use Rattle.made_captures.proofs.captures.Captures.new.Goals as goal

pub loop-port-preserved : goal.loop-port-preserved
loop-port-preserved c =
    let r : Recipe = record { seed = c.args.seed; count = c.args.count; flows = c.args.flows; ports = c.args.ports } in
    let inv = c.loop-port.invariant in
    record {
      made = captures_more r c.loop-port.port c.loop-port.captures c.push.new.self c.new.result inv.made c.new.ensures c.in_ok-push.ensures.ok;
      long = ap length c.in_ok-push.ensures.ok ∙ length-append c.loop-port.captures (c.new.result ∷ []) ∙ ap (λ n. n + 1) inv.long;
      within = omega (arith, c.loop-port-test.true);
    }
