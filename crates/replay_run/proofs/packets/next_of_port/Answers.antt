use Rattle.std.proofs.Common.{ℕ, List, length, sym, ap, arith}
use Rattle.replay_run.proofs.Fetching.{no_port, past_ports, fetched, counted}
use Rattle.replay_run.proofs.packets.next_of_port.Goals as goal

pub returns-in-None-clause-fetches : goal.returns-in-None-clause-fetches
returns-in-None-clause-fetches g c = λ start given h port e. absurd (no_port c.args.line.now port (sym c.in-None.ensures) e)

pub returns-then-port-captures-clause-fetches : goal.returns-then-port-captures-clause-fetches
returns-then-port-captures-clause-fetches g c = λ start given h port e.
    past_ports c.args.feed.now start given (g.F.Files.told c.args.files.now) c.in-Some.port port c.args.line.now (sym c.in-Some.ensures) e
    (omega (arith, c.if-port-captures.true, ap (λ (fs : List ℕ). length fs) c.requires.captures.files)) h

pub returns-in-Ok-clause-fetches : goal.returns-in-Ok-clause-fetches
returns-in-Ok-clause-fetches g c =
    let told = g.F.Files.told in
    fetched c.in-Some.port c.args.line.now c.args.feed.now c.next_at.new.self (told c.args.files.now) (told c.next_at.new.files) c.in-Ok.next (sym c.in-Some.ensures) c.next_at.ensures.same.files c.next_at.ensures.same.six c.in-Ok.ensures.counts c.in-Ok.ensures.feeds

pub returns-in-Ok-clause-counts : goal.returns-in-Ok-clause-counts
returns-in-Ok-clause-counts g c = counted c.in-Some.port c.args.feed.now c.next_at.new.self c.in-Ok.next c.in-Ok.ensures.counts
