use Rattle.std.proofs.Common.{◌≡◌, ◌≤◌, ◌+◌, ◌∙◌, ℕ, List, Vec, Global, length, map, take, refl, ap, sym, subst, arith}
use Rattle.packet_feed.specs.Arrivals.{packet_of}
use Rattle.locked_run.specs.declared.chunk.Chunk.{Chunk}
use Rattle.stream_run.proofs.Held.{but_both}
use Rattle.locked_run.specs.Handled.{joined}
use Rattle.locked_run.specs.Going.{AreWhole}
use Rattle.locked_run.specs.Rounds.{step_of, AreReady}
use Rattle.locked_run.proofs.Joining.{places_long, joined_long}
use Rattle.locked_run.proofs.Rounding.{rounds_own, rounds_then, rounds_begun, begun, writes_last}
use Rattle.locked_run.proofs.rounds.Rounds.write_all.Goals as goal

pub rounds-init : goal.rounds-init
rounds-init g c =
    let old = c.args.self.now in
    let b = c.begin.new.self in
    let all = joined c.args.batch.now c.args.worked.now.order c.args.worked.now.places.items in
    let left = ap (λ (v : Vec Chunk Global). v.items) c.begin.ensures.next in
    record {
      on = λ mode workers card format idle whole. (whole, begun format c.args.ports all old b c.begin.ensures.filled left c.begin.ensures.size idle);
      rounds = rounds_begun c.args.targets.now c.args.ports all old b c.requires.rounds c.begin.ensures.filled left c.begin.ensures.size;
      within = omega arith;
      kept = record {
        current = λ n file all k. k;
        givens = λ k others. refl;
        names = λ k. refl;
        kinds = λ k. refl;
        contents = λ n others. refl;
        latest_same = λ n. refl;
        next_same = refl;
      };
      count = refl;
    }

pub turn-requires-clause-rounds : goal.turn-requires-clause-rounds
turn-requires-clause-rounds g c κs within = rounds_own c.args.targets.now (step_of c.args.self.now) c.rounds.self c.rounds.invariant.rounds

pub rounds-smaller : goal.rounds-smaller
rounds-smaller g c =
    let test = c.rounds-test.true in
    let some = c.requires.rounds.some in
    let step = c.step-step.ensures in
    let value = ap (λ (t : List ℕ). length t) c.as_slice-places.ensures.value in
    omega (arith, test, some, step, value)

pub rounds-preserved : goal.rounds-preserved
rounds-preserved g c =
    let told = g.F.Files.told in
    let targets = c.args.targets.now in
    let inv = c.rounds.invariant in
    let from = c.rounds.from in
    let ports = c.args.ports in
    let all = joined c.args.batch.now c.args.worked.now.order c.args.worked.now.places.items in
    let t = c.turn.new in
    let step : step_of c.rounds.self ≡ c.step-step.result = inv.rounds.step_is ∙ sym c.step-step.ensures in
    let value = ap (λ (t : List ℕ). length t) c.as_slice-places.ensures.value in
    record {
      on = λ mode workers card format idle whole.
          let before = inv.on mode workers card format idle whole in
          let r = c.in-Ok.ensures.goes_on mode workers card format before.1 before.0 in (
            subst (λ (n : ℕ). AreWhole mode workers card format ports (take (from + n) all) (told t.files) targets) step r.0,
            subst (λ (n : ℕ). AreReady format ports all (from + n) t.self) step r.1,
          );
      rounds = rounds_then targets (step_of c.args.self.now) (step_of c.rounds.self) t.self inv.rounds.step_is c.turn.ensures.rounds;
      within = (let test = c.rounds-test.true in omega (arith, test, value));
      kept = but_both targets (told c.args.files.now) (told c.rounds.files) (told t.files) inv.kept c.turn.ensures.kept;
      count = c.in-Ok.ensures.cause ∙ inv.count;
    }

pub returns-in-Err-clause-goes_on : goal.returns-in-Err-clause-goes_on
returns-in-Err-clause-goes_on g c = λ mode workers card format idle whole.
    let before = c.rounds.invariant.on mode workers card format idle whole in
    c.in-Err.ensures.goes_on mode workers card format before.1 before.0

pub returns-in-Err-clause-kept : goal.returns-in-Err-clause-kept
returns-in-Err-clause-kept g c =
    let told = g.F.Files.told in
    but_both c.args.targets.now (told c.args.files.now) (told c.rounds.files) (told c.turn.new.files) c.rounds.invariant.kept c.turn.ensures.kept

pub returns-clause-goes_on : goal.returns-clause-goes_on
returns-clause-goes_on g c = λ mode workers card format idle whole.
    let order = c.args.worked.now.order in
    let places = c.args.worked.now.places.items in
    let all = joined c.args.batch.now order places in
    let last = c.rounds.self in
    let from = c.rounds.from in
    let inv = c.rounds.invariant in
    let before = inv.on mode workers card format idle whole in
    let step : step_of last ≡ c.step-step.result = inv.rounds.step_is ∙ sym c.step-step.ensures in
    let long = joined_long c.args.batch.now order places c.requires.at in
    let as_many = places_long (map packet_of c.args.batch.now) order places c.requires.at in
    let value = ap (λ (t : List ℕ). length t) c.as_slice-places.ensures.value in
    let test = c.rounds-test.false in
    let past : length all ≤ from + step_of last = omega (arith, step, long, as_many, value, test) in
    writes_last _ _ mode workers card format c.args.ports all (from + step_of last) (g.F.Files.told c.write_made.new.files) c.args.targets.now c.write_made.new.chunks.items c.write_made.result past
    (c.write_made.ensures.goes_on mode workers card format c.args.ports all from last.size before.1.holds before.0)

pub returns-clause-kept : goal.returns-clause-kept
returns-clause-kept g c =
    let told = g.F.Files.told in
    but_both c.args.targets.now (told c.args.files.now) (told c.rounds.files) (told c.write_made.new.files) c.rounds.invariant.kept c.write_made.ensures.kept
