use Rattle.std.proofs.Common.{Bool, true, false, IsTrue, ◌≡◌, inl, refl, sym, subst, length}
use Rattle.nf_base.specs.Functions.{function_of}
use Rattle.run_history.specs.declared.line.Mode.{Mode}
use Rattle.replay_run.specs.Queues.{lent, IsKeyedBy}
use Rattle.replay_run.specs.Turns.{beside_of}
use Rattle.replay_run.proofs.Heads.{headed}
use Rattle.replay_run.proofs.replaying.replay.Goals as goal

not_both : (b : Bool) → IsTrue b → b ≡ false → ⊥
not_both true t e = cc
not_both false t e = cc

pub returns-then-not-is_keyed-clause-comes : goal.returns-then-not-is_keyed-clause-comes
returns-then-not-is_keyed-clause-comes g c = λ start bytes b. inl (record {
  first = refl;
  none = λ keyed.
      not_both c.is_keyed.result (c.is_keyed.ensures.1 (subst (λ (m : Mode). IsKeyedBy m (lent c.args.keys)) (sym c.mode.ensures.value) keyed)) c.if-not-is_keyed.true;
})

pub returns-clause-comes : goal.returns-clause-comes
returns-clause-comes g c = λ start bytes b.
    let keys = lent c.args.keys in
    let beside = beside_of c.args.format c.args.feed.now start bytes c.args.outputs.now (g.F.Files.told c.args.files.now) c.args.most in
    let keyed = subst (λ (m : Mode). IsKeyedBy m keys) c.mode.ensures.value (c.is_keyed.ensures.0 c.if-not-is_keyed.false) in
    headed (function_of c.args.func.now) keys c.args.begun.header (length c.args.captures.now) beside c.replay_with.result c.mode.ensures.heading keyed (c.replay_with.ensures.replays start bytes b)
