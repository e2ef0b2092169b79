use Rattle.std.proofs.Common.{◌≡◌, ◌+◌, length, arith}
use Rattle.std.proofs.lemmas.Bool.Decides.{nat_tests}
use Rattle.nf_base.specs.Functions.{function_of}
use Rattle.lock_mode.proofs.Absorbing.{ran_on}
use Rattle.lock_mode.proofs.table_copy.TableCopyAbsorbOp.absorb_first.Goals as goal

pub invariant_of-self : goal.invariant_of-self
invariant_of-self g c =
    let mine = c.self.inside.prefix in
    let theirs = c.op.inside.prefix in
    let long : length theirs ≡ length mine + 1 = grind (arith, nat_tests) in
    let replayed = c.replay-done.ensures in
    let both = c.longer-both.ensures in
    record {
      same = c.self.invariant.same;
      ran = λ whole. ran_on c.replay-done.result (function_of c.self.inside.func) g.J.Naming.function c.self.inside.tables c.replay-done.new.tables mine theirs c.longer-both.result c.op.inside.entry c.op.invariant c.self.invariant.same (c.self.invariant.ran whole)
          replayed.done replayed.whole replayed.stays both.this both.that both.one long;
    }
