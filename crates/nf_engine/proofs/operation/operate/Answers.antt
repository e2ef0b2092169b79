use Rattle.std.proofs.Common.{refl}
use Rattle.nf_engine.proofs.operation.operate.Goals as goal

pub returns-in-Store-clause-done : goal.returns-in-Store-clause-done
returns-in-Store-clause-done g c = λ left. rw (c.in-Store.is, c.write-in-Store.ensures, c.narrowed-i.ensures, c.value.ensures, c.given-v-in-Store.ensures) refl
