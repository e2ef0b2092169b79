use Rattle.std.proofs.Common.{◌<◌, ◌∙◌, ℕ, length, slice_index_or, All, ap, subst}
use Rattle.nf_base.specs.Text.{Function}
use Rattle.nf_base.specs.Doors.{IsServed}
use Rattle.lock_workers.proofs.Joined.{counted}
use Rattle.lock_workers.proofs.sharing.share.Goals as goal

pub work_shared-requires-clause-ports : goal.work_shared-requires-clause-ports
work_shared-requires-clause-ports g c κs within = λ k d lt.
    subst (λ (n : ℕ). (slice_index_or c.args.packets.now k d).id.port < n) (counted c.args.func.now ∙ ap (λ (f : Function). length f.handlers) c.requires.function) (c.requires.ports k d lt)

pub work_shared-requires-clause-served : goal.work_shared-requires-clause-served
work_shared-requires-clause-served g c κs within = subst (λ (f : Function). All (IsServed f) c.args.packets.now) c.requires.function c.requires.served
