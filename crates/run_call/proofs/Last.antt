-- The number of the next file behind a job's captures.
use Rattle.std.proofs.Common.{◌≡◌, ℕ, ◌+◌, ◌-◌, List, length, get_or, sym, ◌∙◌, arith}
use Rattle.std.proofs.lemmas.Option.{slice_get-get_or}
use Rattle.call_base.specs.Outside.{Outside}
use Rattle.packet_feed.specs.Feeding.{Feeding}
use Rattle.run_call.specs.declared.job.Job.{Job}
use Rattle.run_call.specs.Progress.{IsJob, HasFed}

pub captures_last : (before now : Outside) (job : Job) (captures : List ℕ) (feed : Feeding) → IsJob before.told job → HasFed before now job captures feed → now.told.next ≡ get_or captures (job.layout.ports - 1) 0 + 1
captures_last before now job captures feed is fed =
    let count : length captures ≡ job.layout.ports = fed.opened.all ∙ sym is.ports in
    let at = slice_get-get_or captures (job.layout.ports - 1) 0 (omega (arith, count, is.some)) in
    omega (arith, fed.kept.next_same, fed.opened.next, fed.opened.numbers (job.layout.ports - 1) (get_or captures (job.layout.ports - 1) 0) at, count, is.some)
