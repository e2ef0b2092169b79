-- Keys of ports, and numbers of workers.
use Rattle.std.proofs.Common.{ℕ, ◌<◌, ◌≤◌, length, Option, Some, None, IfSome, Bor, arith}
use Rattle.nf_base.specs.declared.keys.Keys.{Keys}
use Rattle.run_history.specs.declared.line.Mode.{Mode}
use Rattle.run_history.specs.declared.line.Mode.TheVariants.{One, Shard, Lock}
use Rattle.run_history.specs.Headings.{Heading, IsHeading, least_workers}

-- keys for all ports are there for each
pub port_keyed : (keys : Option (Bor Keys)) (ports port : ℕ) → port < ports → IfSome keys (λ k. ports ≤ length k.now.ports) → IfSome keys (λ k. port < length k.now.ports)
port_keyed None ports port lt all = tt
port_keyed (Some keys) ports port lt all = omega (arith, lt, all)

some_of : (mode : Mode) (n : ℕ) → least_workers mode ≤ n → 0 < n
some_of One n le = omega (arith, le)
some_of Shard n le = omega (arith, le)
some_of Lock n le = omega (arith, le)

-- there is a worker
pub some_workers : (h : Heading) → IsHeading h → 0 < h.workers
some_workers h is = some_of h.mode h.workers is.least
