-- How many packets of all workers are in flight.
use Rattle.std.proofs.Common.{◌≡◌, ◌+◌, ℕ, zero, suc, List, [], ◌∷◌, ◌++◌, Some, slice_get, slice_set, ap, arith}
use Rattle.std.proofs.lemmas.Option.{same_Some}
use Rattle.ring_line.specs.declared.queue_worker.QueueWorker.{QueueWorker}
use Rattle.ring_line.specs.QueueWorkers.{in_flight_of, all_in_flight}

-- one worker is another one
pub flights_set : {G : Type 0} (queue_workers : List (QueueWorker G)) (q : ℕ) (before after : QueueWorker G) → slice_get queue_workers q ≡ Some before → all_in_flight (slice_set queue_workers q after) + in_flight_of before ≡ all_in_flight queue_workers + in_flight_of after
flights_set [] q before after at = cc
flights_set (p ∷ ps) zero before after at = let e = ap in_flight_of (same_Some p before at) in omega (arith, e)
flights_set (p ∷ ps) (suc q) before after at = let e = flights_set ps q before after at in omega (arith, e)

-- where none is in flight, none of a worker is
pub flights_none : {G : Type 0} (queue_workers : List (QueueWorker G)) (q : ℕ) (queue_worker : QueueWorker G) → all_in_flight queue_workers ≡ 0 → slice_get queue_workers q ≡ Some queue_worker → in_flight_of queue_worker ≡ 0
flights_none [] q queue_worker none at = cc
flights_none (p ∷ ps) zero queue_worker none at = let e = ap in_flight_of (same_Some p queue_worker at) in omega (arith, e, none)
flights_none (p ∷ ps) (suc q) queue_worker none at = flights_none ps q queue_worker (omega (arith, none)) at

-- one worker more
pub flights_more : {G : Type 0} (queue_workers : List (QueueWorker G)) (queue_worker : QueueWorker G) → all_in_flight (queue_workers ++ queue_worker ∷ []) ≡ all_in_flight queue_workers + in_flight_of queue_worker
flights_more [] queue_worker = omega (arith)
flights_more (p ∷ ps) queue_worker = let e = flights_more ps queue_worker in omega (arith, e)
