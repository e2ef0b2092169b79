-- What a worker is started with.
use Rattle.std.specs.Prelude.{◌≡◌, []}
use Rattle.rtrb.specs.Ring.{sent, received, IsPair}
use Rattle.ring_line.specs.declared.worker_ends.RingEnds.{RingEnds}
use Rattle.ring_line.specs.declared.worker_ends.WorkerInput.{WorkerInput}
use Rattle.ring_line.specs.declared.thread_worker.start.Rings.{Rings}
use Rattle.ring_line.specs.QueueHandlers.{HandlerState}

-- the ends of two new rings
pub record AreEnds (rings : Rings) : Type 0 where
  pub out : IsPair rings.to rings.ends.from
  pub back : IsPair rings.ends.to rings.back
  pub none_out : sent rings.to ≡ []
  pub none_in : received rings.ends.from ≡ []
  pub none_back : sent rings.ends.to ≡ []
  pub none_came : received rings.back ≡ []

-- a worker was given these ends and this queue handler
pub record IsGiven (worker_input : WorkerInput) (ends : RingEnds) (queue_handler : HandlerState) :
    Type 0 where
  pub ends_are : worker_input.ends.value ≡ ends
  pub func_is : worker_input.func.value ≡ queue_handler.func
  pub tables_are : worker_input.tables.value ≡ queue_handler.tables
