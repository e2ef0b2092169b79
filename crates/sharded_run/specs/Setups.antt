-- Who works a packet: the worker of its queue.
use Rattle.std.specs.Prelude.{ℕ}
use Rattle.nf_base.specs.declared.keys.Keys.{Keys}
use Rattle.nf_base.specs.declared.share.Share.{Share}
use Rattle.nf_base.specs.Text.{Function}
use Rattle.shard_machine.specs.Machine.{Setup}
use Rattle.stream_run.specs.Rules.{queue_by}

-- so many workers of a function, under keys, each with a share
abbrev pub setup_of : Function → Keys → ℕ → (ℕ → Share) → Setup
setup_of f keys workers share = record {
  function = f;
  workers = workers;
  share = share;
  queue = queue_by keys workers;
}
