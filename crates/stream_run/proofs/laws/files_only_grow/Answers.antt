use Rattle.stream_run.proofs.Bytes.{only_grow}
use Rattle.stream_run.proofs.laws.files_only_grow.Goals as goal

pub returns : goal.returns
returns c = only_grow
