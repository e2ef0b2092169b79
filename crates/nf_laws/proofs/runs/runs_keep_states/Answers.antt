use Rattle.nf_laws.proofs.runs.runs_keep_states.Goals as goal
use Rattle.nf_laws.proofs.Parted.{run_sound, run_shape}

pub returns-clause-sound : goal.returns-clause-sound
returns-clause-sound c = run_sound

pub returns-clause-shape : goal.returns-clause-shape
returns-clause-shape c = run_shape
