use Rattle.key_synth.proofs.Unkept.{unkept_objects_keep_none}
use Rattle.key_synth.proofs.laws.unkept_objects_keep_none.Goals as goal

pub returns : goal.returns
returns c = unkept_objects_keep_none
