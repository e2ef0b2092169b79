use Rattle.std.proofs.Common.{refl}
use Rattle.nf_types.specs.Declarations.{chain_of, array_of}
use Rattle.nf_types.specs.DeclarationFaults.{label_faults, map_name_faults, map_faults, column_faults, chain_faults, array_faults}
use Rattle.nf_types.specs.StatementFaults.{given_faults}
use Rattle.nf_types.specs.BlockFaults.{get_faults, find_faults, creation_faults}
use Rattle.nf_types.specs.Function.{four_at, six_at}
use Rattle.nf_types.specs.TextFaults.{handler_faults}
use Rattle.nf_types.proofs.rows.a_new_gives_each_label_once.Goals as goal

pub returns : goal.returns
unfolding chain_of array_of label_faults map_name_faults map_faults column_faults chain_faults array_faults given_faults get_faults find_faults creation_faults four_at six_at handler_faults
returns c = refl
