use Rattle.vig_tables.proofs.Kept.{all_room}
use Rattle.vig_tables.proofs.chain_tables.ChainTables.copy.Goals as goal

pub copied_maps-requires : goal.copied_maps-requires
copied_maps-requires c = rw c.as_slice.ensures.value (all_room _ _ _ _ _ c.self.invariant)
