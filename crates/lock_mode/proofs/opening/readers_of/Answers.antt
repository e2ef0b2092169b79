use Rattle.lock_mode.proofs.Rising.{admits}
use Rattle.lock_mode.proofs.opening.readers_of.Goals as goal

pub reader-requires : goal.reader-requires
reader-requires g c = admits
