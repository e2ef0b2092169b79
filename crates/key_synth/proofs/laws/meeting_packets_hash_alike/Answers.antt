use Rattle.nf_sites.proofs.Separate.{hash_alike}
use Rattle.toeplitz_hash.specs.Packets.{hash_by}
use Rattle.key_synth.proofs.laws.meeting_packets_hash_alike.Goals as goal

pub returns : goal.returns
returns c = λ f keys admissible hs a b fits fits_too meet. hash_alike f (hash_by keys) hs a b admissible fits fits_too meet
