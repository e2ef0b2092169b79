use Rattle.nf_sites.proofs.separation.meeting_packets_hash_alike.Goals as goal
use Rattle.nf_sites.proofs.Separate.{hash_alike}

pub returns : goal.returns
returns c = hash_alike
