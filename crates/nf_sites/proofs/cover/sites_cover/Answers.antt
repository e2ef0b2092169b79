use Rattle.nf_sites.proofs.cover.sites_cover.Goals as goal
use Rattle.nf_sites.proofs.Covering.{sites_cover}

pub returns : goal.returns
returns c = sites_cover
