use Rattle.nf_sites.proofs.laws.sites_are_on_feasible_paths.Goals as goal
use Rattle.nf_sites.proofs.Listing.{on_paths_listed, listed_on_paths}

pub returns-clause-all : goal.returns-clause-all
returns-clause-all c = on_paths_listed

pub returns-clause-only : goal.returns-clause-only
returns-clause-only c = listed_on_paths
