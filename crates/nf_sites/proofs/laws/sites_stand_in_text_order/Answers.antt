use Rattle.nf_sites.proofs.laws.sites_stand_in_text_order.Goals as goal
use Rattle.nf_sites.proofs.Rising.{of_their_port, in_text_order}
use Rattle.nf_sites.proofs.RisingTexts.{rising_texts}

pub returns-clause-door : goal.returns-clause-door
returns-clause-door c = of_their_port

pub returns-clause-rising : goal.returns-clause-rising
returns-clause-rising c = in_text_order

pub returns-clause-whole : goal.returns-clause-whole
returns-clause-whole c = rising_texts
