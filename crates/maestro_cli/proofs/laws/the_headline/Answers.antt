use Rattle.maestro_cli.proofs.Headline.{headline_of_run, headline_of_gen, only_where_none_spread}
use Rattle.maestro_cli.proofs.laws.the_headline.Goals as goal

pub returns : goal.returns
returns c =
    let alike = c.meeting_packets_hash_alike.ensures in
    record { run = headline_of_run alike; made = headline_of_gen alike; refused = only_where_none_spread }
