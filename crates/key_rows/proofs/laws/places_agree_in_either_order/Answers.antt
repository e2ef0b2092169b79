use Rattle.key_rows.proofs.Paired.{places_agree_in_either_order}
use Rattle.key_rows.proofs.laws.places_agree_in_either_order.Goals as goal

pub returns : goal.returns
returns c = places_agree_in_either_order
