use Rattle.hash_slots.proofs.HashLemmas.{low_words_stay}
use Rattle.hash_slots.proofs.laws.low_words_count.Goals as goal

pub returns : goal.returns
returns c = low_words_stay
