use Rattle.path_walk.proofs.laws.texts_are_their_tokens.Goals as goal
use Rattle.path_walk.proofs.Texts.{text_same}

pub returns : goal.returns
returns c = text_same
