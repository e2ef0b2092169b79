-- the texts so far
use Rattle.std.proofs.Common.{map, take}
use Rattle.path_walk.specs.Order.{head_seen}
use Rattle.path_walk.specs.Numbering.{texts_seen, FindsAll}
use Rattle.path_walk.specs.Ahead.{AreIn}
use Rattle.path_walk.proofs.block_texts.texts_of.Given as goal

abbrev pub invariant-loop-one : goal.invariant-loop-one
invariant-loop-one l = record {
  finds : FindsAll l.texts;
  all : AreIn (texts_seen l.texts) (map head_seen (take l.one-index l.statements));
}
