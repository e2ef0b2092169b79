-- the paths so far have gone their ways
use Rattle.std.proofs.Common.{◌≡◌, ◌++◌, true, false, length}
use Rattle.std.specs.List.{flat_map}
use Rattle.std.specs.Vec.Iter.{into_iter_items, into_iter_len}
use Rattle.path_walk.specs.Ahead.{behind_test, all_known}
use Rattle.path_walk.proofs.ways.tested.Given as goal

abbrev pub invariant-loop-known : goal.invariant-loop-known
invariant-loop-known l = record {
  whole : l.yielded ++ into_iter_items l.known-iterator ≡ l.fn.live.items;
  first : all_known l.ways.first.items ≡ flat_map (behind_test l.test true) (all_known l.yielded);
  second : all_known l.ways.second.items ≡ flat_map (behind_test l.test false) (all_known l.yielded);
  left : into_iter_len l.known-iterator ≡ length (into_iter_items l.known-iterator);
}
