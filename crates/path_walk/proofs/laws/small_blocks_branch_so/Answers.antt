use Rattle.std.proofs.Common.{refl}
use Rattle.path_walk.proofs.laws.small_blocks_branch_so.Goals as goal

pub returns : goal.returns
returns c = record {
  firewall_has_four = refl;
  one_text_goes_one_way = refl;
  two_bounds_go_all_ways = refl;
  two_numbers_have_three = refl;
  not_equal_is_exchanged = refl;
  greater_is_exchanged = refl;
  neither_of_two_numbers = refl;
  sides_stay = refl;
  cells_go_all_ways = refl;
}
