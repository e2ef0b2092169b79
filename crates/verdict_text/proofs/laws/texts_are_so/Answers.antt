use Rattle.std.proofs.Common.{refl}
use Rattle.std.specs.Fmt.{digits}
use Rattle.hex.specs.Hex.{encode_with}
use Rattle.verdict_text.proofs.laws.texts_are_so.Goals as goal

pub returns : goal.returns
unfolding digits encode_with
returns c = record {
  policer_is_by_destination = refl;
  translator_checks = refl;
  hidden_keys_are_disjoint = refl;
  narrowed_is_a_subset = refl;
  each_kind_is_told = refl;
  six_is_told = refl;
  six_comes_behind = refl;
  policer_has_keys = refl;
  long_keys_are_told = refl;
  bridge_has_none = refl;
  the_hash_is_named = refl;
}
