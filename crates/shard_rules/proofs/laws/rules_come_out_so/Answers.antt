use Rattle.std.proofs.Common.{refl}
use Rattle.shard_rules.proofs.laws.rules_come_out_so.Goals as goal

pub returns : goal.returns
returns c = record {
  firewall_has_one_key = record { rule_is = refl; kept_are = refl; places_are = refl };
  policer_has_one_key = record { rule_is = refl; kept_are = refl; places_are = refl };
  translator_checks = record { rule_is = refl; kept_are = refl; places_are = refl };
  unchecked_has_none = record { rule_is = refl; kept_are = refl; places_are = refl };
  hidden_keys_are_disjoint = record { rule_is = refl; kept_are = refl; places_are = refl };
  narrowed_is_a_subset = record { rule_is = refl; kept_are = refl; places_are = refl };
  counter_has_one_key = record { rule_is = refl; kept_are = refl; places_are = refl };
}
