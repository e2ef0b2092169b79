-- Kept labels, and the rule by which an object can be sharded.
use Rattle.std.specs.Prelude.{ℕ, Bool, List, [], ◌∷◌, filter, if◌then◌else◌, codes}
use Rattle.std.specs.List.{list_any, list_all}
use Rattle.access_keys.specs.declared.site.Site.{Site}
use Rattle.shard_rules.specs.declared.rule.Rule.{Rule}
use Rattle.shard_rules.specs.declared.rule.Rule.TheVariants.{SameKey, Subset, DisjointKeys, Unhashable, Interchangeable}
use Rattle.shard_rules.specs.Sites.{knows, knows_one, all_know_same, is_find}

-- whether each of an object's sites knows a label
abbrev pub is_kept : List Site → ℕ → Bool
is_kept sites l = list_all (knows l) sites

-- those of an object's labels that are kept
abbrev pub kept_labels : List ℕ → List Site → List ℕ
kept_labels labels sites = filter (is_kept sites) labels

-- the rule of an object with some labels, by its sites and its kept labels
abbrev pub rule_of : List ℕ → List Site → List ℕ → Rule
rule_of labels sites [] = if list_all (knows_one labels) sites then DisjointKeys else Unhashable
rule_of labels sites (l ∷ kept) =
    if list_any is_find sites then Interchangeable
    else if all_know_same labels sites then SameKey else Subset

-- how a rule is printed
abbrev pub rule_word : Rule → List ℕ
rule_word SameKey = codes "J1"
rule_word Subset = codes "J2"
rule_word DisjointKeys = codes "J3"
rule_word Unhashable = codes "J4"
rule_word Interchangeable = codes "J5"
