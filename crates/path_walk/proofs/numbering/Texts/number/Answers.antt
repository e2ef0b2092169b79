use Rattle.std.proofs.Common.{map, sym, ◌∙◌}
use Rattle.std.specs.BTreeMap.{get_by}
use Rattle.std.specs.Ordering.{nat_cmp}
use Rattle.std.specs.Cmp.Lexicographic.{slice_cmp}
use Rattle.path_walk.specs.Seen.{text_seen}
use Rattle.path_walk.proofs.Keyed.{Find, found_number}
use Rattle.path_walk.proofs.numbering.Texts.number.Goals as goal

pub returns-in-Some-clause-number : goal.returns-in-Some-clause-number
returns-in-Some-clause-number c =
    let find : Find = λ key. get_by (λ k. slice_cmp nat_cmp key.items k.items) c.args.self.now.numbers in
    found_number find (map text_seen c.args.self.now.list.items) c.in_ok-key.key (text_seen c.args.text) c.in-Some.number c.requires c.in_ok-key.ensures (sym c.find.ensures ∙ c.in-Some.is)
