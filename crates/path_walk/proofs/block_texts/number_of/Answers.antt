use Rattle.std.proofs.Common.{◌≡◌, Some, None, ap, sym, ◌∙◌}
use Rattle.std.specs.BTreeMap.{get_by}
use Rattle.std.specs.Ordering.{nat_cmp}
use Rattle.std.specs.Cmp.Lexicographic.{slice_cmp}
use Rattle.path_walk.specs.Tests.{test_tokens}
use Rattle.path_walk.specs.Numbering.{texts_seen, text_at}
use Rattle.path_walk.specs.Seen.{text_seen}
use Rattle.path_walk.proofs.Keyed.{Find}
use Rattle.path_walk.proofs.Texts.{one_text}
use Rattle.path_walk.proofs.block_texts.number_of.Goals as goal

pub returns-in-Some-clause-within : goal.returns-in-Some-clause-within
returns-in-Some-clause-within c = λ _. (c.requires.found c.in_ok-key.key c.in-Some.number (sym c.find.ensures ∙ c.in-Some.is)).0

pub returns-in-Some-clause-at : goal.returns-in-Some-clause-at
returns-in-Some-clause-at c = λ _.
    one_text (text_at (texts_seen c.args.texts.now) c.in-Some.number) (text_seen c.args.text.now)
    ((c.requires.found c.in_ok-key.key c.in-Some.number (sym c.find.ensures ∙ c.in-Some.is)).1 ∙ c.in_ok-key.ensures)

pub returns-clause-within : goal.returns-clause-within
returns-clause-within c = λ h.
    let find : Find = λ key. get_by (λ k. slice_cmp nat_cmp key.items k.items) c.args.texts.now.numbers in
    let some : find c.in_ok-key.key ≡ Some h.number = c.requires.kept c.in_ok-key.key h.number h.within (c.in_ok-key.ensures ∙ ap test_tokens (sym h.at)) in
    let none : find c.in_ok-key.key ≡ None = sym c.find.ensures ∙ c.in-None.is in
    absurd (cc)

pub returns-clause-at : goal.returns-clause-at
returns-clause-at c = λ h.
    let find : Find = λ key. get_by (λ k. slice_cmp nat_cmp key.items k.items) c.args.texts.now.numbers in
    let some : find c.in_ok-key.key ≡ Some h.number = c.requires.kept c.in_ok-key.key h.number h.within (c.in_ok-key.ensures ∙ ap test_tokens (sym h.at)) in
    let none : find c.in_ok-key.key ≡ None = sym c.find.ensures ∙ c.in-None.is in
    absurd (cc)
