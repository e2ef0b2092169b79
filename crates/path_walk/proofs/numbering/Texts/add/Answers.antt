use Rattle.std.proofs.Common.{◌≡◌, ◌++◌, ◌∷◌, [], List, length, arith, map, cond, Some, ap, sym, subst, ◌∙◌}
use Rattle.std.specs.BTreeMap.{get_by}
use Rattle.std.specs.Ordering.{nat_cmp}
use Rattle.std.specs.Cmp.Lexicographic.{slice_cmp}
use Rattle.std.proofs.lemmas.List.{map-append, length-map}
use Rattle.std.proofs.lemmas.Map.Text.{is_eq-slice_cmp}
use Rattle.path_walk.specs.Tests.{TestText}
use Rattle.path_walk.specs.Seen.{text_seen}
use Rattle.path_walk.specs.Numbering.{Finds}
use Rattle.path_walk.proofs.Keyed.{Find, added_finds}
use Rattle.path_walk.proofs.numbering.Texts.add.Goals as goal

pub returns-clause-finds : goal.returns-clause-finds
returns-clause-finds c =
    let old = c.args.self.now.list.items in
    let texts = map text_seen old in
    let text = text_seen c.args.text in
    let find : Find = λ key. get_by (λ k. slice_cmp nat_cmp key.items k.items) c.args.self.now.numbers in
    let after : Find = λ key. get_by (λ k. slice_cmp nat_cmp key.items k.items) c.insert.new.self in
    let all : map text_seen c.push.new.self.items ≡ texts ++ text ∷ [] = ap (map text_seen) c.in_ok-push.ensures.items ∙ map-append text_seen old (c.args.text ∷ []) in
    let n : c.len-number.result ≡ length texts = let e = c.len-number.ensures in let h = length-map old text_seen in omega arith in
    subst (λ (xs : List TestText). Finds after xs) (sym all)
    (added_finds find after texts c.args.key text c.len-number.result c.requires.finds c.requires.tokens c.requires.none n
    (λ q. c.in_ok-insert.ensures.updates.0 q ∙ ap (λ b. cond b (Some c.len-number.result) (find q)) (is_eq-slice_cmp c.args.key.items q.items)))
