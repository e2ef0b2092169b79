use Rattle.std.specs.Global.{Box}
use Rattle.std.specs.Prelude.{IfSome}
use Rattle.std.proofs.Common.{refl, ◌≡◌, ◌∙◌, ◌++◌, not, List, Option, Some, length, vec_len, ap, sym, subst, arith}
use Rattle.std.proofs.lemmas.Result.{IfOk-weaker}
use Rattle.nf_base.specs.Text as text
use Rattle.nf_base.specs.Text.{Block}
use Rattle.path_walk.specs.declared.known.Known.{Known}
use Rattle.nf_base.specs.Statements.{statements}
use Rattle.nf_base.specs.View.{block_of, ending_of, question_of, creation_of}
use Rattle.nf_base.specs.Laid.{rest_size}
use Rattle.nf_base.specs.declared.block.Block as block
use Rattle.path_walk.specs.Alive.{is_any, rest_seen, past_ending, past_one, alive_one, AsksInVain, alive_in_vain}
use Rattle.path_walk.specs.Numbering.{texts_seen}
use Rattle.path_walk.specs.Trees.{Tree, Made, ending_tree, asking, unfolded}
use Rattle.path_walk.specs.Layout.{statement_tree}
use Rattle.path_walk.specs.Tests.{TestText}
use Rattle.path_walk.specs.Alike.{HaveSame}
use Rattle.path_walk.specs.Ahead.{known_in, all_known, all_ahead, AreIn, rest_statements}
use Rattle.path_walk.proofs.Splits.{any_some, make_marks}
use Rattle.path_walk.proofs.Alike.{same}
use Rattle.path_walk.proofs.InVain.{untold}
use Rattle.path_walk.proofs.Ahead.{made_ways_first, made_ways_second, made_ways_third}
use Rattle.path_walk.proofs.AskedTexts.{next_in, asked_in, hit_in, miss_in, made_in, taken_in, full_in}
use Rattle.path_walk.proofs.GoneThrough.{any_ahead, on_ok_always, one_mark, ask_marks, ask_past, make_past, marks_on, past_on}
use Rattle.path_walk.proofs.reaching.+reaching.Goals as goal

pub mark_block-loop-rest-preserved : goal.mark_block-loop-rest-preserved
mark_block-loop-rest-preserved t c =
    let texts = texts_seen c.args.texts.now in
    let one = block_of c.in-Some.one.now in
    let was = rest_seen c.loop-rest.rest in
    let is : was ≡ Some one = ap rest_seen c.in-Some.is in
    let rest = rest_seen c.next_behind-rest.result in
    let whole = AreIn texts (statements (block_of c.args.block.now)) in
    let has : whole → AreIn texts (statements one) = λ h. subst (λ (r : Option Block). AreIn texts (rest_statements r)) is (c.loop-rest.invariant.has h) in
    record {
      marks = λ exit h.
          marks_on texts exit c.loop-rest.marks.items c.mark_one.new.marks.items _ one (all_known c.loop-rest.on.items) (all_known c.in_ok-on.on.items) rest
          (λ next. c.in_ok-on.ensures.marks next (has h)) (λ next. c.in_ok-on.ensures.past next (has h)) was is (c.loop-rest.invariant.marks exit h) c.next_behind-rest.ensures.next;
      past = λ exit h.
          past_on texts exit _ one (all_known c.loop-rest.on.items) (all_known c.in_ok-on.on.items) rest
          (λ next. c.in_ok-on.ensures.past next (has h)) was is (c.loop-rest.invariant.past exit h) c.next_behind-rest.ensures.next;
      has = λ h. subst (λ (r : Option Block). AreIn texts (rest_statements r)) (sym c.next_behind-rest.ensures.next) (next_in texts one (has h));
      left = omega (arith, c.next_behind-rest.ensures.smaller, c.loop-rest.invariant.left, ap rest_size c.in-Some.is);
    }

pub mark_statement-returns-in-End-clause-marks : goal.mark_statement-returns-in-End-clause-marks
mark_statement-returns-in-End-clause-marks t c = λ next _.
    let live = c.args.live.items in
    let n : vec_len c.args.live ≡ length live = omega (arith, c.args.live.ok.0) in
    rw c.in-End.is
    (one_mark (texts_seen c.args.texts.now) (ending_tree (ending_of c.in-End.ending) next) (all_known live) (not c.is_empty.result) c.args.marks.now.items c.push.new.self.items
    (ap not c.is_empty.ensures ∙ any_some known_in live (vec_len c.args.live) n) c.in_ok-push.ensures.items)

pub mark_statement-returns-in-End-clause-past : goal.mark_statement-returns-in-End-clause-past
mark_statement-returns-in-End-clause-past t c = λ next _.
    let texts = texts_seen c.args.texts.now in
    let ending = ending_of c.in-End.ending in
    rw c.in-End.is
    (same (all_ahead texts next (all_known c.past_ending.result.items)) (past_ending ending (all_ahead texts (ending_tree ending next) (all_known c.args.live.items))) (c.past_ending.ensures texts next))

pub mark_statement-returns-in-Do-clause-past : goal.mark_statement-returns-in-Do-clause-past
mark_statement-returns-in-Do-clause-past t c = λ next _.
    let on = all_ahead (texts_seen c.args.texts.now) next (all_known c.args.live.items) in
    rw c.in-Do.is (same on on refl)

pub mark_statement-returns-in-Do-clause-marks : goal.mark_statement-returns-in-Do-clause-marks
mark_statement-returns-in-Do-clause-marks t c = λ next _.
    let live = c.args.live.items in
    let n : vec_len c.args.live ≡ length live = omega (arith, c.args.live.ok.0) in
    rw c.in-Do.is
    (one_mark (texts_seen c.args.texts.now) next (all_known live) (not c.is_empty.result) c.args.marks.now.items c.push.new.self.items
    (ap not c.is_empty.ensures ∙ any_some known_in live (vec_len c.args.live) n) c.in_ok-push.ensures.items)

pub mark_statement-returns-in_ok-misses-in-Ask-clause-marks : goal.mark_statement-returns-in_ok-misses-in-Ask-clause-marks
mark_statement-returns-in_ok-misses-in-Ask-clause-marks t c =
    let texts = texts_seen c.args.texts.now in
    let ms = all_known c.args.live.items in
    let q = question_of c.in-Ask.question in
    let hit = block_of c.deref.result.now in
    let miss = block_of c.deref-in-Ask.result.now in
    let ways = c.in_ok-first-in-Ask in
    let first = all_known ways.field-0.first.items in
    let second = all_known ways.field-0.second.items in
    let one = block_of c.args.block.now in
    let is = ap block_of c.in-Ask.is in
    let seen = λ (b : block.Block). AreIn texts (statements (block_of b)) in
    let asked = λ (h : AreIn texts (statements one)). asked_in texts one q (block_of c.in-Ask.hit.value) (block_of c.in-Ask.miss.value) (block_of c.in-Ask.next.value) is h in
    let hits = λ (h : AreIn texts (statements one)). subst seen (sym c.deref.ensures) (hit_in texts one q (block_of c.in-Ask.hit.value) (block_of c.in-Ask.miss.value) (block_of c.in-Ask.next.value) is h) in
    let misses = λ (h : AreIn texts (statements one)). subst seen (sym c.deref-in-Ask.ensures) (miss_in texts one q (block_of c.in-Ask.hit.value) (block_of c.in-Ask.miss.value) (block_of c.in-Ask.next.value) is h) in
    let live = c.args.live.items in
    let len : vec_len c.args.live ≡ length live = omega (arith, c.args.live.ok.0) in
    let any : not c.is_empty.result ≡ is_any ms = ap not c.is_empty.ensures ∙ any_some known_in live (vec_len c.args.live) len in
    on_ok_always c.joined.result ((next : Tree TestText) → AreIn texts (statements one) → c.mark_block-in-Ask.new.marks.items
    ≡ c.args.marks.now.items ++ alive_one one (all_ahead texts (statement_tree one next next) ms)) (λ next has.
    let h = unfolded hit next in
    let m = unfolded miss next in
    rw (c.in-Ask.is, ← c.deref.ensures, ← c.deref-in-Ask.ensures)
    (ask_marks c.args.marks.now.items c.push.new.self.items c.mark_block.new.marks.items c.mark_block-in-Ask.new.marks.items (not c.is_empty.result) hit miss
    (all_ahead texts (asking q h m) ms) (all_ahead texts h first) (all_ahead texts m second)
    (any ∙ sym (any_ahead texts (asking q h m) ms)) c.in_ok-push.ensures.items
    (c.in_ok-hits-in-Ask.ensures.marks next (hits has)) (c.in_ok-misses-in-Ask.ensures.marks next (misses has))
    (ways.ensures.first h m (asked has)) (ways.ensures.second h m (asked has))))

pub mark_statement-returns-in_ok-misses-in-Ask-clause-past : goal.mark_statement-returns-in_ok-misses-in-Ask-clause-past
mark_statement-returns-in_ok-misses-in-Ask-clause-past t c =
    let texts = texts_seen c.args.texts.now in
    let ms = all_known c.args.live.items in
    let q = question_of c.in-Ask.question in
    let hit = block_of c.deref.result.now in
    let miss = block_of c.deref-in-Ask.result.now in
    let ways = c.in_ok-first-in-Ask in
    let first = all_known ways.field-0.first.items in
    let second = all_known ways.field-0.second.items in
    let one = block_of c.args.block.now in
    let is = ap block_of c.in-Ask.is in
    let seen = λ (b : block.Block). AreIn texts (statements (block_of b)) in
    let asked = λ (h : AreIn texts (statements one)). asked_in texts one q (block_of c.in-Ask.hit.value) (block_of c.in-Ask.miss.value) (block_of c.in-Ask.next.value) is h in
    let hits = λ (h : AreIn texts (statements one)). subst seen (sym c.deref.ensures) (hit_in texts one q (block_of c.in-Ask.hit.value) (block_of c.in-Ask.miss.value) (block_of c.in-Ask.next.value) is h) in
    let misses = λ (h : AreIn texts (statements one)). subst seen (sym c.deref-in-Ask.ensures) (miss_in texts one q (block_of c.in-Ask.hit.value) (block_of c.in-Ask.miss.value) (block_of c.in-Ask.next.value) is h) in
    let some = all_known c.in_ok-hits-in-Ask.hits.items in
    let others = all_known c.in_ok-misses-in-Ask.misses.items in
    IfOk-weaker c.joined.result (λ all. all_known all.items ≡ some ++ others)
    (λ all. (next : Tree TestText) → AreIn texts (statements one) → HaveSame (all_ahead texts next (all_known all.items)) (past_one one (all_ahead texts (statement_tree one next next) ms)))
    (λ all e next has.
    let h = unfolded hit next in
    let m = unfolded miss next in
    rw (c.in-Ask.is, ← c.deref.ensures, ← c.deref-in-Ask.ensures)
    (ask_past texts next some others (all_known all.items) hit miss (all_ahead texts (asking q h m) ms) (all_ahead texts h first) (all_ahead texts m second) e
    (c.in_ok-hits-in-Ask.ensures.past next (hits has)) (c.in_ok-misses-in-Ask.ensures.past next (misses has))
    (ways.ensures.first h m (asked has)) (ways.ensures.second h m (asked has))))
    c.joined.ensures

pub mark_statement-returns-in_ok-joined-in-Make-clause-marks : goal.mark_statement-returns-in_ok-joined-in-Make-clause-marks
mark_statement-returns-in_ok-joined-in-Make-clause-marks t c =
    let texts = texts_seen c.args.texts.now in
    let ms = all_known c.args.live.items in
    let made = block_of c.deref-in-Make.result.now in
    let taken = block_of c.deref-in-Make-2.result.now in
    let full = block_of c.deref-in-Make-3.result.now in
    let ways = c.in_ok-first-in-Make in
    let one = block_of c.args.block.now in
    let n = creation_of c.in-Make.creation in
    let is = ap block_of c.in-Make.is in
    let seen = λ (b : block.Block). AreIn texts (statements (block_of b)) in
    let makes = λ (h : AreIn texts (statements one)). subst seen (sym c.deref-in-Make.ensures) (made_in texts one n (block_of c.in-Make.made.value) (block_of c.in-Make.taken.value) (block_of c.in-Make.full.value) (block_of c.in-Make.next.value) is h) in
    let takes = λ (h : AreIn texts (statements one)). subst seen (sym c.deref-in-Make-2.ensures) (taken_in texts one n (block_of c.in-Make.made.value) (block_of c.in-Make.taken.value) (block_of c.in-Make.full.value) (block_of c.in-Make.next.value) is h) in
    let fills = λ (h : AreIn texts (statements one)). subst seen (sym c.deref-in-Make-3.ensures) (full_in texts one n (block_of c.in-Make.made.value) (block_of c.in-Make.taken.value) (block_of c.in-Make.full.value) (block_of c.in-Make.next.value) is h) in
    let live = c.args.live.items in
    let len : vec_len c.args.live ≡ length live = omega (arith, c.args.live.ok.0) in
    let any : not c.is_empty.result ≡ is_any ms = ap not c.is_empty.ensures ∙ any_some known_in live (vec_len c.args.live) len in
    on_ok_always c.joined-in-Make-2.result ((next : Tree TestText) → AreIn texts (statements one) → c.mark_block-in-Make-3.new.marks.items
    ≡ c.args.marks.now.items ++ alive_one one (all_ahead texts (statement_tree one next next) ms)) (λ next has.
    let x = unfolded made next in
    let y = unfolded taken next in
    let z = unfolded full next in
    rw (c.in-Make.is, ← c.deref-in-Make.ensures, ← c.deref-in-Make-2.ensures, ← c.deref-in-Make-3.ensures)
    (make_marks c.args.marks.now.items c.push.new.self.items c.mark_block-in-Make.new.marks.items c.mark_block-in-Make-2.new.marks.items c.mark_block-in-Make-3.new.marks.items (not c.is_empty.result) made taken full
    (all_ahead texts (Made x y z) ms) (all_ahead texts x (all_known ways.field-0.first.items)) (all_ahead texts y (all_known ways.field-0.second.items)) (all_ahead texts z (all_known ways.field-0.third.items))
    (any ∙ sym (any_ahead texts (Made x y z) ms)) c.in_ok-push.ensures.items
    (c.in_ok-makes-in-Make.ensures.marks next (makes has)) (c.in_ok-takes-in-Make.ensures.marks next (takes has)) (c.in_ok-fills-in-Make.ensures.marks next (fills has))
    (ap (all_ahead texts x) ways.ensures.first ∙ sym (made_ways_first texts x y z ms))
    (ap (all_ahead texts y) ways.ensures.second ∙ sym (made_ways_second texts x y z ms))
    (ap (all_ahead texts z) ways.ensures.third ∙ sym (made_ways_third texts x y z ms))))

pub mark_statement-returns-in_ok-joined-in-Make-clause-past : goal.mark_statement-returns-in_ok-joined-in-Make-clause-past
mark_statement-returns-in_ok-joined-in-Make-clause-past t c =
    let texts = texts_seen c.args.texts.now in
    let ms = all_known c.args.live.items in
    let made = block_of c.deref-in-Make.result.now in
    let taken = block_of c.deref-in-Make-2.result.now in
    let full = block_of c.deref-in-Make-3.result.now in
    let ways = c.in_ok-first-in-Make in
    let one = block_of c.args.block.now in
    let n = creation_of c.in-Make.creation in
    let is = ap block_of c.in-Make.is in
    let seen = λ (b : block.Block). AreIn texts (statements (block_of b)) in
    let makes = λ (h : AreIn texts (statements one)). subst seen (sym c.deref-in-Make.ensures) (made_in texts one n (block_of c.in-Make.made.value) (block_of c.in-Make.taken.value) (block_of c.in-Make.full.value) (block_of c.in-Make.next.value) is h) in
    let takes = λ (h : AreIn texts (statements one)). subst seen (sym c.deref-in-Make-2.ensures) (taken_in texts one n (block_of c.in-Make.made.value) (block_of c.in-Make.taken.value) (block_of c.in-Make.full.value) (block_of c.in-Make.next.value) is h) in
    let fills = λ (h : AreIn texts (statements one)). subst seen (sym c.deref-in-Make-3.ensures) (full_in texts one n (block_of c.in-Make.made.value) (block_of c.in-Make.taken.value) (block_of c.in-Make.full.value) (block_of c.in-Make.next.value) is h) in
    let some = all_known c.in_ok-makes-in-Make.makes.items in
    let others = all_known c.in_ok-joined-in-Make.field-0.items in
    IfOk-weaker c.joined-in-Make-2.result (λ all. all_known all.items ≡ some ++ others)
    (λ all. (next : Tree TestText) → AreIn texts (statements one) → HaveSame (all_ahead texts next (all_known all.items)) (past_one one (all_ahead texts (statement_tree one next next) ms)))
    (λ all e next has.
    let x = unfolded made next in
    let y = unfolded taken next in
    let z = unfolded full next in
    rw (c.in-Make.is, ← c.deref-in-Make.ensures, ← c.deref-in-Make-2.ensures, ← c.deref-in-Make-3.ensures)
    (make_past texts next some (all_known c.in_ok-takes-in-Make.takes.items) (all_known c.in_ok-fills-in-Make.fills.items) others (all_known all.items) made taken full
    (all_ahead texts (Made x y z) ms) (all_ahead texts x (all_known ways.field-0.first.items)) (all_ahead texts y (all_known ways.field-0.second.items)) (all_ahead texts z (all_known ways.field-0.third.items))
    c.in_ok-joined-in-Make.ensures e
    (c.in_ok-makes-in-Make.ensures.past next (makes has)) (c.in_ok-takes-in-Make.ensures.past next (takes has)) (c.in_ok-fills-in-Make.ensures.past next (fills has))
    (ap (all_ahead texts x) ways.ensures.first ∙ sym (made_ways_first texts x y z ms))
    (ap (all_ahead texts y) ways.ensures.second ∙ sym (made_ways_second texts x y z ms))
    (ap (all_ahead texts z) ways.ensures.third ∙ sym (made_ways_third texts x y z ms))))
    c.joined-in-Make-2.ensures

pub mark_one-returns-in_ok-mark_empty-in-Some-clause-marks : goal.mark_one-returns-in_ok-mark_empty-in-Some-clause-marks
mark_one-returns-in_ok-mark_empty-in-Some-clause-marks t c = λ next has.
    let texts = texts_seen c.args.texts.now in
    let one = block_of c.args.block.now in
    let q = question_of c.in-Some.question.now in
    let vain = subst (λ o. IfSome o (λ x. AsksInVain one (question_of x.now))) c.in-Some.is c.empty_question.ensures in
    let asked = asked_in texts one q (text.End text.FallsOff) (text.End text.FallsOff) vain.next vain.is has in
    c.in_ok-mark_empty-in-Some.ensures next asked
    ∙ ap (λ (xs : List (Box Known)). c.args.marks.now.items ++ alive_in_vain (all_ahead texts (asking q next next) (all_known xs))) c.as_slice.ensures.value
    ∙ ap (λ (b : Block). c.args.marks.now.items ++ alive_one b (all_ahead texts (statement_tree b next next) (all_known c.args.live.items))) (sym vain.is)

pub mark_one-returns-in_ok-mark_empty-in-Some-clause-past : goal.mark_one-returns-in_ok-mark_empty-in-Some-clause-past
mark_one-returns-in_ok-mark_empty-in-Some-clause-past t c = λ next has.
    let texts = texts_seen c.args.texts.now in
    let one = block_of c.args.block.now in
    let ms = all_known c.args.live.items in
    let q = question_of c.in-Some.question.now in
    let vain = subst (λ o. IfSome o (λ x. AsksInVain one (question_of x.now))) c.in-Some.is c.empty_question.ensures in
    subst (λ (b : Block). HaveSame (all_ahead texts next ms) (past_one b (all_ahead texts (statement_tree b next next) ms))) (sym vain.is) (untold texts q next ms)
