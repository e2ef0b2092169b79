-- Where nothing is wrong with a block, it has no more look-ups than may come.
use Rattle.std.proofs.Common.{◌≡◌, ℕ, ◌==◌, ◌||◌, ◌≤◌, List, [], ◌∷◌, ◌++◌, None, nat_le, arith}
use Rattle.std.proofs.lemmas.Grind.{common_steps}
use Rattle.std.proofs.lemmas.Bool.Decides.{nat_tests}
use Rattle.nf_base.specs.declared.packet.Family.{Family}
use Rattle.nf_tokens.specs.declared.token.Place.{Place}
use Rattle.nf_tree.specs.declared.place.Name.{Name}
use Rattle.nf_tree.specs.Tree as tree
use Rattle.nf_types.specs.declared.room.Room.{Room}
use Rattle.nf_types.specs.declared.objects.Objects.{Objects}
use Rattle.nf_types.specs.declared.fault.TypingKind.TheVariants.{Limit, Twice}
use Rattle.nf_types.specs.Faults.{first, fault_if, each_behind}
use Rattle.nf_types.specs.Variables.{Variable}
use Rattle.nf_types.specs.Counts.{news, lookups, question_lookups, behind, behind_question, behind_new, whole_room}
use Rattle.nf_types.specs.StatementFaults.{binding_faults, look_up_faults, making_faults, finding_faults}
use Rattle.nf_types.specs.Blocks.{bound, bound_by}
use Rattle.nf_types.specs.BlockFaults.{operation_faults, get_faults, find_faults, question_faults, creation_faults, block_faults}
use Rattle.nf_types.specs.TextFaults.{handler_faults, is_handled}
use Rattle.nf_types.specs.Small.{IsSmall, AreSmall}
use Rattle.nf_types.proofs.First.{front_none, back_none, test_none}
use Rattle.nf_types.proofs.Faultless.{ask_faultless, make_faultless}

pub record Fits (room : Room) (b : tree.Block) : Type 0 where
  pub lookups : lookups b ≤ room.lookups
  pub news : news b ≤ room.news

some_get : (family : Family) (room : Room) (o : Objects) (xs : List Variable) (at : Place) (x c m : Name) (key : List tree.Expression) (close : Place) →
    first (get_faults family room o xs at x c m key close) ≡ None → 1 ≤ room.lookups
unfolding get_faults
some_get family room o xs at x c m key close e =
    let front = fault_if (room.lookups == 0) Limit at in
    let no = test_none (room.lookups == 0) Limit at (front_none front (binding_faults o xs x ++ look_up_faults family o xs c m key close) e) in
    grind (arith, nat_tests, no)

some_find : (family : Family) (room : Room) (o : Objects) (xs : List Variable) (at : Place) (x c : Name) (i : tree.Expression) (gs : tree.Guards) →
    first (find_faults family room o xs at x c i gs) ≡ None → 1 ≤ room.lookups
unfolding find_faults
some_find family room o xs at x c i gs e =
    let front = fault_if (room.lookups == 0) Limit at in
    let no = test_none (room.lookups == 0) Limit at (front_none front (binding_faults o xs x ++ finding_faults family o xs c i gs) e) in
    grind (arith, nat_tests, no)

some_question : (family : Family) (room : Room) (o : Objects) (xs : List Variable) (q : tree.Question) →
    first (question_faults family room o xs q) ≡ None → question_lookups q ≤ room.lookups
some_question family room o xs (tree.Get at x c m key close) e = some_get family room o xs at x c m key close e
some_question family room o xs (tree.Find at x c i gs) e = some_find family room o xs at x c i gs e
some_question family room o xs (tree.Test l comparison r) e = omega arith

some_new : (family : Family) (room : Room) (o : Objects) (xs : List Variable) (n : tree.Creation) →
    first (creation_faults family room o xs n) ≡ None → (1 ≤ room.lookups) × (1 ≤ room.news)
unfolding creation_faults
some_new family room o xs n e =
    let front = fault_if (room.lookups == 0 || room.news == 0) Limit n.place in
    let no = test_none (room.lookups == 0 || room.news == 0) Limit n.place (front_none front (binding_faults o xs n.variable ++ making_faults family o xs n.chain n.given n.close) e) in
    (grind (arith, nat_tests, common_steps, no), grind (arith, nat_tests, common_steps, no))

fits_ask : (room : Room) (q : tree.Question) (hit miss next : tree.Block) → question_lookups q ≤ room.lookups →
    Fits (behind_question room q) hit → Fits (behind (behind_question room q) hit) miss → Fits (behind (behind (behind_question room q) hit) miss) next →
    Fits room (tree.Ask q hit miss next)
fits_ask room q hit miss next some h m n = record {
  lookups = omega (arith, some, h.lookups, m.lookups, n.lookups);
  news = omega (arith, h.news, m.news, n.news);
}

fits_make : (room : Room) (c : tree.Creation) (made taken full next : tree.Block) → (1 ≤ room.lookups) × (1 ≤ room.news) →
    Fits (behind_new room) made → Fits (behind (behind_new room) made) taken → Fits (behind (behind (behind_new room) made) taken) full →
    Fits (behind (behind (behind (behind_new room) made) taken) full) next → Fits room (tree.Make c made taken full next)
fits_make room c made taken full next some m t f n = record {
  lookups = omega (arith, some.0, m.lookups, t.lookups, f.lookups, n.lookups);
  news = omega (arith, some.1, m.news, t.news, f.news, n.news);
}

pub fits : (family : Family) (room : Room) (o : Objects) (xs : List Variable) (b : tree.Block) → first (block_faults family room o xs b) ≡ None → Fits room b
fits family room o xs (tree.End end) e = record { lookups = omega arith; news = omega arith }
fits family room o xs (tree.Do op next) e =
    let n = fits family room o xs next (back_none (operation_faults family o xs op) (block_faults family room o xs next) e) in
    record { lookups = n.lookups; news = n.news }
fits family room o xs (tree.Ask q hit miss next) e =
    let inner = behind_question room q in
    let none = ask_faultless family room o xs q hit miss next e in
    fits_ask room q hit miss next (some_question family room o xs q none.question)
    (fits family inner o (bound_by o xs q) hit none.hit)
    (fits family (behind inner hit) o xs miss none.miss)
    (fits family (behind (behind inner hit) miss) o xs next none.next)
fits family room o xs (tree.Make c made taken full next) e =
    let inner = behind_new room in
    let none = make_faultless family room o xs c made taken full next e in
    fits_make room c made taken full next (some_new family room o xs c none.creation)
    (fits family inner o (bound o xs c.variable c.chain) made none.made)
    (fits family (behind inner made) o xs taken none.taken)
    (fits family (behind (behind inner made) taken) o xs full none.full)
    (fits family (behind (behind (behind inner made) taken) full) o xs next none.next)

small : (ports : ℕ) (o : Objects) (before : List tree.Handler) (h : tree.Handler) → first (handler_faults ports o before h) ≡ None → IsSmall h.block
unfolding handler_faults
small ports o before h e =
    let twice = fault_if (is_handled h.port.value h.family before) Twice h.port.place in
    let limit = fault_if (nat_le ports h.port.value) Limit h.port.place in
    let inner = block_faults h.family whole_room o [] h.block in
    let p = fits h.family whole_room o [] h.block (back_none limit inner (back_none twice (limit ++ inner) e)) in
    record { news = p.news; lookups = p.lookups }

each_small : (ports : ℕ) (o : Objects) (before hs : List tree.Handler) → first (each_behind (handler_faults ports o) before hs) ≡ None → AreSmall hs
each_small ports o before [] e = tt
each_small ports o before (h ∷ hs) e = (
  small ports o before h (front_none (handler_faults ports o before h) (each_behind (handler_faults ports o) (before ++ h ∷ []) hs) e),
  each_small ports o (before ++ h ∷ []) hs (back_none (handler_faults ports o before h) (each_behind (handler_faults ports o) (before ++ h ∷ []) hs) e),
)

pub are_small : (ports : ℕ) (o : Objects) (hs : List tree.Handler) → first (each_behind (handler_faults ports o) [] hs) ≡ None → AreSmall hs
are_small ports o hs e = each_small ports o [] hs e
