-- Answers as they are kept, as there are more.
use Rattle.std.proofs.Common.{◌≡◌, ℕ, ◌+◌, ◌≤◌, ◌<◌, List, [], ◌∷◌, ◌++◌, length, map, All, Some, slice_get, option_map, refl, ap, sym, ◌∙◌, arith, length-append}
use Rattle.std.specs.List.{AllByRecursion}
use Rattle.std.proofs.lemmas.List.{get_or_append_left, map_push, length_push}
use Rattle.std.proofs.lemmas.List.Elements.{recursion_from_All, All-weaker, All-push}
use mathlib.Core.List.{IsPrefix}
use Rattle.nf_base.specs.declared.done.Action.TheVariants.{Skip}
use Rattle.nf_base.specs.declared.done.Done.{Done}
use Rattle.short_answers.specs.declared.answer.Answer.{Answer}
use Rattle.short_answers.specs.declared.answer.Answer.TheVariants.{Plain, Whole}
use Rattle.short_answers.specs.Answers.{plain, answer_in, IsThere}
use Rattle.short_answers.specs.Lists.{AreKept}

-- an answer that is there stays what it is
answer_more : (old more : List Done) (a : Answer) → IsThere (length old) a → answer_in (old ++ more) a ≡ answer_in old a
answer_more old more (Plain action) h = refl
answer_more old more (Whole place) h = get_or_append_left old more (plain Skip) place h

there_more : (m n : ℕ) (a : Answer) → m ≤ n → IsThere m a → IsThere n a
there_more m n (Plain action) le h = tt
there_more m n (Whole place) le h = omega (arith, le, h)

-- so do all of them
answers_more : (old more : List Done) (kept : List Answer) → AllByRecursion (IsThere (length old)) kept → map (answer_in (old ++ more)) kept ≡ map (answer_in old) kept
answers_more old more [] h = refl
answers_more old more (a ∷ as_) h =
    ap (λ (d : Done). d ∷ map (answer_in (old ++ more)) as_) (answer_more old more a h.0)
    ∙ ap (λ (ds : List Done). answer_in old a ∷ ds) (answers_more old more as_ h.1)

longer : (old new : List Done) → IsPrefix old new → length old ≤ length new
longer old new p = let e = ap length p.1 in let f = length-append old p.0 in omega (arith, e, f)

-- one answer more
pub answers_pushed : (old new : List Done) (kept : List Answer) (a : Answer) → IsPrefix old new → AreKept old kept → map (answer_in new) (kept ++ a ∷ []) ≡ map (answer_in old) kept ++ answer_in new a ∷ []
answers_pushed old new kept a p h =
    map_push (answer_in new) kept a
    ∙ ap (λ (ds : List Done). ds ++ answer_in new a ∷ [])
    (ap (λ (w : List Done). map (answer_in w) kept) (sym p.1) ∙ answers_more old p.0 kept (recursion_from_All (IsThere (length old)) kept h.there))

pub kept_pushed : (old new : List Done) (kept : List Answer) (a : Answer) → IsPrefix old new → AreKept old kept → length new ≤ length old + 1 → IsThere (length new) a → AreKept new (kept ++ a ∷ [])
kept_pushed old new kept a p h one here =
    let up = longer old new p in
    let long = length_push kept a in
    let fewer = h.fewer in
    record {
      fewer = omega (arith, long, one, fewer);
      there = All-push (IsThere (length new)) kept a
          (All-weaker (IsThere (length old)) (IsThere (length new)) (λ x t. there_more (length old) (length new) x up t) kept h.there)
          here;
    }
