use Rattle.std.proofs.Common.{◌≡◌, ◌∙◌, ap, sym, refl, arith, ℕ, ◌<◌, ◌≤◌, List, [], ◌∷◌, length, get_or}
use Rattle.std.specs.Prelude.{fold, bit_and}
use Rattle.std.proofs.lemmas.List.{take_all}
use Rattle.hash_slots.specs.Hashes.{mixed, step, tag_of}
use Rattle.hash_slots.proofs.hash.tag_of.Goals as goal

-- a key of four parts, part by part
four :
    (key : List ℕ) → 4 ≤ length key → length key < 5
    → key ≡ get_or key 0 0 ∷ get_or key 1 0 ∷ get_or key 2 0 ∷ get_or key 3 0 ∷ []
four [] least most = absurd (omega (arith, least))
four (a ∷ []) least most = absurd (omega (arith, least))
four (a ∷ b ∷ []) least most = absurd (omega (arith, least))
four (a ∷ b ∷ c ∷ []) least most = absurd (omega (arith, least))
four (a ∷ b ∷ c ∷ d ∷ []) least most = refl
four (a ∷ b ∷ c ∷ d ∷ e ∷ rest) least most = absurd (omega (arith, most))

pub returns : goal.returns
unfolding tag_of
returns c =
    c.tag-2.ensures
    ∙ ap (λ (h : ℕ). bit_and (mixed h 0xD1B54A32D192ED03) 0xFFFFFFFF) (c.loop-part.invariant ∙ ap (fold step 0xD1B54A32D192ED03) (take_all c.loop-part.part-index c.args.key.now c.loop-part-test.false))

pub returns-in-len4 : goal.returns-in-len4
unfolding tag_of
returns-in-len4 c =
    let key = c.args.key.now in
    let d = λ (h : ℕ). step h (get_or key 3 0) in
    let c' = λ (h : ℕ). d (step h (get_or key 2 0)) in
    let b = λ (h : ℕ). c' (step h (get_or key 1 0)) in
    let hash = c.stirred-in-len4-3.ensures ∙ ap d c.stirred-in-len4-2.ensures ∙ ap c' c.stirred-in-len4.ensures ∙ ap b c.stirred.ensures in
    c.tag.ensures
    ∙ ap (λ (h : ℕ). bit_and (mixed h 0xD1B54A32D192ED03) 0xFFFFFFFF) (hash ∙ ap (fold step 0xD1B54A32D192ED03) (sym (four key c.in-len4.len_at_least c.in-len4.len_below)))
