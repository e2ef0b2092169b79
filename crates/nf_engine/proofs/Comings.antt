-- What a `new` comes to, by what it finds.
use Rattle.std.proofs.Common.{◌≡◌, ◌∙◌, ℕ, suc, Bool, true, false, ◌&&◌, List, [], ◌∷◌, ◌++◌, length, drop, refl, sym, subst, Bor, Option, Some, None, slice_get, zero}
use Rattle.std.proofs.lemmas.Bool.{and_parts}
use Rattle.nf_base.specs.declared.share.Share.{Share}
use Rattle.nf_base.specs.declared.state.Entry.{Entry}
use Rattle.nf_base.specs.declared.state.Chain.{Chain}
use Rattle.nf_base.specs.Chains.{chain_at, maps_of}
use Rattle.nf_base.specs.Operations as step
use Rattle.nf_base.specs.Shares.{owns, none_vacant}
use Rattle.vig_tables.specs.Table.{is_open, FindsFull, FindsOpen}
use Rattle.nf_engine.specs.Input.{Input}
use Rattle.nf_engine.specs.declared.creation.NewResult.{NewResult}
use Rattle.nf_engine.specs.declared.creation.NewResult.TheVariants.{Made, Taken, Full, Illegal, Stopped}
use Rattle.nf_engine.specs.Choices.{MayBe, AreGiven, are_own}
use Rattle.nf_engine.specs.Stops.{may_halt}
use Rattle.nf_engine.specs.Creations.{IfMade, IfIllegal, Finds, FindsSome, IsClosed, result_with, ComesTo}
use Rattle.nf_engine.proofs.Vacant.{some_vacant, not_full, some_not_full, all_full, owns_all}
use Rattle.nf_engine.proofs.Fronts.{next_front, next_at, next_given, none_next, one_more_own}

and_false : (b : Bool) → (b && false) ≡ false
and_false true = refl
and_false false = refl

-- the next choice is made
made_is : (p : Input) (k : ℕ) (labels : List ℕ) (chains : List Chain) (i : ℕ) (left : List ℕ) → FindsOpen (maps_of p.decls k) labels p.share (chain_at chains k).slots i → result_with p k labels chains (i ∷ left) ≡ step.Made i
made_is p k labels chains i left h =
    let slots = (chain_at chains k).slots in
    let some = some_vacant (owns p.share) slots i h.own h.vacant in
    rw (h.untaken, some, and_false (may_halt p), not_full slots i h.vacant, h.vacant) refl

not_part : (a b : Bool) → a ≡ false → (a && b) ≡ false
not_part a b e = rw e refl

-- the share is the whole, and full
full_is : (p : Input) (k : ℕ) (labels : List ℕ) (chains : List Chain) (left : List ℕ) → p.share.of ≡ 1 → may_halt p ≡ false → FindsFull (maps_of p.decls k) labels p.share (chain_at chains k).slots → result_with p k labels chains left ≡ step.Full
full_is p k labels chains left whole not h =
    let slots = (chain_at chains k).slots in
    let full = all_full (owns p.share) slots (owns_all p.share whole) h.full in
    rw (h.untaken, not_part (may_halt p) (none_vacant (owns p.share) slots) not, full) refl

-- a `new` stops there, and the share is full
stopped_is : (p : Input) (k : ℕ) (labels : List ℕ) (chains : List Chain) (left : List ℕ) → may_halt p ≡ true → FindsFull (maps_of p.decls k) labels p.share (chain_at chains k).slots → result_with p k labels chains left ≡ step.Stopped
stopped_is p k labels chains left part h = rw (h.untaken, part, h.full) refl

-- a choice that is own and closed is not vacant
chosen_illegal : (p : Input) (slots : List (Option Entry)) (i : ℕ) (left : List ℕ) → owns p.share i ≡ true → is_open p.share slots i ≡ false → step.chosen slots (i ∷ left) ≡ step.Illegal
chosen_illegal p slots i left own closed = rw (rw own at closed) refl

illegal_is : (p : Input) (k : ℕ) (labels : List ℕ) (chains : List Chain) (left : List ℕ) → FindsSome p k labels (chain_at chains k).slots → step.chosen (chain_at chains k).slots left ≡ step.Illegal → result_with p k labels chains left ≡ step.Illegal
illegal_is p k labels chains left h chosen =
    let slots = (chain_at chains k).slots in
    rw (h.untaken, h.some, and_false (may_halt p), some_not_full (owns p.share) slots h.some) chosen

-- of choices that are own each is
own_at : (share : Share) (xs : List ℕ) (n i : ℕ) → are_own share xs ≡ true → slice_get xs n ≡ Some i → owns share i ≡ true
own_at share [] n i own e = cc
own_at share (x ∷ xs) zero i own e = let same : x ≡ i = cc in rw (← same) (and_parts (owns share x) (are_own share xs) own).0
own_at share (x ∷ xs) (suc n) i own e = own_at share xs n i (and_parts (owns share x) (are_own share xs) own).1 e

-- a choice that can't be made
pub closed_is : (p : Input) (k : ℕ) (labels : List ℕ) (chains : List Chain) (all : List ℕ) (n : ℕ) (next : Option ℕ) → slice_get all n ≡ next → are_own p.share all ≡ true → FindsSome p k labels (chain_at chains k).slots → IsClosed p.share (chain_at chains k).slots next → result_with p k labels chains (drop n all) ≡ step.Illegal
closed_is p k labels chains all n None at own h closed = rw (none_next all n at) (illegal_is p k labels chains [] h refl)
closed_is p k labels chains all n (Some i) at own h closed =
    rw (next_at all n i at) (illegal_is p k labels chains (i ∷ drop (suc n) all) h (chosen_illegal p (chain_at chains k).slots i (drop (suc n) all) (own_at p.share all n i own at) closed))

-- an entry is made at the next choice
comes_made : (p : Input) (taken : List ℕ) (k : ℕ) (labels : List ℕ) (chains : List Chain) (i : ℕ) → FindsOpen (maps_of p.decls k) labels p.share (chain_at chains k).slots i → ((all : List ℕ) → MayBe p.choices (taken ++ i ∷ []) all → MayBe p.choices taken all × (drop (length taken) all ≡ i ∷ drop (length (taken ++ i ∷ [])) all)) → ComesTo (Made i) p taken (result_with p k labels chains)
comes_made p taken k labels chains i h front = λ all may.
    let f = front all may in
    record {
      consumes = record { may = f.0; own = one_more_own p.share taken i all f.1 h.own };
      next = f.1;
      made = rw f.1 (made_is p k labels chains i (drop (length (taken ++ i ∷ [])) all) h);
    }

-- where no choices are given
pub comes_anywhere : (result : NewResult) (p : Input) (taken : List ℕ) (k : ℕ) (labels : List ℕ) (chains : List Chain) → p.choices ≡ None → Finds result p k labels (chain_at chains k).slots → IfIllegal result ⊥ → ComesTo result p taken (result_with p k labels chains)
comes_anywhere (Made i) p taken k labels chains none h legal =
    comes_made p taken k labels chains i h (λ all may. let f = next_front taken i all (subst (λ cs. MayBe cs (taken ++ i ∷ []) all) none may) in (subst (λ cs. MayBe cs taken all) (sym none) f.0, f.1))
comes_anywhere Taken p taken k labels chains none h legal = λ left. rw h refl
comes_anywhere Full p taken k labels chains none h legal = λ left. full_is p k labels chains left h.0 h.1 h.2
comes_anywhere Illegal p taken k labels chains none h legal = absurd legal
comes_anywhere Stopped p taken k labels chains none h legal = (h.0, λ left. stopped_is p k labels chains left h.0 h.1)

-- where they are given
pub comes_at : (result : NewResult) (p : Input) (taken : List ℕ) (k : ℕ) (labels : List ℕ) (chains : List Chain) (choices : Bor (List ℕ)) (next : Option ℕ) → p.choices ≡ Some choices → next ≡ slice_get choices.now (length taken) → Finds result p k labels (chain_at chains k).slots → IfMade result (λ i. next ≡ Some i) → IfIllegal result (IsClosed p.share (chain_at chains k).slots next) → ComesTo result p taken (result_with p k labels chains)
comes_at (Made i) p taken k labels chains choices next given is h at closed =
    comes_made p taken k labels chains i h (λ all may.
    let same : all ≡ choices.now = subst (λ cs. MayBe cs (taken ++ i ∷ []) all) given may in
    (subst (λ cs. MayBe cs taken all) (sym given) same, rw same (next_given choices.now taken i (sym is ∙ at))))
comes_at Taken p taken k labels chains choices next given is h at closed = λ left. rw h refl
comes_at Full p taken k labels chains choices next given is h at closed = λ left. full_is p k labels chains left h.0 h.1 h.2
comes_at Illegal p taken k labels chains choices next given is h at closed = (
  subst AreGiven (sym given) tt,
  λ all may own.
      let same : all ≡ choices.now = subst (λ cs. MayBe cs taken all) given may in
      closed_is p k labels chains all (length taken) next (rw same (sym is)) own h closed,
)
comes_at Stopped p taken k labels chains choices next given is h at closed = (h.0, λ left. stopped_is p k labels chains left h.0 h.1)
