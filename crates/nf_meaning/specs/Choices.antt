-- The choices that a handler is given, and those that it takes.
use Rattle.std.specs.Prelude.{◌≡◌, ℕ, suc, false, List, [], ◌∷◌, ◌++◌, length, take, drop, Option, Some, None, slice_get}
use Rattle.std.specs.Borrow.{Bor}
use Rattle.nf_base.specs.declared.state.Entry.{Entry}
use Rattle.nf_base.specs.Chains.{is_vacant}
use Rattle.nf_base.specs.Context as context
use Rattle.nf_meaning.specs.declared.context.Context.{Context}
use Rattle.nf_meaning.specs.View.{context_of}

-- the choices given, or none: then an entry gets the least vacant index of its chain
abbrev pub Choices : Type 0
Choices = Option (Bor (List ℕ))

-- the least index that holds no entry; in a full list its length
abbrev pub least_vacant : List (Option Entry) → ℕ
least_vacant [] = 0
least_vacant (None ∷ slots) = 0
least_vacant (Some entry ∷ slots) = suc (least_vacant slots)

-- What may be all the choices of a packet, where some were taken: those given, or else any that
-- begin with the ones taken.
abbrev pub MayBe : Choices → List ℕ → List ℕ → Type 0
MayBe None taken all = take (length taken) all ≡ taken
MayBe (Some choices) taken all = all ≡ choices.now

-- there are choices
abbrev pub AreGiven : Choices → Type 0
AreGiven None = ⊥
AreGiven (Some choices) = Unit {0}

-- The index that a `new` tries after some choices; one that is not vacant was given.
abbrev pub NextIs : Option ℕ → Choices → List ℕ → List (Option Entry) → Type 0
NextIs None choices taken slots =
    AreGiven choices
    × ((all : List ℕ) → MayBe choices taken all → drop (length taken) all ≡ [])
NextIs (Some i) choices taken slots =
    (is_vacant (slice_get slots i) ≡ false → AreGiven choices)
    × ((all : List ℕ)
    → MayBe choices (taken ++ i ∷ []) all
    → MayBe choices taken all
    × (drop (length taken) all ≡ i ∷ drop (length (taken ++ i ∷ [])) all))

-- a handler in its context, where of all choices those behind the ones taken are left
abbrev pub context_by : List ℕ → Context → context.Context
context_by all c = context_of (drop (length c.picks) all) c
