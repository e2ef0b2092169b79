-- The choices that a handler is given, and those that it takes.
use Rattle.std.specs.Prelude.{◌≡◌, ℕ, Bool, IsTrue, List, length, take, drop, Option, Some, None}
use Rattle.std.specs.Borrow.{Bor}
use Rattle.nf_base.specs.declared.share.Share.{Share}
use Rattle.nf_base.specs.Context as context
use Rattle.std.specs.List.{list_all}
use Rattle.nf_base.specs.Shares.{owns}
use Rattle.vig_tables.specs.TablesState.{TablesState}
use Rattle.nf_engine.specs.declared.context.Context.{Context}
use Rattle.nf_engine.specs.Input.{Input}
use Rattle.nf_engine.specs.View.{context_of}

-- the choices given, or none: then an entry gets any vacant index of the share
abbrev pub Choices : Type 0
Choices = Option (Bor (List ℕ))

-- What may be all the choices of a packet, where some were taken: those given, or else any that
-- begin with the ones taken.
abbrev pub MayBe : Choices → List ℕ → List ℕ → Type 0
MayBe None taken all = take (length taken) all ≡ taken
MayBe (Some choices) taken all = all ≡ choices.now

-- there are choices
abbrev pub AreGiven : Choices → Type 0
AreGiven None = ⊥
AreGiven (Some choices) = Unit {0}

-- whether choices are a share's own
abbrev pub are_own : Share → List ℕ → Bool
are_own share choices = list_all (owns share) choices

-- From some choices taken, more are consumed of all: each that is consumed is own.
pub record Consumes (p : Input) (old new all : List ℕ) : Type 0 where
  pub may : MayBe p.choices old all
  pub own :
      IsTrue (are_own p.share (take (length old) all))
      → IsTrue (are_own p.share (take (length new) all))

-- a handler in its context, where of all choices those behind the ones taken are left
abbrev pub context_by : List ℕ → TablesState → Context → context.Context
context_by all t c = context_of t (drop (length c.picks) all) c
