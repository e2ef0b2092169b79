-- What a record says of its `new`s.
use Rattle.std.specs.Prelude.{◌≡◌, ◌↔◌, ℕ, true, List, Some, Contains}
use Rattle.nf_base.specs.Operations.{NewResult, Full, Illegal, Stopped}
use Rattle.nf_base.specs.Events.{Event, AskedNew}
use Rattle.nf_base.specs.Record.{result_of_new, is_legal, answers_full}

-- an event is a `new` that came to this
pub record IsNew (e : Event) (result : NewResult) : Type 0 where
  pub place : ℕ
  pub chain : ℕ
  pub labels : List ℕ
  pub is : e ≡ AskedNew place chain labels result

-- exactly the event of a `new` has a result, the one that it came to
abbrev pub ResultsAreOfNews : Type 0
ResultsAreOfNews = (e : Event) (result : NewResult) →
    (result_of_new e ≡ Some result) ↔ IsNew e result

-- some `new` of a record came to this
pub record HasNew (es : List Event) (result : NewResult) : Type 0 where
  pub event : Event
  pub told : Contains es event
  pub new_ : IsNew event result

-- a record is legal where no choice was illegal and no `new` stopped
abbrev pub LegalRecordsAreAnswered : Type 0
LegalRecordsAreAnswered = (es : List Event) →
    (is_legal es ≡ true) ↔ ((HasNew es Illegal → ⊥) × (HasNew es Stopped → ⊥))

-- a record answers full where some `new` found no index vacant
abbrev pub FullAnswersAreTold : Type 0
FullAnswersAreTold = (es : List Event) → (answers_full es ≡ true) ↔ HasNew es Full
