-- Laws of texts.
use Rattle.std.specs.Prelude.{◌≡◌, ℕ, List}
use Rattle.nf_base.specs.Text.{Function}
use Rattle.call_base.specs.declared.status.Fault.{Fault}
use Rattle.call_base.specs.Source.{IsFunction, IsFault}

-- a text is at most one function
abbrev pub IsOneFunction : Type 0
IsOneFunction = (text : List ℕ) (f g : Function) → IsFunction text f → IsFunction text g → f ≡ g

-- a text has at most one first fault, at one place
abbrev pub HasOneFault : Type 0
HasOneFault =
    (text : List ℕ) (kind other : Fault) (line column row place : ℕ) →
    IsFault text kind line column → IsFault text other row place →
    (kind ≡ other) × (line ≡ row) × (column ≡ place)

-- a text that has a fault is no function
abbrev pub IsNoFunctionWithFault : Type 0
IsNoFunctionWithFault =
    (text : List ℕ) (f : Function) (kind : Fault) (line column : ℕ) →
    IsFunction text f → IsFault text kind line column → ⊥
