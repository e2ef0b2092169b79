-- What the check answers.
use Rattle.std.specs.Prelude.{◌≡◌, List, [], Some, None, Result, Ok, Err}
use Rattle.nf_base.specs.declared.func.Func.{Func}
use Rattle.nf_base.specs.Functions.{function_of}
use Rattle.nf_tree.specs.Tree.{Tree}
use Rattle.nf_types.specs.declared.fault.Fault.{Fault}
use Rattle.nf_types.specs.declared.fault.TypingFault.{TypingFault}
use Rattle.nf_types.specs.declared.fault.TypingFault.TheVariants as stops
use Rattle.nf_types.specs.declared.fault.CheckFault.{CheckFault}
use Rattle.nf_types.specs.declared.fault.CheckFault.TheVariants as answers
use Rattle.nf_types.specs.Faults.{first}
use Rattle.nf_types.specs.Function.{function}
use Rattle.nf_types.specs.TextFaults.{faults}

-- a part answers what it stands for, where nothing is wrong with it; or its first fault; or memory ran out
abbrev pub Finds : {X A : Type 0} → (X → A) → List Fault → A → Result X TypingFault → Type 0
Finds view wrong wanted (Ok x) = (first wrong ≡ None) × (view x ≡ wanted)
Finds view wrong wanted (Err (stops.Broken fault)) = first wrong ≡ Some fault
Finds view wrong wanted (Err stops.Memory) = Unit {0}

-- the function of a tree that has no fault; or its first fault in text order; or memory ran out
abbrev pub Answers : Result Func CheckFault → Tree → Type 0
Answers (Ok func) tree = (faults tree ≡ []) × (function_of func ≡ function tree)
Answers (Err (answers.Typing kind line column)) tree =
    first (faults tree) ≡ Some (record {
      kind = kind;
      place = record { line = line; column = column };
    })
Answers (Err answers.Memory) tree = Unit {0}
