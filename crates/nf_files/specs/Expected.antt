-- Answers that are told before the call, and those that the system gives.
use Rattle.std.specs.Prelude.{◌≡◌, Result, Ok, Err}
use Rattle.nf_files.specs.declared.fault.FilesFault.{FilesFault}
use Rattle.nf_files.specs.declared.fault.FilesFault.TheVariants.{Failed, Memory}

-- the outside failed
abbrev pub IsFailed : {T : Type 0} → Result T FilesFault → Type 0
IsFailed (Ok x) = ⊥
IsFailed (Err (Memory e)) = ⊥
IsFailed (Err Failed) = Unit {0}

-- memory didn't run out
abbrev pub IsNotMemory : {T : Type 0} → Result T FilesFault → Type 0
IsNotMemory (Ok x) = Unit {0}
IsNotMemory (Err (Memory e)) = ⊥
IsNotMemory (Err Failed) = Unit {0}

-- what the system answered, told as it is: its error, and that alone, is that the outside failed
abbrev pub IsAnswer : {T E : Type 0} → Result T E → Result T FilesFault → Type 0
IsAnswer (Ok x) (Ok y) = y ≡ x
IsAnswer (Ok x) (Err fault) = ⊥
IsAnswer (Err e) (Ok y) = ⊥
IsAnswer (Err e) (Err (Memory m)) = ⊥
IsAnswer (Err e) (Err Failed) = Unit {0}
