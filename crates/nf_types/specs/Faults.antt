-- Type faults, and lists of them in text order.
use Rattle.std.specs.Prelude.{Bool, nat_lt, List, [], ◌∷◌, ◌++◌, Option, Some, None, Result, Ok, Err, if◌then◌else◌, length}
use Rattle.nf_tokens.specs.declared.token.Place.{Place}
use Rattle.nf_tree.specs.declared.place.Name.{Name}
use Rattle.nf_types.specs.declared.fault.TypingKind.{TypingKind}
use Rattle.nf_types.specs.declared.fault.TypingKind.TheVariants.{Limit}
use Rattle.nf_types.specs.declared.fault.Fault.{Fault}

-- a fault at a place, where something is wrong there
abbrev pub fault_if : Bool → TypingKind → Place → List Fault
fault_if wrong kind place = if wrong then record { kind = kind; place = place } ∷ [] else []

-- what is wrong with each item, by the items before it
abbrev pub each_behind : {A : Type 0} → (List A → A → List Fault) → (before : List A) → List A →
    List Fault
each_behind faults before [] = []
each_behind faults before (x ∷ xs) = faults before x ++ each_behind faults (before ++ x ∷ []) xs

-- A name has at most 32 bytes. No text has a tree with a longer one, for that is a fault of its tokens.
abbrev pub length_faults : Name → List Fault
length_faults x = fault_if (nat_lt 32 (length x.bytes)) Limit x.place

-- the first fault, if there is one
abbrev pub first : List Fault → Option Fault
first [] = None
first (fault ∷ faults) = Some fault

-- the fault that an answer holds, if it holds one
abbrev pub fault_in : {X : Type 0} → Result X Fault → Option Fault
fault_in (Ok x) = None
fault_in (Err fault) = Some fault
