-- How many bytes of a capture's file a call takes.
use Rattle.std.specs.Prelude.{◌≡◌, ℕ, ◌+◌, ◌≤◌, List, length, drop, Option, Some, None, Result, Ok, Err}
use Rattle.pcap_file.specs.declared.reader.Next.{Next}
use Rattle.pcap_file.specs.declared.reader.Next.TheVariants.{Frame, End, Torn}
use Rattle.pcap_file.specs.declared.fault.CapFault.{CapFault}
use Rattle.pcap_file.specs.declared.fault.CapFault.TheVariants.{NotCapture, File, Memory}

-- so many bytes were taken off the front of what was left of a file, where that is told
abbrev pub AreTaken : ℕ → Option (List ℕ) → Option (List ℕ) → Type 0
AreTaken count (Some old) (Some new) = new ≡ drop count old
AreTaken count None None = Unit {0}
AreTaken count (Some old) None = ⊥
AreTaken count None (Some new) = ⊥

-- at most so many were
pub record AreAtMostTaken (most : ℕ) (old new : Option (List ℕ)) : Type 0 where
  pub count : ℕ
  pub within : count ≤ most
  pub taken : AreTaken count old new

-- the bytes of a header, or all that there were
abbrev pub TakesHeader : {T : Type 0} → Option (List ℕ) → Option (List ℕ) → Result T CapFault → Type 0
TakesHeader old new (Ok x) = AreTaken 24 old new
TakesHeader old new (Err NotCapture) = AreTaken 24 old new
TakesHeader old new (Err File) = AreAtMostTaken 24 old new
TakesHeader old new (Err Memory) = AreAtMostTaken 24 old new

-- The bytes of the record that was given, none at the end, and else no more than a record can have.
abbrev pub TakesRecord : Option (List ℕ) → Option (List ℕ) → List ℕ → Result Next CapFault → Type 0
TakesRecord old new frame (Ok (Frame head)) = AreTaken (16 + length frame) old new
TakesRecord old new frame (Ok End) = AreTaken 0 old new
TakesRecord old new frame (Ok (Torn offset)) = AreAtMostTaken (16 + 262144) old new
TakesRecord old new frame (Err fault) = AreAtMostTaken (16 + 262144) old new
