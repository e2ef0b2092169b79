-- Bytes that are taken in several reads.
use Rattle.std.proofs.Common.{◌≡◌, ℕ, ◌+◌, ◌-◌, ◌≤◌, List, [], ◌++◌, length, take, drop, slice_range, Bool, true, false, Option, Some, None, Result, Ok, Err, refl, sym, ap, subst, ◌∙◌, append-nil, append_assoc, drop_of_length-le, arith}
use Rattle.std.specs.Result.{IsErr, IsErrAnd, IfErr}
use Rattle.std.proofs.Math.Seq.{take-add, drop-length}
use Rattle.std.proofs.lemmas.List.{take-take, drop-append-le}
use Rattle.nf_files.specs.Pieces.{Takes}
use Rattle.nf_files.specs.Told.{Told}
use Rattle.nf_files.specs.Reads.{Keeps}
use Rattle.pcap_file.specs.Held.{Held, Grows, Filled, to_come}
use Rattle.nf_files.specs.declared.fault.FilesFault.{FilesFault}
use Rattle.nf_files.specs.declared.fault.FilesFault.TheVariants as outside
use Rattle.pcap_file.specs.declared.reader.Next.{Next}
use Rattle.pcap_file.specs.declared.fault.CapFault.{CapFault}
use Rattle.pcap_file.specs.declared.fault.CapFault.TheVariants.{NotCapture, File, Memory}
use Rattle.nf_files.specs.Causes.{Counted}
use Rattle.pcap_file.specs.Causes.{cap_fault, IsCause}
use Rattle.pcap_file.specs.Taken.{AreTaken, AreAtMostTaken, TakesHeader, TakesRecord}

come_more : (held more : List ℕ) (before now : Option (List ℕ)) → Takes more before now → to_come (held ++ more) now ≡ to_come held before
come_more held more None None taken = refl
come_more held more None (Some now) taken = absurd taken
come_more held more (Some before) None taken = absurd taken
come_more held more (Some before) (Some now) taken = ap Some (append_assoc held more now ∙ ap (λ (xs : List ℕ). held ++ xs) (sym taken))

-- bytes that were read once
pub grows_once : (old new : Held) (more : List ℕ) (before now : Told) → new.file ≡ old.file → new.bytes ≡ old.bytes ++ more → Takes more (before.rest old.file) (now.rest old.file) → Keeps before now old.file → Grows old new before now
grows_once old new more before now same grown taken kept = record {
  same_file = same;
  more = more;
  grown = grown;
  same_bytes = ap (λ (xs : List ℕ). to_come xs (now.rest old.file)) grown ∙ come_more old.bytes more (before.rest old.file) (now.rest old.file) taken;
  kept = kept;
}

-- the front of a room, after bytes were read behind it
pub longer_front : (old new : List ℕ) (at end count : ℕ) → count ≤ end - at → take at new ≡ take at old → take (at + count) new ≡ take at old ++ take count (slice_range new at end)
longer_front old new at end count le same =
    let piece : take count (slice_range new at end) ≡ take count (drop at new) = take-take count (end - at) (drop at new) le in
    take-add at count new ∙ ap (λ (xs : List ℕ). xs ++ take count (drop at new)) same ∙ ap (λ (xs : List ℕ). take at old ++ xs) (sym piece)

some_is : (xs ys : List ℕ) → Some xs ≡ Some ys → xs ≡ ys
some_is xs ys e = cc

-- what is held now and was not before was taken
all_taken : (held : List ℕ) (before now : Option (List ℕ)) → to_come held now ≡ to_come [] before → AreTaken (length held) before now
all_taken held None None same = tt
all_taken held None (Some now) same = absurd cc
all_taken held (Some before) None same = absurd cc
all_taken held (Some before) (Some now) same =
    let bytes : held ++ now ≡ before = some_is (held ++ now) before same in
    sym (ap (drop (length held)) (sym bytes) ∙ drop-append-le (length held) held now (omega arith) ∙ ap (λ (xs : List ℕ). xs ++ now) (drop-length held))

pub at_most_taken : (most : ℕ) (held : List ℕ) (before now : Option (List ℕ)) → length held ≤ most → to_come held now ≡ to_come [] before → AreAtMostTaken most before now
at_most_taken most held before now le same = record { count = length held; within = le; taken = all_taken held before now same }

pub exactly_taken : (count : ℕ) (held : List ℕ) (before now : Option (List ℕ)) → length held ≡ count → to_come held now ≡ to_come [] before → AreTaken count before now
exactly_taken count held before now long same = subst (λ (n : ℕ). AreTaken n before now) long (all_taken held before now same)

-- so many bytes were wanted, and perhaps the file ended
pub filled_taken : (wanted : ℕ) (held : List ℕ) (before now : Option (List ℕ)) (b : Bool) → Filled wanted held now b → length held ≤ wanted → to_come held now ≡ to_come [] before → AreTaken wanted before now
filled_taken wanted held before now true filled most same = exactly_taken wanted held before now (omega arith) same
filled_taken wanted held None None false filled most same = tt
filled_taken wanted held None (Some now) false filled most same = absurd cc
filled_taken wanted held (Some before) None false filled most same = absurd cc
filled_taken wanted held (Some before) (Some now) false filled most same =
    let bytes : held ++ now ≡ before = some_is (held ++ now) before same in
    let all : before ≡ held = sym bytes ∙ ap (λ (xs : List ℕ). held ++ xs) filled.1 ∙ append-nil held in
    filled.1 ∙ sym (ap (drop wanted) all ∙ drop_of_length-le held (omega arith))

pub none_left : (count : ℕ) (held : List ℕ) → length held ≤ count → drop count held ≡ []
none_left count held le = drop_of_length-le held le

none_held : (rest : Option (List ℕ)) → to_come [] rest ≡ rest
none_held None = refl
none_held (Some bytes) = refl

-- where nothing is held, what is still to come is the rest
pub none_held_after : (held : List ℕ) (rest : Option (List ℕ)) → held ≡ [] → to_come held rest ≡ rest
none_held_after held rest none = ap (λ (xs : List ℕ). to_come xs rest) none ∙ none_held rest

-- an error of the files is no wrong header
pub takes_header : {T : Type 0} (before now : Option (List ℕ)) (r : Result T CapFault) (fault : FilesFault) → IsErrAnd r (λ e. e ≡ cap_fault fault) → AreAtMostTaken 24 before now → TakesHeader before now r
takes_header before now (Ok x) fault is taken = absurd is
takes_header before now (Err File) fault is taken = taken
takes_header before now (Err Memory) fault is taken = taken
takes_header before now (Err NotCapture) (outside.Failed) is taken = absurd (cc is)
takes_header before now (Err NotCapture) (outside.Memory e) is taken = absurd (cc is)

pub takes_record : (before now : Option (List ℕ)) (frame : List ℕ) (r : Result Next CapFault) → IsErr r → AreAtMostTaken 262160 before now → TakesRecord before now frame r
takes_record before now frame (Ok x) is taken = absurd cc
takes_record before now frame (Err fault) is taken = taken

-- what follows the header takes no more of the file
pub takes_same : {U : Type 0} (before now : Option (List ℕ)) (r : Result U CapFault) → AreTaken 24 before now → IfErr r (λ fault. fault ≡ NotCapture) → TakesHeader before now r
takes_same before now (Ok y) taken is = taken
takes_same before now (Err NotCapture) taken is = taken
takes_same before now (Err File) taken is = absurd cc
takes_same before now (Err Memory) taken is = absurd cc

-- nor does it count a fault
pub cause_same : {U : Type 0} (old new : Counted) (file : ℕ) (r : Result U CapFault) → new ≡ old → IfErr r (λ fault. fault ≡ NotCapture) → IsCause old new file r
cause_same old new file (Ok y) same is = same
cause_same old new file (Err NotCapture) same is = same
cause_same old new file (Err File) same is = absurd cc
cause_same old new file (Err Memory) same is = absurd cc
