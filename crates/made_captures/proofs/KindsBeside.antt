-- The kinds of numbers beside made captures.
use Rattle.std.proofs.Common.{◌≡◌, ◌≢◌, ℕ, ◌+◌, ◌-◌, ◌^◌, ◌<◌, ◌≤◌, ◌⊎◌, inl, inr, Bool, true, false, cond, leb, ltb, List, ◌++◌, length, take, refl, sym, ap, ap₂, subst, ◌∙◌, leb-true, arith}
use Rattle.std.specs.Prelude.{Option, Some, None, slice_get, option_and_then, option_map}
use Rattle.std.proofs.lemmas.Bool.{cases_eq, lt-ltb, le-leb, lt-leb}
use Rattle.nf_files.specs.declared.kind.Kind.{Kind}
use Rattle.nf_files.specs.declared.kind.Kind.TheVariants.{Input, Output}
use Rattle.nf_files.specs.Told.{Told, Same, IsRead}
use Rattle.nf_files.specs.Reads.{Reads}
use Rattle.nf_files.specs.Writes.{Writes}
use Rattle.made_captures.specs.Captures.{first_number, port_of, left_at, IsMade, IsGiven}
use Rattle.made_captures.specs.Told.{first_of, with_made}
use Rattle.made_captures.specs.Outputs.{if_written, kinds_beside, with_kinds}
use Rattle.made_captures.proofs.Placing.{left_other, left_this, left_set, reads_made}

-- ---- files that are written

kinds_same : (captures : List (List ℕ)) (last : ℕ) (old new : ℕ → Option Kind) → ((g : ℕ) → new g ≡ old g) → (g : ℕ) → kinds_beside captures last new g ≡ kinds_beside captures last old g
kinds_same captures last old new same g =
    ap₂ (λ (low beyond : Option Kind). cond (ltb g (2 ^ 32)) (first_of (option_map (λ (left : List ℕ). Input) (left_at captures g)) (cond (leb g last) (if_written low) None)) beyond) (same g) (same (g - 2 ^ 32))

pub writes_kinds : (captures : List (List ℕ)) (last : ℕ) (was is : ℕ → Option Kind) (old new : Told) (file : ℕ) (piece : List ℕ) → ((g : ℕ) → is g ≡ was g) → Writes old new file piece
    → Writes (with_kinds captures last was old) (with_kinds captures last is new) file piece
writes_kinds captures last was is old new file piece same w = record {
  gained = w.gained;
  current = λ n now. let later = w.current n (record { last = now.last; follows = now.follows }) in record { last = later.last; follows = later.follows };
  contents = w.contents;
  rests = w.rests;
  givens = w.givens;
  names = w.names;
  kinds = kinds_same captures last was is same;
  latest_same = w.latest_same;
  next_same = w.next_same;
}

pub same_kinds : (captures : List (List ℕ)) (last : ℕ) (was is : ℕ → Option Kind) (old new : Told) → ((g : ℕ) → is g ≡ was g) → Same old new → Same (with_kinds captures last was old) (with_kinds captures last is new)
same_kinds captures last was is old new same s = record {
  contents = s.contents;
  rests = s.rests;
  givens = s.givens;
  names = s.names;
  kinds = kinds_same captures last was is same;
  latest_same = s.latest_same;
  next_same = s.next_same;
}

written_so : (low le : Bool) (left : Option (List ℕ)) (kind beyond : Option Kind) → low ≡ true → cond low (first_of (option_map (λ (l : List ℕ). Input) left) (cond le (if_written kind) None)) beyond ≡ Some Output → (kind ≡ Some Output) × (le ≡ true)
written_so true le (Some l) kind beyond t e = absurd cc
written_so true true None (Some Output) beyond t e = (refl, refl)
written_so true true None (Some Input) beyond t e = absurd cc
written_so true true None None beyond t e = absurd cc
written_so true false None kind beyond t e = absurd cc
written_so false le left kind beyond t e = absurd cc

-- a number that is written beside made captures is that of such a file, not behind the last one
pub written_file : (captures : List (List ℕ)) (last file : ℕ) (kind : ℕ → Option Kind) → file < 2 ^ 32 → kinds_beside captures last kind file ≡ Some Output → (kind file ≡ Some Output) × (file ≤ last)
written_file captures last file kind low e =
    let so = written_so (ltb file (2 ^ 32)) (leb file last) (left_at captures file) (kind file) (kind (file - 2 ^ 32)) (lt-ltb file (2 ^ 32) low) e in
    (so.0, leb-true file last so.1)

-- ---- made captures that are read

read_so : (low le : Bool) (left : Option (List ℕ)) (kind beyond : Option Kind) → low ≡ true → left ≡ None → cond low (first_of (option_map (λ (l : List ℕ). Input) left) (cond le (if_written kind) None)) beyond ≡ Some Input → ⊥
read_so true le (Some l) kind beyond t n e = absurd cc
read_so true true None (Some Output) beyond t n e = absurd cc
read_so true true None (Some Input) beyond t n e = absurd cc
read_so true true None None beyond t n e = absurd cc
read_so true false None kind beyond t n e = absurd cc
read_so false le left kind beyond t n e = absurd cc

-- only made captures are read
pub is_some_port : (captures : List (List ℕ)) (last file : ℕ) (kind : ℕ → Option Kind) → port_of (length captures) file ≡ None → file < 2 ^ 32 → kinds_beside captures last kind file ≡ Some Input → ⊥
is_some_port captures last file kind none low e =
    read_so (ltb file (2 ^ 32)) (leb file last) (left_at captures file) (kind file) (kind (file - 2 ^ 32)) (lt-ltb file (2 ^ 32) low) (none_left captures file none) e
  where
    none_left : (captures : List (List ℕ)) (file : ℕ) → port_of (length captures) file ≡ None → left_at captures file ≡ None
    none_left captures file none = rw none refl

-- what a number is after a read of a made capture
made_kind : (captures new : List (List ℕ)) (file port count number : ℕ) (buffer : List ℕ) → port_of (length captures) file ≡ Some port → IsGiven port count buffer captures new → ((number ≡ file) ⊎ (number ≡ file → ⊥))
    → option_map (λ (l : List ℕ). Input) (left_at new number) ≡ option_map (λ (l : List ℕ). Input) (left_at captures number)
made_kind captures new file port count number buffer e g (inl same) =
    let before = left_this captures file port e ∙ g.given in
    let after : left_at new file ≡ Some g.later = ap (λ (all : List (List ℕ)). left_at all file) g.kept ∙ left_set captures (take count buffer ++ g.later) g.later file port e g.given in
    rw (same, after, before) refl
made_kind captures new file port count number buffer e g (inr ne) =
    ap (λ (left : Option (List ℕ)). option_map (λ (l : List ℕ). Input) left) (ap (λ (all : List (List ℕ)). left_at all number) g.kept ∙ left_other captures g.later file port number e ne)

pub reads_beside : (captures new : List (List ℕ)) (mark : List ℕ) (told : Told) (kind : ℕ → Option Kind) (last file port count : ℕ) (buffer : List ℕ) → port_of (length captures) file ≡ Some port → count ≤ length buffer → IsGiven port count buffer captures new
    → Reads (with_kinds captures last kind (with_made captures mark told)) (with_kinds new last kind (with_made new mark told)) file count buffer
reads_beside captures new mark told kind last file port count buffer e le g =
    let read = reads_made captures new mark told file port count buffer e le g in
    record {
      within = read.within;
      taken = read.taken;
      at_end = read.at_end;
      kept = record {
        rests = read.kept.rests;
        givens = read.kept.givens;
        names = read.kept.names;
        kinds = λ n. ap (λ (o : Option Kind). cond (ltb n (2 ^ 32)) (first_of o (cond (leb n last) (if_written (kind n)) None)) (kind (n - 2 ^ 32))) (made_kind captures new file port count n buffer e g (cases_eq n file));
        contents = read.kept.contents;
        latest_same = read.kept.latest_same;
        next_same = read.kept.next_same;
      };
    }

-- ---- what may be written and read beside made captures

written_on : (low le : Bool) (left : Option (List ℕ)) (kind beyond : Option Kind) → low ≡ true → le ≡ true → left ≡ None → kind ≡ Some Output → cond low (first_of (option_map (λ (l : List ℕ). Input) left) (cond le (if_written kind) None)) beyond ≡ Some Output
written_on low le left kind beyond p q n k = rw (p, q, n, k) refl

no_port : (captures : List (List ℕ)) (file : ℕ) (b : Bool) → b ≡ false → option_and_then (λ (port : ℕ). slice_get captures port) (cond b (Some (file - first_number (length captures))) None) ≡ None
no_port captures file b e = rw e refl

-- files that are written, below the numbers of made captures
pub written_beside : (captures : List (List ℕ)) (last file : ℕ) (kind : ℕ → Option Kind) → last + length captures < 2 ^ 32 → file ≤ last → kind file ≡ Some Output → kinds_beside captures last kind file ≡ Some Output
written_beside captures last file kind low le e =
    let below : file < first_number (length captures) = omega (arith, low, le) in
    written_on (ltb file (2 ^ 32)) (leb file last) (left_at captures file) (kind file) (kind (file - 2 ^ 32)) (lt-ltb file (2 ^ 32) (omega (arith, low, le))) (le-leb file last le)
    (no_port captures file (leb (first_number (length captures)) file) (lt-leb (first_number (length captures)) file below)) e

read_on : (low : Bool) (o other beyond : Option Kind) → low ≡ true → o ≡ Some Input → cond low (first_of o other) beyond ≡ Some Input
read_on low o other beyond p e = rw (p, e) refl

-- and made captures
pub made_is_read : (captures : List (List ℕ)) (last file : ℕ) (kind : ℕ → Option Kind) → file < 2 ^ 32 → IsMade captures file → kinds_beside captures last kind file ≡ Some Input
made_is_read captures last file kind low made =
    read_on (ltb file (2 ^ 32)) (option_map (λ (l : List ℕ). Input) (left_at captures file)) (cond (leb file last) (if_written (kind file)) None) (kind (file - 2 ^ 32)) (lt-ltb file (2 ^ 32) low) (ap (option_map (λ (l : List ℕ). Input)) made.1)
