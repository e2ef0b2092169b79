-- Trees line by line: what is still due behind the lines so far.
use Rattle.std.specs.Prelude.{◌≡◌, ℕ, zero, suc, ◌==◌, ◌&&◌, nat_lt, Bool, true, false, List, [], ◌∷◌, ◌++◌, length, Option, Some, None, if◌then◌else◌}
use Rattle.certificate_laws.specs.declared.line.Term.{Term}
use Rattle.certificate_laws.specs.declared.line.Line.{Line}
use Rattle.certificate_laws.specs.declared.line.Line.TheVariants as line
use Rattle.certificate_laws.specs.declared.line.Span.{Span}
use Rattle.gf2_solve.specs.Sums.{plus, bit}
use Rattle.certificate_laws.specs.Fixed.{with_bit, fixed_before}
use Rattle.certificate_laws.specs.Laws.{AreRefuted}
use Rattle.certificate_laws.specs.Terms.{alone, is_sum}
use Rattle.certificate_laws.specs.Trees.{Tree, Split, Clash, Zero, is_span, checks, IsRefuted}

-- what is still due, with what is fixed there
pub data Due : Type 0 where
  -- the line that names a bit
  Naming : (place : ℕ) → Due
  -- a tree
  Whole : List (Option Bool) → Due
  -- the sum of a clash
  Clashing : List (Option Bool) → Due
  -- the sum of a place, and those of so many behind it
  Zeros : List (Option Bool) → (place further : ℕ) → Due

-- so many sums from a place on are due first
abbrev pub with_zeros : List (Option Bool) → ℕ → ℕ → List Due → List Due
with_zeros fixed place zero due = due
with_zeros fixed place (suc further) due = Zeros fixed place further ∷ due

-- What is due behind one line more, or none where the line is not right there.
abbrev pub after_tree : List (List Bool) → List Span → List (Option Bool) → List Due → Line
    → Option (List Due)
after_tree rows spans fixed due (line.Split place) =
    (if nat_lt place (length fixed)
    then Some (Whole (with_bit place false fixed) ∷ Whole (with_bit place true fixed) ∷ due)
    else None)
after_tree rows spans fixed due line.Clash = Some (Clashing fixed ∷ due)
after_tree rows spans fixed due (line.Zero span) =
    (if is_span spans span then Some (with_zeros fixed span.first span.count due) else None)
after_tree rows spans fixed due (line.Sum terms) = None
after_tree rows spans fixed due (line.Not place) = None
after_tree rows spans fixed due (line.Row row) = None
after_tree rows spans fixed due (line.Key port key) = None

-- a sum line alone may follow here
abbrev pub after_sum : List (List Bool) → List (Option Bool) → List Bool → Bool → List Due → Line
    → Option (List Due)
after_sum rows fixed row wanted due (line.Sum terms) =
    (if is_sum rows fixed terms row wanted then Some due else None)
after_sum rows fixed row wanted due (line.Split place) = None
after_sum rows fixed row wanted due line.Clash = None
after_sum rows fixed row wanted due (line.Zero span) = None
after_sum rows fixed row wanted due (line.Not place) = None
after_sum rows fixed row wanted due (line.Row named) = None
after_sum rows fixed row wanted due (line.Key port key) = None

-- a line that names this bit alone may follow here
abbrev pub after_name : ℕ → List Due → Line → Option (List Due)
after_name place due (line.Not other) = (if other == place then Some due else None)
after_name place due (line.Split other) = None
after_name place due line.Clash = None
after_name place due (line.Zero span) = None
after_name place due (line.Sum terms) = None
after_name place due (line.Row row) = None
after_name place due (line.Key port key) = None

abbrev pub after : List (List Bool) → List Span → List Due → Line → Option (List Due)
after rows spans [] line = None
after rows spans (Naming place ∷ due) line = after_name place due line
after rows spans (Whole fixed ∷ due) line = after_tree rows spans fixed due line
after rows spans (Clashing fixed ∷ due) line = after_sum rows fixed [] true due line
after rows spans (Zeros fixed place further ∷ due) line =
    after_sum rows fixed (alone place) false (with_zeros fixed (suc place) further due) line

-- what is due behind lines
abbrev pub and_then : Option (List Due) → (List Due → Option (List Due)) → Option (List Due)
and_then None next = None
and_then (Some due) next = next due

abbrev pub after_all : List (List Bool) → List Span → List Due → List Line → Option (List Due)
after_all rows spans due [] = Some due
after_all rows spans due (line ∷ lines) =
    and_then (after rows spans due line) (λ next. after_all rows spans next lines)

-- the lines of a tree
abbrev pub sum_lines : List (List Term) → List Line
sum_lines [] = []
sum_lines (s ∷ sums) = line.Sum s ∷ sum_lines sums

abbrev pub lines_of : Tree → List Line
lines_of (Split place off on) = line.Split place ∷ lines_of off ++ lines_of on
lines_of (Clash terms) = line.Clash ∷ line.Sum terms ∷ []
lines_of (Zero span sums) = line.Zero span ∷ sum_lines sums

-- so many bits from one on that count and are not the wanted ones: each is named, and a tree follows
-- for the wanted one, with all earlier ones fixed
abbrev pub nots : (ℕ → Bool) → ℕ → List Bool → List Bool → ℕ → ℕ → List Due
nots counts n wanted x zero place = []
nots counts n wanted x (suc further) place =
    (if counts place && plus (bit x place) (bit wanted place)
    then Naming place ∷ Whole (with_bit place (bit wanted place) (fixed_before counts n x place))
    ∷ nots counts n wanted x further (suc place)
    else nots counts n wanted x further (suc place))

-- Lines behind which nothing is due refute.
abbrev pub LinesRefute : Type 0
LinesRefute =
    (rows : List (List Bool)) (spans : List Span) (fixed : List (Option Bool))
    (lines : List Line) →
    after_all rows spans (Whole fixed ∷ []) lines ≡ Some [] → IsRefuted rows spans fixed

-- so for each bit that is not the wanted one
abbrev pub LinesRefuteAll : Type 0
LinesRefuteAll =
    (counts : ℕ → Bool) (rows : List (List Bool)) (spans : List Span) (n : ℕ)
    (wanted x : List Bool) (lines : List Line) →
    after_all rows spans (nots counts n wanted x n 0) lines ≡ Some []
    → AreRefuted counts rows spans n wanted x

-- The lines of a tree that checks are right, wherever a tree is due.
abbrev pub TreesAreTaken : Type 0
TreesAreTaken =
    (rows : List (List Bool)) (spans : List Span) (fixed : List (Option Bool)) (tree : Tree)
    (due : List Due) →
    checks rows spans fixed tree ≡ true
    → after_all rows spans (Whole fixed ∷ due) (lines_of tree) ≡ Some due
