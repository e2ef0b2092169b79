-- A line where something is asked, or nothing.
use Rattle.std.proofs.Common.{◌≡◌, ◌+◌, ◌≤◌, ℕ, All, ap, sym, ◌∙◌, Bool, true, false, List, [], ◌∷◌, Option, None}
use Rattle.certificate_check.specs.Checking.{is_none_due}
use Rattle.certificate_laws.specs.declared.line.Line.{Line}
use Rattle.certificate_laws.specs.declared.line.Span.{Span}
use Rattle.certificate_laws.specs.Trees.{is_span}
use Rattle.certificate_laws.specs.Due.{Due, after}
use Rattle.certificate_laws.proofs.Refuting.{of_span}

pub span_within : (n : ℕ) (spans : List Span) (span : Span) → is_span spans span ≡ true → All (λ (s : Span). s.first + s.count ≤ n) spans → span.first + span.count ≤ n
span_within n spans span is all = of_span (λ (s : Span). s.first + s.count ≤ n) spans span is all

pub none_asked : (rows : List (List Bool)) (spans : List Span) (due : List Due) (line : Line) → due ≡ [] → after rows spans due line ≡ None
none_asked rows spans due line is = ap (λ d. after rows spans d line) is

pub answered : (rows : List (List Bool)) (spans : List Span) (due asked : List Due) (line : Line) (next : Option (List Due)) → due ≡ asked → after rows spans asked line ≡ next → after rows spans due line ≡ next
answered rows spans due asked line next is taken = ap (λ d. after rows spans d line) is ∙ taken

pub none_is_due : (due : List Due) → due ≡ [] → true ≡ is_none_due due
none_is_due due is = ap is_none_due (sym is)

pub one_is_due : (due more : List Due) (d : Due) → due ≡ d ∷ more → false ≡ is_none_due due
one_is_due due more d is = ap is_none_due (sym is)
