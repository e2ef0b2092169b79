-- The fault of a text, from where the reading of its tokens stops.
use Rattle.std.proofs.Common.{◌≡◌, ◌≤◌, ℕ, List, length, refl, sym, subst}
use Rattle.nf_tokens.specs.Tokens.{tokens_of, start, behind_all}
use Rattle.nf_tokens.specs.declared.token.Place.{Place}
use Rattle.nf_tokens.specs.declared.token.Placed.{Placed}
use Rattle.nf_syntax.specs.declared.fault.ParseFault.{ParseFault}
use Rattle.nf_syntax.specs.declared.fault.ParseFault.TheVariants as faults
use Rattle.nf_syntax.specs.declared.fault.SyntaxKind.{SyntaxKind}
use Rattle.nf_syntax.specs.declared.fault.SyntaxKind.TheVariants as kinds
use Rattle.nf_syntax.specs.Language.{IsFirstStuck, IsFirstPast, IsShort, Misplaced, Passing, Unfinished, Explains}

pub misplaced : (f : ParseFault) (kind : SyntaxKind) (at : Place) (text : List ℕ) (ps : List Placed) → f ≡ faults.Syntax kind at.line at.column →
    length text ≤ 1048576 → ps ≡ tokens_of 0 start text → IsFirstStuck kind at ps → Explains f text
misplaced f kind at text ps e small same h = subst (λ x. Explains x text) (sym e) (Misplaced small (subst (λ x. IsFirstStuck kind at x) same h))

pub passing : (f : ParseFault) (at : Place) (text : List ℕ) (ps : List Placed) → f ≡ faults.Syntax kinds.Limit at.line at.column →
    length text ≤ 1048576 → ps ≡ tokens_of 0 start text → IsFirstPast at ps → Explains f text
passing f at text ps e small same h = subst (λ x. Explains x text) (sym e) (Passing small refl (subst (λ x. IsFirstPast at x) same h))

pub unfinished : (f : ParseFault) (at : Place) (text : List ℕ) (ps : List Placed) → f ≡ faults.Syntax kinds.End at.line at.column →
    length text ≤ 1048576 → ps ≡ tokens_of 0 start text → at ≡ behind_all start text → IsShort ps → Explains f text
unfinished f at text ps e small same end h = subst (λ x. Explains x text) (sym e) (Unfinished small refl end (subst IsShort same h))
