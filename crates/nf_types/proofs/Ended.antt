-- A key where its parts or its values have ended.
use Rattle.std.proofs.Common.{◌≡◌, ℕ, zero, suc, ◌≤◌, min, List, [], ◌∷◌, length, map, drop, refl, arith}
use Rattle.nf_base.specs.declared.decl.ColumnDecl.{ColumnDecl}
use Rattle.nf_tree.specs.declared.tree.Expr.{Expr}
use Rattle.nf_tree.specs.View.{expression_of}
use Rattle.nf_types.specs.declared.objects.Objects.{Objects}
use Rattle.nf_types.specs.Variables.{Variable}
use Rattle.nf_types.specs.Statements.{key_of}

no_value : (place : ℕ) (o : Objects) (xs : List Variable) (parts : List ColumnDecl) → key_of place o xs parts [] ≡ []
no_value place o xs [] = refl
no_value place o xs (p ∷ ps) = refl

pub ended : (place : ℕ) (o : Objects) (xs : List Variable) (i : ℕ) (parts : List ColumnDecl) (key : List Expr) → min (length parts) (length key) ≤ i →
    key_of place o xs (drop i parts) (map expression_of (drop i key)) ≡ []
ended place o xs zero [] key h = refl
ended place o xs zero (p ∷ ps) [] h = refl
ended place o xs zero (p ∷ ps) (k ∷ ks) h = absurd (omega arith)
ended place o xs (suc i) [] key h = refl
ended place o xs (suc i) (p ∷ ps) [] h = no_value place o xs (drop i ps)
ended place o xs (suc i) (p ∷ ps) (k ∷ ks) h = ended place o xs i ps ks (omega arith)
