-- Behind one front a token has one mark.
use Rattle.std.proofs.Common.{◌≡◌, ◌∙◌, ◌∷◌, ◌++◌, Bool, true, false, Option, Some, List, [], ap, sym, append_assoc}
use Rattle.nf_tree.specs.Tree.{Tree}
use Rattle.nf_syntax.specs.Items.{Item, Marked}
use Rattle.nf_syntax.specs.Machine.{Place, Row, Go, No, step, whole}
use Rattle.nf_syntax.specs.Language.{marked, CanGoOn}
use Rattle.nf_syntax.specs.Reads.{without_end}
use Rattle.nf_syntax.proofs.Going.{goes, on_row}
use Rattle.nf_syntax.proofs.CompleteText.{spelled_goes}

one_row : (row : Row) (f g : Place → Option Tree) (x y : Tree) → on_row row true f ≡ Some x → on_row row false g ≡ Some y → ⊥
one_row (Go true place) f g x y h k = cc
one_row (Go false place) f g x y h k = cc
one_row No f g x y h k = cc

on_row_on : (row : Row) (past : Bool) (f g : Place → Option Tree) (x y : Tree) → ((place : Place) → f place ≡ Some x → g place ≡ Some y → ⊥) →
    on_row row past f ≡ Some x → on_row row past g ≡ Some y → ⊥
on_row_on (Go true place) true f g x y i h k = i place h k
on_row_on (Go false place) false f g x y i h k = i place h k
on_row_on row past f g x y i h k = cc

one_from : (at : Place) (front : List Marked) (i : Item) (m n : List Marked) (x y : Tree) →
    goes at (front ++ marked i true ∷ m) ≡ Some x → goes at (front ++ marked i false ∷ n) ≡ Some y → ⊥
one_from at [] i m n x y h k = one_row (step at i) (λ next. goes next m) (λ next. goes next n) x y h k
one_from at (q ∷ front) i m n x y h k =
    on_row_on (step at q.item) q.past (λ next. goes next (front ++ marked i true ∷ m)) (λ next. goes next (front ++ marked i false ∷ n)) x y (λ next. one_from next front i m n x y) h k

pub went_on : (front : List Marked) (m : Marked) (c : CanGoOn (front ++ m ∷ [])) → goes whole (front ++ m ∷ c.more) ≡ Some (without_end c.tree)
went_on front m c = ap (goes whole) (sym (c.tokens ∙ append_assoc front (m ∷ []) c.more)) ∙ spelled_goes c.tree c.well_formed

pub one_mark : (front : List Marked) (i : Item) → CanGoOn (front ++ marked i true ∷ []) → CanGoOn (front ++ marked i false ∷ []) → ⊥
one_mark front i c d = one_from whole front i c.more d.more (without_end c.tree) (without_end d.tree) (went_on front (marked i true) c) (went_on front (marked i false) d)
