-- Two lists side by side, of which one has ended.
use Rattle.std.proofs.Common.{◌≡◌, ℕ, List, [], ◌∷◌, length, min, drop, refl, arith, length-drop}
use Rattle.nf_base.specs.declared.decl.ChainDecl.{ChainDecl}
use Rattle.nf_base.specs.declared.decl.ArrayDecl.{ArrayDecl}
use Rattle.nf_base.specs.declared.state.Chain.{Chain}
use Rattle.run_history.specs.StateText.{chains_text, cells_text, arrays_text}

no_chains : (ds : List ChainDecl) (cs : List Chain) → min (length ds) (length cs) ≡ 0 → chains_text ds cs ≡ []
no_chains [] cs h = refl
no_chains (d ∷ ds) [] h = refl
no_chains (d ∷ ds) (c ∷ cs) h = absurd (omega arith)

no_cells : (i : ℕ) (ds : List ℕ) (cs : List ℕ) → min (length ds) (length cs) ≡ 0 → cells_text i ds cs ≡ []
no_cells i [] cs h = refl
no_cells i (d ∷ ds) [] h = refl
no_cells i (d ∷ ds) (c ∷ cs) h = absurd (omega arith)

no_arrays : (ds : List ArrayDecl) (cs : List (List ℕ)) → min (length ds) (length cs) ≡ 0 → arrays_text ds cs ≡ []
no_arrays [] cs h = refl
no_arrays (d ∷ ds) [] h = refl
no_arrays (d ∷ ds) (c ∷ cs) h = absurd (omega arith)

pub chains_end : (ds : List ChainDecl) (cs : List Chain) (k : ℕ) → k ≡ min (length ds) (length cs) → chains_text (drop k ds) (drop k cs) ≡ []
chains_end ds cs k h = no_chains (drop k ds) (drop k cs) (simp length-drop (omega arith))

pub cells_end : (ds : List ℕ) (cs : List ℕ) (k : ℕ) → k ≡ min (length ds) (length cs) → cells_text k (drop k ds) (drop k cs) ≡ []
cells_end ds cs k h = no_cells k (drop k ds) (drop k cs) (simp length-drop (omega arith))

pub arrays_end : (ds : List ArrayDecl) (cs : List (List ℕ)) (k : ℕ) → k ≡ min (length ds) (length cs) → arrays_text (drop k ds) (drop k cs) ≡ []
arrays_end ds cs k h = no_arrays (drop k ds) (drop k cs) (simp length-drop (omega arith))
