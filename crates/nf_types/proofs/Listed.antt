-- The objects of a text are its chains and its arrays, each once, and each kind in its order.
use Rattle.std.proofs.Common.{◌≡◌, ◌∙◌, ℕ, zero, suc, ◌+◌, List, [], ◌∷◌, ◌++◌, length, refl, ap, sym, subst, arith, length-append}
use Rattle.std.specs.Prelude.{fold}
use Rattle.std.specs.List.{filter_map, range_with_len}
use Rattle.std.proofs.lemmas.List.{append-nil}
use Rattle.std.proofs.lemmas.List.Elements.{filter_map-append}
use Rattle.nf_base.specs.Text.{Function}
use Rattle.nf_base.specs.Objects.{chain_number, array_number, ListsObjects}
use Rattle.nf_base.specs.declared.decl.ObjectId.TheVariants as object
use Rattle.nf_tree.specs.Tree as tree
use Rattle.nf_tree.specs.declared.tree.Declaration.{Declaration}
use Rattle.nf_tree.specs.declared.tree.Declaration.TheVariants as declarations
use Rattle.nf_types.specs.declared.objects.Objects.{Objects}
use Rattle.nf_types.specs.Declarations.{chain_of, array_of, with_declaration, no_objects}
use Rattle.nf_types.specs.Function.{function}

record IsListed (o : Objects) : Type 0 where
  chains : filter_map chain_number o.order ≡ range_with_len 0 (length o.chains)
  arrays : filter_map array_number o.order ≡ range_with_len 0 (length o.arrays)

-- the numbers from a on, one more
range_more : (a n : ℕ) → range_with_len a (suc n) ≡ range_with_len a n ++ (a + n) ∷ []
range_more a zero = let same : a ≡ a + 0 = omega arith in ap (λ k. k ∷ []) same
range_more a (suc n) =
    let same : (a + 1) + n ≡ a + suc n = omega arith in
    ap (λ rest. a ∷ rest) (range_more (a + 1) n ∙ ap (λ k. range_with_len (a + 1) n ++ k ∷ []) same)

one_more : (n m : ℕ) → m ≡ n + 1 → range_with_len 0 n ++ n ∷ [] ≡ range_with_len 0 m
one_more n m e =
    let same : 0 + n ≡ n = omega arith in
    let next : suc n ≡ m = omega (arith, e) in
    ap (λ k. range_with_len 0 n ++ k ∷ []) (sym same) ∙ sym (range_more 0 n) ∙ ap (range_with_len 0) next

more_listed : (o : Objects) (d : Declaration) → IsListed o → IsListed (with_declaration o d)
more_listed o (declarations.Chain c) l =
    let id = object.Chain (length o.chains) in
    record {
      chains = filter_map-append chain_number o.order (id ∷ [])
          ∙ ap (λ ns. ns ++ length o.chains ∷ []) l.chains
          ∙ one_more (length o.chains) (length (o.chains ++ chain_of c ∷ [])) (length-append o.chains (chain_of c ∷ []));
      arrays = filter_map-append array_number o.order (id ∷ [])
          ∙ append-nil (filter_map array_number o.order)
          ∙ l.arrays;
    }
more_listed o (declarations.Array a) l =
    let id = object.Array (length o.arrays) in
    record {
      chains = filter_map-append chain_number o.order (id ∷ [])
          ∙ append-nil (filter_map chain_number o.order)
          ∙ l.chains;
      arrays = filter_map-append array_number o.order (id ∷ [])
          ∙ ap (λ ns. ns ++ length o.arrays ∷ []) l.arrays
          ∙ one_more (length o.arrays) (length (o.arrays ++ array_of a ∷ [])) (length-append o.arrays (array_of a ∷ []));
    }

all_listed : (o : Objects) (ds : List Declaration) → IsListed o → IsListed (fold with_declaration o ds)
all_listed o [] l = l
all_listed o (d ∷ ds) l = all_listed (with_declaration o d) ds (more_listed o d l)

text_listed : (t : tree.Tree) → ListsObjects (function t)
text_listed t =
    let l = all_listed no_objects t.declarations (record { chains = refl; arrays = refl }) in
    record { chains = l.chains; arrays = l.arrays }

-- the function of a text
pub lists : (f : Function) (t : tree.Tree) → f ≡ function t → ListsObjects f
lists f t e = subst ListsObjects (sym e) (text_listed t)
