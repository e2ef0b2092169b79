-- A function that a text is has one to four ports.
use Rattle.std.proofs.Common.{◌≡◌, ℕ, ◌≤◌, List, [], ◌∷◌, ◌++◌, length, refl, subst, arith, ltb-false}
use Rattle.std.specs.Prelude.{nat_lt}
use Rattle.std.proofs.lemmas.List.FromFn.{length-map-range_with_len}
use Rattle.nf_base.specs.Text.{Function}
use Rattle.nf_tree.specs.Tree.{Tree}
use Rattle.nf_files.specs.Told.{Told}
use Rattle.nf_types.specs.declared.fault.Fault.{Fault}
use Rattle.nf_types.specs.Faults.{length_faults}
use Rattle.nf_types.specs.Declarations.{objects_of}
use Rattle.nf_types.specs.DeclarationFaults.{port_faults}
use Rattle.nf_types.specs.Function.{function, port_at}
use Rattle.nf_types.specs.TextFaults.{faults}
use Rattle.call_base.specs.Source.{IsFunctionUnder}
use Rattle.call_base.proofs.Handlers.{none_behind, none_if, or_false}

none_before : (xs ys : List Fault) → xs ++ ys ≡ [] → xs ≡ []
none_before [] ys e = refl
none_before (x ∷ xs) ys e = cc

pub record HasFewPorts (f : Function) : Type 0 where
  pub some : 1 ≤ length f.handlers
  pub few : length f.handlers ≤ 4

of_tree : (t : Tree) → faults t ≡ [] → HasFewPorts (function t)
of_tree t e =
    let n : length (function t).handlers ≡ t.ports.value = length-map-range_with_len (port_at (objects_of t.declarations) t.handlers) 0 t.ports.value in
    let none : port_faults t.ports ≡ [] = none_before (port_faults t.ports) _ (none_behind (length_faults t.name) _ e) in
    let both = or_false (nat_lt t.ports.value 1) (nat_lt 4 t.ports.value) (none_if _ _ t.ports.place none) in
    record {
      some = omega (arith, n, ltb-false t.ports.value 1 both.0);
      few = omega (arith, n, ltb-false 4 t.ports.value both.1);
    }

pub few_ports : (told : Told) (name : List ℕ) (f : Function) → IsFunctionUnder told name f → HasFewPorts f
few_ports told name f is = subst HasFewPorts is.is_function.of_tree.stands_for (of_tree is.is_function.tree is.is_function.of_tree.faultless)
