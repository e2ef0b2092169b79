-- Where nothing is wrong with a value, the cells that it reads are those of declared arrays.
use Rattle.std.proofs.Common.{◌≡◌, ℕ, ◌+◌, ◌<◌, ◌≤◌, List, [], ◌∷◌, ◌++◌, not, ◌&&◌, Option, Some, None, length, map, arith}
use Rattle.std.specs.Prelude.{All}
use Rattle.std.specs.Str.{bytes_eq}
use Rattle.std.proofs.lemmas.List.Elements.{All-nil, All-cons, All-append}
use Rattle.nf_base.specs.declared.decl.ColumnDecl.{ColumnDecl}
use Rattle.nf_base.specs.declared.decl.ColumnId.{ColumnId}
use Rattle.nf_base.specs.declared.decl.ColumnId.TheVariants as ids
use Rattle.nf_base.specs.declared.decl.ChainDecl.{ChainDecl}
use Rattle.nf_base.specs.declared.decl.ArrayDecl.{ArrayDecl}
use Rattle.nf_base.specs.declared.decl.ObjectId.{ObjectId}
use Rattle.nf_base.specs.declared.decl.ObjectId.TheVariants as object
use Rattle.nf_base.specs.declared.packet.Door.{Door}
use Rattle.nf_base.specs.declared.packet.Family.{Family}
use Rattle.nf_base.specs.Text.{Given}
use Rattle.nf_tree.specs.declared.place.Name.{Name}
use Rattle.nf_tree.specs.Tree as tree
use Rattle.nf_types.specs.declared.fault.TypingKind.TheVariants.{Unknown, Twice, FreeColumn}
use Rattle.nf_types.specs.declared.objects.Objects.{Objects}
use Rattle.nf_types.specs.Faults.{first, fault_if, each_behind}
use Rattle.nf_types.specs.Names.{named_from}
use Rattle.nf_types.specs.Variables.{Variable, variable_of, variable_named}
use Rattle.nf_types.specs.Expressions.{cells, number_of, array_named, array_faults_at, column_value, column_of_variable, value_of, value_faults, each_value_faults, given_to}
use Rattle.nf_types.specs.Statements.{key_of, chain_named, label_named, guard_to, guards_in, value_for}
use Rattle.nf_types.specs.StatementFaults.{is_given, is_column_in, given_faults}
use Rattle.nf_types.proofs.First.{front_none, back_none}
use Rattle.nf_types.proofs.Fitting.{one_of}
use Rattle.nf_sites.specs.declared.sort.Sort.TheVariants as sort
use Rattle.nf_sites.specs.Sites.{Site, cell_site, expression_sites, given_sites, guard_sites}

-- a chain or an array that has one of the numbers
abbrev pub Has : Objects → ObjectId → Type 0
Has o (object.Chain k) = k < length o.chains
Has o (object.Array k) = k < length o.arrays

-- a site of such an object
abbrev pub IsOf : Objects → Site → Type 0
IsOf o x = Has o x.object

abbrev pub AllOf : Objects → List Site → Type 0
AllOf o sites = All (IsOf o) sites

-- the number of an item that was found is below a bound
abbrev pub Below : {A : Type 0} → ℕ → Option (ℕ × A) → Type 0
Below n None = Unit {0}
Below n (Some found) = found.0 < n

pub named_below : {A : Type 0} (i n : ℕ) (name : A → List ℕ) (x : List ℕ) (items : List A) → i + length items ≤ n → Below n (named_from i name x items)
named_below i n name x [] le = tt
named_below i n name x (item ∷ items) le =
    one_of (Below n) (bytes_eq x (name item)) (Some (i, item)) (named_from (i + 1) name x items)
    (omega (arith, le)) (named_below (i + 1) n name x items (omega (arith, le)))

-- the number of a chain and of an array that was found
pub chain_below : (o : Objects) (c : List ℕ) → Below (length o.chains) (chain_named o.chains c)
chain_below o c = named_below 0 (length o.chains) (λ (d : ChainDecl). d.name) c o.chains (omega arith)

pub array_below : (o : Objects) (a : List ℕ) → Below (length o.arrays) (array_named o.arrays a)
array_below o a = named_below 0 (length o.arrays) (λ (d : ArrayDecl). d.name) a o.arrays (omega arith)

-- an array with a name that is no fault
pub array_has : (n : ℕ) (found : Option (ℕ × ArrayDecl)) (a : Name) → Below n found → first (array_faults_at found a) ≡ None → number_of found < n
array_has n None a b e = cc
array_has n (Some found) a b e = b

-- what is read of a variable's entry is no cell
column_has : (o : Objects) (door : Door) (var : ℕ) (found : Option ColumnId) → AllOf o (expression_sites door (column_value var found))
column_has o door var None = All-nil (IsOf o)
column_has o door var (Some (ids.Label i)) = All-nil (IsOf o)
column_has o door var (Some (ids.Column i)) = All-nil (IsOf o)

module _ (family : Family) (o : Objects) (xs : List Variable) (door : Door) where
  pub value_has : (place : ℕ) (v : tree.Expression) → first (value_faults family o xs v) ≡ None → AllOf o (expression_sites door (value_of place o xs v))
  value_has place (tree.Number n) e = All-nil (IsOf o)
  value_has place (tree.Read field at) e = All-nil (IsOf o)
  value_has place (tree.Column x y) e =
      column_has o door (variable_of xs x.bytes) (column_of_variable (variable_named xs x.bytes) y.bytes)
  value_has place (tree.Index x) e = All-nil (IsOf o)
  value_has place (tree.Cell a i) e =
      let array = array_named o.arrays a.bytes in
      let index = value_of (place + 1) o xs i in
      let name = array_faults_at array a in
      let rest = value_faults family o xs i in
      All-cons (IsOf o) (cell_site door sort.Load place (number_of array) index) (expression_sites door index)
      (array_has (length o.arrays) array a (array_below o a.bytes) (front_none name rest e))
      (value_has (place + 1) i (back_none name rest e))
  value_has place (tree.Group v close) e = value_has place v e
  value_has place (tree.Sum operator l r) e =
      let left = value_faults family o xs l in
      let right = value_faults family o xs r in
      All-append (IsOf o) (expression_sites door (value_of place o xs l)) (expression_sites door (value_of (place + cells l) o xs r))
      (value_has place l (front_none left right e)) (value_has (place + cells l) r (back_none left right e))
  value_has place (tree.Product operator l r) e =
      let left = value_faults family o xs l in
      let right = value_faults family o xs r in
      All-append (IsOf o) (expression_sites door (value_of place o xs l)) (expression_sites door (value_of (place + cells l) o xs r))
      (value_has place l (front_none left right e)) (value_has (place + cells l) r (back_none left right e))

  -- the values of a key
  pub key_has : (place : ℕ) (parts : List ColumnDecl) (key : List tree.Expression) → first (each_value_faults family o xs key) ≡ None → AllOf o (given_sites door (key_of place o xs parts key))
  key_has place [] key e = All-nil (IsOf o)
  key_has place (p ∷ ps) [] e = All-nil (IsOf o)
  key_has place (p ∷ ps) (v ∷ vs) e =
      let one = value_faults family o xs v in
      let rest = each_value_faults family o xs vs in
      All-append (IsOf o) (expression_sites door (value_of place o xs v)) (given_sites door (key_of (place + cells v) o xs ps vs))
      (value_has place v (front_none one rest e)) (key_has (place + cells v) ps vs (back_none one rest e))

  -- nothing is wrong with the values that are given
  abbrev pub AreFaultless : List tree.Given → Type 0
  AreFaultless [] = Unit {0}
  AreFaultless (g ∷ gs) = (first (value_faults family o xs g.value) ≡ None) × AreFaultless gs

  given_faultless : (d : ChainDecl) (before : List tree.Given) (g : tree.Given) → first (given_faults family o xs d before g) ≡ None → first (value_faults family o xs g.value) ≡ None
  unfolding given_faults
  given_faultless d before g e =
      let label = is_column_in d.labels g.name.bytes in
      let column = is_column_in d.columns g.name.bytes in
      let unknown = fault_if (not label && not column) Unknown g.name.place in
      let twice = fault_if (is_given before g.name.bytes) Twice g.name.place in
      let free = fault_if (not label && column) FreeColumn g.name.place in
      let value = value_faults family o xs g.value in
      back_none free value (back_none twice (free ++ value) (back_none unknown (twice ++ (free ++ value)) e))

  pub are_faultless : (d : ChainDecl) (before gs : List tree.Given) → first (each_behind (given_faults family o xs d) before gs) ≡ None → AreFaultless gs
  are_faultless d before [] e = tt
  are_faultless d before (g ∷ gs) e =
      let one = given_faults family o xs d before g in
      let rest = each_behind (given_faults family o xs d) (before ++ g ∷ []) gs in
      (given_faultless d before g (front_none one rest e), are_faultless d (before ++ g ∷ []) gs (back_none one rest e))

  -- what a `find` asks of labels
  guard_has : (place : ℕ) (found : Option (ℕ × ColumnDecl)) (v : tree.Expression) → first (value_faults family o xs v) ≡ None → AllOf o (expression_sites door (guard_to place o xs found v).given.value)
  guard_has place None v e = value_has place v e
  guard_has place (Some found) v e = value_has place v e

  pub guards_have : (place : ℕ) (labels : List ColumnDecl) (gs : List tree.Given) → AreFaultless gs → AllOf o (guard_sites door (guards_in place o xs labels gs))
  guards_have place labels [] all = All-nil (IsOf o)
  guards_have place labels (g ∷ gs) all =
      let label = label_named labels g.name.bytes in
      All-append (IsOf o) (expression_sites door (guard_to place o xs label g.value).given.value) (guard_sites door (guards_in (place + cells g.value) o xs labels gs))
      (guard_has place label g.value all.0) (guards_have (place + cells g.value) labels gs all.1)

  -- what a `new` gives a label, and what it gives all
  for_has : (place : ℕ) (gs : List tree.Given) (label : ColumnDecl) → AreFaultless gs → AllOf o (expression_sites door (value_for place o xs gs label).value)
  for_has place [] label all = All-nil (IsOf o)
  for_has place (g ∷ gs) label all =
      one_of (λ (x : Given). AllOf o (expression_sites door x.value)) (bytes_eq label.name g.name.bytes)
      (given_to place o xs label.width g.value) (value_for (place + cells g.value) o xs gs label)
      (value_has place g.value all.0) (for_has (place + cells g.value) gs label all.1)

  pub labels_have : (place : ℕ) (gs : List tree.Given) (labels : List ColumnDecl) → AreFaultless gs → AllOf o (given_sites door (map (value_for place o xs gs) labels))
  labels_have place gs [] all = All-nil (IsOf o)
  labels_have place gs (label ∷ labels) all =
      All-append (IsOf o) (expression_sites door (value_for place o xs gs label).value) (given_sites door (map (value_for place o xs gs) labels))
      (for_has place gs label all) (labels_have place gs labels all)
