-- Where nothing is wrong with the declarations of a text, no key has more than 8 parts, and no chain more than 136 labels.
use Rattle.std.proofs.Common.{◌≡◌, ℕ, ◌+◌, ◌*◌, ◌≤◌, List, [], ◌∷◌, ◌++◌, None, false, length, map, arith, subst, sym, refl, nat_le, length-append}
use Rattle.std.specs.Prelude.{All, fold}
use Rattle.std.proofs.lemmas.Bool.Decides.{nat_tests}
use Rattle.std.proofs.lemmas.List.Elements.{All-nil, All-push}
use Rattle.nf_base.specs.declared.decl.ColumnDecl.{ColumnDecl}
use Rattle.nf_base.specs.declared.decl.MapDecl.{MapDecl}
use Rattle.nf_base.specs.declared.decl.ChainDecl.{ChainDecl}
use Rattle.nf_base.specs.Limits.{maps_in, HaveShortKeys, HaveAllShortKeys}
use Rattle.nf_tree.specs.declared.tree.Label as declared_label
use Rattle.nf_tree.specs.declared.tree.ColumnKind.{ColumnKind}
use Rattle.nf_tree.specs.declared.tree.ColumnKind.TheVariants.{Fixed, Free}
use Rattle.nf_tree.specs.declared.tree.ColumnTree.{ColumnTree}
use Rattle.nf_tree.specs.declared.tree.MapTree.{MapTree}
use Rattle.nf_tree.specs.declared.tree.Part.{Part}
use Rattle.nf_tree.specs.declared.tree.Part.TheVariants as parts
use Rattle.nf_tree.specs.declared.tree.ChainTree.{ChainTree}
use Rattle.nf_tree.specs.declared.tree.Declaration.{Declaration}
use Rattle.nf_tree.specs.declared.tree.Declaration.TheVariants as declarations
use Rattle.nf_types.specs.declared.fault.TypingKind.TheVariants.{Twice, Limit}
use Rattle.nf_types.specs.declared.objects.Objects.{Objects}
use Rattle.nf_types.specs.Faults.{first, fault_if, length_faults}
use Rattle.nf_types.specs.Declarations.{column_of, with_label_of, with_column, with_part, with_no_parts, with_declaration, no_objects, objects_of, chain_of}
use Rattle.nf_types.specs.DeclarationFaults.{names_column, names_map, names_object, width_faults, size_faults, label_faults, labels_faults, map_name_faults, map_faults, columns_before, column_faults, part_faults, one_if_fixed, fixed_with, parts_faults, chain_faults, array_faults, declarations_faults}
use Rattle.nf_types.specs.Names.{is_among}
use Rattle.nf_types.proofs.First.{front_none, back_none, test_none, or_false}
use Rattle.nf_types.proofs.Named.{AreNamedApart, names_push}

-- a chain as tables and entries can hold it
pub record IsSized (d : ChainDecl) : Type 0 where
  pub keys : HaveShortKeys d.maps
  pub labels : length d.labels ≤ 136
  pub names : AreNamedApart d.labels

-- a chain with so many fixed columns, while its parts are read
record IsGrowing (fixed : ℕ) (d : ChainDecl) : Type 0 where
  keys : HaveShortKeys d.maps
  maps : length d.maps ≤ 16
  columns : fixed ≤ 8
  labels : length d.labels ≤ 8 * length d.maps + fixed
  names : AreNamedApart d.labels

-- a label behind seven others at most
not_ninth : (d : ChainDecl) (n : ℕ) (l : declared_label.Label) → first (label_faults d n l) ≡ None → n + 1 ≤ 8
unfolding label_faults
not_ninth d n l e =
    let twice = fault_if (names_column d l.name.bytes) Twice l.name.place in
    let limit = fault_if (nat_le 8 n) Limit l.name.place in
    let rest = length_faults l.name ++ width_faults l.width in
    let no = test_none (nat_le 8 n) Limit l.name.place (front_none limit rest (back_none twice (limit ++ rest) e)) in
    grind (arith, nat_tests, no)

few_parts : (d : ChainDecl) (n : ℕ) (ls : List declared_label.Label) → n ≤ 8 → first (labels_faults d n ls) ≡ None → n + length ls ≤ 8
few_parts d n [] h e = omega (arith, h)
few_parts d n (l ∷ ls) h e =
    let rest = labels_faults (with_label_of d l) (n + 1) ls in
    let one = not_ninth d n l (front_none (label_faults d n l) rest e) in
    let all = few_parts (with_label_of d l) (n + 1) ls one (back_none (label_faults d n l) rest e) in
    omega (arith, all)

-- the names of some columns
abbrev names_in : List ColumnDecl → List (List ℕ)
names_in cs = map (λ (c : ColumnDecl). c.name) cs

-- a label with a name that no other label has
not_twice : (d : ChainDecl) (n : ℕ) (l : declared_label.Label) → first (label_faults d n l) ≡ None → is_among l.name.bytes (names_in d.labels) ≡ false
unfolding label_faults
not_twice d n l e =
    let twice = fault_if (names_column d l.name.bytes) Twice l.name.place in
    let limit = fault_if (nat_le 8 n) Limit l.name.place in
    let rest = length_faults l.name ++ width_faults l.width in
    let no = test_none (names_column d l.name.bytes) Twice l.name.place (front_none twice (limit ++ rest) e) in
    (or_false (is_among l.name.bytes (names_in d.labels)) (is_among l.name.bytes (names_in d.columns)) no).0

labels_named : (d : ChainDecl) (n : ℕ) (ls : List declared_label.Label) → AreNamedApart d.labels → first (labels_faults d n ls) ≡ None → AreNamedApart (fold with_label_of d ls).labels
labels_named d n [] all e = all
labels_named d n (l ∷ ls) all e =
    let rest = labels_faults (with_label_of d l) (n + 1) ls in
    labels_named (with_label_of d l) (n + 1) ls
    (names_push d.labels (column_of l.name l.width) all (not_twice d n l (front_none (label_faults d n l) rest e)))
    (back_none (label_faults d n l) rest e)

-- the labels of a map come behind those of the chain
labels_more : (d : ChainDecl) (ls : List declared_label.Label) → length (fold with_label_of d ls).labels ≡ length d.labels + length ls
labels_more d [] = omega arith
labels_more d (l ∷ ls) =
    let one : length (with_label_of d l).labels ≡ length d.labels + 1 = length-append d.labels (column_of l.name l.width ∷ []) in
    omega (arith, labels_more (with_label_of d l) ls, one)

same_maps : (d : ChainDecl) (ls : List declared_label.Label) → (fold with_label_of d ls).maps ≡ d.maps
same_maps d [] = refl
same_maps d (l ∷ ls) = same_maps (with_label_of d l) ls

-- a map that is refused for nothing
map_grows : (maps fixed : ℕ) (d : ChainDecl) (m : MapTree) → IsGrowing fixed d → first (map_faults maps d m) ≡ None → IsGrowing fixed (with_part d (parts.Map m))
unfolding map_faults map_name_faults
map_grows maps fixed d m g e =
    let limit = fault_if (nat_le 16 (maps + length d.maps)) Limit m.place in
    let rest = fault_if (names_map d m.name.bytes) Twice m.name.place ++ length_faults m.name in
    let no = test_none (nat_le 16 (maps + length d.maps)) Limit m.place (front_none limit rest (front_none (limit ++ rest) (labels_faults d 0 m.labels) e)) in
    let few : length d.maps ≤ 15 = grind (arith, nat_tests, no) in
    let short : 0 + length m.labels ≤ 8 = few_parts d 0 m.labels (omega arith) (back_none (limit ++ rest) (labels_faults d 0 m.labels) e) in
    let map : MapDecl = record { name = m.name.bytes; first = length d.labels; parts = length m.labels } in
    let before = fold with_label_of d m.labels in
    let all : length before.labels ≡ length d.labels + length m.labels = labels_more d m.labels in
    let same : before.maps ≡ d.maps = same_maps d m.labels in
    let one : length (d.maps ++ map ∷ []) ≡ length d.maps + 1 = length-append d.maps (map ∷ []) in
    let keys : HaveShortKeys (d.maps ++ map ∷ []) = All-push (λ (decl : MapDecl). decl.parts ≤ 8) d.maps map g.keys (omega (arith, short)) in
    record {
      keys = subst (λ (ms : List MapDecl). HaveShortKeys (ms ++ map ∷ [])) (sym same) keys;
      maps = subst (λ (ms : List MapDecl). length (ms ++ map ∷ []) ≤ 16) (sym same) (omega (arith, one, few));
      columns = g.columns;
      labels = subst (λ (ms : List MapDecl). length before.labels ≤ 8 * length (ms ++ map ∷ []) + fixed) (sym same) (omega (arith, one, all, short, g.labels));
      names = labels_named d 0 m.labels g.names (back_none (limit ++ rest) (labels_faults d 0 m.labels) e);
    }

-- a column that is refused for nothing
fixed_grows : (fixed : ℕ) (d : ChainDecl) (c : ColumnTree) → IsGrowing fixed d → nat_le 8 fixed ≡ false → is_among c.name.bytes (names_in d.labels) ≡ false → IsGrowing (fixed + 1) (with_column Fixed d (column_of c.name c.width))
fixed_grows fixed d c g few new =
    let one : length (d.labels ++ column_of c.name c.width ∷ []) ≡ length d.labels + 1 = length-append d.labels (column_of c.name c.width ∷ []) in
    record {
      keys = g.keys;
      maps = g.maps;
      columns = grind (arith, nat_tests, few);
      labels = omega (arith, one, g.labels);
      names = names_push d.labels (column_of c.name c.width) g.names new;
    }

not_many : (fixed : ℕ) (d : ChainDecl) (c : ColumnTree) → first (column_faults fixed d c) ≡ None → nat_le 8 (columns_before c.kind fixed d) ≡ false
unfolding column_faults
not_many fixed d c e =
    let limit = fault_if (nat_le 8 (columns_before c.kind fixed d)) Limit c.place in
    let rest = fault_if (names_column d c.name.bytes) Twice c.name.place ++ (length_faults c.name ++ width_faults c.width) in
    test_none (nat_le 8 (columns_before c.kind fixed d)) Limit c.place (front_none limit rest e)

not_named : (fixed : ℕ) (d : ChainDecl) (c : ColumnTree) → first (column_faults fixed d c) ≡ None → is_among c.name.bytes (names_in d.labels) ≡ false
unfolding column_faults
not_named fixed d c e =
    let limit = fault_if (nat_le 8 (columns_before c.kind fixed d)) Limit c.place in
    let twice = fault_if (names_column d c.name.bytes) Twice c.name.place in
    let rest = length_faults c.name ++ width_faults c.width in
    let no = test_none (names_column d c.name.bytes) Twice c.name.place (front_none twice rest (back_none limit (twice ++ rest) e)) in
    (or_false (is_among c.name.bytes (names_in d.labels)) (is_among c.name.bytes (names_in d.columns)) no).0

column_grows : (fixed : ℕ) (d : ChainDecl) (c : ColumnTree) (kind : ColumnKind) → IsGrowing fixed d → nat_le 8 (columns_before kind fixed d) ≡ false → is_among c.name.bytes (names_in d.labels) ≡ false →
    IsGrowing (fixed + one_if_fixed kind) (with_column kind d (column_of c.name c.width))
column_grows fixed d c Fixed g few new = fixed_grows fixed d c g few new
column_grows fixed d c Free g few new =
    record { keys = g.keys; maps = g.maps; columns = omega (arith, g.columns); labels = omega (arith, g.labels); names = g.names }

part_grows : (maps fixed : ℕ) (d : ChainDecl) (p : Part) → IsGrowing fixed d → first (part_faults maps fixed d p) ≡ None → IsGrowing (fixed_with fixed p) (with_part d p)
part_grows maps fixed d (parts.Map m) g e = map_grows maps fixed d m g e
part_grows maps fixed d (parts.Column c) g e = column_grows fixed d c c.kind g (not_many fixed d c e) (not_named fixed d c e)

parts_sized : (maps fixed : ℕ) (d : ChainDecl) (ps : List Part) → IsGrowing fixed d → first (parts_faults maps fixed d ps) ≡ None → IsSized (fold with_part d ps)
parts_sized maps fixed d [] g e = record { keys = g.keys; labels = omega (arith, g.labels, g.maps, g.columns); names = g.names }
parts_sized maps fixed d (p ∷ ps) g e =
    let rest = parts_faults maps (fixed_with fixed p) (with_part d p) ps in
    parts_sized maps (fixed_with fixed p) (with_part d p) ps
    (part_grows maps fixed d p g (front_none (part_faults maps fixed d p) rest e))
    (back_none (part_faults maps fixed d p) rest e)

chain_sized : (o : Objects) (c : ChainTree) → first (chain_faults o c) ≡ None → IsSized (chain_of c)
unfolding chain_faults chain_of
chain_sized o c e =
    let limit = fault_if (nat_le 8 (length o.chains)) Limit c.place in
    let twice = fault_if (names_object o c.name.bytes) Twice c.name.place in
    let all = parts_faults (maps_in o.chains) 0 (with_no_parts c) c.parts in
    let behind_name = back_none twice (length_faults c.name ++ (size_faults c.size ++ all)) (back_none limit (twice ++ (length_faults c.name ++ (size_faults c.size ++ all))) e) in
    let none = back_none (size_faults c.size) all (back_none (length_faults c.name) (size_faults c.size ++ all) behind_name) in
    let opening : IsGrowing 0 (with_no_parts c) = record { keys = All-nil (λ (decl : MapDecl). decl.parts ≤ 8); maps = omega arith; columns = omega arith; labels = omega arith; names = tt } in
    parts_sized (maps_in o.chains) 0 (with_no_parts c) c.parts opening none

declarations_sized : (o : Objects) (ds : List Declaration) → All IsSized o.chains → first (declarations_faults o ds) ≡ None → All IsSized (fold with_declaration o ds).chains
declarations_sized o [] all e = all
declarations_sized o (declarations.Chain c ∷ ds) all e =
    let next = with_declaration o (declarations.Chain c) in
    declarations_sized next ds
    (All-push IsSized o.chains (chain_of c) all (chain_sized o c (front_none (chain_faults o c) (declarations_faults next ds) e)))
    (back_none (chain_faults o c) (declarations_faults next ds) e)
declarations_sized o (declarations.Array a ∷ ds) all e =
    let next = with_declaration o (declarations.Array a) in
    declarations_sized next ds all (back_none (array_faults o a) (declarations_faults next ds) e)

-- the chains of a text
pub all_sized : (ds : List Declaration) → first (declarations_faults no_objects ds) ≡ None → All IsSized (objects_of ds).chains
all_sized ds e = declarations_sized no_objects ds (All-nil IsSized) e

pub all_short : (ds : List Declaration) → first (declarations_faults no_objects ds) ≡ None → HaveAllShortKeys (objects_of ds).chains
all_short ds e k d lt = (all_sized ds e k d lt).keys
