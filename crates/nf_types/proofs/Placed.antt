-- The places of a checked block are numbered along its text, each number once.
use Rattle.std.proofs.Common.{◌≡◌, ◌∙◌, ℕ, ◌+◌, ◌≤◌, List, [], ◌∷◌, ◌++◌, Bool, true, false, Option, Some, None, map, arith, refl, sym, ap, subst}
use Rattle.std.specs.Prelude.{if◌then◌else◌}
use Rattle.std.specs.List.{All, flat_map}
use Rattle.std.specs.Str.{bytes_eq}
use Rattle.std.proofs.lemmas.List.{append-nil}
use Rattle.std.proofs.lemmas.Grind.{flat_map-append}
use Rattle.std.proofs.lemmas.Slice.Eq.{bytes_eq-Decides}
use Rattle.nf_base.specs.declared.decl.ColumnDecl.{ColumnDecl}
use Rattle.nf_base.specs.declared.decl.ColumnId.{ColumnId}
use Rattle.nf_base.specs.declared.decl.ColumnId.TheVariants as ids
use Rattle.nf_base.specs.declared.decl.MapDecl.{MapDecl}
use Rattle.nf_base.specs.declared.decl.ChainDecl.{ChainDecl}
use Rattle.nf_base.specs.Text.{Given}
use Rattle.nf_base.specs.Statements.{Statement, Ends, Does, Asks, Makes, statements}
use Rattle.nf_base.specs.TextPlaces.{expression_places, given_places, guard_places, own_place, statement_reads, places_in}
use Rattle.nf_tree.specs.declared.place.Name.{Name}
use Rattle.nf_tree.specs.Tree as tree
use Rattle.nf_types.specs.declared.objects.Objects.{Objects}
use Rattle.nf_types.specs.Variables.{Variable, variable_of, variable_named}
use Rattle.nf_types.specs.Expressions.{cells, column_value, column_of_variable, value_of, given_to}
use Rattle.nf_types.specs.Statements.{parts_of, key_of, key_cells, given_cells, chain_named, map_named, label_named, guard_to, guards_in, asked, value_for, labels_in}
use Rattle.nf_types.specs.Places.{ending_places, operation_places, question_places, creation_places, places}
use Rattle.nf_types.specs.Blocks.{bound, bound_by, checked_ending, checked_operation, checked_get_in, checked_get, checked_find, checked_question, checked_creation, checked_block}
use Rattle.nf_types.proofs.Spread.{Rises, rises_wider, rises_append, rises_front, Apart, apart_ranges, apart_sym, Spread, spread_none, spread_wider, spread_append, rises_spread, differ_all, within_all, Pairwise, pairwise_map}
use Rattle.nf_types.proofs.Named.{IsNamedUnlike, AreNamedApart}
use Rattle.nf_types.proofs.Sized.{IsSized}
use Rattle.nf_types.proofs.Fitting.{Holds, one_of, named_holds}

-- what is read of a variable's entry has no place
column_rises : (place var : ℕ) (found : Option ColumnId) → Rises place (place + 0) (expression_places (column_value var found))
column_rises place var None = omega arith
column_rises place var (Some (ids.Label i)) = omega arith
column_rises place var (Some (ids.Column i)) = omega arith

-- the cells of two values
both_rise : (place : ℕ) (o : Objects) (xs : List Variable) (l r : tree.Expression) →
    Rises place (place + cells l) (expression_places (value_of place o xs l)) →
    Rises (place + cells l) ((place + cells l) + cells r) (expression_places (value_of (place + cells l) o xs r)) →
    Rises place (place + (cells l + cells r)) (expression_places (value_of place o xs l) ++ expression_places (value_of (place + cells l) o xs r))
both_rise place o xs l r p q =
    rises_append place (place + cells l) (place + (cells l + cells r)) (expression_places (value_of place o xs l)) (expression_places (value_of (place + cells l) o xs r)) p
    (rises_wider (place + cells l) (place + cells l) ((place + cells l) + cells r) (place + (cells l + cells r)) (expression_places (value_of (place + cells l) o xs r)) (omega arith) (omega arith) q)

-- the cells of a value
value_rises : (place : ℕ) (o : Objects) (xs : List Variable) (e : tree.Expression) → Rises place (place + cells e) (expression_places (value_of place o xs e))
value_rises place o xs (tree.Number n) = omega arith
value_rises place o xs (tree.Read field at) = omega arith
value_rises place o xs (tree.Column x y) =
    column_rises place (variable_of xs x.bytes) (column_of_variable (variable_named xs x.bytes) y.bytes)
value_rises place o xs (tree.Index x) = omega arith
value_rises place o xs (tree.Cell a i) =
    (omega arith, rises_wider (place + 1) (place + 1) ((place + 1) + cells i) (place + (1 + cells i)) (expression_places (value_of (place + 1) o xs i)) (omega arith) (omega arith) (value_rises (place + 1) o xs i))
value_rises place o xs (tree.Group e close) = value_rises place o xs e
value_rises place o xs (tree.Sum operator l r) = both_rise place o xs l r (value_rises place o xs l) (value_rises (place + cells l) o xs r)
value_rises place o xs (tree.Product operator l r) = both_rise place o xs l r (value_rises place o xs l) (value_rises (place + cells l) o xs r)

-- one value in front of others
in_front : (lo a b hi : ℕ) (ns ms : List ℕ) → hi ≡ lo + (a + b) → Rises lo (lo + a) ns → Rises (lo + a) ((lo + a) + b) ms → Rises lo hi (ns ++ ms)
in_front lo a b hi ns ms e p q =
    rises_append lo (lo + a) hi ns ms p (rises_wider (lo + a) (lo + a) ((lo + a) + b) hi ms (omega arith) (omega (arith, e)) q)

-- the cells of a key
key_rises : (place : ℕ) (o : Objects) (xs : List Variable) (parts : List ColumnDecl) (key : List tree.Expression) →
    Rises place (place + key_cells key) (given_places (key_of place o xs parts key))
key_rises place o xs [] key = omega arith
key_rises place o xs (p ∷ ps) [] = omega arith
key_rises place o xs (p ∷ ps) (v ∷ vs) =
    in_front place (cells v) (key_cells vs) (place + (cells v + key_cells vs)) (expression_places (value_of place o xs v)) (given_places (key_of (place + cells v) o xs ps vs)) refl
    (value_rises place o xs v) (key_rises (place + cells v) o xs ps vs)

-- the cells of what a `find` asks of labels
guard_rises : (place : ℕ) (o : Objects) (xs : List Variable) (found : Option (ℕ × ColumnDecl)) (v : tree.Expression) →
    Rises place (place + cells v) (expression_places (guard_to place o xs found v).given.value)
guard_rises place o xs None v = value_rises place o xs v
guard_rises place o xs (Some found) v = value_rises place o xs v

guards_rise : (place : ℕ) (o : Objects) (xs : List Variable) (labels : List ColumnDecl) (gs : List tree.Given) →
    Rises place (place + given_cells gs) (guard_places (guards_in place o xs labels gs))
guards_rise place o xs labels [] = omega arith
guards_rise place o xs labels (g ∷ gs) =
    in_front place (cells g.value) (given_cells gs) (place + (cells g.value + given_cells gs))
    (expression_places (guard_to place o xs (label_named labels g.name.bytes) g.value).given.value)
    (guard_places (guards_in (place + cells g.value) o xs labels gs)) refl
    (guard_rises place o xs (label_named labels g.name.bytes) g.value) (guards_rise (place + cells g.value) o xs labels gs)

-- a statement's own place in front of the cells that it reads
own_first : (place a hi : ℕ) (ns : List ℕ) → hi ≡ place + (1 + a) → Rises (place + 1) ((place + 1) + a) ns → Rises place hi (place ∷ ns)
own_first place a hi ns e r =
    (omega arith, rises_wider (place + 1) (place + 1) ((place + 1) + a) hi ns (omega arith) (omega (arith, e)) r)

get_in_rises : (place : ℕ) (o : Objects) (xs : List Variable) (i : ℕ) (d : ChainDecl) (found : Option (ℕ × MapDecl)) (key : List tree.Expression) →
    Rises place (place + (1 + key_cells key)) (places_in (Asks (checked_get_in place o xs i d found key)))
get_in_rises place o xs i d None key = (omega arith, omega arith)
get_in_rises place o xs i d (Some found) key =
    own_first place (key_cells key) (place + (1 + key_cells key)) (given_places (key_of (place + 1) o xs (parts_of d found.1) key)) refl
    (key_rises (place + 1) o xs (parts_of d found.1) key)

get_rises : (place : ℕ) (o : Objects) (xs : List Variable) (found : Option (ℕ × ChainDecl)) (m : Name) (key : List tree.Expression) →
    Rises place (place + (1 + key_cells key)) (places_in (Asks (checked_get place o xs found m key)))
get_rises place o xs None m key = (omega arith, omega arith)
get_rises place o xs (Some found) m key = get_in_rises place o xs found.0 found.1 (map_named found.1 m.bytes) key

find_rises : (place : ℕ) (o : Objects) (xs : List Variable) (found : Option (ℕ × ChainDecl)) (i : tree.Expression) (gs : List tree.Given) →
    Rises place (place + (1 + cells i + given_cells gs)) (places_in (Asks (checked_find place o xs found i gs)))
find_rises place o xs None i gs =
    own_first place (cells i + given_cells gs) (place + (1 + cells i + given_cells gs)) (expression_places (value_of (place + 1) o xs i) ++ []) (omega arith)
    (in_front (place + 1) (cells i) (given_cells gs) ((place + 1) + (cells i + given_cells gs)) (expression_places (value_of (place + 1) o xs i)) [] refl
    (value_rises (place + 1) o xs i) (omega arith))
find_rises place o xs (Some found) i gs =
    let guards = guard_places (guards_in (place + 1 + cells i) o xs found.1.labels gs) in
    own_first place (cells i + given_cells gs) (place + (1 + cells i + given_cells gs)) (expression_places (value_of (place + 1) o xs i) ++ guards) (omega arith)
    (in_front (place + 1) (cells i) (given_cells gs) ((place + 1) + (cells i + given_cells gs)) (expression_places (value_of (place + 1) o xs i)) guards refl
    (value_rises (place + 1) o xs i) (guards_rise (place + 1 + cells i) o xs found.1.labels gs))

question_rises : (place : ℕ) (o : Objects) (xs : List Variable) (q : tree.Question) →
    Rises place (place + question_places q) (places_in (Asks (checked_question place o xs q)))
question_rises place o xs (tree.Get at x c m key close) = get_rises place o xs (chain_named o.chains c.bytes) m key
question_rises place o xs (tree.Find at x c i gs) = find_rises place o xs (chain_named o.chains c.bytes) i (asked gs)
question_rises place o xs (tree.Test l comparison r) =
    let right = expression_places (value_of (place + 1 + cells l) o xs r) in
    own_first place (cells l + cells r) (place + (1 + cells l + cells r)) (expression_places (value_of (place + 1) o xs l) ++ right) (omega arith)
    (in_front (place + 1) (cells l) (cells r) ((place + 1) + (cells l + cells r)) (expression_places (value_of (place + 1) o xs l)) right refl
    (value_rises (place + 1) o xs l) (value_rises (place + 1 + cells l) o xs r))

operation_rises : (place : ℕ) (o : Objects) (xs : List Variable) (op : tree.Operation) →
    Rises place (place + operation_places op) (places_in (Does (checked_operation place o xs op)))
operation_rises place o xs (tree.Touch x) = omega arith
operation_rises place o xs (tree.Free at x) = omega arith
operation_rises place o xs (tree.Set f at v) = value_rises place o xs v
operation_rises place o xs (tree.Write x y v) = value_rises place o xs v
operation_rises place o xs (tree.Store a i v) =
    let given = expression_places (value_of (place + 1 + cells i) o xs v) in
    own_first place (cells i + cells v) (place + (1 + cells i + cells v)) (expression_places (value_of (place + 1) o xs i) ++ given) (omega arith)
    (in_front (place + 1) (cells i) (cells v) ((place + 1) + (cells i + cells v)) (expression_places (value_of (place + 1) o xs i)) given refl
    (value_rises (place + 1) o xs i) (value_rises (place + 1 + cells i) o xs v))

ending_rises : (place : ℕ) (o : Objects) (xs : List Variable) (e : tree.Ending) →
    Rises place (place + ending_places e) (places_in (Ends (checked_ending place o xs e)))
ending_rises place o xs tree.FallsOff = omega arith
ending_rises place o xs tree.Missing = omega arith
ending_rises place o xs tree.Flood = omega arith
ending_rises place o xs tree.Discard = omega arith
ending_rises place o xs (tree.Forward v) = value_rises place o xs v

-- by two tests
pub two_of : {A : Type 0} (P : A → A → Type 0) (b c : Bool) (x y u v : A) → (b ≡ true → c ≡ true → P x u) → P x v → P y u → P y v →
    P (if b then x else y) (if c then u else v)
two_of P true true x y u v both p q r = both refl refl
two_of P true false x y u v both p q r = p
two_of P false true x y u v both p q r = q
two_of P false false x y u v both p q r = r

-- the cells of the value that a `new` gives a label
abbrev label_places : ℕ → Objects → List Variable → List tree.Given → ColumnDecl → List ℕ
label_places place o xs gs l = expression_places (value_for place o xs gs l).value

label_spread : (place : ℕ) (o : Objects) (xs : List Variable) (gs : List tree.Given) (l : ColumnDecl) → Spread place (place + given_cells gs) (label_places place o xs gs l)
label_spread place o xs [] l = spread_none place (place + 0) (omega arith)
label_spread place o xs (g ∷ gs) l =
    let hi = place + (cells g.value + given_cells gs) in
    one_of (λ (v : Given). Spread place hi (expression_places v.value)) (bytes_eq l.name g.name.bytes)
    (given_to place o xs l.width g.value) (value_for (place + cells g.value) o xs gs l)
    (spread_wider place place (place + cells g.value) hi (expression_places (value_of place o xs g.value)) (omega arith) (omega arith)
    (rises_spread place (place + cells g.value) (expression_places (value_of place o xs g.value)) (value_rises place o xs g.value)))
    (spread_wider place (place + cells g.value) ((place + cells g.value) + given_cells gs) hi (label_places (place + cells g.value) o xs gs l) (omega arith) (omega arith)
    (label_spread (place + cells g.value) o xs gs l))

-- one name can't be that of two labels
names_apart : {P : Type 0} (l m g : List ℕ) → bytes_eq m l ≡ false → bytes_eq l g ≡ true → bytes_eq m g ≡ true → P
names_apart l m g u e f =
    let p : l ≡ g = (bytes_eq-Decides l g).0 e in
    let q : m ≡ g = (bytes_eq-Decides m g).0 f in
    let r : bytes_eq m l ≡ true = (bytes_eq-Decides m l).1 (q ∙ sym p) in
    cc

labels_apart : (place : ℕ) (o : Objects) (xs : List Variable) (gs : List tree.Given) (l m : ColumnDecl) → IsNamedUnlike l m →
    Apart (label_places place o xs gs l) (label_places place o xs gs m)
labels_apart place o xs [] l m u = tt
labels_apart place o xs (g ∷ gs) l m u =
    let mid = place + cells g.value in
    let here = expression_places (value_of place o xs g.value) in
    let first = rises_spread place mid here (value_rises place o xs g.value) in
    let of_l = label_spread mid o xs gs l in
    let of_m = label_spread mid o xs gs m in
    two_of (λ (v w : Given). Apart (expression_places v.value) (expression_places w.value))
    (bytes_eq l.name g.name.bytes) (bytes_eq m.name g.name.bytes)
    (given_to place o xs l.width g.value) (value_for mid o xs gs l)
    (given_to place o xs m.width g.value) (value_for mid o xs gs m)
    (λ e f. names_apart l.name m.name g.name.bytes u e f)
    (apart_ranges place mid (mid + given_cells gs) here (label_places mid o xs gs m) first.within of_m.within)
    (apart_sym (label_places mid o xs gs l) here (apart_ranges place mid (mid + given_cells gs) here (label_places mid o xs gs l) first.within of_l.within))
    (labels_apart mid o xs gs l m u)

same_places : (place : ℕ) (o : Objects) (xs : List Variable) (gs : List tree.Given) (ls : List ColumnDecl) →
    flat_map (label_places place o xs gs) ls ≡ given_places (map (value_for place o xs gs) ls)
same_places place o xs gs [] = refl
same_places place o xs gs (l ∷ ls) = ap (λ rest. label_places place o xs gs l ++ rest) (same_places place o xs gs ls)

labels_spread : (place : ℕ) (o : Objects) (xs : List Variable) (gs : List tree.Given) (ls : List ColumnDecl) → AreNamedApart ls →
    Spread place (place + given_cells gs) (given_places (map (value_for place o xs gs) ls))
labels_spread place o xs gs ls apart =
    let f = label_places place o xs gs in
    let pairs : Pairwise (λ l m. Apart (f l) (f m)) ls = pairwise_map IsNamedUnlike (λ l m. Apart (f l) (f m)) ls (λ l m u. labels_apart place o xs gs l m u) apart in
    subst (Spread place (place + given_cells gs)) (same_places place o xs gs ls) (record {
      bounds = omega arith;
      within = within_all place (place + given_cells gs) f ls (λ l. (label_spread place o xs gs l).within);
      differ = differ_all f ls (λ l. (label_spread place o xs gs l).differ) pairs;
    })

labels_in_spread : (place : ℕ) (o : Objects) (xs : List Variable) (found : Option (ℕ × ChainDecl)) (gs : List tree.Given) → Holds IsSized found →
    Spread place (place + given_cells gs) (given_places (labels_in place o xs found gs))
labels_in_spread place o xs None gs h = spread_none place (place + given_cells gs) (omega arith)
labels_in_spread place o xs (Some found) gs h = labels_spread place o xs gs found.1.labels h.names

creation_spread : (place : ℕ) (o : Objects) (xs : List Variable) (n : tree.Creation) → All IsSized o.chains →
    Spread place (place + creation_places n) (places_in (Makes (checked_creation place o xs n)))
creation_spread place o xs n all =
    let found = chain_named o.chains n.chain.bytes in
    let reads = given_places (labels_in (place + 1) o xs found n.given) in
    let hi = place + (1 + given_cells n.given) in
    spread_append place (place + 1) hi (place ∷ []) reads
    (rises_spread place (place + 1) (place ∷ []) (omega arith, omega arith))
    (spread_wider (place + 1) (place + 1) ((place + 1) + given_cells n.given) hi reads (omega arith) (omega arith)
    (labels_in_spread (place + 1) o xs found n.given (named_holds IsSized 0 (λ (d : ChainDecl). d.name) n.chain.bytes o.chains all)))

-- statements whose places are numbered between two bounds
pub record IsPlaced (lo hi : ℕ) (ss : List Statement) : Type 0 where
  pub rising : Rises lo hi (flat_map own_place ss)
  pub spread : Spread lo hi (flat_map places_in ss)

placed_one : (lo hi : ℕ) (s : Statement) → Rises lo hi (own_place s) → Spread lo hi (places_in s) → IsPlaced lo hi (s ∷ [])
placed_one lo hi s r p = record {
  rising = subst (Rises lo hi) (sym (append-nil (own_place s))) r;
  spread = subst (Spread lo hi) (sym (append-nil (places_in s))) p;
}

placed_rising : (lo hi : ℕ) (s : Statement) → Rises lo hi (places_in s) → IsPlaced lo hi (s ∷ [])
placed_rising lo hi s r = placed_one lo hi s (rises_front lo hi (own_place s) (statement_reads s) r) (rises_spread lo hi (places_in s) r)

placed_append : (lo mid hi : ℕ) (ss ts : List Statement) → IsPlaced lo mid ss → IsPlaced mid hi ts → IsPlaced lo hi (ss ++ ts)
placed_append lo mid hi ss ts p q = record {
  rising = subst (Rises lo hi) (sym (flat_map-append own_place ss ts)) (rises_append lo mid hi (flat_map own_place ss) (flat_map own_place ts) p.rising q.rising);
  spread = subst (Spread lo hi) (sym (flat_map-append places_in ss ts)) (spread_append lo mid hi (flat_map places_in ss) (flat_map places_in ts) p.spread q.spread);
}

pub placed_wider : (lo more hi most : ℕ) (ss : List Statement) → lo ≤ more → hi ≤ most → IsPlaced more hi ss → IsPlaced lo most ss
placed_wider lo more hi most ss p q r = record {
  rising = rises_wider lo more hi most (flat_map own_place ss) p q r.rising;
  spread = spread_wider lo more hi most (flat_map places_in ss) p q r.spread;
}

-- a block
pub block_placed : (place : ℕ) (o : Objects) (xs : List Variable) (b : tree.Block) → All IsSized o.chains →
    IsPlaced place (place + places b) (statements (checked_block place o xs b))
block_placed place o xs (tree.End e) all =
    placed_rising place (place + ending_places e) (Ends (checked_ending place o xs e)) (ending_rises place o xs e)
block_placed place o xs (tree.Do op next) all =
    let at = place + operation_places op in
    let s = Does (checked_operation place o xs op) in
    let n = statements (checked_block at o xs next) in
    placed_wider place place (at + places next) (place + (operation_places op + places next)) (s ∷ n) (omega arith) (omega arith)
    (placed_append place at (at + places next) (s ∷ []) n
    (placed_rising place at s (operation_rises place o xs op)) (block_placed at o xs next all))
block_placed place o xs (tree.Ask q hit miss next) all =
    let at = place + question_places q in
    let behind_hit = at + places hit in
    let behind_miss = behind_hit + places miss in
    let end = behind_miss + places next in
    let s = Asks (checked_question place o xs q) in
    let h = statements (checked_block at o (bound_by o xs q) hit) in
    let m = statements (checked_block behind_hit o xs miss) in
    let n = statements (checked_block behind_miss o xs next) in
    placed_wider place place end (place + (question_places q + places hit + places miss + places next)) (s ∷ (h ++ (m ++ n))) (omega arith) (omega arith)
    (placed_append place at end (s ∷ []) (h ++ (m ++ n)) (placed_rising place at s (question_rises place o xs q))
    (placed_append at behind_hit end h (m ++ n) (block_placed at o (bound_by o xs q) hit all)
    (placed_append behind_hit behind_miss end m n (block_placed behind_hit o xs miss all) (block_placed behind_miss o xs next all))))
block_placed place o xs (tree.Make c made taken full next) all =
    let at = place + creation_places c in
    let behind_made = at + places made in
    let behind_taken = behind_made + places taken in
    let behind_full = behind_taken + places full in
    let end = behind_full + places next in
    let s = Makes (checked_creation place o xs c) in
    let m = statements (checked_block at o (bound o xs c.variable c.chain) made) in
    let t = statements (checked_block behind_made o xs taken) in
    let f = statements (checked_block behind_taken o xs full) in
    let n = statements (checked_block behind_full o xs next) in
    let own : Rises place at (place ∷ []) = (omega arith, omega arith) in
    placed_wider place place end (place + (creation_places c + places made + places taken + places full + places next)) (s ∷ (m ++ (t ++ (f ++ n)))) (omega arith) (omega arith)
    (placed_append place at end (s ∷ []) (m ++ (t ++ (f ++ n))) (placed_one place at s own (creation_spread place o xs c all))
    (placed_append at behind_made end m (t ++ (f ++ n)) (block_placed at o (bound o xs c.variable c.chain) made all)
    (placed_append behind_made behind_taken end t (f ++ n) (block_placed behind_made o xs taken all)
    (placed_append behind_taken behind_full end f n (block_placed behind_taken o xs full all) (block_placed behind_full o xs next all)))))
