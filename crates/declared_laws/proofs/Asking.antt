-- Where nothing is wrong with a statement, what it touches is declared.
use Rattle.std.proofs.Common.{◌≡◌, ℕ, suc, ◌+◌, ◌<◌, List, [], ◌∷◌, ◌++◌, not, ◌==◌, ◌||◌, Option, Some, None, Contains, length}
use Rattle.std.proofs.lemmas.List.Elements.{All-nil, All-cons, All-append, All-weaker, All-contains, All-contains_itself}
use Rattle.nf_base.specs.declared.decl.MapDecl.{MapDecl}
use Rattle.nf_base.specs.declared.decl.ChainDecl.{ChainDecl}
use Rattle.nf_base.specs.declared.packet.Door.{Door}
use Rattle.nf_base.specs.declared.packet.Family.{Family}
use Rattle.nf_base.specs.Chains.{maps_of}
use Rattle.nf_base.specs.Text.{Given, Creation}
use Rattle.nf_base.specs.Statements.{Statement, Ends, Does, Asks, Makes}
use Rattle.nf_base.specs.Values.{is_settable}
use Rattle.nf_tokens.specs.declared.token.Place.{Place}
use Rattle.nf_tree.specs.declared.place.Name.{Name}
use Rattle.nf_tree.specs.Tree as tree
use Rattle.nf_types.specs.declared.room.Room.{Room}
use Rattle.nf_types.specs.declared.objects.Objects.{Objects}
use Rattle.nf_types.specs.declared.fault.TypingKind.TheVariants.{Limit, Amount, ReadOnly}
use Rattle.nf_types.specs.Faults.{first, fault_if, each_behind}
use Rattle.nf_types.specs.Fields.{field_faults}
use Rattle.nf_types.specs.Variables.{Variable, variable_named}
use Rattle.nf_types.specs.Expressions.{cells, number_of, array_named, array_faults_at, value_of, value_faults, each_value_faults}
use Rattle.nf_types.specs.Statements.{parts_of, key_of, chain_named, map_named, guards_in, asked, labels_in}
use Rattle.nf_types.specs.StatementFaults.{binding_faults, map_faults_at, amount_faults, look_in_faults, look_up_faults, given_faults, lacks_label, make_in_faults, making_faults, find_in_faults, finding_faults, write_at_faults}
use Rattle.nf_types.specs.Blocks.{checked_ending, checked_operation, checked_get_in, checked_get, checked_find, checked_question, checked_creation}
use Rattle.nf_types.specs.BlockFaults.{ending_faults, operation_faults, get_faults, find_faults, question_faults, creation_faults}
use Rattle.nf_types.proofs.First.{front_none, back_none}
use Rattle.nf_sites.specs.declared.sort.Sort.TheVariants as sort
use Rattle.nf_sites.specs.ReadOrder.{by_first_read}
use Rattle.nf_sites.specs.Sites.{cell_site, expression_sites, given_sites, guard_sites, get_site, find_site, new_site, name_site, name_sites, creation_sites, statement_sites}
use Rattle.nf_sites.proofs.Sorting.{sorted_from}
use Rattle.declared_laws.proofs.Values.{IsOf, AllOf, Below, chain_below, array_below, array_has, value_has, key_has, are_faultless, guards_have, labels_have}

-- the values of a `new` in the order of their reads
sorted_has : (o : Objects) (door : Door) (gs : List Given) → AllOf o (given_sites door gs) → AllOf o (given_sites door (by_first_read gs))
sorted_has o door gs all =
    let sites = given_sites door (by_first_read gs) in
    All-weaker (Contains sites) (IsOf o)
    (λ x there. All-contains (IsOf o) (given_sites door gs) x all (sorted_from (λ (g : Given). expression_sites door g.value) gs x there))
    sites (All-contains_itself sites)

-- the look-ups of a chain's maps
names_have : (o : Objects) (door : Door) (n : Creation) (m : ℕ) (decls : List MapDecl) → n.chain < length o.chains → AllOf o (name_sites door n m decls)
names_have o door n m [] lt = All-nil (IsOf o)
names_have o door n m (decl ∷ decls) lt =
    All-cons (IsOf o) (name_site door n m decl) (name_sites door n (suc m) decls) lt (names_have o door n (suc m) decls lt)

new_has : (o : Objects) (decls : List ChainDecl) (door : Door) (n : Creation) → (n.chain < length o.chains) × AllOf o (given_sites door n.labels) → AllOf o (creation_sites decls door n)
new_has o decls door n has =
    let names = name_sites door n 0 (maps_of decls n.chain) in
    let reads = given_sites door (by_first_read n.labels) in
    All-cons (IsOf o) (new_site door n) (names ++ reads) has.0
    (All-append (IsOf o) names reads (names_have o door n 0 (maps_of decls n.chain) has.0) (sorted_has o door n.labels has.1))

module _ (family : Family) (o : Objects) (xs : List Variable) (decls : List ChainDecl) (door : Door) where
  -- what holds of a checked statement: it touches what is declared
  abbrev pub Touches : Statement → Type 0
  Touches s = AllOf o (statement_sites decls door s)

  -- a `get`
  get_in_has : (place chain : ℕ) (d : ChainDecl) (found : Option (ℕ × MapDecl)) (key : List tree.Expression) → chain < length o.chains → first (each_value_faults family o xs key) ≡ None → Touches (Asks (checked_get_in place o xs chain d found key))
  get_in_has place chain d None key lt e = All-cons (IsOf o) (get_site decls door place chain 0 []) [] lt (All-nil (IsOf o))
  get_in_has place chain d (Some found) key lt e =
      let values = key_of (place + 1) o xs (parts_of d found.1) key in
      All-cons (IsOf o) (get_site decls door place chain found.0 values) (given_sites door values) lt
      (key_has family o xs door (place + 1) (parts_of d found.1) key e)

  get_has : (place : ℕ) (found : Option (ℕ × ChainDecl)) (c m : Name) (key : List tree.Expression) (close : Place) → Below (length o.chains) found → first (look_in_faults family o xs found c m key close) ≡ None → Touches (Asks (checked_get place o xs found m key))
  get_has place None c m key close lt e = cc
  get_has place (Some found) c m key close lt e =
      let at = map_named found.1 m.bytes in
      let name = map_faults_at at m in
      let values = each_value_faults family o xs key in
      let amount = amount_faults found.1 at (length key) close in
      get_in_has place found.0 found.1 at key lt (front_none values amount (back_none name (values ++ amount) e))

  -- a `find`
  find_has : (place : ℕ) (found : Option (ℕ × ChainDecl)) (c : Name) (i : tree.Expression) (gs : List tree.Given) → Below (length o.chains) found → first (find_in_faults family o xs found c i gs) ≡ None → Touches (Asks (checked_find place o xs found i gs))
  find_has place None c i gs lt e = cc
  find_has place (Some found) c i gs lt e =
      let index = value_faults family o xs i in
      let givens = each_behind (given_faults family o xs found.1) [] gs in
      let at = value_of (place + 1) o xs i in
      let guards = guards_in (place + 1 + cells i) o xs found.1.labels gs in
      All-cons (IsOf o) (find_site door place found.0 guards) (expression_sites door at ++ guard_sites door guards) lt
      (All-append (IsOf o) (expression_sites door at) (guard_sites door guards)
      (value_has family o xs door (place + 1) i (front_none index givens e))
      (guards_have family o xs door (place + 1 + cells i) found.1.labels gs (are_faultless family o xs door found.1 [] gs (back_none index givens e))))

  pub question_has : (room : Room) (place : ℕ) (q : tree.Question) → first (question_faults family room o xs q) ≡ None → Touches (Asks (checked_question place o xs q))
  unfolding get_faults find_faults
  question_has room place (tree.Get at x c m key close) e =
      let front = fault_if (room.lookups == 0) Limit at in
      let binding = binding_faults o xs x in
      let look = look_up_faults family o xs c m key close in
      get_has place (chain_named o.chains c.bytes) c m key close (chain_below o c.bytes)
      (back_none binding look (back_none front (binding ++ look) e))
  question_has room place (tree.Find at x c i gs) e =
      let front = fault_if (room.lookups == 0) Limit at in
      let binding = binding_faults o xs x in
      let look = finding_faults family o xs c i gs in
      find_has place (chain_named o.chains c.bytes) c i (asked gs) (chain_below o c.bytes)
      (back_none binding look (back_none front (binding ++ look) e))
  question_has room place (tree.Test l comparison r) e =
      let left = value_faults family o xs l in
      let right = value_faults family o xs r in
      All-append (IsOf o) (expression_sites door (value_of (place + 1) o xs l)) (expression_sites door (value_of (place + 1 + cells l) o xs r))
      (value_has family o xs door (place + 1) l (front_none left right e)) (value_has family o xs door (place + 1 + cells l) r (back_none left right e))

  -- a `new`
  made_has : (place : ℕ) (found : Option (ℕ × ChainDecl)) (c : Name) (gs : List tree.Given) (close : Place) → Below (length o.chains) found → first (make_in_faults family o xs found c gs close) ≡ None →
      (number_of found < length o.chains) × AllOf o (given_sites door (labels_in place o xs found gs))
  made_has place None c gs close lt e = cc
  made_has place (Some found) c gs close lt e =
      let givens = each_behind (given_faults family o xs found.1) [] gs in
      let lacks = fault_if (lacks_label gs found.1.labels) Amount close in
      (lt, labels_have family o xs door place gs found.1.labels (are_faultless family o xs door found.1 [] gs (front_none givens lacks e)))

  pub creation_has : (room : Room) (place : ℕ) (n : tree.Creation) → first (creation_faults family room o xs n) ≡ None → Touches (Makes (checked_creation place o xs n))
  unfolding creation_faults
  creation_has room place n e =
      let front = fault_if (room.lookups == 0 || room.news == 0) Limit n.place in
      let binding = binding_faults o xs n.variable in
      let making = making_faults family o xs n.chain n.given n.close in
      new_has o decls door (checked_creation place o xs n)
      (made_has (place + 1) (chain_named o.chains n.chain.bytes) n.chain n.given n.close (chain_below o n.chain.bytes)
      (back_none binding making (back_none front (binding ++ making) e)))

  pub operation_has : (place : ℕ) (op : tree.Operation) → first (operation_faults family o xs op) ≡ None → Touches (Does (checked_operation place o xs op))
  operation_has place (tree.Touch x) e = All-nil (IsOf o)
  operation_has place (tree.Free at x) e = All-nil (IsOf o)
  operation_has place (tree.Set f at v) e =
      let settable = fault_if (not (is_settable f)) ReadOnly at in
      let field = field_faults family f at in
      let value = value_faults family o xs v in
      value_has family o xs door place v (back_none field value (back_none settable (field ++ value) e))
  operation_has place (tree.Write x y v) e =
      value_has family o xs door place v (back_none (write_at_faults (variable_named xs x.bytes) x y) (value_faults family o xs v) e)
  operation_has place (tree.Store a i v) e =
      let array = array_named o.arrays a.bytes in
      let name = array_faults_at array a in
      let index = value_faults family o xs i in
      let value = value_faults family o xs v in
      let rest = back_none name (index ++ value) e in
      let at = value_of (place + 1) o xs i in
      let given = value_of (place + 1 + cells i) o xs v in
      All-cons (IsOf o) (cell_site door sort.Store place (number_of array) at) (expression_sites door at ++ expression_sites door given)
      (array_has (length o.arrays) array a (array_below o a.bytes) (front_none name (index ++ value) e))
      (All-append (IsOf o) (expression_sites door at) (expression_sites door given)
      (value_has family o xs door (place + 1) i (front_none index value rest))
      (value_has family o xs door (place + 1 + cells i) v (back_none index value rest)))

  pub ending_has : (place : ℕ) (end : tree.Ending) → first (ending_faults family o xs end) ≡ None → Touches (Ends (checked_ending place o xs end))
  ending_has place tree.FallsOff e = All-nil (IsOf o)
  ending_has place tree.Missing e = All-nil (IsOf o)
  ending_has place tree.Flood e = All-nil (IsOf o)
  ending_has place tree.Discard e = All-nil (IsOf o)
  ending_has place (tree.Forward v) e = value_has family o xs door place v e
