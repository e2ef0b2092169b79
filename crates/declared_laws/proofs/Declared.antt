-- The function of a text that breaks no rule declares each object that it comes to.
use Rattle.std.proofs.Common.{◌≡◌, List, [], ◌∷◌, ◌++◌, Option, Some, None, get_or, refl, ap, sym, subst}
use Rattle.std.specs.Prelude.{All, Contains}
use Rattle.std.specs.List.{flat_map}
use Rattle.std.proofs.lemmas.List.Elements.{All-nil, All-head, All-tail, All-append, All-filter, All-map, All-weaker, All-contains}
use Rattle.nf_base.specs.declared.decl.ObjectId.{ObjectId}
use Rattle.nf_base.specs.declared.decl.ObjectId.TheVariants as object
use Rattle.nf_base.specs.declared.packet.Door.{Door}
use Rattle.nf_base.specs.Doors.{blocks, handler_at, doors_of}
use Rattle.nf_base.specs.Text.{Block, Function}
use Rattle.nf_base.specs.Statements.{statements}
use Rattle.nf_laws.proofs.Counted.{objects_listed}
use Rattle.nf_laws.proofs.Doors.{at_door}
use Rattle.nf_tree.specs.Tree as tree
use Rattle.nf_types.specs.declared.fault.TypingKind.TheVariants.{NoHandler}
use Rattle.nf_types.specs.declared.objects.Objects.{Objects}
use Rattle.nf_types.specs.Faults.{first, fault_if, each_behind, length_faults}
use Rattle.nf_types.specs.Declarations.{no_objects, objects_of}
use Rattle.nf_types.specs.DeclarationFaults.{port_faults, declarations_faults}
use Rattle.nf_types.specs.Function.{function}
use Rattle.nf_types.specs.TextFaults.{handler_faults, lacks_handler, faults}
use Rattle.nf_types.proofs.First.{front_none, back_none}
use Rattle.nf_types.proofs.Listed.{lists}
use Rattle.nf_sites.specs.Sites.{Site, statement_sites}
use Rattle.nf_sites.specs.OnPaths.{text_sites, is_reached, handler_sites, door_sites, sites_of}
use Rattle.access_keys.specs.declared.site.Site as told
use Rattle.access_keys.specs.Told.{site_told}
use Rattle.declared_laws.specs.Declares.{DeclaresObjects, FunctionsDeclareTheirObjects}
use Rattle.declared_laws.proofs.Values.{Has, IsOf, AllOf}
use Rattle.declared_laws.proofs.Blocks.{BlockTouches, all_have}

-- what holds of all that comes of each item
in_each : {A B : Type 0} (P : B → Type 0) (f : A → List B) (xs : List A) → All (λ x. All P (f x)) xs → All P (flat_map f xs)
in_each P f [] all = All-nil P
in_each P f (x ∷ xs) all =
    All-append P (f x) (flat_map f xs) (All-head (λ y. All P (f y)) x xs all) (in_each P f xs (All-tail (λ y. All P (f y)) x xs all))

-- the sites of a handler, those of a port, and those of a function
handler_has : (o : Objects) (f : Function) (door : Door) (handler : Option Block) → f.chains ≡ o.chains → All (BlockTouches o) (blocks f) → handler_at f door ≡ handler → AllOf o (handler_sites f door handler)
handler_has o f door None same all e = All-nil (IsOf o)
handler_has o f door (Some block) same all e =
    All-filter (λ (x : Site). is_reached f door x.place) (IsOf o) (text_sites f.chains door block)
    (subst (λ decls. AllOf o (text_sites decls door block)) (sym same)
    (in_each (IsOf o) (statement_sites o.chains door) (statements block) (All-contains (BlockTouches o) (blocks f) block all (at_door f door block e) door)))

sites_have : (o : Objects) (f : Function) → f.chains ≡ o.chains → All (BlockTouches o) (blocks f) → AllOf o (sites_of f)
sites_have o f same all =
    in_each (IsOf o) (door_sites f) (doors_of f)
    (λ k d lt. let door = get_or (doors_of f) k d in handler_has o f door (handler_at f door) same all refl)

-- what has one of the numbers is declared
declared : (t : tree.Tree) (id : ObjectId) → Has (objects_of t.declarations) id → Contains (function t).objects id
declared t (object.Chain k) lt = (objects_listed (function t) k (lists (function t) t refl)).chain.1 lt
declared t (object.Array k) lt = (objects_listed (function t) k (lists (function t) t refl)).array.1 lt

-- nothing is wrong with the handlers
handlers_faultless : (t : tree.Tree) → faults t ≡ [] → first (each_behind (handler_faults t.ports.value (objects_of t.declarations)) [] t.handlers) ≡ None
handlers_faultless t e =
    let name = length_faults t.name in
    let ports = port_faults t.ports in
    let declarations = declarations_faults no_objects t.declarations in
    let handlers = each_behind (handler_faults t.ports.value (objects_of t.declarations)) [] t.handlers in
    let lacks = fault_if (lacks_handler t.ports.value t.handlers) NoHandler t.end in
    front_none handlers lacks
    (back_none declarations (handlers ++ lacks)
    (back_none ports (declarations ++ (handlers ++ lacks))
    (back_none name (ports ++ (declarations ++ (handlers ++ lacks))) (ap first e))))

text_declares : (t : tree.Tree) → faults t ≡ [] → DeclaresObjects (function t)
text_declares t e =
    let f = function t in
    let o = objects_of t.declarations in
    let blocks_have = all_have t.ports.value t.ports.value o t.handlers (handlers_faultless t e) in
    record {
      each = All-map (λ (s : told.Site). Contains f.objects s.object) (site_told f) (sites_of f)
          (All-weaker (IsOf o) (λ (x : Site). Contains f.objects x.object) (λ x has. declared t x.object has) (sites_of f)
          (sites_have o f refl blocks_have));
    }

pub functions_declare : FunctionsDeclareTheirObjects
functions_declare t f e same = subst DeclaresObjects same (text_declares t e)
