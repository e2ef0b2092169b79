-- Where nothing is wrong with a handler's text, its block gives keys of at most 8 parts, and a value for each label.
use Rattle.std.proofs.Common.{◌≡◌, ℕ, suc, ◌+◌, ◌≤◌, List, [], ◌∷◌, ◌++◌, Bool, true, false, ◌==◌, ◌||◌, Option, Some, None, length, map, nat_le, arith, refl, sym, subst}
use Rattle.std.specs.Prelude.{All, slice_get, if◌then◌else◌}
use Rattle.std.specs.Str.{bytes_eq}
use Rattle.std.specs.List.{flat_map, range_with_len}
use Rattle.std.specs.Option.{option_map}
use Rattle.std.proofs.lemmas.List.{length-map, length-take}
use Rattle.std.proofs.lemmas.List.Elements.{All-head, All-tail, All-nil, All-cons, All-append}
use Rattle.nf_base.specs.declared.decl.ColumnDecl.{ColumnDecl}
use Rattle.nf_base.specs.declared.decl.MapDecl.{MapDecl}
use Rattle.nf_base.specs.declared.decl.ChainDecl.{ChainDecl}
use Rattle.nf_base.specs.Text.{Block, FallsOff}
use Rattle.nf_base.specs.Statements.{Ends, Does, Asks, Makes, statements}
use Rattle.nf_base.specs.Limits.{AreFor, QuestionFits, CreationFits, Fits}
use Rattle.nf_base.specs.FitsOnce.{AllFit}
use Rattle.nf_base.specs.declared.packet.Family.{Family}
use Rattle.nf_base.specs.declared.packet.Family.TheVariants.{Four, Six}
use Rattle.nf_base.specs.Doors.{listed, port_blocks}
use Rattle.nf_tokens.specs.declared.token.Place.{Place}
use Rattle.nf_tree.specs.declared.place.Name.{Name}
use Rattle.nf_tree.specs.Tree as tree
use Rattle.nf_types.specs.declared.room.Room.{Room}
use Rattle.nf_types.specs.declared.objects.Objects.{Objects}
use Rattle.nf_types.specs.declared.fault.TypingKind.TheVariants.{Limit, Twice}
use Rattle.nf_types.specs.Faults.{first, fault_if, each_behind}
use Rattle.nf_types.specs.Names.{named_from}
use Rattle.nf_types.specs.Variables.{Variable}
use Rattle.nf_types.specs.Expressions.{cells, number_of}
use Rattle.nf_types.specs.Places.{operation_places, question_places, creation_places, places}
use Rattle.nf_types.specs.Counts.{behind, behind_question, behind_new, whole_room}
use Rattle.nf_types.specs.Statements.{parts_of, key_of, asked, chain_named, map_named, value_for, labels_in}
use Rattle.nf_types.specs.StatementFaults.{binding_faults, make_in_faults, making_faults}
use Rattle.nf_types.specs.Blocks.{bound, bound_by, checked_ending, checked_operation, checked_get_in, checked_get, checked_find, checked_question, checked_creation, checked_block}
use Rattle.nf_types.specs.BlockFaults.{operation_faults, creation_faults, block_faults}
use Rattle.nf_types.specs.Function.{is_at, block_at, checked_found, checked_at, four_at, six_at, port_at, handlers_of}
use Rattle.nf_types.specs.TextFaults.{handler_faults, is_handled}
use Rattle.nf_types.proofs.First.{front_none, back_none}
use Rattle.nf_types.proofs.Faultless.{ask_faultless, make_faultless}
use Rattle.nf_types.proofs.Sized.{IsSized}

-- what holds of an item that was found
abbrev pub Holds : {A : Type 0} → (A → Type 0) → Option (ℕ × A) → Type 0
Holds P None = Unit {0}
Holds P (Some found) = P found.1

-- an item that was found stands at its number, where the items are numbered from i
abbrev Stands : {A : Type 0} → ℕ → List A → Option (ℕ × A) → Type 0
Stands i items None = Unit {0}
Stands i items (Some found) = (k : ℕ) × ((found.0 ≡ i + k) × (slice_get items k ≡ Some found.1))

pub one_of : {A : Type 0} (P : A → Type 0) (b : Bool) (x y : A) → P x → P y → P (if b then x else y)
one_of P true x y p q = p
one_of P false x y p q = q

pub named_holds : {A : Type 0} (P : A → Type 0) (i : ℕ) (name : A → List ℕ) (x : List ℕ) (items : List A) → All P items → Holds P (named_from i name x items)
named_holds P i name x [] all = tt
named_holds P i name x (item ∷ items) all =
    one_of (Holds P) (bytes_eq x (name item)) (Some (i, item)) (named_from (i + 1) name x items)
    (All-head P item items all) (named_holds P (i + 1) name x items (All-tail P item items all))

stands_behind : {A : Type 0} (i : ℕ) (item : A) (items : List A) (found : Option (ℕ × A)) → Stands (i + 1) items found → Stands i (item ∷ items) found
stands_behind i item items None at = tt
stands_behind i item items (Some found) at = (suc at.0, (omega (arith, at.1.0), at.1.1))

named_stands : {A : Type 0} (i : ℕ) (name : A → List ℕ) (x : List ℕ) (items : List A) → Stands i items (named_from i name x items)
named_stands i name x [] = tt
named_stands i name x (item ∷ items) =
    one_of (Stands i (item ∷ items)) (bytes_eq x (name item)) (Some (i, item)) (named_from (i + 1) name x items)
    (0, (omega arith, refl)) (stands_behind i item items (named_from (i + 1) name x items) (named_stands (i + 1) name x items))

-- a key has no more values than parts
key_short : (place : ℕ) (o : Objects) (xs : List Variable) (parts : List ColumnDecl) (key : List tree.Expression) → length (key_of place o xs parts key) ≤ length parts
key_short place o xs [] key = omega arith
key_short place o xs (p ∷ ps) [] = omega arith
key_short place o xs (p ∷ ps) (v ∷ vs) = omega (arith, key_short (place + cells v) o xs ps vs)

get_in_short : (place : ℕ) (o : Objects) (xs : List Variable) (i : ℕ) (d : ChainDecl) (found : Option (ℕ × MapDecl)) (key : List tree.Expression) →
    Holds (λ (m : MapDecl). m.parts ≤ 8) found → QuestionFits (checked_get_in place o xs i d found key)
get_in_short place o xs i d None key h = omega arith
get_in_short place o xs i d (Some found) key h =
    let few = key_short (place + 1) o xs (parts_of d found.1) key in
    let parts : length (parts_of d found.1) ≤ found.1.parts = grind (arith, length-take) in
    omega (arith, few, parts, h)

get_short : (place : ℕ) (o : Objects) (xs : List Variable) (found : Option (ℕ × ChainDecl)) (m : Name) (key : List tree.Expression) →
    Holds IsSized found → QuestionFits (checked_get place o xs found m key)
get_short place o xs None m key h = omega arith
get_short place o xs (Some found) m key h =
    get_in_short place o xs found.0 found.1 (map_named found.1 m.bytes) key
    (named_holds (λ (m : MapDecl). m.parts ≤ 8) 0 (λ (m : MapDecl). m.name) m.bytes found.1.maps h.keys)

find_fits : (place : ℕ) (o : Objects) (xs : List Variable) (found : Option (ℕ × ChainDecl)) (i : tree.Expression) (gs : List tree.Given) →
    QuestionFits (checked_find place o xs found i gs)
find_fits place o xs None i gs = tt
find_fits place o xs (Some found) i gs = tt

question_fits : (place : ℕ) (o : Objects) (xs : List Variable) (q : tree.Question) → All IsSized o.chains →
    QuestionFits (checked_question place o xs q)
question_fits place o xs (tree.Get at x c m key close) all =
    get_short place o xs (chain_named o.chains c.bytes) m key (named_holds IsSized 0 (λ (d : ChainDecl). d.name) c.bytes o.chains all)
question_fits place o xs (tree.Find at x c i gs) all = find_fits place o xs (chain_named o.chains c.bytes) i (asked gs)
question_fits place o xs (tree.Test l comparison r) all = tt

-- what a `new` makes has a value for each label of its chain
labels_fit : (family : Family) (place : ℕ) (o : Objects) (xs : List Variable) (found : Option (ℕ × ChainDecl)) (c : Name) (gs : List tree.Given) (close : Place) →
    Stands 0 o.chains found → Holds IsSized found → first (make_in_faults family o xs found c gs close) ≡ None →
    (length (labels_in place o xs found gs) ≤ 136) × AreFor (length (labels_in place o xs found gs)) (slice_get o.chains (number_of found))
labels_fit family place o xs None c gs close at h e = cc
labels_fit family place o xs (Some found) c gs close at h e =
    let all : length (map (value_for place o xs gs) found.1.labels) ≡ length found.1.labels = length-map found.1.labels (value_for place o xs gs) in
    let same : at.0 ≡ found.0 = omega (arith, at.1.0) in
    let here : slice_get o.chains found.0 ≡ Some found.1 = subst (λ (k : ℕ). slice_get o.chains k ≡ Some found.1) same at.1.1 in
    (omega (arith, all, h.labels), subst (AreFor (length (map (value_for place o xs gs) found.1.labels))) (sym here) all)

creation_fits : (family : Family) (place : ℕ) (room : Room) (o : Objects) (xs : List Variable) (n : tree.Creation) →
    All IsSized o.chains → first (creation_faults family room o xs n) ≡ None → CreationFits o.chains (checked_creation place o xs n)
unfolding creation_faults
creation_fits family place room o xs n all e =
    let front = fault_if (room.lookups == 0 || room.news == 0) Limit n.place in
    let making = making_faults family o xs n.chain n.given n.close in
    let none = back_none (binding_faults o xs n.variable) making (back_none front (binding_faults o xs n.variable ++ making) e) in
    labels_fit family (place + 1) o xs (chain_named o.chains n.chain.bytes) n.chain n.given n.close
    (named_stands 0 (λ (d : ChainDecl). d.name) n.chain.bytes o.chains)
    (named_holds IsSized 0 (λ (d : ChainDecl). d.name) n.chain.bytes o.chains all) none

-- each statement of a block in which nothing is wrong
fitting : (family : Family) (place : ℕ) (room : Room) (o : Objects) (xs : List Variable) (b : tree.Block) →
    All IsSized o.chains → first (block_faults family room o xs b) ≡ None → All (Fits o.chains) (statements (checked_block place o xs b))
fitting family place room o xs (tree.End end) all e =
    All-cons (Fits o.chains) (Ends (checked_ending place o xs end)) [] tt (All-nil (Fits o.chains))
fitting family place room o xs (tree.Do op next) all e =
    All-cons (Fits o.chains) (Does (checked_operation place o xs op))
    (statements (checked_block (place + operation_places op) o xs next)) tt
    (fitting family (place + operation_places op) room o xs next all (back_none (operation_faults family o xs op) (block_faults family room o xs next) e))
fitting family place room o xs (tree.Ask q hit miss next) all e =
    let at = place + question_places q in
    let inner = behind_question room q in
    let none = ask_faultless family room o xs q hit miss next e in
    let h = statements (checked_block at o (bound_by o xs q) hit) in
    let m = statements (checked_block (at + places hit) o xs miss) in
    let n = statements (checked_block (at + places hit + places miss) o xs next) in
    All-cons (Fits o.chains) (Asks (checked_question place o xs q)) (h ++ (m ++ n)) (question_fits place o xs q all)
    (All-append (Fits o.chains) h (m ++ n) (fitting family at inner o (bound_by o xs q) hit all none.hit)
    (All-append (Fits o.chains) m n (fitting family (at + places hit) (behind inner hit) o xs miss all none.miss)
    (fitting family (at + places hit + places miss) (behind (behind inner hit) miss) o xs next all none.next)))
fitting family place room o xs (tree.Make c made taken full next) all e =
    let at = place + creation_places c in
    let inner = behind_new room in
    let none = make_faultless family room o xs c made taken full next e in
    let m = statements (checked_block at o (bound o xs c.variable c.chain) made) in
    let t = statements (checked_block (at + places made) o xs taken) in
    let f = statements (checked_block (at + places made + places taken) o xs full) in
    let n = statements (checked_block (at + places made + places taken + places full) o xs next) in
    All-cons (Fits o.chains) (Makes (checked_creation place o xs c)) (m ++ (t ++ (f ++ n)))
    (creation_fits family place room o xs c all none.creation)
    (All-append (Fits o.chains) m (t ++ (f ++ n)) (fitting family at inner o (bound o xs c.variable c.chain) made all none.made)
    (All-append (Fits o.chains) t (f ++ n) (fitting family (at + places made) (behind inner made) o xs taken all none.taken)
    (All-append (Fits o.chains) f n (fitting family (at + places made + places taken) (behind (behind inner made) taken) o xs full all none.full)
    (fitting family (at + places made + places taken + places full) (behind (behind (behind inner made) taken) full) o xs next all none.next))))

-- a block in which each statement fits
abbrev BlockFits : List ChainDecl → Block → Type 0
BlockFits decls b = All (Fits decls) (statements b)

-- a handler in which nothing is wrong
handler_fits : (place ports : ℕ) (o : Objects) (before : List tree.Handler) (h : tree.Handler) →
    All IsSized o.chains → first (handler_faults ports o before h) ≡ None → BlockFits o.chains (checked_block place o [] h.block)
unfolding handler_faults
handler_fits place ports o before h all e =
    let twice = fault_if (is_handled h.port.value h.family before) Twice h.port.place in
    let limit = fault_if (nat_le ports h.port.value) Limit h.port.place in
    let inner = block_faults h.family whole_room o [] h.block in
    fitting h.family place whole_room o [] h.block all (back_none limit inner (back_none twice (limit ++ inner) e))

-- the handler of a port for a version of IP, if there is one
port_fits : (port : ℕ) (family : Family) (place ports : ℕ) (o : Objects) (before hs : List tree.Handler) →
    All IsSized o.chains → first (each_behind (handler_faults ports o) before hs) ≡ None → BlockFits o.chains (checked_at o (block_at port family place hs))
port_fits port family place ports o before [] all e = All-cons (Fits o.chains) (Ends FallsOff) [] tt (All-nil (Fits o.chains))
port_fits port family place ports o before (h ∷ hs) all e =
    let rest = each_behind (handler_faults ports o) (before ++ h ∷ []) hs in
    one_of (λ (found : Option (ℕ × tree.Block)). BlockFits o.chains (checked_at o found)) (is_at port family h) (Some (place, h.block)) (block_at port family (place + places h.block) hs)
    (handler_fits place ports o before h all (front_none (handler_faults ports o before h) rest e))
    (port_fits port family (place + places h.block) ports o (before ++ h ∷ []) hs all (back_none (handler_faults ports o before h) rest e))

-- what holds of the block of a handler, if there is one
listed_holds : (P : Block → Type 0) (o : Objects) (found : Option (ℕ × tree.Block)) → P (checked_at o found) → All P (listed (option_map (checked_found o) found))
listed_holds P o None p = All-nil P
listed_holds P o (Some found) p = All-cons P (checked_found o found) [] p (All-nil P)

-- what holds of the block for each port and version of IP holds of all blocks of these ports
pub ports_hold : (P : Block → Type 0) (o : Objects) (hs : List tree.Handler) → ((port : ℕ) (family : Family) → P (checked_at o (block_at port family 0 hs))) →
    (ports : List ℕ) → All P (flat_map port_blocks (map (port_at o hs) ports))
unfolding four_at six_at
ports_hold P o hs each [] = All-nil P
ports_hold P o hs each (port ∷ ports) =
    let rest = flat_map port_blocks (map (port_at o hs) ports) in
    All-cons P (four_at o hs port) (listed (six_at o hs port) ++ rest) (each port Four)
    (All-append P (listed (six_at o hs port)) rest (listed_holds P o (block_at port Six 0 hs) (each port Six)) (ports_hold P o hs each ports))

-- the handlers of a text, by port
pub all_fit : (count ports : ℕ) (o : Objects) (hs : List tree.Handler) →
    All IsSized o.chains → first (each_behind (handler_faults ports o) [] hs) ≡ None →
    AllFit o.chains (flat_map port_blocks (handlers_of o count hs))
all_fit count ports o hs all e =
    ports_hold (BlockFits o.chains) o hs (λ port family. port_fits port family 0 ports o [] hs all e) (range_with_len 0 count)
