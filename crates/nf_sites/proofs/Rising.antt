-- The sites of statements stand as their places do.
use Rattle.std.proofs.Common.{◌≡◌, ◌<◌, ◌≤◌, ℕ, suc, List, [], ◌∷◌, ◌++◌, AllPairs, Contains, Option, Some, None, slice_get, refl, sym, subst, arith, inl, inr}
use Rattle.std.specs.List.{flat_map}
use Rattle.std.proofs.lemmas.List.Kept.{AllPairs-from_increasing}
use Rattle.std.specs.List.Sorted.{IsStrictlyIncreasing}
use Rattle.std.proofs.lemmas.List.Elements.{Contains-append_cases, All-contains}
use Rattle.nf_base.specs.Doors.{handler_at}
use Rattle.nf_base.specs.declared.packet.Door.{Door}
use Rattle.nf_base.specs.declared.decl.MapDecl.{MapDecl}
use Rattle.nf_base.specs.declared.decl.ChainDecl.{ChainDecl}
use Rattle.nf_base.specs.Text.{Expression, Number, Read, Index, Label, Column, Cell, Both, Given, Guard, FallsOff, Flood, Discard, Forward, Touch, Free, Set, Write, Store, Get, Find, Test, Creation, Block, Function}
use Rattle.nf_base.specs.Chains.{maps_of}
use Rattle.nf_base.specs.Statements.{Statement, Ends, Does, Asks, Makes, statements}
use Rattle.nf_base.specs.TextPlaces.{expression_places, given_places, guard_places, places_in}
use Rattle.nf_sites.specs.declared.sort.Sort.TheVariants as sort
use Rattle.nf_sites.specs.Sites.{Site, cell_site, expression_sites, given_sites, guard_sites, get_site, find_site, name_sites, statement_sites}
use Rattle.nf_sites.specs.OnPaths.{sites_along, text_sites, is_reached, handler_sites}
use Rattle.nf_sites.specs.ReadOrder.{by_first_read}
use Rattle.nf_sites.specs.TextOrder.{StandBefore, StandApart, NewRises, StatementRises}
use Rattle.nf_sites.specs.Laws.{SitesAreOfTheirPort, SitesStandInTextOrder}
use Rattle.nf_laws.proofs.Listed.{here, there, has_none, was}
use Rattle.nf_sites.proofs.Pairs.{Pairs, from_all, to_all, left, right, across, joined, filtered}
use Rattle.nf_sites.proofs.Sorting.{Follow, sorted_of, sorted_follow, follow_before, before_all}
use Rattle.nf_sites.proofs.Placed.{IsOf, either_of, of_expression, of_givens, of_sorted, of_guards, of_names, of_statement}

abbrev Below : ℕ → ℕ → Type 0
Below a b = a < b

abbrev Behind : Site → Site → Type 0
Behind x y = x.place ≤ y.place

abbrev Rising : List ℕ → Type 0
Rising ns = Pairs Below ns

abbrev InOrder : List Site → Type 0
InOrder xs = Pairs Behind xs

both : (door : Door) (us vs : List ℕ) (xs ys : List Site) → Rising (us ++ vs) → ((x : Site) → Contains xs x → IsOf door us x) → ((y : Site) → Contains ys y → IsOf door vs y) → (Rising us → InOrder xs) → (Rising vs → InOrder ys) → InOrder (xs ++ ys)
both door us vs xs ys h of_xs of_ys f g =
    joined Behind xs ys (f (left Below us vs h)) (g (right Below us vs h))
    (λ x y i j. let lt = across Below us vs x.place y.place h (of_xs x i).place (of_ys y j).place in omega (arith, lt))

first : (door : Door) (place : ℕ) (us : List ℕ) (s : Site) (xs : List Site) → s.place ≡ place → Rising (place ∷ us) → ((x : Site) → Contains xs x → IsOf door us x) → (Rising us → InOrder xs) → InOrder (s ∷ xs)
first door place us s xs e h of_xs f = (λ y i. let lt = h.0 y.place (of_xs y i).place in let q = e in omega (arith, lt, q), f h.1)

of_reads : (door : Door) (e : Expression) → Rising (expression_places e) → InOrder (expression_sites door e)
of_reads door (Number n) h = tt
of_reads door (Read field) h = tt
of_reads door (Index var) h = tt
of_reads door (Label var label) h = tt
of_reads door (Column var column) h = tt
of_reads door (Cell place array at) h = first door place (expression_places at) (cell_site door sort.Load place array at) (expression_sites door at) refl h (of_expression door at) (of_reads door at)
of_reads door (Both operator l r) h = both door (expression_places l) (expression_places r) (expression_sites door l) (expression_sites door r) h (of_expression door l) (of_expression door r) (of_reads door l) (of_reads door r)

of_values : (door : Door) (gs : List Given) → Rising (given_places gs) → InOrder (given_sites door gs)
of_values door [] h = tt
of_values door (g ∷ gs) h = both door (expression_places g.value) (given_places gs) (expression_sites door g.value) (given_sites door gs) h (of_expression door g.value) (of_givens door gs) (of_reads door g.value) (of_values door gs)

of_asked : (door : Door) (gs : List Guard) → Rising (guard_places gs) → InOrder (guard_sites door gs)
of_asked door [] h = tt
of_asked door (g ∷ gs) h = both door (expression_places g.given.value) (guard_places gs) (expression_sites door g.given.value) (guard_sites door gs) h (of_expression door g.given.value) (of_guards door gs) (of_reads door g.given.value) (of_asked door gs)

names_in_order : (door : Door) (n : Creation) (m : ℕ) (decls : List MapDecl) → InOrder (name_sites door n m decls)
names_in_order door n m [] = tt
names_in_order door n m (decl ∷ decls) = (λ y i. let e = (of_names door n (suc m) decls y i).place in omega (arith, e), names_in_order door n (suc m) decls)

each_in_order : (door : Door) (gs : List Given) → ((g : Given) → Contains gs g → Rising (expression_places g.value)) → Pairs Follow gs → InOrder (given_sites door gs)
each_in_order door [] r p = tt
each_in_order door (g ∷ gs) r p =
    let lower = before_all (λ (h : Given). expression_places h.value) (expression_places g.value) gs (λ h i. follow_before g h (p.0 h i)) in
    joined Behind (expression_sites door g.value) (given_sites door gs) (of_reads door g.value (r g (here g gs))) (each_in_order door gs (λ h i. r h (there g gs h i)) p.1)
    (λ x y i j. let lt = lower x.place y.place (of_expression door g.value x i).place (of_givens door gs y j).place in omega (arith, lt))

rises : (ns : List ℕ) → IsStrictlyIncreasing ns → Rising ns
rises ns h = from_all Below ns (AllPairs-from_increasing ns h)

of_new : (decls : List ChainDecl) (door : Door) (n : Creation) → NewRises n → InOrder (statement_sites decls door (Makes n))
of_new decls door n h =
    let names = name_sites door n 0 (maps_of decls n.chain) in
    let reads = given_sites door (by_first_read n.labels) in
    let later : (y : Site) → Contains reads y → n.place < y.place = λ y j. h.first n.place y.place (here n.place []) (of_sorted door n.labels y j).place in (
      λ y i. elim (Contains-append_cases names reads y i) [
        | inl j ↦ let e = (of_names door n 0 (maps_of decls n.chain) y j).place in omega (arith, e)
        | inr j ↦ let lt = later y j in omega (arith, lt)
      ],
      joined Behind names reads (names_in_order door n 0 (maps_of decls n.chain))
          (each_in_order door (by_first_read n.labels)
          (λ g i. rises (expression_places g.value) (All-contains (λ (x : Given). IsStrictlyIncreasing (expression_places x.value)) n.labels g h.each (sorted_of n.labels g i)))
          (sorted_follow n.labels (from_all StandApart n.labels h.apart)))
          (λ x y i j. let e = (of_names door n 0 (maps_of decls n.chain) x i).place in let lt = later y j in omega (arith, e, lt)),
    )

in_statement : (decls : List ChainDecl) (door : Door) (s : Statement) → StatementRises s → InOrder (statement_sites decls door s)
in_statement decls door (Ends FallsOff) h = tt
in_statement decls door (Ends Flood) h = tt
in_statement decls door (Ends Discard) h = tt
in_statement decls door (Ends (Forward to)) h = of_reads door to (rises (expression_places to) h)
in_statement decls door (Does (Touch var)) h = tt
in_statement decls door (Does (Free var)) h = tt
in_statement decls door (Does (Set field g)) h = of_reads door g.value (rises (expression_places g.value) h)
in_statement decls door (Does (Write var column g)) h = of_reads door g.value (rises (expression_places g.value) h)
in_statement decls door (Does (Store place array at g)) h =
    first door place (expression_places at ++ expression_places g.value) (cell_site door sort.Store place array at) (expression_sites door at ++ expression_sites door g.value) refl (rises (place ∷ (expression_places at ++ expression_places g.value)) h)
    (λ x. either_of door (expression_places at) (expression_places g.value) (expression_sites door at) (expression_sites door g.value) x (of_expression door at x) (of_expression door g.value x))
    (λ r. both door (expression_places at) (expression_places g.value) (expression_sites door at) (expression_sites door g.value) r (of_expression door at) (of_expression door g.value) (of_reads door at) (of_reads door g.value))
in_statement decls door (Asks (Get place chain m key var)) h = first door place (given_places key) (get_site decls door place chain m key) (given_sites door key) refl (rises (place ∷ given_places key) h) (of_givens door key) (of_values door key)
in_statement decls door (Asks (Find place chain at guards var)) h =
    first door place (expression_places at ++ guard_places guards) (find_site door place chain guards) (expression_sites door at ++ guard_sites door guards) refl (rises (place ∷ (expression_places at ++ guard_places guards)) h)
    (λ x. either_of door (expression_places at) (guard_places guards) (expression_sites door at) (guard_sites door guards) x (of_expression door at x) (of_guards door guards x))
    (λ r. both door (expression_places at) (guard_places guards) (expression_sites door at) (guard_sites door guards) r (of_expression door at) (of_guards door guards) (of_reads door at) (of_asked door guards))
in_statement decls door (Asks (Test place comparison l r)) h =
    both door (expression_places l) (expression_places r) (expression_sites door l) (expression_sites door r) (rises (place ∷ (expression_places l ++ expression_places r)) h).1 (of_expression door l) (of_expression door r) (of_reads door l) (of_reads door r)
in_statement decls door (Makes n) h = of_new decls door n h

pub along : (decls : List ChainDecl) (door : Door) (ss : List Statement) (x : Site) → Contains (sites_along decls door ss) x → IsOf door (flat_map places_in ss) x
along decls door [] x h = absurd (has_none x h)
along decls door (s ∷ ss) x h = either_of door (places_in s) (flat_map places_in ss) (statement_sites decls door s) (sites_along decls door ss) x (of_statement decls door s x) (along decls door ss x) h

-- the places of one statement stand before those of another
abbrev Lower : Statement → Statement → Type 0
Lower s t = StandBefore (places_in s) (places_in t)

all_in_order : (decls : List ChainDecl) (door : Door) (ss : List Statement) → ((s : Statement) → Contains ss s → StatementRises s) → Pairs Lower ss → InOrder (sites_along decls door ss)
all_in_order decls door [] r p = tt
all_in_order decls door (s ∷ ss) r p =
    let lower = before_all places_in (places_in s) ss p.0 in
    joined Behind (statement_sites decls door s) (sites_along decls door ss) (in_statement decls door s (r s (here s ss))) (all_in_order decls door ss (λ t i. r t (there s ss t i)) p.1)
    (λ x y i j. let lt = lower x.place y.place (of_statement decls door s x i).place (along decls door ss y j).place in omega (arith, lt))

pub in_text_order : SitesStandInTextOrder
in_text_order f door block e h =
    let ss = statements block in
    let all = all_in_order f.chains door ss (λ s i. All-contains StatementRises ss s h.each i) (from_all Lower ss h.between) in
    subst (λ (o : Option Block). AllPairs Behind (handler_sites f door o)) (sym e)
    (to_all Behind (handler_sites f door (Some block)) (filtered Behind (λ (x : Site). is_reached f door x.place) (text_sites f.chains door block) all))

at_handler : (f : Function) (door : Door) (o : Option Block) (x : Site) → Contains (handler_sites f door o) x → x.door ≡ door
at_handler f door None x h = absurd (has_none x h)
at_handler f door (Some block) x h = (along f.chains door (statements block) x (was (λ (x : Site). is_reached f door x.place) (text_sites f.chains door block) x h)).door

pub of_their_port : SitesAreOfTheirPort
of_their_port f door x h = at_handler f door (handler_at f door) x h
