-- The sites of a statement are of its port, at the statement's places, in their order.
use Rattle.std.proofs.Common.{◌≡◌, ℕ, suc, List, [], ◌∷◌, ◌++◌, Contains, refl, sym, subst, inl, inr}
use Rattle.std.proofs.lemmas.List.Elements.{Contains-append_left, Contains-append_right, Contains-append_cases}
use Rattle.nf_base.specs.declared.packet.Door.{Door}
use Rattle.nf_base.specs.declared.decl.MapDecl.{MapDecl}
use Rattle.nf_base.specs.declared.decl.ChainDecl.{ChainDecl}
use Rattle.nf_base.specs.Text.{Expression, Number, Read, Index, Label, Column, Cell, Both, Given, Guard, FallsOff, Flood, Discard, Forward, Touch, Free, Set, Write, Store, Get, Find, Test, Creation}
use Rattle.nf_base.specs.Chains.{maps_of}
use Rattle.nf_base.specs.Statements.{Statement, Ends, Does, Asks, Makes}
use Rattle.nf_base.specs.TextPlaces.{expression_places, given_places, guard_places, places_in}
use Rattle.nf_sites.specs.declared.sort.Sort.TheVariants as sort
use Rattle.nf_sites.specs.Sites.{Site, cell_site, expression_sites, given_sites, guard_sites, get_site, find_site, new_site, name_sites, name_site, statement_sites}
use Rattle.nf_sites.specs.ReadOrder.{by_first_read}
use Rattle.nf_laws.proofs.Listed.{here, there, has, has_none}
use Rattle.nf_sites.proofs.Sorting.{sorted_from}

pub record IsOf (of : Door) (places : List ℕ) (x : Site) : Type 0 where
  pub door : x.door ≡ of
  pub place : Contains places x.place

-- of one at the first place, or behind it
first_of : (door : Door) (place : ℕ) (places : List ℕ) (s : Site) (xs : List Site) (x : Site) → s.door ≡ door → s.place ≡ place → (Contains xs x → IsOf door places x) → Contains (s ∷ xs) x → IsOf door (place ∷ places) x
first_of door place places s xs x p e rest h = elim (has s xs x h) [
  | inl q ↦ subst (λ (y : Site). IsOf door (place ∷ places) y) q (record { door = p; place = subst (λ n. Contains (place ∷ places) n) (sym e) (here place places) })
  | inr i ↦ record { door = (rest i).door; place = there place places x.place (rest i).place }
]

pub either_of : (door : Door) (us vs : List ℕ) (xs ys : List Site) (x : Site) → (Contains xs x → IsOf door us x) → (Contains ys x → IsOf door vs x) → Contains (xs ++ ys) x → IsOf door (us ++ vs) x
either_of door us vs xs ys x f g h = elim (Contains-append_cases xs ys x h) [
  | inl i ↦ record { door = (f i).door; place = Contains-append_left us vs x.place (f i).place }
  | inr i ↦ record { door = (g i).door; place = Contains-append_right us vs x.place (g i).place }
]

pub of_expression : (door : Door) (e : Expression) (x : Site) → Contains (expression_sites door e) x → IsOf door (expression_places e) x
of_expression door (Number n) x h = absurd (has_none x h)
of_expression door (Read field) x h = absurd (has_none x h)
of_expression door (Index var) x h = absurd (has_none x h)
of_expression door (Label var label) x h = absurd (has_none x h)
of_expression door (Column var column) x h = absurd (has_none x h)
of_expression door (Cell place array at) x h = first_of door place (expression_places at) (cell_site door sort.Load place array at) (expression_sites door at) x refl refl (of_expression door at x) h
of_expression door (Both operator l r) x h = either_of door (expression_places l) (expression_places r) (expression_sites door l) (expression_sites door r) x (of_expression door l x) (of_expression door r x) h

pub of_givens : (door : Door) (gs : List Given) (x : Site) → Contains (given_sites door gs) x → IsOf door (given_places gs) x
of_givens door [] x h = absurd (has_none x h)
of_givens door (g ∷ gs) x h = either_of door (expression_places g.value) (given_places gs) (expression_sites door g.value) (given_sites door gs) x (of_expression door g.value x) (of_givens door gs x) h

-- in whatever order the values stand
pub of_sorted : (door : Door) (gs : List Given) (x : Site) → Contains (given_sites door (by_first_read gs)) x → IsOf door (given_places gs) x
of_sorted door gs x h = of_givens door gs x (sorted_from (λ (g : Given). expression_sites door g.value) gs x h)

pub of_guards : (door : Door) (gs : List Guard) (x : Site) → Contains (guard_sites door gs) x → IsOf door (guard_places gs) x
of_guards door [] x h = absurd (has_none x h)
of_guards door (g ∷ gs) x h = either_of door (expression_places g.given.value) (guard_places gs) (expression_sites door g.given.value) (guard_sites door gs) x (of_expression door g.given.value x) (of_guards door gs x) h

-- a site of a `new` itself
pub record IsAt (of : Door) (at : ℕ) (x : Site) : Type 0 where
  pub door : x.door ≡ of
  pub place : x.place ≡ at

pub of_names : (door : Door) (n : Creation) (m : ℕ) (decls : List MapDecl) (x : Site) → Contains (name_sites door n m decls) x → IsAt door n.place x
of_names door n m [] x h = absurd (has_none x h)
of_names door n m (decl ∷ decls) x h = elim (has (name_site door n m decl) (name_sites door n (suc m) decls) x h) [
  | inl q ↦ subst (λ (y : Site). IsAt door n.place y) q (record { door = refl; place = refl })
  | inr i ↦ of_names door n (suc m) decls x i
]

at_place : (door : Door) (place : ℕ) (places : List ℕ) (x : Site) → IsAt door place x → IsOf door (place ∷ places) x
at_place door place places x h = record { door = h.door; place = subst (λ n. Contains (place ∷ places) n) (sym h.place) (here place places) }

pub of_statement : (decls : List ChainDecl) (door : Door) (s : Statement) (x : Site) → Contains (statement_sites decls door s) x → IsOf door (places_in s) x
of_statement decls door (Ends FallsOff) x h = absurd (has_none x h)
of_statement decls door (Ends Flood) x h = absurd (has_none x h)
of_statement decls door (Ends Discard) x h = absurd (has_none x h)
of_statement decls door (Ends (Forward to)) x h = of_expression door to x h
of_statement decls door (Does (Touch var)) x h = absurd (has_none x h)
of_statement decls door (Does (Free var)) x h = absurd (has_none x h)
of_statement decls door (Does (Set field g)) x h = of_expression door g.value x h
of_statement decls door (Does (Write var column g)) x h = of_expression door g.value x h
of_statement decls door (Does (Store place array at g)) x h =
    first_of door place (expression_places at ++ expression_places g.value) (cell_site door sort.Store place array at) (expression_sites door at ++ expression_sites door g.value) x refl refl
    (either_of door (expression_places at) (expression_places g.value) (expression_sites door at) (expression_sites door g.value) x (of_expression door at x) (of_expression door g.value x)) h
of_statement decls door (Asks (Get place chain m key var)) x h = first_of door place (given_places key) (get_site decls door place chain m key) (given_sites door key) x refl refl (of_givens door key x) h
of_statement decls door (Asks (Find place chain at guards var)) x h =
    first_of door place (expression_places at ++ guard_places guards) (find_site door place chain guards) (expression_sites door at ++ guard_sites door guards) x refl refl
    (either_of door (expression_places at) (guard_places guards) (expression_sites door at) (guard_sites door guards) x (of_expression door at x) (of_guards door guards x)) h
of_statement decls door (Asks (Test place comparison l r)) x h =
    let w = either_of door (expression_places l) (expression_places r) (expression_sites door l) (expression_sites door r) x (of_expression door l x) (of_expression door r x) h in
    record { door = w.door; place = there place (expression_places l ++ expression_places r) x.place w.place }
of_statement decls door (Makes n) x h =
    let names = name_sites door n 0 (maps_of decls n.chain) in
    let reads = given_sites door (by_first_read n.labels) in
    elim (has (new_site door n) (names ++ reads) x h) [
      | inl q ↦ at_place door n.place (given_places n.labels) x (subst (λ (y : Site). IsAt door n.place y) q (record { door = refl; place = refl }))
      | inr i ↦ elim (Contains-append_cases names reads x i) [
        | inl j ↦ at_place door n.place (given_places n.labels) x (of_names door n 0 (maps_of decls n.chain) x j)
        | inr j ↦ let w = of_sorted door n.labels x j in record { door = w.door; place = there n.place (given_places n.labels) x.place w.place }
      ]
    ]
