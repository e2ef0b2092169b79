-- What is asked of the events of a statement, and of those that follow.
use Rattle.std.proofs.Common.{◌≡◌, ℕ, Bool, true, false, List, [], ◌∷◌, Option, Some, None, slice_get}
use Rattle.nf_base.specs.declared.width.Width.TheVariants.{W16}
use Rattle.nf_base.specs.declared.decl.ObjectId.TheVariants as object
use Rattle.nf_base.specs.Text.{Expression, Number, Read, Index, Label, Column, Cell, Both, Given, Guard}
use Rattle.nf_base.specs.Values.{narrowed}
use Rattle.nf_base.specs.Chains.{array_at}
use Rattle.nf_base.specs.Context.{Context, Var, var_at, value}
use Rattle.nf_base.specs.Events.{Event, used, frees, loads, stores, reads, reads_all, reads_guards}
use Rattle.nf_base.specs.Locations.{Location, Numbers, object_of, one_more, keys_from, entry_if, entry_made, locations_of, numbers_after}
use Rattle.nf_base.specs.Locations as location
use Rattle.shard_laws.specs.Agreement.{Scene, Goes}
use Rattle.shard_laws.proofs.Agreeing.{AllHome, AtHome, GuardsHome}

-- events: what is asked of those of a statement, and what follows
pub goes_used : (s : Scene) (z n : Numbers) (changed : Bool) (v : Var) (rest : List Event) → Goes s z n (used changed v rest) → Goes s z n rest
goes_used s z n changed None rest g = g
goes_used s z n changed (Some at) rest g = g.1

pub goes_frees : (s : Scene) (z n : Numbers) (v : Var) (rest : List Event) → Goes s z n (frees v rest) → Goes s z n rest
goes_frees s z n None rest g = g
goes_frees s z n (Some at) rest g = g.1

goes_loads : (s : Scene) (z n : Numbers) (at a i : ℕ) (o : Option ℕ) (rest : List Event) → Goes s z n (loads at a i o rest) → ((v : ℕ) → o ≡ Some v → s.homes.written (object.Array a) ≡ true → s.homes.home (location.CellAt a i) ≡ s.bucket) × Goes s z n rest
goes_loads s z n at a i None rest g = ((λ v e. cc), g)
goes_loads s z n at a i (Some w) rest g = ((λ v e. g.0.at_home.0), g.1)

pub goes_stores : (s : Scene) (z n : Numbers) (at a i v : ℕ) (o : Option ℕ) (rest : List Event) → Goes s z n (stores at a i v o rest) → ((v : ℕ) → o ≡ Some v → s.homes.written (object.Array a) ≡ true → s.homes.home (location.CellAt a i) ≡ s.bucket) × ((v : ℕ) → o ≡ Some v → s.homes.stored a i ≡ true) × Goes s z n rest
goes_stores s z n at a i v None rest g = ((λ v e. cc), (λ v e. cc), g)
goes_stores s z n at a i v (Some w) rest g = ((λ v e. g.0.at_home.0), (λ v e. g.0.told.1), g.1)

pub goes_reads : (s : Scene) (z n : Numbers) (c : Context) (e : Expression) (rest : List Event) → Goes s z n (reads s.packet c e rest) → AtHome s c e × Goes s z n rest
goes_reads s z n c (Number k) rest g = (tt, g)
goes_reads s z n c (Read field) rest g = (tt, g)
goes_reads s z n c (Index var) rest g = (tt, goes_used s z n false (var_at c.vars var) rest g)
goes_reads s z n c (Label var label) rest g = (tt, goes_used s z n false (var_at c.vars var) rest g)
goes_reads s z n c (Column var column) rest g = (tt, goes_used s z n false (var_at c.vars var) rest g)
goes_reads s z n c (Cell at a e) rest g =
    let i = narrowed W16 (value s.packet c e) in
    let o = slice_get (array_at c.state.arrays a) i in
    let r = goes_reads s z n c e (loads at a i o rest) g in
    let q = goes_loads s z n at a i o rest r.1 in
    ((r.0, q.0), q.1)
goes_reads s z n c (Both operator x y) rest g =
    let r = goes_reads s z n c x (reads s.packet c y rest) g in
    let q = goes_reads s z n c y rest r.1 in
    ((r.0, q.0), q.1)

pub goes_all : (s : Scene) (z n : Numbers) (c : Context) (gs : List Given) (rest : List Event) → Goes s z n (reads_all s.packet c gs rest) → AllHome s c gs × Goes s z n rest
goes_all s z n c [] rest g = (tt, g)
goes_all s z n c (x ∷ gs) rest g =
    let r = goes_reads s z n c x.value (reads_all s.packet c gs rest) g in
    let q = goes_all s z n c gs rest r.1 in
    ((r.0, q.0), q.1)

pub goes_guards : (s : Scene) (z n : Numbers) (c : Context) (gs : List Guard) (rest : List Event) → Goes s z n (reads_guards s.packet c gs rest) → GuardsHome s c gs × Goes s z n rest
goes_guards s z n c [] rest g = (tt, g)
goes_guards s z n c (x ∷ gs) rest g =
    let r = goes_reads s z n c x.given.value (reads_guards s.packet c gs rest) g in
    let q = goes_guards s z n c gs rest r.1 in
    ((r.0, q.0), q.1)
