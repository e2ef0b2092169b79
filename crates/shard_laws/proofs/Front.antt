-- The locations of a share's record are a front of the undivided record's.
use Rattle.std.proofs.Common.{◌≡◌, ℕ, Bool, true, false, not, ◌==◌, List, [], ◌∷◌, ◌++◌, map, Option, Some, None, slice_get, if◌then◌else◌, refl, sym, subst, ◌⊎◌, inl, inr}
use Rattle.nf_base.specs.declared.width.Width.TheVariants.{W16}
use Rattle.nf_base.specs.Text.{Expression, Number, Read, Index, Label, Column, Cell, Both, Given, Guard, FallsOff, Flood, Forward, Discard, Operation, Touch, Free, Set, Write, Store, Question, Get, Find, Test, Block, End, Do, Ask, Make}
use Rattle.nf_base.specs.Values.{narrowed, compares}
use Rattle.nf_base.specs.Chains.{chain_at, array_at, maps_of, is_taken, is_full}
use Rattle.nf_base.specs.Context.{Context, Input, Var, var_at, entry_in, value, given}
use Rattle.nf_base.specs.Operations.{Stops, never, key_found, index_found, answer, NewResult, Made, Taken, Full, Illegal, Stopped, chosen, new_result, with_new, after}
use Rattle.nf_base.specs.Events.{Event, Tested, LookedUp, Found, AskedNew, EntryUsed, EntryFreed, CellRead, CellWritten, used, frees, loads, stores, reads, reads_all, reads_guards, restamps_at, rewrites, did, asked}
use Rattle.nf_base.specs.Course.{if_hit, if_new, events}
use Rattle.nf_base.specs.Locations.{Location, KeyOf, Numbers, keys_from, entry_made, locations_of, numbers_after, locations}
use Rattle.shard_laws.specs.Homes.{Homes, AllAt, AllTold}
use Rattle.shard_laws.proofs.Making.{all_split}

all_join : (h : Homes) (w : ℕ) (xs ys : List Location) → AllAt h w xs → AllAt h w ys → AllAt h w (xs ++ ys)
all_join h w [] ys a b = b
all_join h w (x ∷ xs) ys a b = (a.0, all_join h w xs ys a.1 b)

-- whose locations are asked to be where
pub record Ground : Type 0 where
  pub homes : Homes
  pub queue : ℕ
  pub packet : Input

abbrev pub At : Ground → Numbers → List Event → Type 0
At g n es = AllAt g.homes g.queue (locations g.packet.decls n es) × AllTold g.homes n es

front_event : (g : Ground) (n : Numbers) (e : Event) (xs ys : List Event) → At g n (e ∷ xs) → (At g (numbers_after n e) xs → At g (numbers_after n e) ys) → At g n (e ∷ ys)
front_event g n e xs ys a f =
    let r = all_split g.homes g.queue (locations_of g.packet.decls n e) (locations g.packet.decls (numbers_after n e) xs) a.0 in
    let t = f (r.1, a.1.1) in
    (all_join g.homes g.queue (locations_of g.packet.decls n e) (locations g.packet.decls (numbers_after n e) ys) r.0 t.0, (a.1.0, t.1))

front_used : (g : Ground) (n : Numbers) (changed : Bool) (v : Var) (xs ys : List Event) → At g n (used changed v xs) → (At g n xs → At g n ys) → At g n (used changed v ys)
front_used g n changed None xs ys a f = f a
front_used g n changed (Some at) xs ys a f = front_event g n (EntryUsed at.chain at.index changed) xs ys a f

front_frees : (g : Ground) (n : Numbers) (v : Var) (xs ys : List Event) → At g n (frees v xs) → (At g n xs → At g n ys) → At g n (frees v ys)
front_frees g n None xs ys a f = f a
front_frees g n (Some at) xs ys a f = front_event g n (EntryFreed at.chain at.index) xs ys a f

front_loads : (g : Ground) (n : Numbers) (at k i : ℕ) (o : Option ℕ) (xs ys : List Event) → At g n (loads at k i o xs) → (At g n xs → At g n ys) → At g n (loads at k i o ys)
front_loads g n at k i None xs ys a f = f a
front_loads g n at k i (Some v) xs ys a f = front_event g n (CellRead at k i) xs ys a f

front_stores : (g : Ground) (n : Numbers) (at k i v : ℕ) (o : Option ℕ) (xs ys : List Event) → At g n (stores at k i v o xs) → (At g n xs → At g n ys) → At g n (stores at k i v o ys)
front_stores g n at k i v None xs ys a f = f a
front_stores g n at k i v (Some w) xs ys a f = front_event g n (CellWritten at k i (not (w == v))) xs ys a f

front_reads : (g : Ground) (n : Numbers) (c : Context) (e : Expression) (xs ys : List Event) → At g n (reads g.packet c e xs) → (At g n xs → At g n ys) → At g n (reads g.packet c e ys)
front_reads g n c (Number k) xs ys a f = f a
front_reads g n c (Read field) xs ys a f = f a
front_reads g n c (Index var) xs ys a f = front_used g n false (var_at c.vars var) xs ys a f
front_reads g n c (Label var label) xs ys a f = front_used g n false (var_at c.vars var) xs ys a f
front_reads g n c (Column var column) xs ys a f = front_used g n false (var_at c.vars var) xs ys a f
front_reads g n c (Cell at k e) xs ys a f =
    let i = narrowed W16 (value g.packet c e) in
    let o = slice_get (array_at c.state.arrays k) i in
    front_reads g n c e (loads at k i o xs) (loads at k i o ys) a (λ b. front_loads g n at k i o xs ys b f)
front_reads g n c (Both operator x y) xs ys a f = front_reads g n c x (reads g.packet c y xs) (reads g.packet c y ys) a (λ b. front_reads g n c y xs ys b f)

front_all : (g : Ground) (n : Numbers) (c : Context) (gs : List Given) (xs ys : List Event) → At g n (reads_all g.packet c gs xs) → (At g n xs → At g n ys) → At g n (reads_all g.packet c gs ys)
front_all g n c [] xs ys a f = f a
front_all g n c (x ∷ gs) xs ys a f = front_reads g n c x.value (reads_all g.packet c gs xs) (reads_all g.packet c gs ys) a (λ b. front_all g n c gs xs ys b f)

front_guards : (g : Ground) (n : Numbers) (c : Context) (gs : List Guard) (xs ys : List Event) → At g n (reads_guards g.packet c gs xs) → (At g n xs → At g n ys) → At g n (reads_guards g.packet c gs ys)
front_guards g n c [] xs ys a f = f a
front_guards g n c (x ∷ gs) xs ys a f = front_reads g n c x.given.value (reads_guards g.packet c gs xs) (reads_guards g.packet c gs ys) a (λ b. front_guards g n c gs xs ys b f)

front_did : (g : Ground) (n : Numbers) (c : Context) (op : Operation) (xs ys : List Event) → At g n (did g.packet c op xs) → (At g n xs → At g n ys) → At g n (did g.packet c op ys)
front_did g n c (Touch var) xs ys a f = front_used g n (restamps_at g.packet.time c.state.chains (var_at c.vars var)) (var_at c.vars var) xs ys a f
front_did g n c (Free var) xs ys a f = front_frees g n (var_at c.vars var) xs ys a f
front_did g n c (Set field x) xs ys a f = front_reads g n c x.value xs ys a f
front_did g n c (Write var column x) xs ys a f = front_reads g n c x.value _ _ a (λ b. front_used g n (rewrites column (given g.packet c x) (entry_in c.state.chains (var_at c.vars var))) (var_at c.vars var) xs ys b f)
front_did g n c (Store at k e x) xs ys a f = front_reads g n c e _ _ a (λ b. front_reads g n c x.value _ _ b (λ d. front_stores g n at k (narrowed W16 (value g.packet c e)) (given g.packet c x) (slice_get (array_at c.state.arrays k) (narrowed W16 (value g.packet c e))) xs ys d f))

front_asked : (g : Ground) (n : Numbers) (c : Context) (q : Question) (xs ys : List Event) → At g n (asked g.packet c q xs) → (At g n xs → At g n ys) → At g n (asked g.packet c q ys)
front_asked g n c (Get at chain m key var) xs ys a f = front_all g n c key _ _ a (λ b. front_event g n (LookedUp at chain m (map (given g.packet c) key) (key_found g.packet c chain m (map (given g.packet c) key))) xs ys b f)
front_asked g n c (Find at chain e guards var) xs ys a f = front_reads g n c e _ _ a (λ b. front_guards g n c guards _ _ b (λ d. front_event g n (Found at chain (index_found g.packet c chain (value g.packet c e) guards)) xs ys d f))
front_asked g n c (Test at comparison x y) xs ys a f = front_reads g n c x _ _ a (λ b. front_reads g n c y _ _ b (λ d. front_event g n (Tested at (compares comparison (value g.packet c x) (value g.packet c y))) xs ys d f))

front_hit : (g : Ground) (n : Numbers) (o : Option Context) (h k : Context → List Event) (x y : List Event) → At g n (if_hit o h x) → ((d : Context) → At g n (h d) → At g n (k d)) → (At g n x → At g n y) → At g n (if_hit o k y)
front_hit g n (Some d) h k x y a f m = f d a
front_hit g n None h k x y a f m = m a

tests : (a b c : Bool) (to : NewResult) → ((if a then Taken else if b then Stopped else if c then Full else to) ≡ (if a then Taken else if c then Full else to)) ⊎ ((if a then Taken else if b then Stopped else if c then Full else to) ≡ Stopped)
tests true b c to = inl refl
tests false true c to = inr refl
tests false false c to = inl refl

same_new : (g : Ground) (n : Numbers) (at chain : ℕ) (labels : List ℕ) (to : NewResult) (h k : ℕ → List Event) (x y u v : List Event) → At g n (AskedNew at chain labels to ∷ if_new to h x u [] [])
    → ((i : ℕ) (m : Numbers) → At g m (h i) → At g m (k i)) → ((m : Numbers) → At g m x → At g m y) → ((m : Numbers) → At g m u → At g m v) → At g n (AskedNew at chain labels to ∷ if_new to k y v [] [])
same_new g n at chain labels (Made i) h k x y u v a f t w = front_event g n (AskedNew at chain labels (Made i)) (h i) (k i) a (f i _)
same_new g n at chain labels Taken h k x y u v a f t w = front_event g n (AskedNew at chain labels Taken) x y a (t n)
same_new g n at chain labels Full h k x y u v a f t w = front_event g n (AskedNew at chain labels Full) u v a (w n)
same_new g n at chain labels Illegal h k x y u v a f t w = a
same_new g n at chain labels Stopped h k x y u v a f t w = a

front_new : (g : Ground) (n : Numbers) (at chain : ℕ) (labels : List ℕ) (to from : NewResult) (h k : ℕ → List Event) (x y u v : List Event) → (from ≡ to) ⊎ (from ≡ Stopped) → At g n (AskedNew at chain labels to ∷ if_new to h x u [] [])
    → ((i : ℕ) (m : Numbers) → At g m (h i) → At g m (k i)) → ((m : Numbers) → At g m x → At g m y) → ((m : Numbers) → At g m u → At g m v) → At g n (AskedNew at chain labels from ∷ if_new from k y v [] [])
front_new g n at chain labels to from h k x y u v (inl e) a f t w = subst (λ (z : NewResult). At g n (AskedNew at chain labels z ∷ if_new z k y v [] [])) (sym e) (same_new g n at chain labels to h k x y u v a f t w)
front_new g n at chain labels to from h k x y u v (inr e) a f t w =
    let names = keys_from (KeyOf chain) (maps_of g.packet.decls chain) labels in
    let r = all_split g.homes g.queue (locations_of g.packet.decls n (AskedNew at chain labels to)) (locations g.packet.decls (numbers_after n (AskedNew at chain labels to)) (if_new to h x u [] [])) a.0 in
    let q = all_split g.homes g.queue (entry_made n chain to) names r.0 in
    subst (λ (z : NewResult). At g n (AskedNew at chain labels z ∷ if_new z k y v [] [])) (sym e) (all_join g.homes g.queue names [] q.1 tt, ((tt, tt), tt))

pub front : (g : Ground) (stops : Stops) (b : Block) (c : Context) (k l : Context → List Event) → ((d : Context) (n : Numbers) → At g n (k d) → At g n (l d)) → (n : Numbers) → At g n (events never g.packet b c k) → At g n (events stops g.packet b c l)
front g stops (End FallsOff) c k l f n a = f c n a
front g stops (End Flood) c k l f n a = a
front g stops (End Discard) c k l f n a = a
front g stops (End (Forward port)) c k l f n a = a
front g stops (Do op next) c k l f n a = front_did g n c op _ _ a (λ b. front g stops next (after g.packet c op) k l f n b)
front g stops (Ask q hit miss next) c k l f n a =
    let p = g.packet in
    let go = λ (d : Context). events never p next d k in
    let on = λ (d : Context). events stops p next d l in
    let follows : (d : Context) (m : Numbers) → At g m (go d) → At g m (on d) = λ d m b. front g stops next d k l f m b in
    front_asked g n c q _ _ a (λ b. front_hit g n (answer p c q) (λ d. events never p hit d go) (λ d. events stops p hit d on) (events never p miss c go) (events stops p miss c on) b
    (λ d e. front g stops hit d go on follows n e) (λ e. front g stops miss c go on follows n e))
front g stops (Make new made taken full next) c k l f n a =
    let p = g.packet in
    let go = λ (d : Context). events never p next d k in
    let on = λ (d : Context). events stops p next d l in
    let follows : (d : Context) (m : Numbers) → At g m (go d) → At g m (on d) = λ d m b. front g stops next d k l f m b in
    let chain = chain_at c.state.chains new.chain in
    front_all g n c new.labels _ _ a (λ b. front_new g n new.place new.chain (map (given p c) new.labels) (new_result never p c new) (new_result stops p c new)
    (λ i. events never p made (with_new p c new i) go) (λ i. events stops p made (with_new p c new i) on) (events never p taken c go) (events stops p taken c on) (events never p full c go) (events stops p full c on)
    (tests (is_taken (maps_of p.decls new.chain) (map (given p c) new.labels) chain.slots) (stops new.chain chain) (is_full chain.slots) (chosen chain.slots c.left)) b
    (λ i m e. front g stops made (with_new p c new i) go on follows m e) (λ m e. front g stops taken c go on follows m e) (λ m e. front g stops full c go on follows m e))
