-- What keeps a part's context in agreement with the undivided one.
use Rattle.std.proofs.Common.{◌≡◌, ◌≢◌, ℕ, zero, suc, max, Bool, true, false, ◌==◌, ◌&&◌, eq-eqb, ne_eqb, List, [], ◌∷◌, ◌++◌, take, map, Option, Some, None, slice_get, slice_set, if◌then◌else◌, refl, ap, ap₂, sym, ◌∙◌, subst, arith, ◌⊎◌, inl, inr}
use Rattle.std.proofs.lemmas.Option.{same_Some}
use Rattle.std.proofs.lemmas.Bool.{cases_Bool}
use Rattle.std.proofs.lemmas.List.{length-set}
use Rattle.std.specs.Option.{option_map}
use Rattle.nf_base.specs.declared.width.Width.TheVariants.{W16}
use Rattle.nf_base.specs.declared.decl.MapDecl.{MapDecl}
use Rattle.nf_base.specs.declared.decl.ObjectId.TheVariants as object
use Rattle.nf_base.specs.declared.state.Entry.{Entry}
use Rattle.nf_base.specs.declared.state.Chain.{Chain}
use Rattle.nf_base.specs.Text.{Expression, Number, Read, Index, Label, Column, Cell, Both, Given, Guard}
use Rattle.nf_base.specs.Values.{narrowed, result_of}
use Rattle.nf_base.specs.Chains.{no_chain, chain_at, array_at, maps_of, key_in, joined, entry_at, stamped, on_live, touched, freed, with_column, written}
use Rattle.nf_base.specs.Context.{Context, EntryRef, Var, var_at, entry_in, or_zero, index_of, label_of, column_of, value, given, is_given, has_labels}
use Rattle.nf_base.specs.Operations.{on_var, unless_at, without}
use Rattle.nf_base.specs.Locations.{Location, Numbers}
use Rattle.nf_base.specs.Locations as location
use Rattle.nf_base.proofs.Mixes.{got_set, set_own, set_other, get_own, get_other}
use Rattle.shard_laws.specs.Homes.{queue_home, owned, unseen, cell_owned, Holds}
use Rattle.shard_laws.specs.Agreement.{Scene, SlotsAgree, StampsAgree, ChainAgrees, CellsAgree, ChainsAgree, ArraysAgree, VarsAgree, Agree}
use Rattle.shard_laws.proofs.ByNumber.{agree_put, set_none}

abbrev pub HoldsIn : Scene → Numbers → ℕ → ℕ → Entry → Type 0
HoldsIn s n k i e = Holds s.homes s.packet.decls s.packet.time n k i e

-- an index of one's own is set
pub slots_set : (s : Scene) (n later : Numbers) (k : ℕ) (now shard : List (Option Entry)) (i : ℕ) (x : Option Entry) → SlotsAgree s n k now shard → s.homes.owner k i ≡ s.queue → ((j : ℕ) (e : Entry) → j ≢ i → HoldsIn s n k j e → HoldsIn s later k j e) → ((e : Entry) → x ≡ Some e → HoldsIn s later k i e) → SlotsAgree s later k (slice_set now i x) (slice_set shard i x)
slots_set s n later k now shard i x a o others here = record {
  here = ap (λ zs. slice_set zs i x) a.here ∙ sym (set_own (owned s.homes.owner s.queue k) unseen now i x (eq-eqb _ _ o));
  beside = λ v ne. set_other (owned s.homes.owner v k) unseen now i x (ne_eqb _ _ (λ q. ne (sym q ∙ o))) ∙ a.beside v ne;
  each = λ j e at. elim (got_set now i j x (Some e) at) [
    | inl q ↦ subst (λ (l : ℕ). HoldsIn s later k l e) (sym q.0) (here e q.1)
    | inr q ↦ others j e q.0 (a.each j e q.1)
  ];
}

pub slots_put : (s : Scene) (n : Numbers) (k : ℕ) (now shard : List (Option Entry)) (i : ℕ) (x : Option Entry) → SlotsAgree s n k now shard → s.homes.owner k i ≡ s.queue → ((e : Entry) → x ≡ Some e → HoldsIn s n k i e) → SlotsAgree s n k (slice_set now i x) (slice_set shard i x)
slots_put s n k now shard i x a o here = slots_set s n n k now shard i x a o (λ j e ne h. h) here

-- what stands at an index of one's own
pub same_at : (s : Scene) (n : Numbers) (k : ℕ) (now shard : List (Option Entry)) (i : ℕ) → SlotsAgree s n k now shard → s.homes.owner k i ≡ s.queue → slice_get shard i ≡ slice_get now i
same_at s n k now shard i a o = ap (λ zs. slice_get zs i) a.here ∙ get_own (owned s.homes.owner s.queue k) unseen now i (eq-eqb _ _ o)

none_at_other : (o : Option (Option Entry)) (i : ℕ) → joined (option_map (λ (x : Option Entry). unseen i) o) ≡ None
none_at_other None i = refl
none_at_other (Some x) i = refl

-- at an index of another queue nothing stands
pub none_there : (s : Scene) (n : Numbers) (k : ℕ) (now shard : List (Option Entry)) (i : ℕ) → SlotsAgree s n k now shard → s.homes.owner k i ≢ s.queue → entry_at shard i ≡ None
none_there s n k now shard i a o =
    ap (λ zs. entry_at zs i) a.here ∙ ap (λ (z : Option (Option Entry)). joined z) (get_other (owned s.homes.owner s.queue k) unseen now i (ne_eqb _ _ o)) ∙ none_at_other (slice_get now i) i

entry_is : (o : Option (Option Entry)) (e : Entry) → joined o ≡ Some e → o ≡ Some (Some e)
entry_is None e h = cc
entry_is (Some x) e h = ap Some h

pub entry_at_is : (slots : List (Option Entry)) (i : ℕ) (e : Entry) → entry_at slots i ≡ Some e → slice_get slots i ≡ Some (Some e)
entry_at_is slots i e h = entry_is (slice_get slots i) e h

-- stamps are the packet's time
pub top_now : (s : Scene) (k now shard : ℕ) → StampsAgree s k now shard → max s.packet.time now ≡ s.packet.time
top_now s k now shard a = omega (arith, a.low)

pub top_part : (s : Scene) (k now shard : ℕ) → StampsAgree s k now shard → max s.packet.time shard ≡ s.packet.time
top_part s k now shard a = omega (arith, a.low_part)

pub top_raise : (s : Scene) (k now shard : ℕ) → StampsAgree s k now shard → StampsAgree s k (max s.packet.time now) (max s.packet.time shard)
top_raise s k now shard a =
    let e : max s.packet.time now ≡ s.packet.time = top_now s k now shard a in
    let f : max s.packet.time shard ≡ s.packet.time = top_part s k now shard a in
    record { low = omega arith; low_part = omega arith; top = inr (e, f) }

-- an entry put at an index of one's own
pub chain_stamp : (s : Scene) (n later : Numbers) (k : ℕ) (a b : Chain) (i : ℕ) (e : Entry) → ChainAgrees s n k a b → s.homes.owner k i ≡ s.queue
    → ((j : ℕ) (f : Entry) → j ≢ i → HoldsIn s n k j f → HoldsIn s later k j f)
    → ((m : ℕ) (decl : MapDecl) → slice_get (maps_of s.packet.decls k) m ≡ Some decl → s.homes.home (location.KeyOf k m (key_in decl e.labels)) ≡ s.homes.home (location.EntryNo k (later.entry_no k i)))
    → s.homes.at (s.homes.home (location.EntryNo k (later.entry_no k i))) ≡ s.homes.owner k i → s.homes.kept k i (later.entry_no k i) ≡ true → s.homes.written (object.Chain k) ≡ true → ChainAgrees s later k (stamped s.packet.time i e a) (stamped s.packet.time i e b)
chain_stamp s n later k a b i e g o others names life kept made =
    let u : max s.packet.time a.greatest ≡ s.packet.time = top_now s k _ _ g.stamps in
    let v : max s.packet.time b.greatest ≡ s.packet.time = top_part s k _ _ g.stamps in
    let x : Option Entry = Some (record e { stamp = max s.packet.time a.greatest }) in
    record {
      slots = subst (λ (t : ℕ). SlotsAgree s later k (slice_set a.slots i x) (slice_set b.slots i (Some (record e { stamp = t })))) (u ∙ sym v)
          (slots_set s n later k a.slots b.slots i x g.slots o others (λ f q. subst (λ (y : Entry). HoldsIn s later k i y) (same_Some _ _ q) (record { made = made; within = omega arith; keys = names; number = life; kept = kept })));
      stamps = top_raise s k _ _ g.stamps;
    }

live_same : (s : Scene) (n : Numbers) (k : ℕ) (a b : Chain) (op : Entry → Chain → Chain) (o : Option Entry) → ChainAgrees s n k a b → ((e : Entry) → o ≡ Some e → ChainAgrees s n k (op e a) (op e b)) → ChainAgrees s n k (on_live op o a) (on_live op o b)
live_same s n k a b op None g f = g
live_same s n k a b op (Some e) g f = f e refl

-- an operation on a live entry at an index of one's own
pub chain_live : (s : Scene) (n : Numbers) (k : ℕ) (a b : Chain) (i : ℕ) (op : Entry → Chain → Chain) → ChainAgrees s n k a b → s.homes.owner k i ≡ s.queue → ((e : Entry) → HoldsIn s n k i e → ChainAgrees s n k (op e a) (op e b)) → ChainAgrees s n k (on_live op (entry_at a.slots i) a) (on_live op (entry_at b.slots i) b)
chain_live s n k a b i op g o f =
    let e : entry_at b.slots i ≡ entry_at a.slots i = ap (λ (z : Option (Option Entry)). joined z) (same_at s n k a.slots b.slots i g.slots o) in
    subst (λ (z : Option Entry). ChainAgrees s n k (on_live op (entry_at a.slots i) a) (on_live op z b)) (sym e)
    (live_same s n k a b op (entry_at a.slots i) g (λ x q. f x (g.slots.each i x (entry_at_is a.slots i x q))))

pub chain_touch : (s : Scene) (n : Numbers) (k : ℕ) (a b : Chain) (i : ℕ) → ChainAgrees s n k a b → s.homes.owner k i ≡ s.queue → ChainAgrees s n k (touched s.packet.time i a) (touched s.packet.time i b)
chain_touch s n k a b i g o = chain_live s n k a b i (stamped s.packet.time i) g o (λ e h. chain_stamp s n n k a b i e g o (λ j f ne q. q) h.keys h.number h.kept h.made)

pub chain_free : (s : Scene) (n : Numbers) (k : ℕ) (a b : Chain) (i : ℕ) → ChainAgrees s n k a b → s.homes.owner k i ≡ s.queue → ChainAgrees s n k (freed i a) (freed i b)
chain_free s n k a b i g o = record { slots = slots_put s n k a.slots b.slots i None g.slots o (λ f q. cc); stamps = g.stamps }

pub chain_write : (s : Scene) (n : Numbers) (column v k : ℕ) (a b : Chain) (i : ℕ) → ChainAgrees s n k a b → s.homes.owner k i ≡ s.queue → ChainAgrees s n k (written column v i a) (written column v i b)
chain_write s n column v k a b i g o = chain_live s n k a b i (with_column column v i) g o (λ e h. record {
  slots = slots_put s n k a.slots b.slots i (Some (record e { columns = slice_set e.columns column v })) g.slots o (λ f q. subst (λ (y : Entry). HoldsIn s n k i y) (same_Some _ _ q) (record { made = h.made; within = h.within; keys = h.keys; number = h.number; kept = h.kept }));
  stamps = g.stamps;
})

-- an operation at what a variable stands for
pub on_var_same : (s : Scene) (n : Numbers) (now shard : List Chain) (op : ℕ → Chain → Chain) (v : Var) → ChainsAgree s n now shard → ((at : EntryRef) → v ≡ Some at → s.homes.owner at.chain at.index ≡ s.queue)
    → ((k : ℕ) (a b : Chain) (i : ℕ) → ChainAgrees s n k a b → s.homes.owner k i ≡ s.queue → ChainAgrees s n k (op i a) (op i b)) → ChainsAgree s n (on_var op v now) (on_var op v shard)
on_var_same s n now shard op None g own f = g
on_var_same s n now shard op (Some at) g own f =
    let k = at.chain in
    record {
      long = length-set now k _ ∙ g.long;
      long_part = length-set shard k _ ∙ g.long_part;
      each = agree_put (no_chain) (ChainAgrees s n) now shard k _ _ (g.long_part ∙ sym g.long) g.each (f k (chain_at now k) (chain_at shard k) at.index (g.each k) (own at refl));
    }

-- variables
var_is : (o : Option Var) (at : EntryRef) → joined o ≡ Some at → o ≡ Some (Some at)
var_is None at h = cc
var_is (Some v) at h = ap Some h

pub var_owned : (s : Scene) (vars shard : List Var) (var : ℕ) (at : EntryRef) → VarsAgree s vars shard → var_at vars var ≡ Some at → s.homes.owner at.chain at.index ≡ s.queue
var_owned s vars shard var at a h = a.bound var at (var_is (slice_get vars var) at h)

pub var_same : (s : Scene) (vars shard : List Var) (var : ℕ) → VarsAgree s vars shard → var_at shard var ≡ var_at vars var
var_same s vars shard var a = ap (λ vs. var_at vs var) a.same

got_bound : (vs : List Var) (var k : ℕ) (v x : Var) → slice_get (take var vs ++ v ∷ []) k ≡ Some x → (x ≡ v) ⊎ (slice_get vs k ≡ Some x)
got_bound vs zero zero v x e = inl (sym (same_Some _ _ e))
got_bound vs zero (suc k) v x e = cc
got_bound [] (suc var) zero v x e = inl (sym (same_Some _ _ e))
got_bound [] (suc var) (suc k) v x e = cc
got_bound (y ∷ vs) (suc var) zero v x e = inr e
got_bound (y ∷ vs) (suc var) (suc k) v x e = got_bound vs var k v x e

pub vars_bind : (s : Scene) (vars shard : List Var) (var chain i : ℕ) → VarsAgree s vars shard → s.homes.owner chain i ≡ s.queue → VarsAgree s (take var vars ++ Some (record { chain = chain; index = i }) ∷ []) (take var shard ++ Some (record { chain = chain; index = i }) ∷ [])
vars_bind s vars shard var chain i a o = record {
  same = ap (λ vs. take var vs ++ Some (record { chain = chain; index = i }) ∷ []) a.same;
  bound = λ k at e. elim (got_bound vars var k (Some (record { chain = chain; index = i })) (Some at) e) [
    | inl q ↦ let w : at ≡ record { chain = chain; index = i } = same_Some _ _ q in subst (λ (z : EntryRef). s.homes.owner z.chain z.index ≡ s.queue) (sym w) o
    | inr q ↦ a.bound k at q
  ];
}

if_kept : (b : Bool) (at to : EntryRef) → (if b then None else Some at) ≡ Some to → at ≡ to
if_kept true at to e = cc
if_kept false at to e = same_Some _ _ e

got_without : (vs : List Var) (gone : EntryRef) (k : ℕ) (at : EntryRef) → slice_get (map (unless_at gone) vs) k ≡ Some (Some at) → slice_get vs k ≡ Some (Some at)
got_without [] gone k at e = cc
got_without (None ∷ vs) gone zero at e = cc
got_without (Some to ∷ vs) gone zero at e = ap (λ (z : EntryRef). Some (Some z)) (if_kept (to.chain == gone.chain && to.index == gone.index) to at (same_Some _ _ e))
got_without (v ∷ vs) gone (suc k) at e = got_without vs gone k at e

pub vars_free : (s : Scene) (vars shard : List Var) (v : Var) → VarsAgree s vars shard → VarsAgree s (without v vars) (without v shard)
vars_free s vars shard None a = a
vars_free s vars shard (Some gone) a = record { same = ap (map (unless_at gone)) a.same; bound = λ k at e. a.bound k at (got_without vars gone k at e) }

-- cells
pub some_or_none : {A : Type 0} (o : Option A) → (o ≡ None) ⊎ ((x : A) × (o ≡ Some x))
some_or_none None = inl refl
some_or_none (Some x) = inr (x, refl)

-- the cell of an array is at home here, if there is one
abbrev pub CellHere : Scene → ℕ → ℕ → List ℕ → Type 0
CellHere s a i now = (v : ℕ) → slice_get now i ≡ Some v → s.homes.written (object.Array a) ≡ true → s.homes.home (location.CellAt a i) ≡ s.bucket

past_part : (s : Scene) (a : ℕ) (now shard : List ℕ) (i : ℕ) → CellsAgree s a now shard → slice_get now i ≡ None → slice_get shard i ≡ None
past_part s a now shard i g e = elim (cases_Bool (cell_owned (queue_home s.homes) s.queue a i)) [
  | inl own ↦ ap (λ zs. slice_get zs i) g.here ∙ get_own (cell_owned (queue_home s.homes) s.queue a) (s.opened a) now i own ∙ e
  | inr other ↦ ap (λ zs. slice_get zs i) g.here ∙ get_other (cell_owned (queue_home s.homes) s.queue a) (s.opened a) now i other ∙ ap (option_map (λ x. s.opened a i)) e
]

pub cells_read : (s : Scene) (a : ℕ) (now shard : List ℕ) (i : ℕ) → CellsAgree s a now shard → CellHere s a i now → slice_get shard i ≡ slice_get now i
cells_read s a now shard i g o = elim (some_or_none (slice_get now i)) [
  | inl past ↦ past_part s a now shard i g past ∙ sym past
  | inr within ↦ elim (cases_Bool (s.homes.written (object.Array a))) [
    | inl wr ↦ ap (λ zs. slice_get zs i) g.here ∙ get_own (cell_owned (queue_home s.homes) s.queue a) (s.opened a) now i (eq-eqb _ _ (ap s.homes.at (o within.0 within.1 wr) ∙ s.is))
    | inr wr ↦ elim (cases_Bool (cell_owned (queue_home s.homes) s.queue a i)) [
      | inl own ↦ ap (λ zs. slice_get zs i) g.here ∙ get_own (cell_owned (queue_home s.homes) s.queue a) (s.opened a) now i own
      | inr other ↦ ap (λ zs. slice_get zs i) g.here ∙ get_other (cell_owned (queue_home s.homes) s.queue a) (s.opened a) now i other ∙ ap (option_map (λ (x : ℕ). s.opened a i)) within.1 ∙ ap Some (g.idle wr i within.0 within.1) ∙ sym within.1
    ]
  ]
]

-- the cell may be given a value, if there is one
abbrev pub CellStored : Scene → ℕ → ℕ → List ℕ → Type 0
CellStored s a i now = (v : ℕ) → slice_get now i ≡ Some v → s.homes.stored a i ≡ true

pub cells_write : (s : Scene) (a : ℕ) (now shard : List ℕ) (i v : ℕ) → CellsAgree s a now shard → s.homes.written (object.Array a) ≡ true → CellHere s a i now → CellStored s a i now → CellsAgree s a (slice_set now i v) (slice_set shard i v)
cells_write s a now shard i v g wr o may = elim (some_or_none (slice_get now i)) [
  | inl past ↦
      subst (λ (zs : List ℕ). CellsAgree s a zs (slice_set shard i v)) (sym (set_none now i v past)) (subst (λ (zs : List ℕ). CellsAgree s a now zs) (sym (set_none shard i v (past_part s a now shard i g past))) g)
  | inr within ↦
      let home : queue_home s.homes (location.CellAt a i) ≡ s.queue = ap s.homes.at (o within.0 within.1 wr) ∙ s.is in
      let given : s.homes.stored a i ≡ true = may within.0 within.1 in
      record {
        here = ap (λ zs. slice_set zs i v) g.here ∙ sym (set_own (cell_owned (queue_home s.homes) s.queue a) (s.opened a) now i v (eq-eqb _ _ home));
        beside = λ w ne. set_other (cell_owned (queue_home s.homes) w a) (s.opened a) now i v (ne_eqb _ _ (λ q. ne (sym q ∙ home))) ∙ g.beside w ne;
        idle = λ no_write. cc;
        stays = λ j x none at. elim (got_set now i j v x at) [
          | inl q ↦ let none_here : s.homes.stored a i ≡ false = ap (s.homes.stored a) (sym q.0) ∙ none in cc
          | inr q ↦ g.stays j x none q.1
        ];
      }
]

pub arrays_write : (s : Scene) (now shard : List (List ℕ)) (a i v : ℕ) → ArraysAgree s now shard → s.homes.written (object.Array a) ≡ true → CellHere s a i (array_at now a) → CellStored s a i (array_at now a) → ArraysAgree s (slice_set now a (slice_set (array_at now a) i v)) (slice_set shard a (slice_set (array_at shard a) i v))
arrays_write s now shard a i v g wr o may = record {
  long = length-set now a _ ∙ g.long;
  long_part = length-set shard a _ ∙ g.long_part;
  each = agree_put [] (CellsAgree s) now shard a _ _ (g.long_part ∙ sym g.long) g.each (cells_write s a (array_at now a) (array_at shard a) i v (g.each a) wr o may);
}

-- values are the same, where the cells that are read are at home here
abbrev pub AtHome : Scene → Context → Expression → Type 0
AtHome s c (Cell place array at) = AtHome s c at × CellHere s array (narrowed W16 (value s.packet c at)) (array_at c.state.arrays array)
AtHome s c (Both operator left right) = AtHome s c left × AtHome s c right
AtHome s c e = Unit {0}

abbrev pub AllHome : Scene → Context → List Given → Type 0
AllHome s c [] = Unit {0}
AllHome s c (g ∷ gs) = AtHome s c g.value × AllHome s c gs

abbrev pub GuardsHome : Scene → Context → List Guard → Type 0
GuardsHome s c [] = Unit {0}
GuardsHome s c (g ∷ gs) = AtHome s c g.given.value × GuardsHome s c gs

entry_same : (s : Scene) (n : Numbers) (now shard : List Chain) (v : Var) → ChainsAgree s n now shard → ((at : EntryRef) → v ≡ Some at → s.homes.owner at.chain at.index ≡ s.queue) → entry_in shard v ≡ entry_in now v
entry_same s n now shard None g own = refl
entry_same s n now shard (Some at) g own = ap (λ (z : Option (Option Entry)). joined z) (same_at s n at.chain _ _ at.index (g.each at.chain).slots (own at refl))

pub entry_of_var : (s : Scene) (n : Numbers) (c d : Context) (var : ℕ) → Agree s n c d → entry_in d.state.chains (var_at d.vars var) ≡ entry_in c.state.chains (var_at c.vars var)
entry_of_var s n c d var a = ap (entry_in d.state.chains) (var_same s c.vars d.vars var a.vars) ∙ entry_same s n _ _ (var_at c.vars var) a.chains (λ at h. var_owned s c.vars d.vars var at a.vars h)

pub value_same : (s : Scene) (n : Numbers) (c d : Context) → Agree s n c d → (e : Expression) → AtHome s c e → value s.packet d e ≡ value s.packet c e
value_same s n c d a (Number k) h = refl
value_same s n c d a (Read field) h = refl
value_same s n c d a (Index var) h = ap index_of (var_same s c.vars d.vars var a.vars)
value_same s n c d a (Label var label) h = ap (label_of label) (entry_of_var s n c d var a)
value_same s n c d a (Column var column) h = ap (column_of column) (entry_of_var s n c d var a)
value_same s n c d a (Cell place array at) h =
    ap (λ (i : ℕ). or_zero (slice_get (array_at d.state.arrays array) (narrowed W16 i))) (value_same s n c d a at h.0)
    ∙ ap or_zero (cells_read s array _ _ (narrowed W16 (value s.packet c at)) (a.arrays.each array) h.1)
value_same s n c d a (Both operator x y) h = ap₂ (result_of operator) (value_same s n c d a x h.0) (value_same s n c d a y h.1)

pub given_same : (s : Scene) (n : Numbers) (c d : Context) → Agree s n c d → (g : Given) → AtHome s c g.value → given s.packet d g ≡ given s.packet c g
given_same s n c d a g h = ap (narrowed g.width) (value_same s n c d a g.value h)

pub givens_same : (s : Scene) (n : Numbers) (c d : Context) → Agree s n c d → (gs : List Given) → AllHome s c gs → map (given s.packet d) gs ≡ map (given s.packet c) gs
givens_same s n c d a [] h = refl
givens_same s n c d a (g ∷ gs) h = ap₂ (λ (u : ℕ) (v : List ℕ). u ∷ v) (given_same s n c d a g h.0) (givens_same s n c d a gs h.1)

pub labels_same : (s : Scene) (n : Numbers) (c d : Context) → Agree s n c d → (gs : List Guard) → GuardsHome s c gs → (e : Entry) → has_labels s.packet d gs e ≡ has_labels s.packet c gs e
labels_same s n c d a [] h e = refl
labels_same s n c d a (g ∷ gs) h e = ap₂ (λ (u : ℕ) (v : Bool). is_given u (slice_get e.labels g.label) && v) (given_same s n c d a g.given h.0) (labels_same s n c d a gs h.1 e)
