-- The tables of all chains, as a state over a share.
use Rattle.std.proofs.Common.{◌≡◌, ◌∙◌, ap, sym, refl, subst, arith, ℕ, zero, suc, ◌≤◌, Bool, true, false, List, [], ◌∷◌, length, map, get_or}
use Rattle.std.specs.Prelude.{Some, None, slice_get, slice_set, All}
use Rattle.std.specs.Option.{option_map}
use Rattle.std.specs.Bool.{OnTrue}
use Rattle.std.proofs.lemmas.Bool.{and_right}
use Rattle.std.proofs.lemmas.List.{map-set, set-get_or, set_past}
use Rattle.std.proofs.lemmas.List.Elements.{All-map, All-set}
use Rattle.std.proofs.lemmas.Option.{none-some, same_Some, slice_get-map, get_or_from_slice_get, slice_get_within}
use Rattle.nf_base.specs.declared.decl.ChainDecl.{ChainDecl}
use Rattle.nf_base.specs.declared.decl.MapDecl.{MapDecl}
use Rattle.nf_base.specs.declared.share.Share.{Share}
use Rattle.nf_base.specs.declared.state.Chain.{Chain}
use Rattle.nf_base.specs.Chains.{chain_at, expired, lifetime_of, no_chain, maps_of, zeros_of, fresh, stamped}
use Rattle.nf_base.specs.Limits.{AreFor}
use Rattle.nf_base.specs.Shares.{owns}
use Rattle.nf_base.specs.Step.{opening_chain}
use Rattle.vig_tables.specs.declared.created.Created.{Created}
use Rattle.vig_tables.specs.declared.created.Created.TheVariants.{Made, Taken, Full}
use Rattle.vig_tables.specs.Table.{Table, CauseOf, FindsFull, if_made, can_make_at, entered, opened, without_past, zeros}
use Rattle.vig_tables.specs.TablesState.{state_of, decls_of, chains_of, changed, slots_at, HasParts, StandsAt, IsOfShare}

-- what is read of an item that stands in a list
pub some_read :
    {A B : Type 0} (f : A → B) (xs : List A) (k : ℕ) (x : A) (d : B) → slice_get xs k ≡ Some x
    → get_or (map f xs) k d ≡ f x
some_read f [] k x d at = absurd (none-some x at)
some_read f (y ∷ xs) zero x d at = ap f (same_Some y x at)
some_read f (y ∷ xs) (suc k) x d at = some_read f xs k x d at

-- and of none
none_read :
    {A B : Type 0} (f : A → B) (xs : List A) (k : ℕ) (d : B) → slice_get xs k ≡ None
    → get_or (map f xs) k d ≡ d
none_read f [] k d at = refl
none_read f (y ∷ xs) zero d at = absurd (none-some y (sym at))
none_read f (y ∷ xs) (suc k) d at = none_read f xs k d at

none_past : {A : Type 0} (xs : List A) (k : ℕ) → slice_get xs k ≡ None → length xs ≤ k
none_past [] k at = omega arith
none_past (x ∷ xs) zero at = absurd (none-some x (sym at))
none_past (x ∷ xs) (suc k) at = omega (arith, none_past xs k at)

decl_some :
    (tables : List Table) (k : ℕ) (t : Table) → slice_get tables k ≡ Some t
    → slice_get (decls_of tables) k ≡ Some t.decl
decl_some tables k t at =
    slice_get-map (λ (x : Table). x.decl) tables k
    ∙ ap (option_map (λ (x : Table). x.decl)) at

decl_none :
    (tables : List Table) (k : ℕ) → slice_get tables k ≡ None → slice_get (decls_of tables) k ≡ None
decl_none tables k at =
    slice_get-map (λ (x : Table). x.decl) tables k
    ∙ ap (option_map (λ (x : Table). x.decl)) at

own_share :
    (tables : List Table) (share : Share) (k : ℕ) (t : Table) → All (IsOfShare share) tables
    → slice_get tables k ≡ Some t → t.share ≡ share
own_share tables share k t all at = subst (λ (x : Table). IsOfShare share x) (get_or_from_slice_get tables k t t at) (all k t (slice_get_within tables k t at))

-- the tables of a chain that stand in the list
pub stands_at :
    (tables : List Table) (arrays : List (List ℕ)) (share : Share) (k : ℕ) (t : Table)
    → All (IsOfShare share) tables → slice_get tables k ≡ Some t
    → StandsAt (state_of tables arrays share) k t
stands_at tables arrays share k t all at = record {
  parts = record {
    chain_is = some_read (λ (x : Table). x.chain) tables k t no_chain at;
    maps_are = some_read (λ (d : ChainDecl). d.maps) (decls_of tables) k t.decl [] (decl_some tables k t at);
    zeros_are = some_read (λ (d : ChainDecl). zeros d.columns) (decls_of tables) k t.decl [] (decl_some tables k t at);
    lifetime_is = some_read (λ (d : ChainDecl). d.lifetime) (decls_of tables) k t.decl 0 (decl_some tables k t at);
    label_count_is = some_read (λ (d : ChainDecl). length d.labels) (decls_of tables) k t.decl 0 (decl_some tables k t at);
  };
  decl_is = decl_some tables k t at;
  share_is = sym (own_share tables share k t all at);
}

-- past the end there are none
pub stands_none :
    (tables : List Table) (arrays : List (List ℕ)) (share : Share) (k : ℕ)
    → slice_get tables k ≡ None → HasParts (state_of tables arrays share) k no_chain [] [] 0 0
stands_none tables arrays share k at = record {
  chain_is = none_read (λ (x : Table). x.chain) tables k no_chain at;
  maps_are = none_read (λ (d : ChainDecl). d.maps) (decls_of tables) k [] (decl_none tables k at);
  zeros_are = none_read (λ (d : ChainDecl). zeros d.columns) (decls_of tables) k [] (decl_none tables k at);
  lifetime_is = none_read (λ (d : ChainDecl). d.lifetime) (decls_of tables) k 0 (decl_none tables k at);
  label_count_is = none_read (λ (d : ChainDecl). length d.labels) (decls_of tables) k 0 (decl_none tables k at);
}

-- labels for a chain are labels for its tables
pub fitting :
    (tables : List Table) (k n : ℕ) (t : Table) → slice_get tables k ≡ Some t
    → AreFor n (slice_get (decls_of tables) k) → n ≡ length t.decl.labels
fitting tables k n t at fits = subst (AreFor n) (decl_some tables k t at) fits

-- the tables of one chain changed, whose declaration stays
pub changed_is :
    (tables : List Table) (arrays : List (List ℕ)) (share : Share) (k : ℕ) (t t' : Table)
    (change : Chain → Chain) → slice_get tables k ≡ Some t → t'.chain ≡ change t.chain
    → t'.decl ≡ t.decl
    → state_of (slice_set tables k t') arrays share ≡ changed k change (state_of tables arrays share)
changed_is tables arrays share k t t' change at is same =
    let decls : decls_of (slice_set tables k t') ≡ decls_of tables =
    map-set (λ (x : Table). x.decl) tables k t'
    ∙ ap (slice_set (decls_of tables) k) (same ∙ sym (get_or_from_slice_get (decls_of tables) k t.decl t.decl (decl_some tables k t at)))
    ∙ set-get_or (decls_of tables) k t.decl in
    let chains : chains_of (slice_set tables k t') ≡ slice_set (chains_of tables) k (change (chain_at (chains_of tables) k)) =
    map-set (λ (x : Table). x.chain) tables k t'
    ∙ ap (slice_set (chains_of tables) k) (is ∙ ap change (sym (some_read (λ (x : Table). x.chain) tables k t no_chain at))) in
    rw (decls, chains) refl

-- where there is none nothing changes
pub not_changed :
    (tables : List Table) (arrays : List (List ℕ)) (share : Share) (k : ℕ) (change : Chain → Chain)
    → slice_get tables k ≡ None
    → state_of tables arrays share ≡ changed k change (state_of tables arrays share)
not_changed tables arrays share k change none =
    let past : length (chains_of tables) ≤ k = none_past (chains_of tables) k (slice_get-map (λ (x : Table). x.chain) tables k ∙ ap (option_map (λ (x : Table). x.chain)) none) in
    rw (set_past (chains_of tables) k (change (chain_at (chains_of tables) k)) past) refl

pub same_tables :
    (tables : List Table) (k : ℕ) (t t' : Table) → slice_get tables k ≡ Some t → t' ≡ t
    → slice_set tables k t' ≡ tables
same_tables tables k t t' at same =
    ap (slice_set tables k) (same ∙ sym (get_or_from_slice_get tables k t t at))
    ∙ set-get_or tables k t

-- each chain's tables are of the share after one is changed
pub shares_kept :
    (tables : List Table) (share : Share) (k : ℕ) (t t' : Table) → All (IsOfShare share) tables
    → slice_get tables k ≡ Some t → t'.share ≡ t.share
    → All (IsOfShare share) (slice_set tables k t')
shares_kept tables share k t t' all at same = All-set (IsOfShare share) tables k t' (same ∙ own_share tables share k t all at) all

-- why an entry was made in one chain, or none
pub cause_in :
    (tables : List Table) (arrays : List (List ℕ)) (share : Share) (k : ℕ) (t : Table)
    (labels : List ℕ) (result : Created) → All (IsOfShare share) tables
    → slice_get tables k ≡ Some t → CauseOf result t.decl.maps labels t.share t.chain.slots
    → CauseOf result (maps_of (decls_of tables) k) labels share (slots_at (state_of tables arrays share) k)
cause_in tables arrays share k t labels result all at cause =
    let s = stands_at tables arrays share k t all at in
    subst (λ (maps : List MapDecl). CauseOf result maps labels share (slots_at (state_of tables arrays share) k)) (sym s.parts.maps_are)
    (subst (λ (chain : Chain). CauseOf result t.decl.maps labels share chain.slots) (sym s.parts.chain_is)
    (subst (λ (owner : Share). CauseOf result t.decl.maps labels owner t.chain.slots) (sym s.share_is) cause))

-- an entry made in one chain
pub created_in :
    (tables : List Table) (arrays : List (List ℕ)) (share : Share) (k time : ℕ) (t t' : Table)
    (labels : List ℕ) (result : Created) → All (IsOfShare share) tables
    → slice_get tables k ≡ Some t → t' ≡ if_made result (λ i. entered time i labels t) t
    → state_of (slice_set tables k t') arrays share ≡ if_made result (λ i. changed k (stamped time i (fresh labels (zeros_of (decls_of tables) k))) (state_of tables arrays share)) (state_of tables arrays share)
created_in tables arrays share k time t t' labels Taken all at made = ap (λ (ts : List Table). state_of ts arrays share) (same_tables tables k t t' at made)
created_in tables arrays share k time t t' labels Full all at made = ap (λ (ts : List Table). state_of ts arrays share) (same_tables tables k t t' at made)
created_in tables arrays share k time t t' labels (Made i) all at made =
    let s = stands_at tables arrays share k t all at in
    let chain : t'.chain ≡ stamped time i (fresh labels (zeros_of (decls_of tables) k)) t.chain = ap (λ (x : Table). x.chain) made ∙ ap (λ (zs : List ℕ). stamped time i (fresh labels zs) t.chain) (sym s.parts.zeros_are) in
    changed_is tables arrays share k t t' (stamped time i (fresh labels (zeros_of (decls_of tables) k))) at chain (ap (λ (x : Table). x.decl) made)

-- what making an entry leaves of a chain's tables
pub created_same :
    (time : ℕ) (labels : List ℕ) (t t' : Table) (result : Created)
    → t' ≡ if_made result (λ i. entered time i labels t) t → t'.share ≡ t.share
created_same time labels t t' Taken made = ap (λ (x : Table). x.share) made
created_same time labels t t' Full made = ap (λ (x : Table). x.share) made
created_same time labels t t' (Made i) made = ap (λ (x : Table). x.share) made

-- whether an entry can be made at an index of one chain
pub can_make_in :
    (tables : List Table) (arrays : List (List ℕ)) (share : Share) (k i : ℕ) (t : Table)
    (labels : List ℕ) → All (IsOfShare share) tables → slice_get tables k ≡ Some t
    → can_make_at t.decl.maps labels t.share t.chain.slots i ≡ can_make_at (maps_of (decls_of tables) k) labels share (slots_at (state_of tables arrays share) k) i
can_make_in tables arrays share k i t labels all at =
    let s = stands_at tables arrays share k t all at in
    ap (λ (owner : Share). can_make_at t.decl.maps labels owner t.chain.slots i) (sym s.share_is)
    ∙ ap (λ (chain : Chain). can_make_at t.decl.maps labels share chain.slots i) (sym s.parts.chain_is)
    ∙ ap (λ (maps : List MapDecl). can_make_at maps labels share (slots_at (state_of tables arrays share) k) i) (sym s.parts.maps_are)

-- an entry made at an index of one chain, where one was
pub entered_in :
    (b : Bool) (tables : List Table) (arrays : List (List ℕ)) (share : Share) (k time i : ℕ)
    (t t' : Table) (labels : List ℕ) → All (IsOfShare share) tables → slice_get tables k ≡ Some t
    → OnTrue b (t' ≡ entered time i labels t)
    → OnTrue b (state_of (slice_set tables k t') arrays share ≡ changed k (stamped time i (fresh labels (zeros_of (decls_of tables) k))) (state_of tables arrays share))
entered_in true tables arrays share k time i t t' labels all at is = created_in tables arrays share k time t t' labels (Made i) all at is
entered_in false tables arrays share k time i t t' labels all at is = is

-- past the last chain no index is vacant, and no key taken
pub full_past :
    (tables : List Table) (arrays : List (List ℕ)) (share : Share) (k : ℕ) (labels : List ℕ)
    → slice_get tables k ≡ None
    → FindsFull (maps_of (decls_of tables) k) labels share (slots_at (state_of tables arrays share) k)
full_past tables arrays share k labels none =
    let parts = stands_none tables arrays share k none in
    subst (λ (maps : List MapDecl). FindsFull maps labels share (slots_at (state_of tables arrays share) k)) (sym parts.maps_are)
    (subst (λ (chain : Chain). FindsFull [] labels share chain.slots) (sym parts.chain_is) (record { untaken = refl; full = refl }))

pub cannot_past :
    (tables : List Table) (arrays : List (List ℕ)) (share : Share) (k i : ℕ) (labels : List ℕ)
    → slice_get tables k ≡ None
    → false ≡ can_make_at (maps_of (decls_of tables) k) labels share (slots_at (state_of tables arrays share) k) i
cannot_past tables arrays share k i labels none =
    let parts = stands_none tables arrays share k none in
    sym (and_right (owns share i) false refl)
    ∙ ap (λ (chain : Chain). can_make_at [] labels share chain.slots i) (sym parts.chain_is)
    ∙ ap (λ (maps : List MapDecl). can_make_at maps labels share (slots_at (state_of tables arrays share) k) i) (sym parts.maps_are)

-- each chain without what is past its lifetime
pub expired_is :
    (time : ℕ) (tables : List Table)
    → chains_of (map (without_past time) tables) ≡ expired time (lifetime_of (decls_of tables)) (chains_of tables)
expired_is time [] = refl
expired_is time (t ∷ tables) = ap (λ (rest : List Chain). (without_past time t).chain ∷ rest) (expired_is time tables)

pub decls_stay :
    (time : ℕ) (tables : List Table) → decls_of (map (without_past time) tables) ≡ decls_of tables
decls_stay time [] = refl
decls_stay time (t ∷ tables) = ap (λ (rest : List ChainDecl). t.decl ∷ rest) (decls_stay time tables)

pub shares_stay :
    (time : ℕ) (share : Share) (tables : List Table) → All (IsOfShare share) tables
    → All (IsOfShare share) (map (without_past time) tables)
shares_stay time share tables all = All-map (IsOfShare share) (without_past time) tables all

-- tables before anything is done with them
pub opened_decls :
    (share : Share) (decls : List ChainDecl)
    → decls_of (map (λ (decl : ChainDecl). opened decl share) decls) ≡ decls
opened_decls share [] = refl
opened_decls share (d ∷ decls) = ap (λ (rest : List ChainDecl). d ∷ rest) (opened_decls share decls)

pub opened_chains :
    (share : Share) (decls : List ChainDecl)
    → chains_of (map (λ (decl : ChainDecl). opened decl share) decls) ≡ map opening_chain decls
opened_chains share [] = refl
opened_chains share (d ∷ decls) = ap (λ (rest : List Chain). opening_chain d ∷ rest) (opened_chains share decls)

pub opened_shares :
    (share : Share) (decls : List ChainDecl)
    → All (IsOfShare share) (map (λ (decl : ChainDecl). opened decl share) decls)
opened_shares share decls = All-map (IsOfShare share) (λ (decl : ChainDecl). opened decl share) decls (λ k d lt. refl)
