-- A question on a part is answered as on the whole state.
use Rattle.std.proofs.Common.{◌≡◌, ℕ, Bool, true, false, List, map, Option, Some, None, slice_get, if◌then◌else◌, refl, ap, ap₂, sym, ◌∙◌, subst, inl, inr}
use Rattle.std.specs.Option.{option_map, option_and_then}
use Rattle.std.proofs.lemmas.Option.{same_Some}
use Rattle.std.proofs.lemmas.Bool.{cases_eq}
use Rattle.nf_base.specs.declared.decl.MapDecl.{MapDecl}
use Rattle.nf_base.specs.declared.decl.ObjectId.TheVariants as object
use Rattle.nf_base.specs.declared.state.Entry.{Entry}
use Rattle.nf_base.specs.Text.{Guard, Question, Get, Find, Test}
use Rattle.nf_base.specs.Values.{compares}
use Rattle.nf_base.specs.Chains.{chain_at, maps_of, found, joined, entry_at}
use Rattle.nf_base.specs.Context.{Context, Input, value, given, has_labels}
use Rattle.nf_base.specs.Operations.{bound, key_found, index_if, index_found, answer}
use Rattle.nf_base.specs.Events.{Event, asked}
use Rattle.nf_base.specs.Locations.{Location, Numbers, object_of, one_more, keys_from, entry_if, entry_made, locations_of, numbers_after}
use Rattle.nf_base.specs.Locations as location
use Rattle.shard_laws.specs.Homes.{AllAt}
use Rattle.shard_laws.specs.Agreement.{Scene, Agree, Goes, AnswersAlike}
use Rattle.shard_laws.proofs.Agreeing.{GuardsHome, entry_at_is, givens_same, labels_same, none_there, same_at, some_or_none, value_same, vars_bind}
use Rattle.shard_laws.proofs.Finding.{found_same, own_found}
use Rattle.shard_laws.proofs.Going.{goes_all, goes_guards, goes_reads}

-- a question
pub agree_bound : (s : Scene) (n : Numbers) (c d : Context) (var chain i : ℕ) → Agree s n c d → s.homes.owner chain i ≡ s.queue → Agree s n (bound var chain c i) (bound var chain d i)
agree_bound s n c d var chain i a o = record { chains = a.chains; arrays = a.arrays; vars = vars_bind s c.vars d.vars var chain i a.vars o; edits = a.edits; left = a.left }

answers_alike : (s : Scene) (n : Numbers) (c d : Context) (var chain : ℕ) (o q : Option ℕ) → Agree s n c d → q ≡ o → ((i : ℕ) → o ≡ Some i → s.homes.owner chain i ≡ s.queue) → AnswersAlike s n (option_map (bound var chain c) o) (option_map (bound var chain d) q)
answers_alike s n c d var chain o q a e own = subst (λ (x : Option ℕ). AnswersAlike s n (option_map (bound var chain c) o) (option_map (bound var chain d) x)) (sym e) (same o own)
  where
    same : (o : Option ℕ) → ((i : ℕ) → o ≡ Some i → s.homes.owner chain i ≡ s.queue) → AnswersAlike s n (option_map (bound var chain c) o) (option_map (bound var chain d) o)
    same None own = tt
    same (Some i) own = agree_bound s n c d var chain i a (own i refl)

test_answers : (s : Scene) (n : Numbers) (c d : Context) (b : Bool) → Agree s n c d → AnswersAlike s n (if b then Some c else None) (if b then Some d else None)
test_answers s n c d true a = a
test_answers s n c d false a = tt

-- `get`
key_same : (s : Scene) (n : Numbers) (c d : Context) (k m : ℕ) (key : List ℕ) → Agree s n c d → (s.homes.written (object.Chain k) ≡ true → s.homes.home (location.KeyOf k m key) ≡ s.bucket) → key_found s.packet d k m key ≡ key_found s.packet c k m key
key_same s n c d k m key a h = by_map (slice_get (maps_of s.packet.decls k) m) refl
  where
    by_map : (o : Option MapDecl) → slice_get (maps_of s.packet.decls k) m ≡ o → option_and_then (λ decl. found decl key (chain_at d.state.chains k).slots) o ≡ option_and_then (λ decl. found decl key (chain_at c.state.chains k).slots) o
    by_map None e = refl
    by_map (Some decl) e = found_same s n k m decl key _ _ (a.chains.each k).slots e h

key_own : (s : Scene) (n : Numbers) (c d : Context) (k m : ℕ) (key : List ℕ) (i : ℕ) → Agree s n c d → (s.homes.written (object.Chain k) ≡ true → s.homes.home (location.KeyOf k m key) ≡ s.bucket) → key_found s.packet c k m key ≡ Some i → s.homes.owner k i ≡ s.queue
key_own s n c d k m key i a h = by_map (slice_get (maps_of s.packet.decls k) m) refl
  where
    by_map : (o : Option MapDecl) → slice_get (maps_of s.packet.decls k) m ≡ o → option_and_then (λ decl. found decl key (chain_at c.state.chains k).slots) o ≡ Some i → s.homes.owner k i ≡ s.queue
    by_map None e f = cc
    by_map (Some decl) e f = own_found s n k m decl key _ _ i (a.chains.each k).slots e h f

-- `find`: a hit is at an own index, and a miss is one in the part too
if_index : (b : Bool) (i j : ℕ) → (if b then Some i else None) ≡ Some j → i ≡ j
if_index true i j e = same_Some _ _ e
if_index false i j e = cc

find_index : (p : Input) (c : Context) (gs : List Guard) (i j : ℕ) (o : Option Entry) → index_if p c gs i o ≡ Some j → (i ≡ j) × ((e : Entry) × (o ≡ Some e))
find_index p c gs i j None h = cc
find_index p c gs i j (Some e) h = (if_index (has_labels p c gs e) i j h, (e, refl))

find_own : (s : Scene) (n : Numbers) (c d : Context) (k i j : ℕ) (gs : List Guard) → Agree s n c d → AllAt s.homes s.bucket (entry_if n k (index_found s.packet c k i gs)) → index_found s.packet c k i gs ≡ Some j → (i ≡ j) × (s.homes.owner k j ≡ s.queue)
find_own s n c d k i j gs a h e =
    let slots = (chain_at c.state.chains k).slots in
    let r = find_index s.packet c gs i j (entry_at slots i) e in
    let life : s.homes.written (object.Chain k) ≡ true → s.homes.home (location.EntryNo k (n.entry_no k j)) ≡ s.bucket = (subst (λ (o : Option ℕ). AllAt s.homes s.bucket (entry_if n k o)) e h).0 in
    let there : slice_get slots j ≡ Some (Some r.1.0) = subst (λ (l : ℕ). slice_get slots l ≡ Some (Some r.1.0)) r.0 (entry_at_is slots i r.1.0 r.1.1) in
    let o = (a.chains.each k).slots.each j r.1.0 there in
    (r.0, sym o.number ∙ ap s.homes.at (life o.made) ∙ s.is)

index_same : (s : Scene) (n : Numbers) (c d : Context) (gs : List Guard) (i : ℕ) (o : Option Entry) → Agree s n c d → GuardsHome s c gs → index_if s.packet d gs i o ≡ index_if s.packet c gs i o
index_same s n c d gs i None a h = refl
index_same s n c d gs i (Some e) a h = ap (λ (b : Bool). if b then Some i else None) (labels_same s n c d a gs h e)

find_same : (s : Scene) (n : Numbers) (c d : Context) (k i : ℕ) (gs : List Guard) → Agree s n c d → GuardsHome s c gs → AllAt s.homes s.bucket (entry_if n k (index_found s.packet c k i gs)) → index_found s.packet d k i gs ≡ index_found s.packet c k i gs
find_same s n c d k i gs a q h = elim (cases_eq (s.homes.owner k i) s.queue) [
  | inl own ↦ index_same s n c d gs i _ a q ∙ ap (λ (z : Option (Option Entry)). index_if s.packet c gs i (joined z)) (same_at s n k _ _ i (a.chains.each k).slots own)
  | inr other ↦
      let none_here : index_found s.packet d k i gs ≡ None = ap (index_if s.packet d gs i) (none_there s n k _ _ i (a.chains.each k).slots other) in
      elim (some_or_none (index_found s.packet c k i gs)) [
        | inl miss ↦ none_here ∙ sym miss
        | inr hit ↦ let o = find_own s n c d k i hit.0 gs a h hit.1 in absurd (other (ap (s.homes.owner k) o.0 ∙ o.1))
      ]
]

pub asked_alike : (s : Scene) (z n : Numbers) (c d : Context) (q : Question) (rest : List Event) → Agree s n c d → Goes s z n (asked s.packet c q rest) → AnswersAlike s n (answer s.packet c q) (answer s.packet d q) × Goes s z n rest
asked_alike s z n c d (Get at chain m key var) rest a g =
    let r = goes_all s z n c key _ g in
    let x = map (given s.packet c) key in
    let home : s.homes.written (object.Chain chain) ≡ true → s.homes.home (location.KeyOf chain m x) ≡ s.bucket = r.1.0.at_home.0 in (
      answers_alike s n c d var chain (key_found s.packet c chain m x) (key_found s.packet d chain m (map (given s.packet d) key)) a
          (ap (key_found s.packet d chain m) (givens_same s n c d a key r.0) ∙ key_same s n c d chain m x a home)
          (λ i e. key_own s n c d chain m x i a home e),
      r.1.1,
    )
asked_alike s z n c d (Find at chain e guards var) rest a g =
    let r = goes_reads s z n c e _ g in
    let q = goes_guards s z n c guards _ r.1 in
    let i = value s.packet c e in (
      answers_alike s n c d var chain (index_found s.packet c chain i guards) (index_found s.packet d chain (value s.packet d e) guards) a
          (ap (λ (j : ℕ). index_found s.packet d chain j guards) (value_same s n c d a e r.0) ∙ find_same s n c d chain i guards a q.0 q.1.0.at_home)
          (λ j h. (find_own s n c d chain i j guards a q.1.0.at_home h).1),
      q.1.1,
    )
asked_alike s z n c d (Test at comparison x y) rest a g =
    let r = goes_reads s z n c x _ g in
    let q = goes_reads s z n c y _ r.1 in
    let same : compares comparison (value s.packet d x) (value s.packet d y) ≡ compares comparison (value s.packet c x) (value s.packet c y) = ap₂ (compares comparison) (value_same s n c d a x r.0) (value_same s n c d a y q.0) in
    (subst (λ (b : Bool). AnswersAlike s n (answer s.packet c (Test at comparison x y)) (if b then Some d else None)) (sym same) (test_answers s n c d (compares comparison (value s.packet c x) (value s.packet c y)) a), q.1.1)
