-- Look-ups in what one queue sees.
use Rattle.std.proofs.Common.{◌≡◌, ℕ, suc, Bool, true, false, eq-eqb, List, [], ◌∷◌, Option, Some, None, slice_get, if◌then◌else◌, refl, ap, sym, ◌∙◌, subst, inl, inr}
use Rattle.std.specs.Option.{option_map}
use Rattle.std.proofs.lemmas.Option.{same_Some}
use Rattle.std.proofs.lemmas.Bool.{cases_Bool}
use Rattle.std.proofs.lemmas.Slice.Eq.{bytes_eq-Decides}
use Rattle.nf_base.specs.declared.decl.MapDecl.{MapDecl}
use Rattle.nf_base.specs.declared.decl.ObjectId.TheVariants as object
use Rattle.nf_base.specs.declared.state.Entry.{Entry}
use Rattle.nf_base.specs.Chains.{maps_of, key_in, has_key, found}
use Rattle.nf_base.specs.Locations.{Location, Numbers, object_of, one_more, keys_from, entry_if, entry_made, locations_of, numbers_after}
use Rattle.nf_base.specs.Locations as location
use Rattle.nf_base.specs.Shares.{mix}
use Rattle.shard_laws.specs.Homes.{owned, unseen}
use Rattle.shard_laws.specs.Agreement.{Scene, SlotsAgree}

-- look-ups in what one owner sees
found_head : (m : MapDecl) (key : List ℕ) (x : Option Entry) (b : Bool) → has_key m key x ≡ false → has_key m key (if b then x else None) ≡ false
found_head m key x true h = h
found_head m key x false h = refl

found_rest : (m : MapDecl) (key : List ℕ) (x : Option Entry) (xs : List (Option Entry)) → has_key m key x ≡ false → found m key (x ∷ xs) ≡ option_map (λ i. suc i) (found m key xs)
found_rest m key x xs h = rw h refl

found_first : (m : MapDecl) (key : List ℕ) (x : Option Entry) (xs : List (Option Entry)) → has_key m key x ≡ true → found m key (x ∷ xs) ≡ Some 0
found_first m key x xs h = rw h refl

pub found_mix : (m : MapDecl) (key : List ℕ) (own : ℕ → Bool) (xs : List (Option Entry)) → ((i : ℕ) → found m key xs ≡ Some i → own i ≡ true) → found m key (mix own unseen xs) ≡ found m key xs
found_mix m key own [] here = refl
found_mix m key own (x ∷ xs) here = elim (cases_Bool (has_key m key x)) [
  | inl y ↦ let o : own 0 ≡ true = here 0 (found_first m key x xs y) in rw (o, y) refl
  | inr n ↦
      let later : found m key (mix (λ k. own (suc k)) unseen xs) ≡ found m key xs = found_mix m key (λ k. own (suc k)) xs (λ i e. here (suc i) (found_rest m key x xs n ∙ ap (option_map (λ i. suc i)) e)) in
      found_rest m key (if own 0 then x else None) (mix (λ k. own (suc k)) unseen xs) (found_head m key x (own 0) n) ∙ ap (option_map (λ i. suc i)) later ∙ sym (found_rest m key x xs n)
]

holds_key : (m : MapDecl) (key : List ℕ) (x : Option Entry) → has_key m key x ≡ true → (e : Entry) × (x ≡ Some e) × (key_in m e.labels ≡ key)
holds_key m key None h = cc
holds_key m key (Some e) h = (e, refl, (bytes_eq-Decides (key_in m e.labels) key).0 h)

map_suc : (o : Option ℕ) (i : ℕ) → option_map (λ k. suc k) o ≡ Some i → (j : ℕ) × (o ≡ Some j) × (i ≡ suc j)
map_suc None i e = cc
map_suc (Some j) i e = (j, refl, sym (same_Some _ _ e))

pub found_at : (m : MapDecl) (key : List ℕ) (xs : List (Option Entry)) (i : ℕ) → found m key xs ≡ Some i → (e : Entry) × (slice_get xs i ≡ Some (Some e)) × (key_in m e.labels ≡ key)
found_at m key [] i h = cc
found_at m key (x ∷ xs) i h = elim (cases_Bool (has_key m key x)) [
  | inl y ↦
      let at : 0 ≡ i = same_Some _ _ (sym (found_first m key x xs y) ∙ h) in
      let k = holds_key m key x y in
      (k.0, subst (λ (j : ℕ). slice_get (x ∷ xs) j ≡ Some (Some k.0)) at (ap Some k.1), k.2)
  | inr n ↦
      let below = map_suc (found m key xs) i (sym (found_rest m key x xs n) ∙ h) in
      let deep = found_at m key xs below.0 below.1 in
      (deep.0, subst (λ (j : ℕ). slice_get (x ∷ xs) j ≡ Some (Some deep.0)) (sym below.2) deep.1, deep.2)
]

-- what an own name is bound to is one's own
pub own_found : (s : Scene) (n : Numbers) (k m : ℕ) (decl : MapDecl) (key : List ℕ) (now shard : List (Option Entry)) (i : ℕ) → SlotsAgree s n k now shard → slice_get (maps_of s.packet.decls k) m ≡ Some decl → (s.homes.written (object.Chain k) ≡ true → s.homes.home (location.KeyOf k m key) ≡ s.bucket) → found decl key now ≡ Some i → s.homes.owner k i ≡ s.queue
own_found s n k m decl key now shard i a q h e =
    let at = found_at decl key now i e in
    let o = a.each i at.0 at.1 in
    sym o.number ∙ ap s.homes.at (sym (o.keys m decl q) ∙ ap (λ x. s.homes.home (location.KeyOf k m x)) at.2 ∙ h o.made) ∙ s.is

pub found_same : (s : Scene) (n : Numbers) (k m : ℕ) (decl : MapDecl) (key : List ℕ) (now shard : List (Option Entry)) → SlotsAgree s n k now shard → slice_get (maps_of s.packet.decls k) m ≡ Some decl → (s.homes.written (object.Chain k) ≡ true → s.homes.home (location.KeyOf k m key) ≡ s.bucket) → found decl key shard ≡ found decl key now
found_same s n k m decl key now shard a q h =
    ap (found decl key) a.here ∙ found_mix decl key (owned s.homes.owner s.queue k) now (λ i e. eq-eqb _ _ (own_found s n k m decl key now shard i a q h e))
