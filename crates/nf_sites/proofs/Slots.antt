-- One slot of one chain set.
use Rattle.std.proofs.Common.{◌≡◌, ℕ, zero, suc, Bool, true, false, ◌==◌, ◌&&◌, List, [], ◌∷◌, ◌++◌, map, take, Option, Some, None, slice_get, slice_set, if◌then◌else◌, refl, ap, sym, ◌∙◌, subst, ◌⊎◌, inl, inr, eq-eqb}
use Rattle.std.specs.Option.{option_map}
use Rattle.std.proofs.lemmas.Option.{same_Some}
use Rattle.std.proofs.lemmas.Bool.{cases_eq}
use Rattle.nf_base.specs.declared.state.Entry.{Entry}
use Rattle.nf_base.specs.declared.state.Chain.{Chain}
use Rattle.nf_base.specs.Chains.{chain_at, alive, expired}
use Rattle.nf_base.specs.Context.{EntryRef, Var, var_at}
use Rattle.nf_base.specs.Operations.{unless_at}

abbrev pub slot : List Chain → ℕ → ℕ → Option (Option Entry)
slot chains k i = slice_get (chain_at chains k).slots i

set_here : {A : Type 0} (xs : List A) (i : ℕ) (x : A) → slice_get (slice_set xs i x) i ≡ option_map (λ _. x) (slice_get xs i)
set_here [] i x = refl
set_here (y ∷ xs) zero x = refl
set_here (y ∷ xs) (suc i) x = set_here xs i x

set_there : {A : Type 0} (xs : List A) (i j : ℕ) (x : A) → (i ≡ j → ⊥) → slice_get (slice_set xs i x) j ≡ slice_get xs j
set_there [] i j x ne = refl
set_there (y ∷ xs) zero zero x ne = absurd (ne refl)
set_there (y ∷ xs) zero (suc j) x ne = refl
set_there (y ∷ xs) (suc i) zero x ne = refl
set_there (y ∷ xs) (suc i) (suc j) x ne = set_there xs i j x (λ e. ne (ap suc e))

pub slot_here : (chains : List Chain) (k i : ℕ) (x : Option Entry) (ch : Chain) → ch.slots ≡ slice_set (chain_at chains k).slots i x → slot (slice_set chains k ch) k i ≡ option_map (λ _. x) (slot chains k i)
slot_here [] k i x ch e = refl
slot_here (c ∷ chains) zero i x ch e = ap (λ xs. slice_get xs i) e ∙ set_here c.slots i x
slot_here (c ∷ chains) (suc k) i x ch e = slot_here chains k i x ch e

pub slot_there : (chains : List Chain) (k i j l : ℕ) (x : Option Entry) (ch : Chain) → ch.slots ≡ slice_set (chain_at chains k).slots i x → (k ≡ j → i ≡ l → ⊥) → slot (slice_set chains k ch) j l ≡ slot chains j l
slot_there [] k i j l x ch e ne = refl
slot_there (c ∷ chains) zero i zero l x ch e ne = ap (λ xs. slice_get xs l) e ∙ set_there c.slots i l x (ne refl)
slot_there (c ∷ chains) zero i (suc j) l x ch e ne = refl
slot_there (c ∷ chains) (suc k) i zero l x ch e ne = refl
slot_there (c ∷ chains) (suc k) i (suc j) l x ch e ne = slot_there chains k i j l x ch e (λ a b. ne (ap suc a) b)

pub which : (k j i l : ℕ) → ((k ≡ j) × (i ≡ l)) ⊎ (k ≡ j → i ≡ l → ⊥)
which k j i l = elim (cases_eq k j) [
  | inl a ↦ elim (cases_eq i l) [ inl b ↦ inl (a, b) | inr b ↦ inr (λ _ e. b e) ]
  | inr a ↦ inr (λ e _. a e)
]

pub at_slot : (P : ℕ → ℕ → Type 0) (k j i l : ℕ) → k ≡ j → i ≡ l → P k i → P j l
at_slot P k j i l a b p = subst (λ (n : ℕ). P j n) b (subst (λ (n : ℕ). P n i) a p)

-- a slot after the expiry at a time
got_alive : (time life : ℕ) (slots : List (Option Entry)) (i : ℕ) (e : Entry) → slice_get (map (alive time life) slots) i ≡ Some (Some e) → slice_get slots i ≡ Some (Some e)
got_alive time life [] i e h = cc
got_alive time life (s ∷ slots) zero e h = ap Some (was s (same_Some _ _ h))
  where
    was_if : (b : Bool) (x : Entry) → (if b then None else Some x) ≡ Some e → Some x ≡ Some e
    was_if true x q = cc
    was_if false x q = q

    was : (s : Option Entry) → alive time life s ≡ Some e → s ≡ Some e
    was None q = cc
    was (Some x) q = was_if _ x q
got_alive time life (s ∷ slots) (suc i) e h = got_alive time life slots i e h

pub slot_alive : (time : ℕ) (lifetime : ℕ → ℕ) (chains : List Chain) (k i : ℕ) (e : Entry) → slot (expired time lifetime chains) k i ≡ Some (Some e) → slot chains k i ≡ Some (Some e)
slot_alive time lifetime [] k i e h = cc
slot_alive time lifetime (c ∷ chains) zero i e h = got_alive time (lifetime 0) c.slots i e h
slot_alive time lifetime (c ∷ chains) (suc k) i e h = slot_alive time (λ k. lifetime (suc k)) chains k i e h

-- variables after one was bound
pub got_var : (vs : List Var) (var k : ℕ) (x : Var) (at : EntryRef) → var_at (take var vs ++ x ∷ []) k ≡ Some at → (x ≡ Some at) ⊎ (var_at vs k ≡ Some at)
got_var vs zero zero x at e = inl e
got_var vs zero (suc k) x at e = cc
got_var [] (suc var) zero x at e = inl e
got_var [] (suc var) (suc k) x at e = cc
got_var (z ∷ vs) (suc var) zero x at e = inr e
got_var (z ∷ vs) (suc var) (suc k) x at e = got_var vs var k x at e

-- variables after an entry was freed
unless_is : (gone at w : EntryRef) (a b : Bool) → at.chain == gone.chain ≡ a → at.index == gone.index ≡ b → ◌≡◌ {A = Var} (if a && b then None else Some at) (Some w) → (◌≡◌ {A = Var} (Some at) (Some w)) × (gone.chain ≡ at.chain → gone.index ≡ at.index → ⊥)
unless_is gone at w true true p q e = cc
unless_is gone at w true false p q e = (e, λ x y. let t : (at.index == gone.index) ≡ true = eq-eqb at.index gone.index (sym y) in cc)
unless_is gone at w false b p q e = (e, λ x y. let t : (at.chain == gone.chain) ≡ true = eq-eqb at.chain gone.chain (sym x) in cc)

pub not_gone : (gone : EntryRef) (vs : List Var) (k : ℕ) (w : EntryRef) → var_at (map (unless_at gone) vs) k ≡ Some w → (var_at vs k ≡ Some w) × (gone.chain ≡ w.chain → gone.index ≡ w.index → ⊥)
not_gone gone [] k w e = cc
not_gone gone (None ∷ vs) zero w e = cc
not_gone gone (Some at ∷ vs) zero w e =
    let q = unless_is gone at w (at.chain == gone.chain) (at.index == gone.index) refl refl e in
    (q.0, subst (λ (x : EntryRef). gone.chain ≡ x.chain → gone.index ≡ x.index → ⊥) (same_Some at w q.0) q.1)
not_gone gone (x ∷ vs) (suc k) w e = not_gone gone vs k w e
