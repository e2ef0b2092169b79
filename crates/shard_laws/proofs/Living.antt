-- What expiry leaves of chains, and of a part of them.
use Rattle.std.proofs.Common.{◌≡◌, ℕ, zero, suc, ◌+◌, ◌<◌, ◌≤◌, Bool, true, false, ◌||◌, nat_lt, ltb-false, ltb-true, List, [], ◌∷◌, map, Option, Some, None, slice_get, refl, ap, ap₂, sym, ◌∙◌, subst, arith, inl, inr}
use Rattle.std.proofs.lemmas.Option.{same_Some}
use Rattle.std.proofs.lemmas.Bool.{cases_Bool, lt-ltb, le-ltb}
use Rattle.nf_base.specs.declared.decl.ChainDecl.{ChainDecl}
use Rattle.nf_base.specs.declared.state.Entry.{Entry}
use Rattle.nf_base.specs.declared.state.Chain.{Chain}
use Rattle.nf_base.specs.declared.state.State.{State}
use Rattle.nf_base.specs.Chains.{chain_at, alive, unexpired, expired, lifetime_of}
use Rattle.nf_base.specs.Events.{Event}
use Rattle.nf_base.specs.Locations.{Numbers, locations_of, locations, numbers_after, all_numbers}
use Rattle.shard_laws.specs.Homes.{Homes, AllTold, made_in_front, entries_made, MadeOwn, AllAt}
use Rattle.shard_laws.specs.Agreement.{Scene, Goes}
use Rattle.nf_base.specs.Record.{NewEntry, made_of, result_of_new, is_refusal, answers_full}
use Rattle.shard_laws.specs.Parts.{Whole, at_time}
use Rattle.shard_laws.proofs.Making.{all_split}

-- the premise, event by event
if_not : (b c : Bool) → (b || c) ≡ false → (b ≡ false) × (c ≡ false)
if_not true c h = cc
if_not false c h = (refl, h)

pub own_tail : (owner : ℕ → ℕ → ℕ) (w : ℕ) (o : Option NewEntry) (more : List NewEntry) → MadeOwn owner w (made_in_front o more) → MadeOwn owner w more
own_tail owner w None more a = a
own_tail owner w (Some made) more a = a.1

pub own_first : (owner : ℕ → ℕ → ℕ) (w : ℕ) (o : Option NewEntry) (more : List NewEntry) → MadeOwn owner w (made_in_front o more) → MadeOwn owner w (made_in_front o [])
own_first owner w None more a = tt
own_first owner w (Some made) more a = (a.0, tt)

pub goes_from : (s : Scene) (n : Numbers) (es : List Event) → AllAt s.homes s.bucket (locations s.packet.decls n es) → AllTold s.homes n es → (s.strict ≡ true → answers_full es ≡ false) → (s.by_part ≡ false → MadeOwn s.homes.owner s.queue (entries_made es)) → Goes s (all_numbers n es) n es
goes_from s n [] h t f own = refl
goes_from s n (e ∷ es) h t f own =
    let r = all_split s.homes s.bucket (locations_of s.packet.decls n e) (locations s.packet.decls (numbers_after n e) es) h in
    let q = λ (b : s.strict ≡ true). if_not (is_refusal (result_of_new e)) (answers_full es) (f b) in (
      record { at_home = r.0; granted = λ b. (q b).0; told = t.0; own = λ b. own_first s.homes.owner s.queue (made_of e) (entries_made es) (own b) },
      goes_from s (numbers_after n e) es r.1 t.1 (λ b. (q b).1) (λ b. own_tail s.homes.owner s.queue (made_of e) (entries_made es) (own b)),
    )

-- lifetimes
alive_twice : (t u l : ℕ) (x : Option Entry) → t ≤ u → alive u l (alive t l x) ≡ alive u l x
alive_twice t u l None le = refl
alive_twice t u l (Some e) le = elim (cases_Bool (nat_lt (e.stamp + l) t)) [
  | inl dead ↦
      let lt : e.stamp + l < t = ltb-true _ _ dead in
      let gone : nat_lt (e.stamp + l) u ≡ true = lt-ltb _ _ (omega arith) in
      rw (dead, gone) refl
  | inr live ↦ rw live refl
]

pub alive_all_twice : (t u l : ℕ) (xs : List (Option Entry)) → t ≤ u → map (alive u l) (map (alive t l) xs) ≡ map (alive u l) xs
alive_all_twice t u l [] le = refl
alive_all_twice t u l (x ∷ xs) le = ap₂ (λ (y : Option Entry) (ys : List (Option Entry)). y ∷ ys) (alive_twice t u l x le) (alive_all_twice t u l xs le)

alive_fresh : (t l : ℕ) (x : Option Entry) → ((e : Entry) → x ≡ Some e → t ≤ e.stamp + l) → alive t l x ≡ x
alive_fresh t l None f = refl
alive_fresh t l (Some e) f = let h : nat_lt (e.stamp + l) t ≡ false = le-ltb _ _ (f e refl) in rw h refl

pub all_fresh : (t l : ℕ) (xs : List (Option Entry)) → ((i : ℕ) (e : Entry) → slice_get xs i ≡ Some (Some e) → t ≤ e.stamp + l) → map (alive t l) xs ≡ xs
all_fresh t l [] f = refl
all_fresh t l (x ∷ xs) f = ap₂ (λ (y : Option Entry) (ys : List (Option Entry)). y ∷ ys) (alive_fresh t l x (λ e q. f 0 e (ap Some q))) (all_fresh t l xs (λ i e q. f (suc i) e q))

was_alive : (t l : ℕ) (x : Option Entry) (e : Entry) → alive t l x ≡ Some e → (x ≡ Some e) × (t ≤ e.stamp + l)
was_alive t l None e h = cc
was_alive t l (Some f) e h = elim (cases_Bool (nat_lt (f.stamp + l) t)) [
  | inl dead ↦ let gone : alive t l (Some f) ≡ None = rw dead refl in cc
  | inr live ↦
      let le : t ≤ f.stamp + l = ltb-false _ _ live in
      let kept : alive t l (Some f) ≡ Some f = rw live refl in
      let same : f ≡ e = same_Some _ _ (sym kept ∙ h) in
      (ap Some same, subst (λ (g : Entry). t ≤ g.stamp + l) same le)
]

pub got_alive : (t l : ℕ) (xs : List (Option Entry)) (i : ℕ) (e : Entry) → slice_get (map (alive t l) xs) i ≡ Some (Some e) → (slice_get xs i ≡ Some (Some e)) × (t ≤ e.stamp + l)
got_alive t l [] i e h = cc
got_alive t l (x ∷ xs) zero e h = let r = was_alive t l x e (same_Some _ _ h) in (ap Some r.0, r.1)
got_alive t l (x ∷ xs) (suc i) e h = got_alive t l xs i e h

-- expiry, chain by chain
pub expired_at : (t : ℕ) (lifetime : ℕ → ℕ) (chains : List Chain) (k : ℕ) → chain_at (expired t lifetime chains) k ≡ unexpired t (lifetime k) (chain_at chains k)
expired_at t lifetime [] k = refl
expired_at t lifetime (c ∷ cs) zero = refl
expired_at t lifetime (c ∷ cs) (suc k) = expired_at t (λ j. lifetime (suc j)) cs k

pub slots_at : (t : ℕ) (decls : List ChainDecl) (chains : List Chain) (k : ℕ) → (chain_at (expired t (lifetime_of decls) chains) k).slots ≡ map (alive t (lifetime_of decls k)) (chain_at chains k).slots
slots_at t decls chains k = ap (λ (c : Chain). c.slots) (expired_at t (lifetime_of decls) chains k)

pub greatest_at : (t : ℕ) (decls : List ChainDecl) (chains : List Chain) (k : ℕ) → (chain_at (expired t (lifetime_of decls) chains) k).greatest ≡ (chain_at chains k).greatest
greatest_at t decls chains k = ap (λ (c : Chain). c.greatest) (expired_at t (lifetime_of decls) chains k)

pub whole_later : (h : Homes) (opened : ℕ → ℕ → ℕ) (decls : List ChainDecl) (time after : ℕ) (n : Numbers) (m : State) → Whole h opened decls time n m → time ≤ after → Whole h opened decls after n (at_time after decls m)
whole_later h opened decls time after n m w le = record {
  idle = w.idle;
  stays = w.stays;
  each = λ k i e at.
      let r = got_alive after (lifetime_of decls k) (chain_at m.chains k).slots i e (subst (λ (xs : List (Option Entry)). slice_get xs i ≡ Some (Some e)) (slots_at after decls m.chains k) at) in
      let o = w.each k i e r.0 in
      record { made = o.made; within = r.1; keys = o.keys; number = o.number; kept = o.kept };
  low = λ k. let g : (chain_at (expired after (lifetime_of decls) m.chains) k).greatest ≡ (chain_at m.chains k).greatest = greatest_at after decls m.chains k in let l : (chain_at m.chains k).greatest ≤ time = w.low k in omega (arith, le);
}
