-- What expiry leaves.
use Rattle.std.proofs.Common.{◌≡◌, ◌<◌, ◌≤◌, ◌+◌, ℕ, zero, suc, Bool, true, false, nat_lt, List, [], ◌∷◌, map, Option, Some, None, slice_get, if◌then◌else◌, refl, ap, ap₂, sym, ◌∙◌, subst, arith, inl, inr}
use Rattle.std.proofs.lemmas.Option.{same_Some}
use Rattle.std.proofs.lemmas.List.{length-map}
use Rattle.std.proofs.lemmas.Bool.{cases_Bool, ltb-true, ltb-false}
use Rattle.nf_base.specs.Doors.{handler_at}
use Rattle.nf_base.specs.Families.{door_of}
use Rattle.nf_base.specs.declared.decl.MapDecl.{MapDecl}
use Rattle.nf_base.specs.declared.packet.Fields.{Fields}
use Rattle.nf_base.specs.declared.state.Entry.{Entry}
use Rattle.nf_base.specs.declared.state.Chain.{Chain}
use Rattle.nf_base.specs.declared.state.State.{State}
use Rattle.nf_base.specs.Text.{Function, Block}
use Rattle.nf_base.specs.Chains.{found, is_found, alive, unexpired, expired, lifetime_of}
use Rattle.nf_base.specs.Operations.{never}
use Rattle.nf_base.specs.Step.{no_edits, input, expired_state, step_of, step_result, completes}
use Rattle.nf_base.specs.Course.{exec}
use Rattle.nf_laws.specs.Entries.{IsLive, IsVacant, HasKeyAt}
use Rattle.nf_laws.specs.Expiry.{EntriesStayToTheirLastTick, IsExpiry, ChainsExpire, NoChainIsLost, StepsExpireFirst}
use Rattle.nf_laws.proofs.Found.{is_first, none_has}
use Rattle.nf_laws.proofs.Sound.{kept_stood}
use Rattle.nf_laws.proofs.Shaped.{expired_length}
use Rattle.nf_laws.proofs.Chained.{at_expired}

not_past : (a b : ℕ) → b ≤ a → nat_lt a b ≡ false
not_past a b le = elim (cases_Bool (nat_lt a b)) [ inl t ↦ let lt = ltb-true a b t in absurd (omega (arith, le, lt)) | inr f ↦ f ]

is_past : (a b : ℕ) → a < b → nat_lt a b ≡ true
is_past a b lt = elim (cases_Bool (nat_lt a b)) [ inl t ↦ t | inr f ↦ let le = ltb-false a b f in absurd (omega (arith, le, lt)) ]

within_alive : (time lifetime : ℕ) (entry : Entry) → time ≤ entry.stamp + lifetime → alive time lifetime (Some entry) ≡ Some entry
within_alive time lifetime entry le = ap (λ (b : Bool). if b then None else Some entry) (not_past (entry.stamp + lifetime) time le)

past_gone : (time lifetime : ℕ) (entry : Entry) → entry.stamp + lifetime < time → alive time lifetime (Some entry) ≡ None
past_gone time lifetime entry lt = ap (λ (b : Bool). if b then None else Some entry) (is_past (entry.stamp + lifetime) time lt)

pub last_tick : EntriesStayToTheirLastTick
last_tick lifetime entry = record {
  last = within_alive (entry.stamp + lifetime) lifetime entry (omega arith);
  next = past_gone (suc (entry.stamp + lifetime)) lifetime entry (omega arith);
  not_due = not_past (entry.stamp + lifetime) (entry.stamp + lifetime) (omega arith);
  due = is_past (entry.stamp + lifetime) (suc (entry.stamp + lifetime)) (omega arith);
}

-- what stays is within its lifetime, and what is stays
alive_within : (time lifetime : ℕ) (s : Option Entry) (entry : Entry) → alive time lifetime s ≡ Some entry → time ≤ entry.stamp + lifetime
alive_within time lifetime None entry e = cc
alive_within time lifetime (Some x) entry e = of (nat_lt (x.stamp + lifetime) time) refl e
  where
    of : (b : Bool) → nat_lt (x.stamp + lifetime) time ≡ b → (if b then None else Some x) ≡ Some entry → time ≤ entry.stamp + lifetime
    of true t q = cc
    of false t q = subst (λ (y : Entry). time ≤ y.stamp + lifetime) (same_Some _ _ q) (ltb-false (x.stamp + lifetime) time t)

kept_within : (time lifetime : ℕ) (slots : List (Option Entry)) (i : ℕ) (entry : Entry) → IsLive (map (alive time lifetime) slots) i entry → time ≤ entry.stamp + lifetime
kept_within time lifetime [] i entry e = cc
kept_within time lifetime (s ∷ slots) zero entry e = alive_within time lifetime s entry (same_Some _ _ e)
kept_within time lifetime (s ∷ slots) (suc i) entry e = kept_within time lifetime slots i entry e

within_kept : (time lifetime : ℕ) (slots : List (Option Entry)) (i : ℕ) (entry : Entry) → IsLive slots i entry → time ≤ entry.stamp + lifetime → IsLive (map (alive time lifetime) slots) i entry
within_kept time lifetime [] i entry e le = cc
within_kept time lifetime (s ∷ slots) zero entry e le = ap Some (ap (alive time lifetime) (same_Some _ _ e) ∙ within_alive time lifetime entry le)
within_kept time lifetime (s ∷ slots) (suc i) entry e le = within_kept time lifetime slots i entry e le

past_vacant : (time lifetime : ℕ) (slots : List (Option Entry)) (i : ℕ) (entry : Entry) → IsLive slots i entry → entry.stamp + lifetime < time → IsVacant (map (alive time lifetime) slots) i
past_vacant time lifetime [] i entry e lt = cc
past_vacant time lifetime (s ∷ slots) zero entry e lt = ap Some (ap (alive time lifetime) (same_Some _ _ e) ∙ past_gone time lifetime entry lt)
past_vacant time lifetime (s ∷ slots) (suc i) entry e lt = past_vacant time lifetime slots i entry e lt

still_vacant : (time lifetime : ℕ) (slots : List (Option Entry)) (i : ℕ) → IsVacant slots i → IsVacant (map (alive time lifetime) slots) i
still_vacant time lifetime [] i e = cc
still_vacant time lifetime (s ∷ slots) zero e = ap Some (ap (alive time lifetime) (same_Some _ _ e))
still_vacant time lifetime (s ∷ slots) (suc i) e = still_vacant time lifetime slots i e

-- keys
of_found : (m : MapDecl) (key : List ℕ) (slots : List (Option Entry)) (o : Option ℕ) → found m key slots ≡ o → is_found o ≡ true → (i : ℕ) × HasKeyAt m key slots i
of_found m key slots None q e = cc
of_found m key slots (Some i) q e = (i, (is_first m key slots i q).here)

found_is : (m : MapDecl) (key : List ℕ) (slots : List (Option Entry)) (i : ℕ) → HasKeyAt m key slots i → (o : Option ℕ) → found m key slots ≡ o → is_found o ≡ true
found_is m key slots i h None q = absurd (none_has m key slots i q h)
found_is m key slots i h (Some j) q = refl

is_expiry : (time lifetime : ℕ) (chain : Chain) → IsExpiry time lifetime chain (unexpired time lifetime chain)
is_expiry time lifetime chain =
    let slots = map (alive time lifetime) chain.slots in
    record {
      entries = λ i entry. (λ live. (kept_stood time lifetime chain.slots i entry live, kept_within time lifetime chain.slots i entry live), λ h. within_kept time lifetime chain.slots i entry h.0 h.1);
      freed = λ i entry live lt. past_vacant time lifetime chain.slots i entry live lt;
      vacant = λ i v. still_vacant time lifetime chain.slots i v;
      keys = λ m key. (
        λ e.
            let w = of_found m key slots (found m key slots) refl e in
            record {
              index = w.0;
              has = record { entry = w.1.entry; live = kept_stood time lifetime chain.slots w.0 w.1.entry w.1.live; same = w.1.same };
              within = kept_within time lifetime chain.slots w.0 w.1.entry w.1.live;
            },
        λ h. found_is m key slots h.index (record { entry = h.has.entry; live = within_kept time lifetime chain.slots h.index h.has.entry h.has.live h.within; same = h.has.same }) (found m key slots) refl,
      );
      size = length-map chain.slots (alive time lifetime);
      greatest = refl;
    }

pub chains_expire : ChainsExpire
chains_expire time lifetime chains k before at = (unexpired time (lifetime k) before, (at_expired time lifetime chains k before at, is_expiry time (lifetime k) before))

pub no_chain_lost : NoChainIsLost
no_chain_lost time lifetime chains = expired_length time lifetime chains

-- what has expired once has expired
alive_twice : (time lifetime : ℕ) (s : Option Entry) → alive time lifetime (alive time lifetime s) ≡ alive time lifetime s
alive_twice time lifetime None = refl
alive_twice time lifetime (Some x) = of (nat_lt (x.stamp + lifetime) time) refl
  where
    of : (b : Bool) → nat_lt (x.stamp + lifetime) time ≡ b → alive time lifetime (if b then None else Some x) ≡ (if b then None else Some x)
    of true t = refl
    of false t = ap (λ (b : Bool). if b then None else Some x) t

slots_twice : (time lifetime : ℕ) (slots : List (Option Entry)) → map (alive time lifetime) (map (alive time lifetime) slots) ≡ map (alive time lifetime) slots
slots_twice time lifetime [] = refl
slots_twice time lifetime (s ∷ slots) = ap₂ (λ x xs. x ∷ xs) (alive_twice time lifetime s) (slots_twice time lifetime slots)

chains_twice : (time : ℕ) (lifetime : ℕ → ℕ) (chains : List Chain) → expired time lifetime (expired time lifetime chains) ≡ expired time lifetime chains
chains_twice time lifetime [] = refl
chains_twice time lifetime (c ∷ chains) = ap₂ (λ x xs. x ∷ xs) (ap (λ slots. record c { slots = slots }) (slots_twice time (lifetime 0) c.slots)) (chains_twice time (λ k. lifetime (suc k)) chains)

pub state_twice : (f : Function) (time : ℕ) (s : State) → expired_state f time (expired_state f time s) ≡ expired_state f time s
state_twice f time s = ap (λ chains. record s { chains = chains }) (chains_twice time (lifetime_of f.chains) s.chains)

at_handler : (f : Function) (s : State) (time : ℕ) (fields : Fields) (choices : List ℕ) (handler : Option Block) → completes never f (expired_state f time s) time fields choices handler ≡ completes never f s time fields choices handler
at_handler f s time fields choices None = refl
at_handler f s time fields choices (Some block) = ap (λ (t : State). exec never (input f time fields) block (record { state = t; vars = []; edits = no_edits; left = choices })) (state_twice f time s)

pub expire_first : StepsExpireFirst
expire_first f s packet fields choices e =
    ap (step_of never f (expired_state f packet.time s) packet choices) e
    ∙ ap (step_result choices) (at_handler f s packet.time fields choices (handler_at f (door_of packet.id.port fields)))
    ∙ sym (ap (step_of never f s packet choices) e)
