-- What is answered over the places of a function's plan is so over the function.
use Rattle.std.proofs.Common.{◌≡◌, ℕ, ◌<◌, ◌≤◌, ◌||◌, Bool, true, false, refl, ap, sym, ◌∙◌, subst, List, length, inl, inr, Option, Some, None, if◌then◌else◌}
use Rattle.std.proofs.lemmas.Bool.{false≢true}
use Rattle.std.proofs.lemmas.List.{length-map}
use Rattle.nf_base.specs.declared.card.Card.{Card}
use Rattle.nf_base.specs.declared.keys.Keys.{Keys}
use Rattle.nf_base.specs.declared.packet.Family.TheVariants.{Six}
use Rattle.nf_base.specs.Doors.{has_six, six_ports, six_at}
use Rattle.nf_base.specs.Text.{Function}
use Rattle.key_rows.specs.declared.place.Object.{Object}
use Rattle.key_rows.specs.Keyed as keyed
use Rattle.key_rows.specs.Given as given
use Rattle.key_rows.specs.Positions.{positions_at}
use Rattle.key_rows.proofs.Once.{given_keys_are_one}
use Rattle.shard_rules.specs.declared.plan.Plan.{Plan}
use Rattle.shard_rules.specs.Served.{own_plan}
use Rattle.shard_rules.proofs.Admitted.{say_the_same}
use Rattle.key_synth.specs.Keys.{IsKeyed, positions, MayBeGiven, AreGiven, AreAnswer}
use Rattle.key_synth.specs.Laws.{GivenKeysAreOne}
use Rattle.key_synth.proofs.Placed.{keyed_to, keyed_from, keyed_for_to, keyed_for_from}
use Rattle.key_synth.proofs.Handled.{six_there}

may_to : (f : Function) (card : Card) (keys : Keys) → given.MayBeGiven (length f.handlers) (own_plan f).objects card keys → MayBeGiven f card keys
may_to f card keys may = record {
  table = may.table;
  count = may.count;
  whole = may.whole;
  admissible = (say_the_same f keys).0 may.admissible;
  spreading = record { each = λ port family is. may.spreading.each port family (keyed_for_from f family port is) };
}

may_from : (f : Function) (card : Card) (keys : Keys) → MayBeGiven f card keys → given.MayBeGiven (length f.handlers) (own_plan f).objects card keys
may_from f card keys may = record {
  table = may.table;
  count = may.count;
  whole = may.whole;
  admissible = (say_the_same f keys).1 may.admissible;
  spreading = record { each = λ port family is. may.spreading.each port family (keyed_for_to f family port is) };
}

not_keyed : (f : Function) (port : ℕ) → (IsKeyed f port → ⊥) → (b : Bool) → keyed.is_keyed (own_plan f).objects port ≡ b → keyed.is_keyed (own_plan f).objects port ≡ false
not_keyed f port none true is = absurd (none (keyed_to f port is))
not_keyed f port none false is = is

-- what counts at the places of a port counts by its handlers
positions_same : (f : Function) (port : ℕ) → positions_at (six_ports f) (own_plan f).objects port ≡ positions f port
positions_same f port = by_test (six_at (six_ports f) port) (keyed.is_keyed_for (own_plan f).objects Six port) (λ is. six_there f port (keyed_for_to f Six port is))
  where
    by_test : (has keyed : Bool) → (keyed ≡ true → has ≡ true) → ◌≡◌ {A = ℕ} (if has || keyed then 319 else 127) (if has then 319 else 127)
    by_test true keyed there = refl
    by_test false true there = absurd (false≢true (there refl))
    by_test false false there = refl

before_to : (f : Function) (port i : ℕ) (keys other : Keys) → given.AgreeBefore (positions_at (six_ports f) (own_plan f).objects) port i keys other → given.AgreeBefore (positions f) port i keys other
before_to f port i keys other before = record {
  earlier_ports = λ q j earlier small. before.earlier_ports q j earlier (subst (λ (n : ℕ). j < n) (sym (positions_same f q)) small);
  earlier_bits = before.earlier_bits;
}

before_from : (f : Function) (port i : ℕ) (keys other : Keys) → given.AgreeBefore (positions f) port i keys other → given.AgreeBefore (positions_at (six_ports f) (own_plan f).objects) port i keys other
before_from f port i keys other before = record {
  earlier_ports = λ q j earlier small. before.earlier_ports q j earlier (subst (λ (n : ℕ). j < n) (positions_same f q) small);
  earlier_bits = before.earlier_bits;
}

-- keys given over the places of a function's plan
abbrev pub AreGivenAt : Function → Card → Keys → Type 0
AreGivenAt f card keys = given.AreGiven (positions_at (six_ports f) (own_plan f).objects) (length f.handlers) (own_plan f).objects card keys

given_to : (f : Function) (card : Card) (keys : Keys) → AreGivenAt f card keys → AreGiven f card keys
given_to f card keys are = record {
  may = may_to f card keys are.may;
  nearest = λ port i within low.
      elim (are.nearest port i within (subst (λ (n : ℕ). i < n) (sym (positions_same f port)) low)) [
        | inl default ↦ inl default
        | inr out ↦ inr (record { none = λ other may before. out.none other (may_from f card other may) (before_from f port i keys other before) })
      ];
  past = λ port i within is high. are.past port i within (keyed_from f port is) (subst (λ (n : ℕ). n ≤ i) (sym (positions_same f port)) high);
  unkeyed = λ port within none. are.unkeyed port within (not_keyed f port none (keyed.is_keyed (own_plan f).objects port) refl);
}

-- and back: given keys of a function are given over the places
pub given_from : (f : Function) (card : Card) (keys : Keys) → AreGiven f card keys → AreGivenAt f card keys
given_from f card keys are = record {
  may = may_from f card keys are.may;
  nearest = λ port i within low.
      elim (are.nearest port i within (subst (λ (n : ℕ). i < n) (positions_same f port) low)) [
        | inl default ↦ inl default
        | inr out ↦ inr (record { none = λ other may before. out.none other (may_to f card other may) (before_to f port i keys other before) })
      ];
  past = λ port i within is high. are.past port i within (keyed_to f port is) (subst (λ (n : ℕ). n ≤ i) (positions_same f port) high);
  unkeyed = λ port within none. are.unkeyed port within (λ is. false≢true (sym none ∙ keyed_from f port is));
}

-- two given keys of a function are equal
pub given_keys_one : GivenKeysAreOne
given_keys_one f card keys other first second =
    given_keys_are_one (positions_at (six_ports f) (own_plan f).objects) (length f.handlers) (own_plan f).objects card keys other (given_from f card keys first) (given_from f card other second)

answer_to : (f : Function) (card : Card) (answer : Option Keys) → given.AreAnswer (positions_at (six_ports f) (own_plan f).objects) (length f.handlers) (own_plan f).objects card answer → AreAnswer f card answer
answer_to f card None none = record { none = λ keys may. none.none keys (may_from f card keys may) }
answer_to f card (Some keys) are = given_to f card keys are

-- the same of what is answered for a plan that is the function's
pub answered : (f : Function) (card : Card) (plan : Plan) (six : List Bool) (objects : List Object) (answer : Option Keys) → plan ≡ own_plan f → six ≡ six_ports f → objects ≡ plan.objects
    → given.AreAnswer (positions_at six objects) (length six) objects card answer → AreAnswer f card answer
answered f card plan six objects answer own ports are says =
    answer_to f card answer
    (subst (λ (n : ℕ). given.AreAnswer (positions_at (six_ports f) (own_plan f).objects) n (own_plan f).objects card answer) (length-map f.handlers has_six)
    (subst (λ (list : List Bool). given.AreAnswer (positions_at list (own_plan f).objects) (length list) (own_plan f).objects card answer) ports
    (subst (λ (list : List Object). given.AreAnswer (positions_at six list) (length six) list card answer) (are ∙ ap (λ (p : Plan). p.objects) own) says)))
