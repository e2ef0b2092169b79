-- The given keys are one.
use Rattle.std.proofs.Common.{◌≡◌, ◌⊎◌, ℕ, zero, suc, ◌<◌, ◌≤◌, true, false, ap, ap₂, sym, ◌∙◌, List, [], arith, length, get_or, subst, inl, inr}
use Rattle.std.proofs.lemmas.Bool.{cases_eq, cases_lt, cases_Bool}
use Rattle.std.proofs.lemmas.List.{get_or_default, same_lists}
use Rattle.nf_base.specs.declared.card.Card.{Card}
use Rattle.nf_base.specs.declared.card.TableSize.{TableSize}
use Rattle.nf_base.specs.declared.keys.Keys.{Keys}
use Rattle.toeplitz_hash.specs.DefaultKey.{default_key}
use Rattle.toeplitz_hash.specs.Bits.{bit_of}
use Rattle.toeplitz_hash.specs.Packets.{key_at}
use Rattle.toeplitz_hash.proofs.Bytes.{bit_of-lt}
use Rattle.key_rows.specs.declared.place.Object.{Object}
use Rattle.key_rows.specs.Keyed.{is_keyed}
use Rattle.key_rows.specs.Given.{default_bit, key_bit, AgreeBefore, AreGiven}
use Rattle.key_rows.specs.Laws.{GivenKeysAreOne}
use Rattle.key_rows.proofs.Bytes.{same_keys}

back_before : (positions : ℕ → ℕ) (port i : ℕ) (keys other : Keys) → AgreeBefore positions port i keys other → AgreeBefore positions port i other keys
back_before positions port i keys other before = record { earlier_ports = λ q j earlier small. sym (before.earlier_ports q j earlier small); earlier_bits = λ j earlier. sym (before.earlier_bits j earlier) }

only_two : (a b c : ℕ) → a < 2 → b < 2 → c < 2 → (a ≡ c → ⊥) → (b ≡ c → ⊥) → a ≡ b
only_two a b c first second third p q = omega arith

module _ (positions : ℕ → ℕ) (ports : ℕ) (objects : List Object) (card : Card) (keys other : Keys) (first : AreGiven positions ports objects card keys) (second : AreGiven positions ports objects card other) where
  -- a bit of two keys
  abbrev Same : ℕ → ℕ → Type 0
  Same port i = key_bit keys port i ≡ key_bit other port i

  -- the positions of all ports before one
  abbrev SameBefore : ℕ → Type 0
  SameBefore n = (port i : ℕ) → port < n → i < positions port → Same port i

  one_bit : (port i : ℕ) → port < ports → i < positions port → AgreeBefore positions port i keys other → Same port i
  one_bit port i within low before =
      elim (first.nearest port i within low) [
        | inl default ↦
            elim (second.nearest port i within low) [
              | inl too ↦ default ∙ sym too
              | inr out ↦ absurd (out.none keys first.may (back_before positions port i keys other before) default)
            ]
        | inr out ↦
            elim (second.nearest port i within low) [
              | inl default ↦ absurd (out.none other second.may before default)
              | inr out_too ↦
                  only_two (key_bit keys port i) (key_bit other port i) (default_bit card i) (bit_of-lt (key_at keys port) i) (bit_of-lt (key_at other port) i) (bit_of-lt (default_key card.key) i)
                  (out_too.none keys first.may (back_before positions port i keys other before)) (out.none other second.may before)
            ]
      ]

  -- bit by bit
  same_bits : (port : ℕ) → port < ports → SameBefore port → (n : ℕ) → n ≤ positions port → (i : ℕ) → i < n → Same port i
  same_bits port within earlier zero most i below = absurd (omega arith)
  same_bits port within earlier (suc n) most i below =
      let bits : (j : ℕ) → j < n → Same port j = same_bits port within earlier n (omega arith) in
      elim (cases_eq i n) [
        | inl same ↦ subst (Same port) (sym same) (one_bit port n within (omega arith) (record { earlier_ports = earlier; earlier_bits = bits }))
        | inr before ↦ bits i (omega arith)
      ]

  -- and port by port
  all_same : (n : ℕ) → n ≤ ports → SameBefore n
  all_same zero within port i below low = absurd (omega arith)
  all_same (suc n) within port i below low =
      let earlier : SameBefore n = all_same n (omega arith) in
      elim (cases_eq port n) [
        | inl same ↦ same_bits port (omega arith) (subst SameBefore (sym same) earlier) (positions port) (omega arith) i low
        | inr before ↦ earlier port i (omega arith) low
      ]

  same_key : (port : ℕ) (d : List ℕ) → port < ports → get_or keys.ports port d ≡ get_or other.ports port d
  same_key port d within =
      let left : port < length keys.ports = omega (arith, first.may.count) in
      let right : port < length other.ports = omega (arith, second.may.count) in
      get_or_default keys.ports port d [] left
      ∙ by_kind (cases_Bool (is_keyed objects port)) left right
      ∙ get_or_default other.ports port [] d right
    where
      by_kind : (is_keyed objects port ≡ true) ⊎ (is_keyed objects port ≡ false) → port < length keys.ports → port < length other.ports → key_at keys port ≡ key_at other port
      by_kind (inl keyed) left right =
          same_keys card.key (key_at keys port) (key_at other port) (first.may.whole port [] left) (second.may.whole port [] right)
          (λ i.
          elim (cases_lt i (positions port)) [
            | inl low ↦ all_same ports (omega arith) port i within low
            | inr high ↦ first.past port i within keyed high ∙ sym (second.past port i within keyed high)
          ])
      by_kind (inr unkeyed) left right = first.unkeyed port within unkeyed ∙ sym (second.unkeyed port within unkeyed)

pub given_keys_are_one : GivenKeysAreOne
given_keys_are_one positions ports objects card keys other first second =
    let same : keys.ports ≡ other.ports =
    same_lists keys.ports other.ports (first.may.count ∙ sym second.may.count) (λ k d below. same_key positions ports objects card keys other first second k d (omega (arith, first.may.count))) in
    ap₂ (λ (t : TableSize) (l : List (List ℕ)). let k : Keys = record { table = t; ports = l } in k) (first.may.table ∙ sym second.may.table) same
