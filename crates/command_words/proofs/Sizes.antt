-- The sizes of a network card, by their numbers.
use Rattle.std.proofs.Common.{◌≡◌, ◌∙◌, ap, List, ◌≢◌, ◌≤◌, ℕ, ◌==◌, sym, refl, subst, arith, Option, Some, None, if◌then◌else◌}
use Rattle.std.specs.Option.{MatchOption}
use Rattle.std.proofs.lemmas.Bool.{ne_eqb}
use Rattle.nf_base.specs.Cards.{entries, key_bytes}
use Rattle.nf_base.specs.declared.card.TableSize.{TableSize}
use Rattle.nf_base.specs.declared.card.TableSize.TheVariants.{Entries128, Entries512}
use Rattle.nf_base.specs.declared.card.KeySize.{KeySize}
use Rattle.nf_base.specs.declared.card.KeySize.TheVariants.{Bytes40, Bytes52}
use Rattle.nf_tokens.specs.Numbers.{decimal}
use Rattle.command_words.specs.Texts.{and_then, table_with, table_in, key_size_with, key_size_in}

neither : {A : Type 0} (n a b : ℕ) (x y : A) → a ≢ n → b ≢ n → None ≡ (if n == a then Some x else if n == b then Some y else None)
neither n a b x y no_a no_b = rw (ne_eqb n a (λ e. no_a (sym e))) (rw (ne_eqb n b (λ e. no_b (sym e))) refl)

table_is : (n : ℕ) (r : Option TableSize) → MatchOption r ((size : TableSize) → entries size ≢ n) (λ size. entries size ≡ n) → r ≡ table_with n
table_is n None none = neither n 128 512 Entries128 Entries512 (none Entries128) (none Entries512)
table_is n (Some Entries128) with_n = subst (λ (m : ℕ). Some Entries128 ≡ table_with m) with_n refl
table_is n (Some Entries512) with_n = subst (λ (m : ℕ). Some Entries512 ≡ table_with m) with_n refl

pub table_at :
    (text : List ℕ) (n : ℕ) (r : Option TableSize) → decimal text ≡ Some n
    → MatchOption r ((size : TableSize) → entries size ≢ n) (λ size. entries size ≡ n) → r ≡ table_in text
table_at text n r number found = table_is n r found ∙ ap (λ (o : Option ℕ). and_then o table_with) (sym number)

key_size_is : (n : ℕ) (r : Option KeySize) → MatchOption r ((size : KeySize) → key_bytes size ≢ n) (λ size. key_bytes size ≡ n) → r ≡ key_size_with n
key_size_is n None none = neither n 40 52 Bytes40 Bytes52 (none Bytes40) (none Bytes52)
key_size_is n (Some Bytes40) with_n = subst (λ (m : ℕ). Some Bytes40 ≡ key_size_with m) with_n refl
key_size_is n (Some Bytes52) with_n = subst (λ (m : ℕ). Some Bytes52 ≡ key_size_with m) with_n refl

pub key_size_at :
    (text : List ℕ) (n : ℕ) (r : Option KeySize) → decimal text ≡ Some n
    → MatchOption r ((size : KeySize) → key_bytes size ≢ n) (λ size. key_bytes size ≡ n) → r ≡ key_size_in text
key_size_at text n r number found = key_size_is n r found ∙ ap (λ (o : Option ℕ). and_then o key_size_with) (sym number)

pub key_fits : (size : KeySize) → key_bytes size ≤ 52
key_fits Bytes40 = omega arith
key_fits Bytes52 = omega arith
