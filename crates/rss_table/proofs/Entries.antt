-- The entries of an even table.
use Rattle.std.proofs.Common.{◌≡◌, ℕ, ◌%◌, ◌^◌, ◌<◌, ◌≤◌, ◌∙◌, List, length, get_or, take, refl, ap, arith}
use Rattle.std.proofs.lemmas.Nat.{mod_below}
use Rattle.std.proofs.lemmas.List.{length-take-le}
use Rattle.std.proofs.lemmas.List.FromFn.{length-map-range_with_len, get_or-map-range_with_len, fill_by_all}
use Rattle.std.proofs.lemmas.List.Elements.{All-from_get_or}
use Rattle.nf_base.specs.declared.card.TableSize.{TableSize}
use Rattle.nf_base.specs.declared.card.TableSize.TheVariants.{Entries128, Entries512}
use Rattle.nf_base.specs.Cards.{index_bits, entries}
use Rattle.rss_table.specs.Tables.{even_table, table_index, AllBelow, EntriesGoRound}

pub length_even : (size : TableSize) (workers : ℕ) → length (even_table size workers) ≡ entries size
unfolding even_table
length_even size workers = length-map-range_with_len (λ i. i % workers) 0 (entries size)

pub entry_even : (size : TableSize) (workers i : ℕ) → i < entries size → get_or (even_table size workers) i 0 ≡ i % workers
unfolding even_table
entry_even size workers i within = get_or-map-range_with_len (λ i. i % workers) 0 (entries size) i i 0 within (omega arith)

pub some_entries : (size : TableSize) → 0 < entries size
some_entries Entries128 = omega arith
some_entries Entries512 = omega arith

pub few_entries : (size : TableSize) → entries size ≤ 512
few_entries Entries128 = omega arith
few_entries Entries512 = omega arith

-- as many as the low bits tell apart
pub entries_are : (size : TableSize) (hash : ℕ) → hash % entries size ≡ table_index size hash
entries_are Entries128 hash = refl
entries_are Entries512 hash = refl

-- so many entries that go round are an even table
pub even_from_entries :
    (size : TableSize) (workers : ℕ) (table : List ℕ) → length table ≡ entries size
    → ((i : ℕ) → i < entries size → get_or table i 0 ≡ i % workers) → table ≡ even_table size workers
unfolding even_table
even_from_entries size workers table long go_round = fill_by_all (λ i. i % workers) table (entries size) 0 long go_round

pub even_below : (size : TableSize) (workers : ℕ) → 0 < workers → AllBelow workers (even_table size workers)
even_below size workers some = record {
  some = some;
  each = All-from_get_or (λ q. q < workers) (even_table size workers) 0
      (λ i within.
      let small : i < entries size = omega (arith, length_even size workers) in
      rw (entry_even size workers i small) (mod_below i workers some));
}

pub entries_go_round : EntriesGoRound
entries_go_round size workers = record {
  long = length_even size workers;
  entry = entry_even size workers;
  of_skipped = refl;
  of_hash = λ hash.
      ap (λ (n : ℕ). get_or (even_table size workers) (hash % n) 0) (length_even size workers)
      ∙ entry_even size workers (hash % entries size) (mod_below hash (entries size) (some_entries size))
      ∙ ap (λ (i : ℕ). i % workers) (entries_are size hash);
}
