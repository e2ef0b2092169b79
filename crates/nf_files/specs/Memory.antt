-- What files in memory tell.
use Rattle.std.specs.Prelude.{◌≡◌, ℕ, ◌^◌, zero, suc, ◌-◌, ◌<◌, ◌⊎◌, Bool, true, false, List, [], ◌∷◌, length, Option, Some, None, IsSome, slice_get, if◌then◌else◌, nat_eq}
use Rattle.std.specs.List.{list_any}
use Rattle.std.specs.Str.{bytes_eq}
use Rattle.nf_files.specs.declared.memory.opened.OpenFile.{OpenFile}
use Rattle.nf_files.specs.declared.memory.named.Named.{Named}
use Rattle.nf_files.specs.declared.memory.store.Store.{Store}
use Rattle.nf_files.specs.declared.memory.calls.Calls.{Calls}
use Rattle.nf_files.specs.declared.memory.MemoryFiles.{MemoryFiles}
use Rattle.nf_files.specs.Told.{Told}
use Rattle.nf_files.specs.Causes.{Counted, counted_of}
use Rattle.nf_files.specs.Opened.{rest_of, left_of, given_of, name_of, kind_of, last_created}

-- of standard output, of standard error, and of the opened files, whose numbers begin at 2
abbrev pub numbered : {A : Type 0} → A → A → (ℕ → A) → ℕ → A
numbered output errors opened zero = output
numbered output errors opened (suc zero) = errors
numbered output errors opened (suc (suc k)) = opened k

-- the number of an opened file
abbrev pub number_of : Option ℕ → Option ℕ
number_of None = None
number_of (Some k) = Some (suc (suc k))

-- what was put under a name, at last
abbrev pub put_under : List Named → List ℕ → Option (List ℕ)
put_under [] n = None
put_under (x ∷ xs) n = if bytes_eq x.name.items n then Some x.bytes.items else put_under xs n

-- what was given to the file that was created last under a name, else what was put there
abbrev pub content_of : List OpenFile → Option (List ℕ) → Option ℕ → Option (List ℕ)
content_of files put None = put
content_of files put (Some k) = given_of (slice_get files k)

abbrev pub told_of : List Named → List ℕ → List ℕ → List OpenFile → Told
told_of names output errors files = record {
  content = λ n. content_of files (put_under names n) (last_created files n);
  rest = numbered None None (λ k. rest_of (slice_get files k));
  given = numbered (Some output) (Some errors) (λ k. given_of (slice_get files k));
  name = numbered None None (λ k. name_of (slice_get files k));
  latest = λ n. number_of (last_created files n);
  kind = numbered None None (λ k. kind_of (slice_get files k));
  next = suc (suc (length files));
}

-- nothing stands under any name, nothing was written, and no file was opened
abbrev pub nothing : Told
nothing = record {
  content = λ n. None;
  rest = λ g. None;
  given = numbered (Some []) (Some []) (λ k. None);
  name = λ g. None;
  latest = λ n. None;
  kind = λ g. None;
  next = 2;
}

abbrev pub store_told : Store → Told
store_told s = told_of s.names.items s.output.items s.errors.items s.files.items

abbrev pub memory_told : MemoryFiles → Told
memory_told m = store_told m.store

abbrev pub calls_counted : Calls → Counted
calls_counted c = counted_of c.count

abbrev pub memory_counted : MemoryFiles → Counted
memory_counted m = calls_counted m.calls

-- the next call stands in the list of those that fail
abbrev pub is_listed : Calls → Bool
is_listed c = list_any (λ call. nat_eq call c.made) c.fails.items

-- no call is to fail
abbrev pub is_sound : Calls → Bool
is_sound c = nat_eq (length c.fails.items) 0

-- the bytes of a number that stand ready: all that are left, where no call is to fail, and else none
abbrev pub ready_at : MemoryFiles → ℕ → List ℕ
ready_at m g = if is_sound m.calls then left_of (slice_get m.store.files.items (g - 2)) else []

-- a file can still be opened: numbers have 32 bits
abbrev pub HasNumber : MemoryFiles → Type 0
HasNumber m = length m.store.files.items < 2 ^ 32 - 2

abbrev pub will_fail : MemoryFiles → Type 0
will_fail m = (is_listed m.calls ≡ true) × HasNumber m

abbrev pub will_pass : MemoryFiles → Type 0
will_pass m = is_listed m.calls ≡ false

abbrev pub will_not_open : MemoryFiles → List ℕ → Type 0
will_not_open m n = ((is_listed m.calls ≡ true) ⊎ ((memory_told m).content n ≡ None)) × HasNumber m

abbrev pub will_open : MemoryFiles → List ℕ → Type 0
will_open m n = (is_listed m.calls ≡ false) × IsSome ((memory_told m).content n)
