-- The opened files of `MemoryFiles`, as a list in the order of opening.
use Rattle.std.specs.Prelude.{◌≡◌, ◌≢◌, ℕ, suc, Bool, true, false, ◌&&◌, not, List, [], ◌∷◌, length, drop, Option, Some, None, unwrap_or, slice_get}
use Rattle.std.specs.Str.{bytes_eq}
use Rattle.nf_files.specs.declared.kind.Kind.{Kind}
use Rattle.nf_files.specs.declared.kind.Kind.TheVariants.{Input, Output}
use Rattle.nf_files.specs.declared.memory.opened.OpenFile.{OpenFile}

abbrev pub if_input : {A : Type 0} → Kind → A → Option A
if_input Input x = Some x
if_input Output x = None

abbrev pub if_output : {A : Type 0} → Kind → A → Option A
if_output Input x = None
if_output Output x = Some x

-- the bytes that are still to be read
abbrev pub rest_of : Option OpenFile → Option (List ℕ)
rest_of None = None
rest_of (Some f) = if_input f.kind (drop f.at f.bytes.items)

-- those, and none where there is nothing to be read
abbrev pub left_of : Option OpenFile → List ℕ
left_of f = unwrap_or (rest_of f) []

-- the bytes that were given
abbrev pub given_of : Option OpenFile → Option (List ℕ)
given_of None = None
given_of (Some f) = if_output f.kind f.bytes.items

-- the name of a created file
abbrev pub name_of : Option OpenFile → Option (List ℕ)
name_of None = None
name_of (Some f) = if_output f.kind f.name.items

abbrev pub kind_of : Option OpenFile → Option Kind
kind_of None = None
kind_of (Some f) = Some f.kind

-- only the name of a created file counts
abbrev pub is_named : Kind → Bool → Bool
is_named Input same = false
is_named Output same = same

-- this file was created under the name, and nothing was put there since
abbrev pub stands_under : OpenFile → List ℕ → Bool
stands_under f n = is_named f.kind (f.stands && bytes_eq f.name.items n)

-- the place of the later one of two
abbrev pub later : Option ℕ → Bool → Option ℕ
later (Some k) here = Some (suc k)
later None true = Some 0
later None false = None

-- the place of the file that was created last under a name, where nothing was put there since
abbrev pub last_created : List OpenFile → List ℕ → Option ℕ
last_created [] n = None
last_created (f ∷ fs) n = later (last_created fs n) (stands_under f n)

-- the file after something else was put under a name
abbrev pub displaced : List ℕ → OpenFile → OpenFile
displaced n f = record {
  name = f.name;
  stands = f.stands && not (bytes_eq f.name.items n);
  kind = f.kind;
  bytes = f.bytes;
  at = f.at;
}

-- in the list nothing changed but the bytes and the place of one file
pub record Changes (old new : List OpenFile) (k : ℕ) : Type 0 where
  pub others : (j : ℕ) → j ≢ k → slice_get new j ≡ slice_get old j
  pub kinds : (j : ℕ) → kind_of (slice_get new j) ≡ kind_of (slice_get old j)
  pub names : (j : ℕ) → name_of (slice_get new j) ≡ name_of (slice_get old j)
  pub lasts : (n : List ℕ) → last_created new n ≡ last_created old n
  pub count : length new ≡ length old
