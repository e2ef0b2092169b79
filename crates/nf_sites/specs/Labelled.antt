-- The labels of entries by their numbers.
use Rattle.std.specs.Prelude.{◌≡◌, ℕ, ◌==◌, List, [], ◌∷◌, ◌++◌, Option, Some, None, if◌then◌else◌, get_or, slice_get}
use Rattle.std.specs.List.{flat_map}
use Rattle.nf_base.specs.declared.state.Entry.{Entry}
use Rattle.nf_base.specs.declared.state.Chain.{Chain}
use Rattle.nf_base.specs.declared.state.State.{State}
use Rattle.nf_base.specs.Text.{Function}
use Rattle.nf_base.specs.Chains.{chain_at}
use Rattle.nf_base.specs.Events.{Event}
use Rattle.nf_base.specs.Record.{NewEntry, made_of}
use Rattle.nf_base.specs.Locations.{Numbers, numbers_after}
use Rattle.nf_base.specs.Step.{StepResult, step, recorded, opening}
use Rattle.nf_base.specs.Runs.{Handling}
use Rattle.nf_sites.specs.Covers.{Table, AreTogether}

-- an entry has the labels that are told of it, and those that are together are equal
abbrev pub IsLabelled : Function → ℕ → Option (List ℕ) → List ℕ → Type 0
IsLabelled f chain None labels = Unit {0}
IsLabelled f chain (Some told) labels = (labels ≡ told) × AreTogether f chain told

-- so has each live entry
abbrev pub AllLabelled : Function → Table → Numbers → List Chain → Type 0
AllLabelled f table ns chains =
    (chain i : ℕ) (e : Entry) → slice_get (chain_at chains chain).slots i ≡ Some (Some e) →
    IsLabelled f chain (table chain (ns.entry_no chain i)) e.labels

-- an entry is made with the labels that are told of it
abbrev pub MadeAs : Option (List ℕ) → List ℕ → Type 0
MadeAs None labels = Unit {0}
MadeAs (Some told) labels = labels ≡ told

-- so is the next one, where one is made
abbrev pub IsListed : Table → Numbers → Option NewEntry → Type 0
IsListed table ns None = Unit {0}
IsListed table ns (Some made) = MadeAs (table made.chain (ns.made made.chain)) made.labels

-- so is each entry that a record makes
abbrev pub Listed : Table → Numbers → List Event → Type 0
Listed table ns [] = Unit {0}
Listed table ns (e ∷ es) = IsListed table ns (made_of e) × Listed table (numbers_after ns e) es

-- the labels of an entry, where it was made in a chain
abbrev pub labels_made : ℕ → Option NewEntry → List (List ℕ)
labels_made chain None = []
labels_made chain (Some made) = if chain == made.chain then made.labels ∷ [] else []

-- the labels of each entry that a record makes in a chain, in order
abbrev pub labels_in : ℕ → List Event → List (List ℕ)
labels_in chain es = flat_map (λ e. labels_made chain (made_of e)) es

-- what follows, where a packet has a step
abbrev pub labels_if : Option StepResult → (State → List (List ℕ)) → List (List ℕ)
labels_if None rest = []
labels_if (Some next) rest = rest next.state

-- the labels of each entry that a run makes in a chain
abbrev pub labels_run : ℕ → Function → State → List Handling → List (List ℕ)
labels_run chain f s [] = []
labels_run chain f s (h ∷ hs) =
    labels_in chain (recorded f s h.packet h.choices)
    ++ labels_if (step f s h.packet h.choices) (λ next. labels_run chain f next hs)

-- the labels of the entry of each number that a run makes in a chain; there are none past the last
abbrev pub run_labels : Function → List Handling → (chain k : ℕ) → List ℕ
run_labels f hs chain k = get_or (labels_run chain f (opening f) hs) k []

-- a table that tells all labels
abbrev pub told : ((chain k : ℕ) → List ℕ) → Table
told labels chain k = Some (labels chain k)

-- the labels of each entry that a run makes, by its chain and number
abbrev pub table_of : Function → List Handling → Table
table_of f hs = told (run_labels f hs)
