-- What is printed of a function that is asked about.
use Rattle.std.specs.Prelude.{◌≡◌, ℕ, List, [], ◌∷◌, ◌++◌, Option, Some, None, length, codes, decimal}
use Rattle.nf_base.specs.Text.{Function}
use Rattle.nf_base.specs.declared.card.Card.{Card}
use Rattle.command_words.specs.declared.command.Description.{Description}
use Rattle.command_words.specs.declared.command.Description.TheVariants.{Check, Explain, Keys}
use Rattle.shard_rules.specs.Served.{own_sites, own_plan}
use Rattle.key_synth.specs.declared.verdict.Verdict.{Verdict}
use Rattle.key_synth.specs.Verdicts.{IsVerdict}
use Rattle.verdict_text.specs.Verdict.{verdict_text, explained_whole}
use Rattle.call_base.specs.declared.function.PathCounts.{PathCounts}
use Rattle.call_base.specs.Source.{path_counts}

-- the number of a handler for IPv6 behind a slash, where there is one
abbrev pub six_text : Option ℕ → List ℕ
six_text None = []
six_text (Some n) = codes "/" ++ decimal n

-- a port's numbers behind a space
abbrev pub count_text : PathCounts → List ℕ
count_text counts = (codes " " ++ decimal counts.four) ++ six_text counts.six

-- those of each port
abbrev pub counts_text : List PathCounts → List ℕ
counts_text [] = []
counts_text (c ∷ cs) = count_text c ++ counts_text cs

-- the name of a function, and how many ports, chains and arrays it has
abbrev pub objects_text : Function → List ℕ
objects_text f =
    f.name ++ codes ": ports " ++ decimal (length f.handlers)
    ++ codes ", chains " ++ decimal (length f.chains) ++ codes ", arrays " ++ decimal (length f.arrays)

-- one line: the name, the ports, chains and arrays, and how many feasible paths each port's handlers have
abbrev pub check_line : Function → List ℕ
check_line f = codes "ok " ++ objects_text f ++ codes ", paths" ++ counts_text (path_counts f) ++ codes "\n"

-- The text of the verdict on a function for a network card: sharded with the given keys, or locked
-- where no admissible keys spread, with the cause.
pub record IsVerdictText (f : Function) (card : Card) (text : List ℕ) : Type 0 where
  pub verdict : Verdict
  pub is_verdict : IsVerdict f card verdict
  pub said : text ≡ verdict_text f verdict

-- The same behind the function's objects, each with its sites.
pub record IsExplanation (f : Function) (card : Card) (text : List ℕ) : Type 0 where
  pub verdict : Verdict
  pub is_verdict : IsVerdict f card verdict
  pub said : text ≡ explained_whole f (own_sites f) (own_plan f) verdict

-- the text that is asked for
abbrev pub IsDescription : Description → Function → Card → List ℕ → Type 0
IsDescription Check f card text = text ≡ check_line f
IsDescription Explain f card text = IsExplanation f card text
IsDescription Keys f card text = IsVerdictText f card text

-- two texts that are asked for alike are equal
abbrev pub DescriptionsAreOne : Type 0
DescriptionsAreOne =
    (what : Description) (f : Function) (card : Card) (text other : List ℕ) →
    IsDescription what f card text → IsDescription what f card other → text ≡ other
