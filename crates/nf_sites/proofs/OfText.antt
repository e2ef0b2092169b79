-- The statements of a path are the text's.
use Rattle.std.proofs.Common.{List, [], ◌∷◌, ◌++◌, Contains, subst, inl, inr}
use Rattle.std.proofs.lemmas.List.Elements.{Contains-append_left, Contains-append_right, Contains-append_cases}
use Rattle.nf_base.specs.Text.{FallsOff, Flood, Discard, Forward, Block, End, Do, Ask, Make}
use Rattle.nf_base.specs.Statements.{Statement, Ends, Does, Asks, Makes, statements}
use Rattle.nf_base.specs.Paths.{PathStep, Doing, Asking, Making, Closing, Hits, Misses, Makes as MakesIt, IsTaken, IsFull, each_after, paths}
use Rattle.nf_sites.specs.OnPaths.{statement_of}
use Rattle.nf_laws.proofs.Listed.{here, there, has, has_none}
use Rattle.nf_sites.proofs.Lists.{from_map}

-- a fact of the statement of each step
abbrev pub EachStep : (Statement → Type 0) → List PathStep → Type 0
EachStep P path = (s : PathStep) → Contains path s → P (statement_of s)

step_first : (P : Statement → Type 0) (s : PathStep) (path : List PathStep) → P (statement_of s) → EachStep P path → EachStep P (s ∷ path)
step_first P s path p h t i = elim (has s path t i) [ inl e ↦ subst (λ (x : PathStep). P (statement_of x)) e p | inr j ↦ h t j ]

only_step : (P : Statement → Type 0) (s : PathStep) (path : List PathStep) → P (statement_of s) → Contains ((s ∷ []) ∷ []) path → EachStep P path
only_step P s path p i = elim (has (s ∷ []) [] path i) [
  | inl e ↦ subst (λ (x : List PathStep). EachStep P x) e (step_first P s [] p (λ t j. absurd (has_none t j)))
  | inr j ↦ absurd (has_none path j)
]

after_step : (P : Statement → Type 0) (s : PathStep) (all : List (List PathStep)) (path : List PathStep) → P (statement_of s) → ((q : List PathStep) → Contains all q → EachStep P q) → Contains (each_after s all) path → EachStep P path
after_step P s all path p h i =
    let w = from_map (λ (q : List PathStep). s ∷ q) all path i in
    subst (λ (x : List PathStep). EachStep P x) w.2 (step_first P s w.0 p (h w.0 w.1))

abbrev EachPath : (Statement → Type 0) → List (List PathStep) → Type 0
EachPath P all = (path : List PathStep) → Contains all path → EachStep P path

pub steps_of_text : (P : Statement → Type 0) (b : Block) (rest : List (List PathStep)) → ((s : Statement) → Contains (statements b) s → P s) → EachPath P rest → EachPath P (paths b rest)
steps_of_text P (End FallsOff) rest a h path i = h path i
steps_of_text P (End Flood) rest a h path i = only_step P (Closing Flood) path (a (Ends Flood) (here (Ends Flood) [])) i
steps_of_text P (End Discard) rest a h path i = only_step P (Closing Discard) path (a (Ends Discard) (here (Ends Discard) [])) i
steps_of_text P (End (Forward door)) rest a h path i = only_step P (Closing (Forward door)) path (a (Ends (Forward door)) (here (Ends (Forward door)) [])) i
steps_of_text P (Do op next) rest a h path i =
    after_step P (Doing op) (paths next rest) path (a (Does op) (here (Does op) (statements next))) (steps_of_text P next rest (λ s j. a s (there (Does op) (statements next) s j)) h) i
steps_of_text P (Ask q hit miss next) rest a h path i =
    let all = statements hit ++ (statements miss ++ statements next) in
    let later : (s : Statement) → Contains all s → P s = λ s j. a s (there (Asks q) all s j) in
    let first = a (Asks q) (here (Asks q) all) in
    let on = steps_of_text P next rest (λ s j. later s (Contains-append_right (statements hit) (statements miss ++ statements next) s (Contains-append_right (statements miss) (statements next) s j))) h in
    elim (Contains-append_cases (each_after (Asking q Hits) (paths hit (paths next rest))) (each_after (Asking q Misses) (paths miss (paths next rest))) path i) [
      | inl j ↦ after_step P (Asking q Hits) (paths hit (paths next rest)) path first
          (steps_of_text P hit (paths next rest) (λ s k. later s (Contains-append_left (statements hit) (statements miss ++ statements next) s k)) on) j
      | inr j ↦ after_step P (Asking q Misses) (paths miss (paths next rest)) path first
          (steps_of_text P miss (paths next rest) (λ s k. later s (Contains-append_right (statements hit) (statements miss ++ statements next) s (Contains-append_left (statements miss) (statements next) s k))) on) j
    ]
steps_of_text P (Make n made taken full next) rest a h path i =
    let third = statements full ++ statements next in
    let second = statements taken ++ third in
    let all = statements made ++ second in
    let later : (s : Statement) → Contains all s → P s = λ s j. a s (there (Makes n) all s j) in
    let behind_made : (s : Statement) → Contains second s → P s = λ s j. later s (Contains-append_right (statements made) second s j) in
    let behind_taken : (s : Statement) → Contains third s → P s = λ s j. behind_made s (Contains-append_right (statements taken) third s j) in
    let first = a (Makes n) (here (Makes n) all) in
    let on = steps_of_text P next rest (λ s j. behind_taken s (Contains-append_right (statements full) (statements next) s j)) h in
    let fulls = each_after (Making n IsFull) (paths full (paths next rest)) in
    let takens = each_after (Making n IsTaken) (paths taken (paths next rest)) in
    elim (Contains-append_cases (each_after (Making n MakesIt) (paths made (paths next rest))) (takens ++ fulls) path i) [
      | inl j ↦ after_step P (Making n MakesIt) (paths made (paths next rest)) path first (steps_of_text P made (paths next rest) (λ s k. later s (Contains-append_left (statements made) second s k)) on) j
      | inr j ↦ elim (Contains-append_cases takens fulls path j) [
        | inl k ↦ after_step P (Making n IsTaken) (paths taken (paths next rest)) path first (steps_of_text P taken (paths next rest) (λ s l. behind_made s (Contains-append_left (statements taken) third s l)) on) k
        | inr k ↦ after_step P (Making n IsFull) (paths full (paths next rest)) path first (steps_of_text P full (paths next rest) (λ s l. behind_taken s (Contains-append_left (statements full) (statements next) s l)) on) k
      ]
    ]

-- the empty path has no step
none_then : (P : Statement → Type 0) → EachPath P ([] ∷ [])
none_then P path i = elim (has [] [] path i) [
  | inl e ↦ subst (λ (x : List PathStep). EachStep P x) e (λ t j. absurd (has_none t j))
  | inr j ↦ absurd (has_none path j)
]

pub of_block : (block : Block) (path : List PathStep) (s : PathStep) → Contains (paths block ([] ∷ [])) path → Contains path s → Contains (statements block) (statement_of s)
of_block block path s i j = steps_of_text (λ t. Contains (statements block) t) block ([] ∷ []) (λ t k. k) (none_then (λ t. Contains (statements block) t)) path i s j
