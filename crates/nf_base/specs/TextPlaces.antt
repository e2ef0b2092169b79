-- The places of a function's text: the numbers of what it asks, makes, reads and gives values to.
use Rattle.std.specs.Prelude.{◌≢◌, ℕ, List, [], ◌∷◌, ◌++◌, All, AllPairs}
use Rattle.std.specs.List.{flat_map}
use Rattle.std.specs.List.Sorted.{IsStrictlyIncreasing}
use Rattle.nf_base.specs.Text.{Expression, Number, Read, Index, Label, Column, Cell, Both, Given, Guard, Ending, FallsOff, Forward, Flood, Discard, Operation, Touch, Free, Set, Write, Store, Question, Get, Find, Test, Block, Function}
use Rattle.nf_base.specs.Doors.{blocks}
use Rattle.nf_base.specs.Statements.{Statement, Ends, Does, Asks, Makes, statements}

-- the cells that an expression reads, each behind those of its index
abbrev pub expression_places : Expression → List ℕ
expression_places (Number n) = []
expression_places (Read field) = []
expression_places (Index var) = []
expression_places (Label var label) = []
expression_places (Column var column) = []
expression_places (Cell place array at) = place ∷ expression_places at
expression_places (Both operator left right) = expression_places left ++ expression_places right

-- the cells that values read
abbrev pub given_places : List Given → List ℕ
given_places gs = flat_map (λ (g : Given). expression_places g.value) gs

-- the cells that the values of a `find`'s labels read
abbrev pub guard_places : List Guard → List ℕ
guard_places gs = flat_map (λ (g : Guard). expression_places g.given.value) gs

-- the cells that an end reads
abbrev pub ending_places : Ending → List ℕ
ending_places FallsOff = []
ending_places Flood = []
ending_places Discard = []
ending_places (Forward port) = expression_places port

-- the place of an operation, where it has one
abbrev pub operation_place : Operation → List ℕ
operation_place (Touch var) = []
operation_place (Free var) = []
operation_place (Set field g) = []
operation_place (Write var column g) = []
operation_place (Store place array at g) = place ∷ []

-- the cells that an operation reads
abbrev pub operation_reads : Operation → List ℕ
operation_reads (Touch var) = []
operation_reads (Free var) = []
operation_reads (Set field g) = expression_places g.value
operation_reads (Write var column g) = expression_places g.value
operation_reads (Store place array at g) = expression_places at ++ expression_places g.value

-- the place of a question
abbrev pub question_own : Question → List ℕ
question_own (Get place chain m key var) = place ∷ []
question_own (Find place chain at guards var) = place ∷ []
question_own (Test place comparison left right) = place ∷ []

-- the cells that a question reads
abbrev pub question_reads : Question → List ℕ
question_reads (Get place chain m key var) = given_places key
question_reads (Find place chain at guards var) = expression_places at ++ guard_places guards
question_reads (Test place comparison left right) = expression_places left ++ expression_places right

-- the place of a statement, where it has one
abbrev pub own_place : Statement → List ℕ
own_place (Ends e) = []
own_place (Does op) = operation_place op
own_place (Asks q) = question_own q
own_place (Makes n) = n.place ∷ []

-- the cells that a statement reads
abbrev pub statement_reads : Statement → List ℕ
statement_reads (Ends e) = ending_places e
statement_reads (Does op) = operation_reads op
statement_reads (Asks q) = question_reads q
statement_reads (Makes n) = given_places n.labels

-- a statement's places: its own, and the cells that it reads
abbrev pub places_in : Statement → List ℕ
places_in s = own_place s ++ statement_reads s

-- the statements of a function, in text order
abbrev pub all_statements : Function → List Statement
all_statements f = flat_map statements (blocks f)

-- The places of a function's text: those of statements rise along each handler, and no two places are
-- the same. Handlers stand by port, and may stand in another order in the text, which the places
-- count along.
pub record HasPlaces (f : Function) : Type 0 where
  pub rising :
      All (λ (b : Block). IsStrictlyIncreasing (flat_map own_place (statements b))) (blocks f)
  pub different : AllPairs (λ a b. a ≢ b) (flat_map places_in (all_statements f))
