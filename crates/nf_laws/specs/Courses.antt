-- The statements that a course comes to, each in its context.
use Rattle.std.specs.Prelude.{◌≡◌, ℕ, Some, None, Contains}
use Rattle.nf_base.specs.declared.done.Action.{Action}
use Rattle.nf_base.specs.Text.{Ending, FallsOff, Operation, Question, Creation, Block, End, Do, Ask, Make}
use Rattle.nf_base.specs.Statements.{Statement, Ends, Does, Asks, Makes, statements}
use Rattle.nf_base.specs.Context.{Context, Input}
use Rattle.nf_base.specs.Operations.{Stops, Made, Taken, Full, new_result, with_new, answer, after}
use Rattle.nf_base.specs.Course.{Normal, Ended, exec}

-- From a context a course comes to the first statement of its block. Behind an operation it goes on
-- after that; behind a question and a `new` in the block that they branch to, and where that falls
-- off, behind it.
pub data Comes (stops : Stops) (p : Input) : Block → Context → Statement → Context → Type 0 where
  to_end : (e : Ending) (c : Context) → Comes stops p (End e) c (Ends e) c
  to_do : (op : Operation) (next : Block) (c : Context) → Comes stops p (Do op next) c (Does op) c
  to_ask : (q : Question) (hit miss next : Block) (c : Context) →
      Comes stops p (Ask q hit miss next) c (Asks q) c
  to_make : (n : Creation) (made taken full next : Block) (c : Context) →
      Comes stops p (Make n made taken full next) c (Makes n) c
  behind_do : (op : Operation) (next : Block) (c : Context) (s : Statement) (d : Context) →
      Comes stops p next (after p c op) s d → Comes stops p (Do op next) c s d
  into_hit : (q : Question) (hit miss next : Block) (c b : Context) (s : Statement) (d : Context) →
      answer p c q ≡ Some b → Comes stops p hit b s d → Comes stops p (Ask q hit miss next) c s d
  into_miss : (q : Question) (hit miss next : Block) (c : Context) (s : Statement) (d : Context) →
      answer p c q ≡ None → Comes stops p miss c s d → Comes stops p (Ask q hit miss next) c s d
  behind_hit : (q : Question) (hit miss next : Block) (c b e : Context) (s : Statement)
      (d : Context) →
      answer p c q ≡ Some b → exec stops p hit b ≡ Normal e → Comes stops p next e s d →
      Comes stops p (Ask q hit miss next) c s d
  behind_miss : (q : Question) (hit miss next : Block) (c e : Context) (s : Statement)
      (d : Context) →
      answer p c q ≡ None → exec stops p miss c ≡ Normal e → Comes stops p next e s d →
      Comes stops p (Ask q hit miss next) c s d
  into_made : (n : Creation) (made taken full next : Block) (c : Context) (i : ℕ) (s : Statement)
      (d : Context) →
      new_result stops p c n ≡ Made i → Comes stops p made (with_new p c n i) s d →
      Comes stops p (Make n made taken full next) c s d
  into_taken : (n : Creation) (made taken full next : Block) (c : Context) (s : Statement)
      (d : Context) →
      new_result stops p c n ≡ Taken → Comes stops p taken c s d →
      Comes stops p (Make n made taken full next) c s d
  into_full : (n : Creation) (made taken full next : Block) (c : Context) (s : Statement)
      (d : Context) →
      new_result stops p c n ≡ Full → Comes stops p full c s d →
      Comes stops p (Make n made taken full next) c s d
  behind_made : (n : Creation) (made taken full next : Block) (c : Context) (i : ℕ) (e : Context)
      (s : Statement) (d : Context) →
      new_result stops p c n ≡ Made i → exec stops p made (with_new p c n i) ≡ Normal e →
      Comes stops p next e s d → Comes stops p (Make n made taken full next) c s d
  behind_taken : (n : Creation) (made taken full next : Block) (c e : Context) (s : Statement)
      (d : Context) →
      new_result stops p c n ≡ Taken → exec stops p taken c ≡ Normal e →
      Comes stops p next e s d → Comes stops p (Make n made taken full next) c s d
  behind_full : (n : Creation) (made taken full next : Block) (c e : Context) (s : Statement)
      (d : Context) →
      new_result stops p c n ≡ Full → exec stops p full c ≡ Normal e →
      Comes stops p next e s d → Comes stops p (Make n made taken full next) c s d

-- what a course comes to stands in its text
abbrev pub CoursesAreOfTheText : Type 0
CoursesAreOfTheText =
    (stops : Stops) (p : Input) (block : Block) (c : Context) (s : Statement) (d : Context) →
    Comes stops p block c s d → Contains (statements block) s

-- an end that a course comes to, and that ends it so
pub record EndsAt (stops : Stops) (p : Input) (block : Block) (c : Context) (a : Action)
    (d : Context) : Type 0 where
  pub ending : Ending
  pub comes : Comes stops p block c (Ends ending) d
  pub ends : exec stops p (End ending) d ≡ Ended a d

-- a course ends with the action of an end that it comes to, in the context there
abbrev pub CoursesEndWhereTheyCome : Type 0
CoursesEndWhereTheyCome =
    (stops : Stops) (p : Input) (block : Block) (c : Context) (a : Action) (d : Context) →
    exec stops p block c ≡ Ended a d → EndsAt stops p block c a d

-- and where it falls off, it comes to such an end, in the context there
abbrev pub CoursesFallOffAtAnEnd : Type 0
CoursesFallOffAtAnEnd = (stops : Stops) (p : Input) (block : Block) (c d : Context) →
    exec stops p block c ≡ Normal d → Comes stops p block c (Ends FallsOff) d
