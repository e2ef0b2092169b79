-- What texts and lines stand for.
use Rattle.std.specs.Prelude.{List, map}
use Rattle.nf_base.specs.View.{expression_of}
use Rattle.path_walk.specs.declared.test.Text.{Text}
use Rattle.path_walk.specs.declared.line.Line.{Line}
use Rattle.path_walk.specs.declared.line.Line.TheVariants.{Stop, Free, Test, Make}
use Rattle.path_walk.specs.Tests.{TestText}

-- a test as it is compared
abbrev pub text_seen : Text → TestText
text_seen t = record {
  sign = t.sign;
  left = expression_of t.left.now;
  right = expression_of t.right.now;
}

-- a line with another name for its test
abbrev pub line_map : {A B : Type 0} → (A → B) → Line A → Line B
line_map f Stop = Stop
line_map f (Free hit miss) = Free hit miss
line_map f (Test test exchanged hit miss) = Test (f test) exchanged hit miss
line_map f (Make made taken full) = Make made taken full

abbrev pub lines_seen : List (Line Text) → List (Line TestText)
lines_seen lines = map (line_map text_seen) lines
