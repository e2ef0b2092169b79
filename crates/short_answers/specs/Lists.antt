-- Answers in order, and how they are kept.
use Rattle.std.specs.Prelude.{ℕ, ◌≤◌, List, length, All}
use Rattle.nf_base.specs.declared.done.Done.{Done}
use Rattle.short_answers.specs.declared.answer.Answer.{Answer}
use Rattle.short_answers.specs.Answers.{IsThere}

-- what packets came to, and for how many answers there is room
pub record AnswerList : Type 0 where
  pub answers : List Done
  pub room : ℕ

-- no more are kept whole than are kept, and each one is there
pub record AreKept (whole : List Done) (kept : List Answer) : Type 0 where
  pub fewer : length whole ≤ length kept
  pub there : All (IsThere (length whole)) kept
