-- The five calls that a kernel links: any functions in their places. Assumes nothing.
use Rattle.std.specs.Prelude.{ℕ}
use Rattle.table.specs.declared.Table.{Table}
use Rattle.refusals.specs.declared.Record.{Record}
use Rattle.queries.specs.declared.RunningAnswer.{RunningAnswer}
use Rattle.queries.specs.declared.ThreadAnswer.{ThreadAnswer}
use Rattle.queries.specs.declared.ResourceAnswer.{ResourceAnswer}
use Rattle.locks.specs.declared.Answer.{Answer}

-- what a call leaves: its answer, and what the table that was lent to it holds afterwards
pub record Left (A : Type 0) : Type 0 where
  pub answer : A
  pub table : Table

-- five functions in the places of the calls: each takes what the lent table holds, and its other arguments
pub record Calls : Type 0 where
  pub empty : Table → Table
  pub step : Table → Record → Left Answer
  pub running : Table → Left RunningAnswer
  pub thread : Table → ℕ → Left ThreadAnswer
  pub resource : Table → ℕ → Left ResourceAnswer
