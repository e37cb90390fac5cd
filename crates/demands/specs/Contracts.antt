-- What the contract of each call that the kernel links (locktable/src/lib.rt) says of what the lent table held, the call's other arguments and what it leaves. It says this and asks nothing:
-- proofs/Contracts shows it of the contracts themselves. Assumes nothing.
use Rattle.std.specs.Prelude.{ℕ, ◌≡◌}
use Rattle.table.specs.declared.Table.{Table}
use Rattle.table.specs.Table.{empty}
use Rattle.refusals.specs.declared.Record.{Record}
use Rattle.queries.specs.declared.RunningAnswer.{RunningAnswer}
use Rattle.queries.specs.declared.ThreadAnswer.{ThreadAnswer}
use Rattle.queries.specs.declared.ResourceAnswer.{ResourceAnswer}
use Rattle.queries.specs.Queries.{running_answer, thread_answer, resource_answer}
use Rattle.locks.specs.declared.Answer.{Answer}
use Rattle.locks.specs.Answers.{answer_of}
use Rattle.demands.specs.Calls.{Left}

abbrev pub EmptySays : Table → Table → Type 0
EmptySays t u = u ≡ empty

abbrev pub StepSays : Table → Record → Left Answer → Type 0
StepSays t e left = (left.answer ≡ (answer_of t e).answer) × (left.table ≡ (answer_of t e).table)

abbrev pub RunningSays : Table → Left RunningAnswer → Type 0
RunningSays t left = (left.answer ≡ running_answer t) × (left.table ≡ t)

abbrev pub ThreadSays : Table → ℕ → Left ThreadAnswer → Type 0
ThreadSays t th left = (left.answer ≡ thread_answer t th) × (left.table ≡ t)

abbrev pub ResourceSays : Table → ℕ → Left ResourceAnswer → Type 0
ResourceSays t cs left = (left.answer ≡ resource_answer t cs) × (left.table ≡ t)
