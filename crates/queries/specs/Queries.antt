-- The three queries. They change nothing: an answer holds numbers, and no table. Assumes nothing.
use Rattle.std.specs.Prelude.{ℕ, cond, not, List, [], ◌∷◌, eqb, ltb, length}
use Rattle.protocol.specs.Events.{Thread, Resource}
use Rattle.table.specs.declared.Table.{Table}
use Rattle.table.specs.Table.{at, own, queues}
use Rattle.table.specs.Compute.{is_live, runner, current, waits_for, holder}
use Rattle.refusals.specs.Refusals.{Refusal, unsound, lowest}
use Rattle.queries.specs.declared.RunningAnswer.{RunningAnswer}
use Rattle.queries.specs.declared.ThreadAnswer.{ThreadAnswer}
use Rattle.queries.specs.declared.ResourceAnswer.{ResourceAnswer}

-- Running: refused with 1,
unfoldable pub running_refusals : Table → List Refusal
running_refusals t = unsound t ∷ []

-- or 0 with the id or 32; on a refusal it reports 32.
unfoldable pub running_answer : Table → RunningAnswer
running_answer t =
    let n = lowest (running_refusals t) in
    let r = runner t in
    record { number = n; running = cond (eqb n 0) r 32 }

-- Thread: refused with 1, 3 or 7, the lowest that applies,
unfoldable pub thread_refusals : Table → Thread → List Refusal
thread_refusals t th = unsound t ∷ (record { number = 3; applies = ltb 31 th } ∷ (record { number = 7; applies = not (is_live t th) } ∷ []))

-- and then all else is zero;
abbrev pub thread_refused : ℕ → ThreadAnswer
thread_refused n = record { number = n; priority = 0; time = 0; current_priority = 0; current_time = 0; waits_for = 0; requests = 0; releases = 0 }

-- or 0 with own priority, set time, current precedence, the resource waited for (16 if none) and both totals
unfoldable pub thread_told : Table → Thread → ThreadAnswer
thread_told t th = record { number = 0; priority = (own t th).0; time = (own t th).1; current_priority = (current t th).0; current_time = (current t th).1; waits_for = waits_for t th; requests = at t.requests th; releases = at t.releases th }

-- the answer of the thread query: the refusal, or what the table tells
unfoldable pub thread_answer : Table → Thread → ThreadAnswer
thread_answer t th =
    let n = lowest (thread_refusals t th) in
    let yes = thread_told t th in
    let no = thread_refused n in
    cond (eqb n 0) yes no

-- the number of waiters in a queue: all but the first
unfoldable pub waiters : List Thread → ℕ
waiters [] = 0
waiters (h ∷ ws) = length ws

-- Resource: refused with 1, or 4 for a resource above 15,
unfoldable pub resource_refusals : Table → Resource → List Refusal
resource_refusals t cs = unsound t ∷ (record { number = 4; applies = ltb 15 cs } ∷ [])

-- and then all else is zero;
abbrev pub resource_refused : ℕ → ResourceAnswer
resource_refused n = record { number = n; holder = 0; waiters = 0 }

-- or 0 with the holder (32 if free) and the number of waiters
unfoldable pub resource_told : Table → Resource → ResourceAnswer
resource_told t cs = record { number = 0; holder = holder t cs; waiters = waiters (queues t cs) }

-- the answer of the resource query: the refusal, or what the table tells
unfoldable pub resource_answer : Table → Resource → ResourceAnswer
resource_answer t cs =
    let n = lowest (resource_refusals t cs) in
    let yes = resource_told t cs in
    let no = resource_refused n in
    cond (eqb n 0) yes no
