-- What the step and the queries leave on any table, sound or not: their numbers, fixed beforehand; all of it where they refuse; and that no query changes the table. Assumes nothing.
use Rattle.std.specs.Prelude.{ℕ, suc, ◌≤◌, ◌<◌, ◌≡◌}
use Rattle.protocol.specs.Sets.{◌∈◌, Names}
use Rattle.protocol.specs.Events.{Thread, Resource}
use Rattle.table.specs.declared.Table.{Table}
use Rattle.table.specs.Table.{live, running}
use Rattle.table.specs.Sound.{Sound}
use Rattle.refusals.specs.declared.Record.{Record}
use Rattle.refusals.specs.Applies.{Given}
use Rattle.queries.specs.declared.RunningAnswer.{RunningAnswer}
use Rattle.queries.specs.declared.ThreadAnswer.{ThreadAnswer}
use Rattle.queries.specs.declared.ResourceAnswer.{ResourceAnswer}
use Rattle.queries.specs.Queries.{thread_refused, resource_refused}
use Rattle.locks.specs.declared.Answer.{Answer}
use Rattle.demands.specs.Memory.{AnyTable}
use Rattle.demands.specs.Calls.{Left}

-- The step: the number is the one that document 01's table of refusals gives. "A refusal's count is 0 and its table is the one given; its running thread is that table's, except that refusal 1
-- reports 32." An accepted event on a sound table, reached or not, leaves a sound one, names its running thread, and counts at most 16.
pub data StepFixed (t : Table) (e : Record) : Left Answer → Type 0 where
  not_sound : ¬ Sound t → StepFixed t e (record { answer = record { number = 1; running = 32; count = 0 }; table = t })
  refused : {n r : ℕ} → Sound t → Given t e (suc n) → Names 32 (running t) r → StepFixed t e (record { answer = record { number = suc n; running = r; count = 0 }; table = t })
  accepted : {u : Table} {r k : ℕ} → Sound t → Given t e 0 → Sound u → AnyTable u → Names 32 (running u) r → k ≤ 16 → StepFixed t e (record { answer = record { number = 0; running = r; count = k }; table = u })

-- Running: 1, and then it reports 32; or 0 with the id or 32
pub data RunningFixed (t : Table) : Left RunningAnswer → Type 0 where
  not_sound : ¬ Sound t → RunningFixed t (record { answer = record { number = 1; running = 32 }; table = t })
  told : {r : ℕ} → Sound t → Names 32 (running t) r → RunningFixed t (record { answer = record { number = 0; running = r }; table = t })

-- Thread: 1, 3 or 7, and then it reports zeros; or 0
pub data ThreadFixed (t : Table) (th : Thread) : Left ThreadAnswer → Type 0 where
  not_sound : ¬ Sound t → ThreadFixed t th (record { answer = thread_refused 1; table = t })
  no_thread : Sound t → 31 < th → ThreadFixed t th (record { answer = thread_refused 3; table = t })
  not_live : Sound t → th < 32 → ¬ (th ∈ live t) → ThreadFixed t th (record { answer = thread_refused 7; table = t })
  told : {a : ThreadAnswer} → Sound t → th ∈ live t → a.number ≡ 0 → ThreadFixed t th (record { answer = a; table = t })

-- Resource: 1, or 4 for a resource above 15, and then it reports zeros; or 0
pub data ResourceFixed (t : Table) (cs : Resource) : Left ResourceAnswer → Type 0 where
  not_sound : ¬ Sound t → ResourceFixed t cs (record { answer = resource_refused 1; table = t })
  no_resource : Sound t → 15 < cs → ResourceFixed t cs (record { answer = resource_refused 4; table = t })
  told : {a : ResourceAnswer} → Sound t → cs < 16 → a.number ≡ 0 → ResourceFixed t cs (record { answer = a; table = t })
