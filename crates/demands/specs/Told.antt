-- What a table and the answers of the calls say of a state, in the paper's terms. Assumes nothing.
use Rattle.std.specs.Prelude.{◌-◌, ◌≡◌, ◌↔◌, length}
use Rattle.protocol.specs.Sets.{◌∈◌, Names}
use Rattle.protocol.specs.Events.{Thread, Resource, State, threads, prec}
use Rattle.protocol.specs.Schedule.{wq, Holds, Waits, Cprec, running}
use Rattle.protocol.specs.Totals.{requests, releases}
use Rattle.table.specs.declared.Table.{Table}
use Rattle.table.specs.Table.{at, live, own, stored, queues}
use Rattle.queries.specs.declared.RunningAnswer.{RunningAnswer}
use Rattle.queries.specs.declared.ThreadAnswer.{ThreadAnswer}
use Rattle.queries.specs.declared.ResourceAnswer.{ResourceAnswer}

-- the table shows the state: its totals are what the events say, and each of its other fields is what the paper's definitions give
pub record Shows (t : Table) (s : State) : Type 0 where
  -- the clock is the number of accepted events
  pub clock_is : t.clock ≡ length s
  -- the live threads
  pub live_are : (th : Thread) → (th ∈ live t) ↔ (th ∈ threads s)
  -- their own precedences: own priority, and time last set
  pub own_is : (th : Thread) → th ∈ threads s → own t th ≡ prec th s
  -- the queues
  pub queues_are : (cs : Resource) → queues t cs ≡ wq s cs
  -- for each live thread the stored current precedence
  pub current_is : (th : Thread) → th ∈ threads s → Cprec s th (stored t th)
  -- and both totals
  pub requests_are : (th : Thread) → th ∈ threads s → at t.requests th ≡ requests th s
  pub releases_are : (th : Thread) → th ∈ threads s → at t.releases th ≡ releases th s

-- the running query: 0 with the id or 32
abbrev pub RunningTold : State → RunningAnswer → Type 0
RunningTold s a = (a.number ≡ 0) × Names 32 (running s) a.running

-- the thread query: 0 with own priority, set time, current precedence, the resource waited for, 16 if none, and both totals
pub record ThreadTold (s : State) (th : Thread) (a : ThreadAnswer) : Type 0 where
  pub accepted : a.number ≡ 0
  pub own_is : (a.priority, a.time) ≡ prec th s
  pub current_is : Cprec s th (a.current_priority, a.current_time)
  pub waits_for : Names 16 (λ cs. Waits s th cs) a.waits_for
  pub requests_are : a.requests ≡ requests th s
  pub releases_are : a.releases ≡ releases th s

-- the resource query: 0 with the holder, 32 if it is free, and the number of waiters, all in the queue but the first
pub record ResourceTold (s : State) (cs : Resource) (a : ResourceAnswer) : Type 0 where
  pub accepted : a.number ≡ 0
  pub holder_is : Names 32 (λ th. Holds s th cs) a.holder
  pub waiters_are : a.waiters ≡ length (wq s cs) - 1
