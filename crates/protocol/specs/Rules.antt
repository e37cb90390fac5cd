-- Document 000, section 2: which event can happen next, and which states come about. Assumes nothing.
use Rattle.std.proofs.Math.Option.{Option, none, some}
use Rattle.std.specs.Prelude.{[], ◌∷◌}
use Rattle.protocol.specs.Sets.{◌∈◌}
use Rattle.protocol.specs.Events.{Thread, Priority, Resource, Event, Create, Exit, Set, P, «V», State, threads}
use Rattle.protocol.specs.Graph.{T, C, ◌⁺}
use Rattle.protocol.specs.Schedule.{Holds, Waits, RAG, running, resources}

-- who may hold cs next: one of the waiters, or nobody where nobody waits
abbrev pub MayFollow : State → Resource → Option Thread → Type 0
MayFollow s cs (some th) = Waits s th cs
MayFollow s cs none = (th : Thread) → ¬ Waits s th cs

-- step: the five rules
pub data Step (s : State) : Event → Type 0 where
  -- a thread is created if it is not live
  create : {th : Thread} {prio : Priority} → ¬ (th ∈ threads s) → Step s (Create th prio)
  -- a thread exits if it runs and has locked nothing
  exit : {th : Thread} → th ∈ running s → ((cs : Resource) → ¬ (cs ∈ resources s th)) → Step s (Exit th)
  -- a thread's priority is set if it runs
  set : {th : Thread} {prio : Priority} → th ∈ running s → Step s (Set th prio)
  -- a thread requests a resource if it runs and no way leads from the resource to it
  request : {th : Thread} {cs : Resource} → th ∈ running s → ¬ (RAG s ⁺) (C cs) (T th) → Step s (P th cs)
  -- a thread releases a resource if it runs and holds it
  release : {th : Thread} {cs : Resource} {next : Option Thread} → th ∈ running s → Holds s th cs → MayFollow s cs next → Step s («V» th cs next)

-- valid: the state came about by the rules, from the beginning
pub data Valid : State → Type 0 where
  start : Valid []
  after : {s : State} {e : Event} → Valid s → Step s e → Valid (e ∷ s)
