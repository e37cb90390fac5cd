-- The events that a table permits: the paper's rules, and the table's limits. Assumes nothing.
use Rattle.std.specs.Prelude.{◌≤◌, ◌<◌}
use Rattle.std.proofs.Math.Option.{Option}
use Rattle.protocol.specs.Sets.{◌∈◌}
use Rattle.protocol.specs.Events.{Thread, Priority, Resource, Event, Create, Exit, Set, P, «V»}
use Rattle.protocol.specs.Graph.{T, C, RAG, ◌⁺}
use Rattle.protocol.proofs.Lists.{Follows}
use Rattle.table.specs.declared.Table.{Table}
use Rattle.table.specs.Table.{live, queues, Holds, running}

pub data Permits (t : Table) : Event → Type 0 where
  create : {th : Thread} {prio : Priority} → th < 32 → prio ≤ 255 → ¬ (th ∈ live t) → Permits t (Create th prio)
  exit : {th : Thread} → th ∈ running t → ((cs : Resource) → ¬ Holds t th cs) → Permits t (Exit th)
  set : {th : Thread} {prio : Priority} → th ∈ running t → prio ≤ 255 → Permits t (Set th prio)
  request : {th : Thread} {cs : Resource} → th ∈ running t → cs < 16 → ¬ (RAG (queues t) ⁺) (C cs) (T th) → Permits t (P th cs)
  release : {th : Thread} {cs : Resource} {next : Option Thread} → th ∈ running t → Holds t th cs → Follows (queues t cs) next → Permits t («V» th cs next)
