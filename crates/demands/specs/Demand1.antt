-- Demand 1. "Every call takes any table and any event. It ends, and it refuses with a number fixed beforehand; a refused call changes no byte of the table." Assumes nothing.
use Rattle.std.specs.Prelude.{◌≤◌, ◌≡◌}
use Rattle.protocol.specs.Events.{Thread, Resource}
use Rattle.table.specs.declared.Table.{Table}
use Rattle.table.specs.Table.{empty}
use Rattle.refusals.specs.declared.Record.{Record}
use Rattle.demands.specs.Memory.{AnyTable, AnyRecord}
use Rattle.demands.specs.Calls.{Calls}
use Rattle.demands.specs.Fixed.{StepFixed, RunningFixed, ThreadFixed, ResourceFixed}

-- Each call ends with an answer, whatever it is lent and given: it is proved to give one, and asks for nothing. The first leaves the empty table; what the others leave is as specs/Fixed says.
pub record Demand1 (c : Calls) : Type 0 where
  pub empty : (t : Table) → AnyTable t → c.empty t ≡ empty
  pub step : (t : Table) (e : Record) → AnyTable t → AnyRecord e → StepFixed t e (c.step t e)
  pub running : (t : Table) → AnyTable t → RunningFixed t (c.running t)
  pub thread : (t : Table) (th : Thread) → AnyTable t → th ≤ 255 → ThreadFixed t th (c.thread t th)
  pub resource : (t : Table) (cs : Resource) → AnyTable t → cs ≤ 255 → ResourceFixed t cs (c.resource t cs)
