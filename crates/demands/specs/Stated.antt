-- Functions in the places of the calls that do what the contracts say. Assumes nothing.
use Rattle.std.specs.Prelude.{ℕ, ◌≤◌}
use Rattle.table.specs.declared.Table.{Table}
use Rattle.refusals.specs.declared.Record.{Record}
use Rattle.demands.specs.Memory.{AnyTable, AnyRecord}
use Rattle.demands.specs.Calls.{Calls}
use Rattle.demands.specs.Contracts.{EmptySays, StepSays, RunningSays, ThreadSays, ResourceSays}

-- The five functions do what the contracts of the calls say, for any table and any bytes.
pub record AsStated (c : Calls) : Type 0 where
  pub empty : (t : Table) → AnyTable t → EmptySays t (c.empty t)
  pub step : (t : Table) (e : Record) → AnyTable t → AnyRecord e → StepSays t e (c.step t e)
  pub running : (t : Table) → AnyTable t → RunningSays t (c.running t)
  pub thread : (t : Table) (th : ℕ) → AnyTable t → th ≤ 255 → ThreadSays t th (c.thread t th)
  pub resource : (t : Table) (cs : ℕ) → AnyTable t → cs ≤ 255 → ResourceSays t cs (c.resource t cs)
