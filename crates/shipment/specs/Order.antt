-- "Before any later event each fixed task's precedence is above that of all fixed tasks after it." Assumes nothing.
use Rattle.std.specs.Prelude.{◌<◌, List}
use Rattle.protocol.specs.Events.{Thread, State, Precedence, prec, Higher}
use Rattle.protocol.specs.Schedule.{Cprec}
use Rattle.table.specs.declared.Table.{Table}
use Rattle.table.specs.Table as table
use Rattle.table.specs.Table.{stored}
use Rattle.demands.specs.Memory.{AnyTable}
use Rattle.demands.specs.Calls.{Calls}
use Rattle.shipment.specs.Calls.{Terminal}
use Rattle.shipment.specs.Shipped.{Act, AnyActs, table_since, fixed_tasks, Shipped}

-- the sixteen precedences fall: each is above all after it
abbrev pub Falls : (Thread → Precedence) → Type 0
Falls p = (i j : Thread) → i < j → j < 16 → Higher (p i) (p j)

-- So it is with their own precedences in the state s, and with their current ones,
pub record InOrder (s : State) : Type 0 where
  pub own : Falls (λ i. prec i s)
  pub current : (i j : Thread) → i < j → j < 16 → (m n : Precedence) → Cprec s i m → Cprec s j n → Higher m n

-- and with both in the kernel's table, after the start and any acts of which none was an accepted event.
pub record OrderKept (c : Calls) (k : Terminal) : Type 0 where
  pub state : InOrder fixed_tasks
  pub own : (t : Table) (acts : List Act) → AnyTable t → AnyActs acts → Shipped c k t acts fixed_tasks → Falls (table.own (table_since c k t acts))
  pub current : (t : Table) (acts : List Act) → AnyTable t → AnyActs acts → Shipped c k t acts fixed_tasks → Falls (stored (table_since c k t acts))
