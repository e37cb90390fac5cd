-- The three calls of include/terminal.h: any functions in their places, and what the contracts say of these (locktable/src/tasks.rt). They say this and ask nothing: proofs/Contracts shows it of the
-- contracts themselves. Assumes nothing.
use Rattle.std.specs.Prelude.{ℕ, ◌≤◌, ◌≡◌, Option, Some, None, IfSome}
use Rattle.protocol.specs.Events.{Priority}
use Rattle.table.specs.declared.Table.{Table}
use Rattle.locks.specs.declared.Answer.{Answer}
use Rattle.terminal.specs.Start.{started}
use Rattle.terminal.specs.Spare.{spare_answer}
use Rattle.demands.specs.Memory.{AnyTable}
use Rattle.demands.specs.Calls.{Left}

-- three functions in the places of the calls: each takes what the lent table holds, and its other arguments
pub record Terminal : Type 0 where
  pub start : Table → Left Answer
  pub spare : Table → ℕ → Left Answer
  pub spare_at : Table → ℕ → ℕ → Left Answer

-- the call that adds a spare task, by what is wanted
abbrev pub adds : Terminal → Table → ℕ → Option Priority → Left Answer
adds k t id None = k.spare t id
adds k t id (Some priority) = k.spare_at t id priority

-- what is passed to it is bytes
abbrev pub AnyWanted : Option Priority → Type 0
AnyWanted w = IfSome w (λ priority. priority ≤ 255)

abbrev pub StartSays : Left Answer → Type 0
StartSays left = (left.answer ≡ started.answer) × (left.table ≡ started.table)

abbrev pub SpareSays : Table → ℕ → Option Priority → Left Answer → Type 0
SpareSays t id w left = (left.answer ≡ (spare_answer t id w).answer) × (left.table ≡ (spare_answer t id w).table)

-- The three functions do what the contracts say, for any table and any bytes.
pub record AsTold (k : Terminal) : Type 0 where
  pub start : (t : Table) → AnyTable t → StartSays (k.start t)
  pub spare : (t : Table) (id : ℕ) (w : Option Priority) → AnyTable t → id ≤ 255 → AnyWanted w → SpareSays t id w (adds k t id w)
