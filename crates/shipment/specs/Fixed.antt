-- What the terminal's calls leave on any table, sound or not. Assumes nothing.
use Rattle.std.specs.Prelude.{ℕ, ◌≤◌, ◌≡◌, ◌≢◌, Option}
use Rattle.protocol.specs.Sets.{◌∈◌, Names}
use Rattle.protocol.specs.Events.{Thread, Priority}
use Rattle.table.specs.declared.Table.{Table}
use Rattle.table.specs.Table.{slot, live, running}
use Rattle.table.specs.Slots.{fresh_slot}
use Rattle.table.specs.Sound.{Sound}
use Rattle.locks.specs.declared.Answer.{Answer}
use Rattle.terminal.specs.Start.{first_table}
use Rattle.terminal.specs.Spare.{priority_of}
use Rattle.demands.specs.Memory.{AnyTable}
use Rattle.demands.specs.Calls.{Left}
use Rattle.shipment.specs.Calls.{Terminal, adds, AnyWanted}

-- Adding a spare task: 1 first, then 17 for an id outside 16 to 31, then the rest of Create's, of which only 5 and 6 can come. A refusal's count is 0 and its table is the one given; its running thread
-- is that table's, except that refusal 1 reports 32. Accepted: the task is live with the priority wanted, set now; the table is sound again, its running thread is named, and the count is 1.
pub data SpareFixed (t : Table) (id : Thread) (w : Option Priority) : Left Answer → Type 0 where
  not_sound : ¬ Sound t → SpareFixed t id w (record { answer = record { number = 1; running = 32; count = 0 }; table = t })
  not_spare : {r : ℕ} → Sound t → ¬ ((16 ≤ id) × (id ≤ 31)) → Names 32 (running t) r → SpareFixed t id w (record { answer = record { number = 17; running = r; count = 0 }; table = t })
  clock_ended : {r : ℕ} → Sound t → (16 ≤ id) × (id ≤ 31) → t.clock ≡ 65535 → Names 32 (running t) r → SpareFixed t id w (record { answer = record { number = 5; running = r; count = 0 }; table = t })
  live_already : {r : ℕ} → Sound t → (16 ≤ id) × (id ≤ 31) → t.clock ≢ 65535 → id ∈ live t → Names 32 (running t) r → SpareFixed t id w (record { answer = record { number = 6; running = r; count = 0 }; table = t })
  added : {u : Table} {r : ℕ} → Sound t → (16 ≤ id) × (id ≤ 31) → t.clock ≢ 65535 → ¬ (id ∈ live t) → slot u id ≡ fresh_slot (priority_of w) t.clock → Sound u → AnyTable u → Names 32 (running u) r → SpareFixed t id w (record { answer = record { number = 0; running = r; count = 1 }; table = u })

pub record Demand1Since (k : Terminal) : Type 0 where
  -- A start: whatever the table held, it is the one that terminal/specs/Start has in numbers, and the draw runs. It is never refused.
  pub start : (t : Table) → AnyTable t → k.start t ≡ record { answer = record { number = 0; running = 0; count = 1 }; table = first_table }
  pub spare : (t : Table) (id : Thread) (w : Option Priority) → AnyTable t → id ≤ 255 → AnyWanted w → SpareFixed t id w (adds k t id w)
