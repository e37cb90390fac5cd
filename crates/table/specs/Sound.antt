-- When a table is sound: rules for its fields, its queues, its totals and its stored current precedences. Assumes nothing.
use Rattle.std.specs.Prelude.{ℕ, ◌+◌, ◌*◌, ◌≤◌, ◌<◌, ◌≡◌}
use Rattle.protocol.specs.Sets.{◌∈◌, set, Distinct}
use Rattle.protocol.specs.Events.{Thread, Resource}
use Rattle.protocol.specs.Graph.{Node}
use Rattle.protocol.specs.Ways.{Way}
use Rattle.protocol.specs.Totals.{Balanced}
use Rattle.table.specs.declared.Table.{Table}
use Rattle.table.specs.Table.{at, slot, dead_slot, live, stored, queues, Waits, Cprec}

-- live threads have set times below the clock, all different
pub record TimesRight (t : Table) : Type 0 where
  pub below_clock : (th : Thread) → th ∈ live t → at t.time th < t.clock
  pub different : (th₁ th₂ : Thread) → th₁ ∈ live t → th₂ ∈ live t → at t.time th₁ ≡ at t.time th₂ → th₁ ≡ th₂

-- queue lengths are at most 32, entries are live and differ within a queue
pub record QueuesRight (t : Table) : Type 0 where
  pub lengths : (cs : Resource) → at t.rows.length cs ≤ 32
  pub live_entries : (cs : Resource) (th : Thread) → th ∈ set (queues t cs) → th ∈ live t
  pub differ : (cs : Resource) → Distinct (queues t cs)

-- requests equal releases plus resources held, plus 1 if the thread waits, and no total is above the clock
pub record TotalsRight (t : Table) : Type 0 where
  -- of each live thread
  pub balance : (th : Thread) → th ∈ live t → Balanced (queues t) th (at t.requests th) (at t.releases th)
  -- of every slot
  pub low : (th : Thread) → (at t.requests th ≤ t.clock) × (at t.releases th ≤ t.clock)

-- the rules that say nothing of the totals and of the stored current precedences
pub record Bare (t : Table) : Type 0 where
  -- the clock is in range
  pub clock : t.clock ≤ 65535
  -- priorities are at most 255
  pub priorities : (th : Thread) → at t.priority th ≤ 255
  -- dead slots are zero
  pub dead_slots : (th : Thread) → ¬ (th ∈ live t) → slot t th ≡ dead_slot
  -- queue places beyond a length are zero
  pub spare_places : (cs : Resource) (i : ℕ) → cs < 16 → at t.rows.length cs ≤ i → i < 32 → at t.rows.queue (cs * 32 + i) ≡ 0
  -- live threads have set times below the clock, all different
  pub times : TimesRight t
  -- queue lengths are at most 32, entries are live and differ within a queue
  pub queues_right : QueuesRight t
  -- no thread waits in two queues
  pub one_wait : (th : Thread) (cs₁ cs₂ : Resource) → Waits t th cs₁ → Waits t th cs₂ → cs₁ ≡ cs₂
  -- going from a thread to the resource it waits for, from a resource to its holder, and so on, ends from every start
  pub ways_end : (a : Node) → (k : ℕ) × Way (queues t) a k

-- a table is sound when all of these hold, and besides:
pub record Sound (t : Table) : Type 0 where
  pub bare : Bare t
  -- in dead slots the stored current precedences are zero too
  pub dead_stored : (th : Thread) → ¬ (th ∈ live t) → stored t th ≡ (0, 0)
  -- each of these is the defined one; for threads that aren't live nothing is claimed but the zeros above
  pub current : (th : Thread) → th ∈ live t → Cprec t th (stored t th)
  -- the totals are in balance, and none is above the clock
  pub totals : TotalsRight t
