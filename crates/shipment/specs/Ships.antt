-- The terminal's calls are calls of the lock table, so what is proved of any run of those holds of a run with these. Assumes nothing.
use Rattle.std.specs.Prelude.{ℕ, zero, suc, ◌≤◌, ◌<◌, ◌≡◌, ◌↔◌, cond, List, [], ◌∷◌, ◌++◌, map, length, Option}
use Rattle.protocol.specs.Sets.{◌∈◌, Names}
use Rattle.protocol.specs.Events.{State, threads, Priority}
use Rattle.protocol.specs.Schedule.{running}
use Rattle.table.specs.declared.Table.{Table}
use Rattle.table.specs.Table.{at}
use Rattle.terminal.specs.Tasks.{priorities, is_spare, creation}
use Rattle.terminal.specs.Spare.{addition}
use Rattle.demands.specs.Memory.{AnyTable}
use Rattle.demands.specs.Calls.{Calls}
use Rattle.demands.specs.Runs as runs
use Rattle.demands.specs.Runs.{Call, event, ask, table_after}
use Rattle.demands.specs.Demand2.{After}
use Rattle.shipment.specs.Calls.{Terminal, adds, AnyWanted}
use Rattle.shipment.specs.Shipped.{Act, call, add, AnyActs, table_since, Shipped}

-- the steps that create the tasks 0 to n
abbrev pub calls_to : ℕ → List Call
calls_to zero = event (creation 0 (at priorities 0)) ∷ []
calls_to (suc n) = event (creation (suc n) (at priorities (suc n))) ∷ calls_to n

-- an act as a call of the lock table: to add a spare task is a step with its Create, and with an id that is no spare task's it is no event, as the running query is none
abbrev pub as_call : Act → Call
as_call (call x) = x
as_call (add id w) = cond (is_spare id) (event (addition id w)) (ask runs.running)

-- the start and the acts as calls of the lock table, from `locktable_empty` on
abbrev pub calls_of : List Act → List Call
calls_of acts = map as_call acts ++ calls_to 15

-- What is so after the acts, refused ones and queries included, of a kernel whose table held t before the start:
pub record Ships (c : Calls) (k : Terminal) (t : Table) (acts : List Act) (s : State) : Type 0 where
  -- s is the accepted events, and nothing else is
  pub shipped : Shipped c k t acts s
  pub only : (s' : State) → Shipped c k t acts s' → s' ≡ s
  -- the table is that of the calls of the lock table, and what is so after those is so
  pub table_is : table_since c k t acts ≡ table_after c t (calls_of acts)
  pub after : After c t (calls_of acts) s
  -- a spare task is added exactly if its id is one of 16 to 31 and isn't live, and fewer than 65,535 events were accepted
  pub admits : (id : ℕ) (w : Option Priority) → id ≤ 255 → AnyWanted w → ((adds k (table_since c k t acts) id w).answer.number ≡ 0) ↔ ((16 ≤ id) × (id ≤ 31) × (¬ (id ∈ threads s)) × (length s < 65535))
  -- and the answer names the running thread of the state afterwards
  pub answer_names : (id : ℕ) (w : Option Priority) → id ≤ 255 → AnyWanted w → (s' : State) → Shipped c k t (add id w ∷ acts) s' → Names 32 (running s') (adds k (table_since c k t acts) id w).answer.running

-- for any acts, from the start on, whatever the kernel's table held before
abbrev pub Demand2Since : Calls → Terminal → Type 0
Demand2Since c k = (t : Table) → AnyTable t → (acts : List Act) → AnyActs acts → (s : State) × Ships c k t acts s
