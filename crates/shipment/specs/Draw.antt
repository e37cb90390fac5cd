-- The draw task's theorem: what is proved of any highest thread, of task 0 in a started shipment. Take a moment of the shipment at which the draw is live at 250 and every other live task's own priority is below 250. Suppose that
-- afterwards nobody sets or ends task 0, and no task is created with or set to a priority above 250. Then any other task that runs was live at that moment, has held or waited for a resource ever since,
-- and runs at exactly the draw's precedence. So nobody who came later, and no task that held and waited for nothing, runs ahead of the draw. Assumes nothing.
use Rattle.std.specs.Prelude.{ℕ, ◌*◌, ◌≤◌, ◌<◌, ◌≡◌, ◌≢◌, List, ◌++◌}
use Rattle.protocol.specs.Sets.{◌∈◌, set, Number}
use Rattle.protocol.specs.Events.{Thread, Event, Create, Exit, Set, P, «V», State, threads, priority, last_set}
use Rattle.protocol.specs.Schedule.{Cprec, running}
use Rattle.protocol.specs.Demand3.{Moment, HoldsOrWaits, Spares, calls, calls_of_others, others, Until}
use Rattle.table.specs.declared.Table.{Table}
use Rattle.table.specs.Table.{stored}
use Rattle.demands.specs.Memory.{AnyTable}
use Rattle.demands.specs.Calls.{Calls}
use Rattle.shipment.specs.Calls.{Terminal}
use Rattle.shipment.specs.Shipped.{Act, AnyActs, table_since, fixed_tasks, Shipped}

-- The kernel's table held t before the start. The moment is after the acts, and acts' are those since; s and s' are the events of theirs that were accepted, those of the start among
-- the first: there always are such (`events_since`, proofs/Ships).
pub record Since (c : Calls) (k : Terminal) (t : Table) (acts acts' : List Act) (s s' : List Event) : Type 0 where
  pub memory : AnyTable t
  pub bytes : AnyActs (acts' ++ acts)
  pub moment : Shipped c k t acts s
  pub later : Shipped c k t (acts' ++ acts) (s' ++ s)
  -- at the moment the draw is live at 250, and every other live task's own priority is below 250
  pub live : 0 ∈ threads s
  pub at_250 : priority 0 s ≡ 250
  pub others_below : (u : Thread) → u ∈ threads s → u ≢ 0 → priority u s < 250
  -- none of the events since sets or ends task 0, creates a task with, or sets one to, a priority above 250
  pub spared : (e : Event) → e ∈ set s' → Spares 0 250 e

-- the event gives no other task than the draw a priority of 250 or more; where all since the start are such, every other task's priority stays below 250 (`stay_below`, proofs/Draw)
abbrev pub Below250 : Event → Type 0
Below250 (Create u prio) = u ≢ 0 → prio < 250
Below250 (Exit u) = Unit {0}
Below250 (Set u prio) = u ≢ 0 → prio < 250
Below250 (P u cs) = Unit {0}
Below250 («V» u cs next) = Unit {0}

pub record DrawFirst (c : Calls) (k : Terminal) : Type 0 where
  -- any other that runs; the precedence is both the paper's and the stored one
  pub who_runs : (t : Table) (acts acts' : List Act) (s s' : List Event) → Since c k t acts acts' s s' → (u : Thread) → u ∈ running (s' ++ s) → u ≢ 0 →
      (u ∈ threads s) × ((m : State) → Moment s s' m → HoldsOrWaits m u) × Cprec (s' ++ s) u (250, last_set 0 s) × (stored (table_since c k t (acts' ++ acts)) u ≡ (250, last_set 0 s))
  -- so nobody who came later runs,
  pub none_later : (t : Table) (acts acts' : List Act) (s s' : List Event) → Since c k t acts acts' s s' → (u : Thread) → u ≢ 0 → ¬ (u ∈ threads s) → ¬ (u ∈ running (s' ++ s))
  -- and no task that held and waited for nothing, then or at any moment since
  pub none_free : (t : Table) (acts acts' : List Act) (s s' : List Event) → Since c k t acts acts' s s' → (u : Thread) → u ≢ 0 → (m : State) → Moment s s' m → ¬ HoldsOrWaits m u → ¬ (u ∈ running (s' ++ s))
  -- how many calls the others make: if n others hold or wait at the moment, and each makes at most K until it first does neither
  pub how_many : (t : Table) (acts acts' : List Act) (s s' : List Event) → Since c k t acts acts' s s' → (n K : ℕ) → Number (others s 0) n →
      ((u : Thread) → u ∈ others s 0 → (calls_until : List Event) → Until u s s' calls_until → calls u calls_until ≤ K) → calls_of_others 0 s' ≤ n * K
  -- From the started shipment on nobody holds or waits for anything, so there the draw itself runs, and the running query names it, as long as nobody sets or ends it and nobody is
  -- created or set above 250.
  pub from_the_start : (t : Table) (acts : List Act) (s : List Event) → AnyTable t → AnyActs acts → Shipped c k t acts (s ++ fixed_tasks) → ((e : Event) → e ∈ set s → Spares 0 250 e) →
      (0 ∈ running (s ++ fixed_tasks)) × ((c.running (table_since c k t acts)).answer.running ≡ 0)
