-- The theorems as they are used, for any kernel: what they suppose is handed over one by one as the words have it, and no more; and each thing that they say is taken. Assumes nothing.
use Rattle.std.specs.Prelude.{Option}
use Prim.Native.Nat.{ℕ, ◌*◌, ◌≤◌, ◌<◌}
use mathlib.Core.Path.{◌≡◌, sym, ◌∙◌}
use mathlib.Core.Logic.{◌≢◌}
use mathlib.Core.List.{List, ◌∷◌, ◌++◌}
use native.Mathlib.Omega.{arith}
use lib.ListN.{length}
use Rattle.protocol.specs.Sets.{◌∈◌, set, Names, Number}
use Rattle.protocol.specs.Events.{Thread, Event, Create, State, threads, priority, last_set, Higher, Priority}
use Rattle.protocol.specs.Schedule.{Cprec, running}
use Rattle.protocol.specs.Demand3.{Moment, HoldsOrWaits, Spares, calls, calls_of_others, others, Until}
use Rattle.table.specs.declared.Table.{Table}
use Rattle.table.specs.Table.{own, stored}
use Rattle.terminal.specs.Spare.{priority_of}
use Rattle.demands.specs.Memory.{AnyTable}
use Rattle.demands.specs.Calls.{Calls}
use Rattle.demands.specs.Runs.{table_after}
use Rattle.demands.specs.Demand2.{After}
use Rattle.shipment.specs.Calls.{Terminal, adds, AnyWanted}
use Rattle.shipment.specs.Shipped.{Act, add, AnyActs, table_since, fixed_tasks, Shipped, added}
use Rattle.shipment.specs.Ships.{calls_of, Demand2Since}
use Rattle.shipment.specs.Order.{OrderKept}
use Rattle.shipment.specs.Draw.{Since, DrawFirst}

module _ (c : Calls) (k : Terminal) (d : Demand2Since c k) (t : Table) (memory : AnyTable t) (acts : List Act) (bytes : AnyActs acts) where
  -- any acts have their accepted events, and no others
  pub events_of : (s : State) × Shipped c k t acts s
  events_of = let w = d t memory acts bytes in (w.0, w.1.shipped)

  pub events_one : (s s' : State) → Shipped c k t acts s → Shipped c k t acts s' → s ≡ s'
  events_one s s' h h' = let x = (d t memory acts bytes).1 in x.only s h ∙ sym (x.only s' h')

  -- what is so after any calls of the lock table is so after the acts
  pub shows_acts : After c t (calls_of acts) events_of.0 × (table_since c k t acts ≡ table_after c t (calls_of acts))
  unfolding events_of
  shows_acts = let w = d t memory acts bytes in (w.1.after, w.1.table_is)

  -- a spare task with an id of its own, that isn't live, is added while there are events left, and the state says so
  pub is_added : (id : ℕ) (w : Option Priority) → AnyWanted w → 16 ≤ id → id ≤ 31 → ¬ (id ∈ threads events_of.0) → length events_of.0 < 65535 → Shipped c k t (add id w ∷ acts) (Create id (priority_of w) ∷ events_of.0)
  unfolding events_of
  is_added id w p low high dead early = let x = (d t memory acts bytes).1 in added x.shipped ((x.admits id w (omega arith) p).1 (low, high, dead, early))

  -- and the answer names who runs then
  pub added_names : (id : ℕ) (w : Option Priority) → id ≤ 255 → AnyWanted w → (s : State) → Shipped c k t (add id w ∷ acts) s → Names 32 (running s) (adds k (table_since c k t acts) id w).answer.running
  added_names = (d t memory acts bytes).1.answer_names

-- before any later event a task's precedence, own and current, is above that of the task after it
pub next_lower : (c : Calls) (k : Terminal) → OrderKept c k → (t : Table) → AnyTable t → (acts : List Act) → AnyActs acts → Shipped c k t acts fixed_tasks → (i j : Thread) → i < j → j < 16 →
    Higher (own (table_since c k t acts) i) (own (table_since c k t acts) j) × Higher (stored (table_since c k t acts) i) (stored (table_since c k t acts) j)
next_lower c k o t memory acts bytes past i j h l = (o.own t acts memory bytes past i j h l, o.current t acts memory bytes past i j h l)

module _ (c : Calls) (k : Terminal) (d : DrawFirst c k) (t : Table) (memory : AnyTable t) (acts acts' : List Act) (s s' : List Event) (bytes : AnyActs (acts' ++ acts)) (moment : Shipped c k t acts s) (later : Shipped c k t (acts' ++ acts) (s' ++ s))
    (live : 0 ∈ threads s) (at_250 : priority 0 s ≡ 250) (others_below : (u : Thread) → u ∈ threads s → u ≢ 0 → priority u s < 250) (spared : (e : Event) → e ∈ set s' → Spares 0 250 e) where
  -- what the sentences suppose is all that is asked
  pub given : Since c k t acts acts' s s'
  given = record { memory = memory; bytes = bytes; moment = moment; later = later; live = live; at_250 = at_250; others_below = others_below; spared = spared }

  module _ (u : Thread) (other : u ≢ 0) where
    pub runs_at_250 : u ∈ running (s' ++ s) → (u ∈ threads s) × ((m : State) → Moment s s' m → HoldsOrWaits m u) × Cprec (s' ++ s) u (250, last_set 0 s) × (stored (table_since c k t (acts' ++ acts)) u ≡ (250, last_set 0 s))
    runs_at_250 run = d.who_runs t acts acts' s s' given u run other

    pub came_later : ¬ (u ∈ threads s) → ¬ (u ∈ running (s' ++ s))
    came_later = d.none_later t acts acts' s s' given u other

    pub was_free : (m : State) → Moment s s' m → ¬ HoldsOrWaits m u → ¬ (u ∈ running (s' ++ s))
    was_free = d.none_free t acts acts' s s' given u other

  pub calls_at_most : (n K : ℕ) → Number (others s 0) n → ((u : Thread) → u ∈ others s 0 → (es : List Event) → Until u s s' es → calls u es ≤ K) → calls_of_others 0 s' ≤ n * K
  calls_at_most = d.how_many t acts acts' s s' given

-- from the start on the draw runs, and the query names it
pub starts_with_the_draw : (c : Calls) (k : Terminal) → DrawFirst c k → (t : Table) → AnyTable t → (acts : List Act) → AnyActs acts → (s : List Event) → Shipped c k t acts (s ++ fixed_tasks) → ((e : Event) → e ∈ set s → Spares 0 250 e) →
    (0 ∈ running (s ++ fixed_tasks)) × ((c.running (table_since c k t acts)).answer.running ≡ 0)
starts_with_the_draw c k d t memory acts bytes s past spared = d.from_the_start t acts s memory bytes past spared
