-- A kernel that starts its shipments with `terminal_start`: the calls that it makes from then on, and the accepted events as the paper writes them. Assumes nothing.
use Rattle.std.specs.Prelude.{ℕ, ◌≤◌, ◌≡◌, ◌≢◌, List, [], ◌∷◌, Option}
use Rattle.protocol.specs.Events.{Event, Create, State, Priority}
use Rattle.table.specs.declared.Table.{Table}
use Rattle.refusals.specs.declared.Record.{Record}
use Rattle.terminal.specs.Spare.{priority_of}
use Rattle.demands.specs.Calls.{Calls}
use Rattle.demands.specs.Runs.{Query, running, thread, resource, Call, event, ask, AnyCall, Writes}
use Rattle.shipment.specs.Calls.{Terminal, adds, AnyWanted}

-- what a kernel calls after `terminal_start`: the step or a query, as any kernel does, or the call that adds a spare task
pub data Act : Type 0 where
  call : Call → Act
  add : ℕ → Option Priority → Act

-- its arguments are bytes
abbrev pub AnyAct : Act → Type 0
AnyAct (call k) = AnyCall k
AnyAct (add id w) = (id ≤ 255) × AnyWanted w

-- Acts stand in a list as calls and events do, the newest first. The arguments of all of them are bytes:
abbrev pub AnyActs : List Act → Type 0
AnyActs [] = Unit {0}
AnyActs (a ∷ acts) = AnyAct a × AnyActs acts

-- what the kernel's table holds after the acts: it held t, whatever that was, and was lent to `terminal_start` and then to each of them
abbrev pub table_since : Calls → Terminal → Table → List Act → Table
table_since c k t [] = (k.start t).table
table_since c k t (call (event e) ∷ acts) = (c.step (table_since c k t acts) e).table
table_since c k t (call (ask running) ∷ acts) = (c.running (table_since c k t acts)).table
table_since c k t (call (ask (thread th)) ∷ acts) = (c.thread (table_since c k t acts) th).table
table_since c k t (call (ask (resource cs)) ∷ acts) = (c.resource (table_since c k t acts) cs).table
table_since c k t (add id w ∷ acts) = (adds k (table_since c k t acts) id w).table

-- The events of a start, the newest first: the sixteen fixed tasks are created, each with its priority.
abbrev pub fixed_tasks : State
fixed_tasks =
    Create 15 10 ∷ (Create 14 20 ∷ (Create 13 30 ∷ (Create 12 60
    ∷ (Create 11 90 ∷ (Create 10 100 ∷ (Create 9 110 ∷ (Create 8 120
    ∷ (Create 7 140 ∷ (Create 6 150 ∷ (Create 5 160 ∷ (Create 4 170
    ∷ (Create 3 180 ∷ (Create 2 190 ∷ (Create 1 200 ∷ (Create 0 250 ∷ [])))))))))))))))

-- s is the accepted events, the newest first, as the paper writes them: those of the start, and of the acts those that got 0; a spare task that is added is created with its priority
pub data Shipped (c : Calls) (k : Terminal) (t : Table) : List Act → State → Type 0 where
  started : Shipped c k t [] fixed_tasks
  accepted : {acts : List Act} {s : State} {e : Record} {ev : Event} → Shipped c k t acts s → (c.step (table_since c k t acts) e).answer.number ≡ 0 → Writes s e ev → Shipped c k t (call (event e) ∷ acts) (ev ∷ s)
  refused : {acts : List Act} {s : State} {e : Record} → Shipped c k t acts s → (c.step (table_since c k t acts) e).answer.number ≢ 0 → Shipped c k t (call (event e) ∷ acts) s
  asked : {acts : List Act} {s : State} {q : Query} → Shipped c k t acts s → Shipped c k t (call (ask q) ∷ acts) s
  added : {acts : List Act} {s : State} {id : ℕ} {w : Option Priority} → Shipped c k t acts s → (adds k (table_since c k t acts) id w).answer.number ≡ 0 → Shipped c k t (add id w ∷ acts) (Create id (priority_of w) ∷ s)
  turned_away : {acts : List Act} {s : State} {id : ℕ} {w : Option Priority} → Shipped c k t acts s → (adds k (table_since c k t acts) id w).answer.number ≢ 0 → Shipped c k t (add id w ∷ acts) s
