-- Accepted events: the table after each, with the totals and the next holder. Assumes nothing.
use Rattle.std.specs.Prelude.{ℕ, zero, suc, ◌+◌, ◌*◌, ◌-◌, cond, List, [], ◌∷◌, ◌++◌, eqb, length, take, drop, set, replicate}
use Rattle.std.proofs.Math.Option.{Option, none, some}
use Rattle.protocol.specs.Events.{Thread, Resource, Event, Create, Exit, Set, P, «V»}
use Rattle.protocol.specs.Schedule.{release}
use Rattle.table.specs.declared.Table.{Table}
use Rattle.table.specs.Table.{queues, slot, dead_slot}
use Rattle.table.specs.Slots.{fresh_slot, set_slot, requested_slot, released_slot}
unfoldable pub use Rattle.table.specs.Slots.{with_slot}
use Rattle.table.specs.Compute.{is_live, is_higher, current}
use Rattle.refusals.specs.declared.Record.{Record}

-- f 0, f 1 and so on, n numbers
unfoldable pub tabulate : ℕ → (ℕ → ℕ) → List ℕ
tabulate zero f = []
tabulate (suc n) f = let r = tabulate n f in let x = f n in r ++ (x ∷ [])

-- Every live slot's current precedence becomes the defined one; dead slots have zero.
unfoldable pub settled : Table → Table
settled t = record {
  clock = t.clock;
  live = t.live;
  priority = t.priority;
  time = t.time;
  current_priority = tabulate 32 (λ th. let p = (current t th).0 in cond (is_live t th) p 0);
  current_time = tabulate 32 (λ th. let p = (current t th).1 in cond (is_live t th) p 0);
  rows = record { queue = t.rows.queue; length = t.rows.length };
  requests = t.requests;
  releases = t.releases;
}

-- All accepted events add 1 to the clock.
abbrev pub later : Table → Table
later t = record {
  clock = t.clock + 1;
  live = t.live;
  priority = t.priority;
  time = t.time;
  current_priority = t.current_priority;
  current_time = t.current_time;
  rows = record { queue = t.rows.queue; length = t.rows.length };
  requests = t.requests;
  releases = t.releases;
}

-- cs has the queue q, places beyond it zero
unfoldable pub with_queue : Table → Resource → List Thread → Table
with_queue t cs q = record {
  clock = t.clock;
  live = t.live;
  priority = t.priority;
  time = t.time;
  current_priority = t.current_priority;
  current_time = t.current_time;
  rows = record { queue = take (cs * 32) t.rows.queue ++ (q ++ (replicate (32 - length q) 0 ++ drop (cs * 32 + 32) t.rows.queue)); length = set t.rows.length cs (length q) };
  requests = t.requests;
  releases = t.releases;
}

-- the threads have these totals
abbrev pub with_totals : Table → List ℕ → List ℕ → Table
with_totals t requests releases = record {
  clock = t.clock;
  live = t.live;
  priority = t.priority;
  time = t.time;
  current_priority = t.current_priority;
  current_time = t.current_time;
  rows = record { queue = t.rows.queue; length = t.rows.length };
  requests = requests;
  releases = releases;
}

-- th has requested once more
abbrev pub one_request_more : Table → Thread → Table
one_request_more t th = with_totals t (set t.requests th (requested_slot (slot t th)).requests) t.releases

-- th has released once more
abbrev pub one_release_more : Table → Thread → Table
one_release_more t th = with_totals t t.requests (set t.releases th (released_slot (slot t th)).releases)

-- of th and the others, the one with the highest current precedence
unfoldable pub highest_current : Table → Thread → List Thread → Thread
highest_current t th [] = th
highest_current t th (x ∷ xs) = let b = cond (is_higher (current t x) (current t th)) x th in highest_current t b xs

-- who follows the head of a queue is, of those who wait, the one with the highest current precedence
unfoldable pub heir : Table → List Thread → Option Thread
heir t [] = none
heir t (holder ∷ []) = none
heir t (holder ∷ (x ∷ xs)) = some (highest_current t x xs)

-- The table after an event, but for its stored current precedences. Who follows at a V stands in the event.
unfoldable pub changed : Table → Event → Table
-- Create t, priority: t becomes live.
changed t (Create th prio) = later (with_slot t th (fresh_slot prio t.clock))
-- Exit t: the slot becomes zero.
changed t (Exit th) = later (with_slot t th dead_slot)
-- Set t, priority: new own priority, and time last set is the event's time.
changed t (Set th prio) = later (with_slot t th (set_slot (slot t th) prio t.clock))
-- P t, r: t has requested once more, and joins the end of r's queue.
changed t (P th cs) = later (with_queue (one_request_more t th) cs (queues t cs ++ (th ∷ [])))
-- V t, r: t has released once more, and leaves the head. If others wait, the one that follows becomes the head and the rest stay in order.
changed t («V» th cs next) = later (with_queue (one_release_more t th) cs (release (queues t cs) next))

-- the event that a record names, by its kind: 1 Create, 2 Exit, 3 Set, 4 P, 5 V, at which `next` follows; no other kind names one
unfoldable pub named : Record → Option Thread → Option Event
named e next =
    let from_5 = cond (eqb e.kind 5) (some («V» e.thread e.argument next)) none in
    let from_4 = cond (eqb e.kind 4) (some (P e.thread e.argument)) from_5 in
    let from-3 = cond (eqb e.kind 3) (some (Set e.thread e.argument)) from_4 in
    let from-2 = cond (eqb e.kind 2) (some (Exit e.thread)) from-3 in
    cond (eqb e.kind 1) (some (Create e.thread e.argument)) from-2

-- the same on a table, where at a V the heir follows
unfoldable pub event_of : Table → Record → Option Event
event_of t e = let next = heir t (queues t e.argument) in named e next
