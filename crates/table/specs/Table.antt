-- The table: what each field means, and who holds, waits, is ready and runs, read off it. Assumes nothing.
use Rattle.std.specs.Prelude.{ℕ, ◌*◌, ◌≡◌, List, get_or, take, drop, replicate}
use Rattle.protocol.specs.Sets.{SetOf, ◌∈◌, Highest}
use Rattle.protocol.specs.Events.{Thread, Resource, Precedence, ◌≼◌}
use Rattle.protocol.specs.Graph.{Queues, Holds as HoldsIn, Waits as WaitsIn, Cprec as CprecIn}
use Rattle.table.specs.declared.Table.{Table}
use Rattle.table.specs.declared.Slot.{Slot}

-- the number that stands at a place of an array
abbrev pub at : List ℕ → ℕ → ℕ
at xs i = get_or xs i 0

-- In the empty table all numbers are zero and nobody is live.
abbrev pub empty : Table
empty = record {
  clock = 0;
  live = replicate 32 0;
  priority = replicate 32 0;
  time = replicate 32 0;
  current_priority = replicate 32 0;
  current_time = replicate 32 0;
  rows = record { queue = replicate 512 0; length = replicate 16 0 };
  requests = replicate 32 0;
  releases = replicate 32 0;
}

-- what the table has of one thread, but for its current precedence
abbrev pub slot : Table → Thread → Slot
slot t th = record { live = at t.live th; priority = at t.priority th; time = at t.time th; requests = at t.requests th; releases = at t.releases th }

-- the slot of a thread that isn't live: zero everywhere
abbrev pub dead_slot : Slot
dead_slot = record { live = 0; priority = 0; time = 0; requests = 0; releases = 0 }

-- live or not
abbrev pub live : Table → SetOf Thread
live t = λ th. at t.live th ≡ 1

-- own precedence: own priority and time last set
abbrev pub own : Table → Thread → Precedence
own t th = (at t.priority th, at t.time th)

-- the stored current precedence
abbrev pub stored : Table → Thread → Precedence
stored t th = (at t.current_priority th, at t.current_time th)

-- the queue of a resource: as many places from the first of its 32 on as its length says; a length above 32, which a sound table does not have, would run into the next queue's
abbrev pub queues : Table → Queues
queues t cs = take (at t.rows.length cs) (drop (cs * 32) t.rows.queue)

-- the first entry of a queue holds the resource; the others wait
abbrev pub Holds : Table → Thread → Resource → Type 0
Holds t = HoldsIn (queues t)

abbrev pub Waits : Table → Thread → Resource → Type 0
Waits t = WaitsIn (queues t)

-- current precedence: the highest own precedence among the thread and its dependants
abbrev pub Cprec : Table → Thread → Precedence → Type 0
Cprec t = CprecIn (queues t) (own t)

-- ready: live and waiting for nothing
abbrev pub ready : Table → SetOf Thread
ready t = λ th. (th ∈ live t) × ((cs : Resource) → ¬ Waits t th cs)

-- running: the ready thread of highest current precedence
abbrev pub running : Table → SetOf Thread
running t = Highest ◌≼◌ (Cprec t) (ready t)
