-- The slots that an event leaves, and the table with such a slot. Assumes nothing.
use Rattle.std.specs.Prelude.{ℕ, ◌+◌, set}
use Rattle.protocol.specs.Events.{Thread, Priority}
use Rattle.table.specs.declared.Table.{Table}
use Rattle.table.specs.declared.Slot.{Slot}

-- the slot of a thread that is created: live, with this priority, set at this time; its totals count from here
abbrev pub fresh_slot : Priority → ℕ → Slot
fresh_slot priority time = record { live = 1; priority = priority; time = time; requests = 0; releases = 0 }

-- the slot of a thread that is set: a new own priority, set at this time; the rest stays
abbrev pub set_slot : Slot → Priority → ℕ → Slot
set_slot s priority time = record { live = s.live; priority = priority; time = time; requests = s.requests; releases = s.releases }

-- the slot of a thread that requests: one request more
abbrev pub requested_slot : Slot → Slot
requested_slot s = record { live = s.live; priority = s.priority; time = s.time; requests = s.requests + 1; releases = s.releases }

-- the slot of a thread that releases: one release more
abbrev pub released_slot : Slot → Slot
released_slot s = record { live = s.live; priority = s.priority; time = s.time; requests = s.requests; releases = s.releases + 1 }

-- th has the slot s
unfoldable pub with_slot : Table → Thread → Slot → Table
with_slot t th s = record {
  clock = t.clock;
  live = set t.live th s.live;
  priority = set t.priority th s.priority;
  time = set t.time th s.time;
  current_priority = t.current_priority;
  current_time = t.current_time;
  rows = record { queue = t.rows.queue; length = t.rows.length };
  requests = set t.requests th s.requests;
  releases = set t.releases th s.releases;
}
