-- A table by its arrays, and their sizes; and a slot that is zero. Assumes nothing.
use Rattle.std.specs.Prelude.{ℕ, ◌≡◌, List, length}
use Rattle.protocol.specs.Events.{Thread}
use Rattle.table.specs.declared.Table.{Table}
use Rattle.table.specs.Table.{slot, dead_slot, stored}

-- the table that has these fields
abbrev pub table_of : ℕ → List ℕ → List ℕ → List ℕ → List ℕ → List ℕ → List ℕ → List ℕ → List ℕ → List ℕ → Table
table_of clock live priority time cp ct queue lengths requests releases = record {
  clock = clock;
  live = live;
  priority = priority;
  time = time;
  current_priority = cp;
  current_time = ct;
  rows = record { queue = queue; length = lengths };
  requests = requests;
  releases = releases;
}

-- The arrays have the sizes that their types give them.
pub record Shape (t : Table) : Type 0 where
  pub live_size : length t.live ≡ 32
  pub priority_size : length t.priority ≡ 32
  pub time_size : length t.time ≡ 32
  pub current_priority_size : length t.current_priority ≡ 32
  pub current_time_size : length t.current_time ≡ 32
  pub queue_size : length t.rows.queue ≡ 512
  pub length_size : length t.rows.length ≡ 16
  pub requests_size : length t.requests ≡ 32
  pub releases_size : length t.releases ≡ 32

-- a slot that isn't live has zero everywhere
abbrev pub ZeroSlot : Table → Thread → Type 0
ZeroSlot t th = (slot t th ≡ dead_slot) × (stored t th ≡ (0, 0))
