-- What an event may count on, and what it leaves. Assumes nothing.
use Rattle.std.specs.Prelude.{ℕ, ◌<◌, ◌≡◌, List}
use Rattle.protocol.specs.Events.{Event}
use Rattle.table.specs.declared.Table.{Table}
use Rattle.table.specs.Code.Tracks.{Tracks, Known}
use Rattle.events.specs.Events.{changed}
use Rattle.events.specs.Count.{count}
use Rattle.events.specs.Code.Permits.{Permits}

-- An event begins: the table was found sound, permits it, and has room on its clock. The arrays are those of the table.
pub record Begun (t : Table) (ev : Event) (queue lengths holders waits owns currents : List ℕ) : Type 0 where
  pub known : Known t waits holders owns currents
  pub early : t.clock < 65535
  pub permitted : Permits t ev
  pub queue_is : queue ≡ t.rows.queue
  pub lengths_are : lengths ≡ t.rows.length

-- The event is done: the arrays are those of the table afterwards, and n threads were worked out afresh.
pub record DoneWith (t : Table) (ev : Event) (queue lengths holders waits currents : List ℕ) (n : ℕ) : Type 0 where
  pub queue_is : queue ≡ (changed t ev).rows.queue
  pub lengths_are : lengths ≡ (changed t ev).rows.length
  pub tracks : Tracks (changed t ev) waits holders currents
  pub counted : n ≡ count t ev

-- the table with these stored current precedences
abbrev pub with_current : Table → List ℕ → List ℕ → Table
with_current t cp ct = record {
  clock = t.clock;
  live = t.live;
  priority = t.priority;
  time = t.time;
  current_priority = cp;
  current_time = ct;
  rows = record { queue = t.rows.queue; length = t.rows.length };
  requests = t.requests;
  releases = t.releases;
}
