-- The arrays keep their sizes. Assumes nothing.
use Prim.Native.Nat.{ℕ, ◌*◌, ◌≤◌, ◌<◌}
use mathlib.Core.Path.{◌≡◌, ◌∙◌}
use mathlib.Core.List.{List}
use native.Mathlib.Omega.{arith}
use lib.ListN.{length, length-set}
use Rattle.table.specs.declared.Table.{Table}
use Rattle.table.specs.declared.Slot.{Slot}
use Rattle.table.specs.Code.Shape.{Shape}
use Rattle.events.specs.Events.{later, with_slot, with_totals, with_queue}
use Rattle.events.proofs.Queues.Splice.{row_length}

-- one event more
pub later_shape : {t : Table} → Shape t → Shape (later t)
later_shape s = record {
  live_size = s.live_size;
  priority_size = s.priority_size;
  time_size = s.time_size;
  current_priority_size = s.current_priority_size;
  current_time_size = s.current_time_size;
  queue_size = s.queue_size;
  length_size = s.length_size;
  requests_size = s.requests_size;
  releases_size = s.releases_size;
}

-- a slot is written
pub slot_shape : (t : Table) (th : ℕ) (n : Slot) → Shape t → Shape (with_slot t th n)
unfolding with_slot
slot_shape t th n s = record {
  live_size = length-set t.live th n.live ∙ s.live_size;
  priority_size = length-set t.priority th n.priority ∙ s.priority_size;
  time_size = length-set t.time th n.time ∙ s.time_size;
  current_priority_size = s.current_priority_size;
  current_time_size = s.current_time_size;
  queue_size = s.queue_size;
  length_size = s.length_size;
  requests_size = length-set t.requests th n.requests ∙ s.requests_size;
  releases_size = length-set t.releases th n.releases ∙ s.releases_size;
}

-- the totals are written
pub totals_shape : {t : Table} {requests releases : List ℕ} → Shape t → length requests ≡ 32 → length releases ≡ 32 → Shape (with_totals t requests releases)
totals_shape s a b = record {
  live_size = s.live_size;
  priority_size = s.priority_size;
  time_size = s.time_size;
  current_priority_size = s.current_priority_size;
  current_time_size = s.current_time_size;
  queue_size = s.queue_size;
  length_size = s.length_size;
  requests_size = a;
  releases_size = b;
}

-- a queue of at most 32 is written
pub queue_shape : (t : Table) (cs : ℕ) (q : List ℕ) → Shape t → cs < 16 → length q ≤ 32 → Shape (with_queue t cs q)
unfolding with_queue
queue_shape t cs q s low short = record {
  live_size = s.live_size;
  priority_size = s.priority_size;
  time_size = s.time_size;
  current_priority_size = s.current_priority_size;
  current_time_size = s.current_time_size;
  queue_size = row_length t.rows.queue (cs * 32) q (omega (arith, s.queue_size)) short ∙ s.queue_size;
  length_size = length-set t.rows.length cs (length q) ∙ s.length_size;
  requests_size = s.requests_size;
  releases_size = s.releases_size;
}
