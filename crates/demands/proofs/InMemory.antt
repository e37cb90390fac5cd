-- A sound table whose arrays have their sizes is one that memory can hold, and in memory they have their sizes. Assumes nothing.
use Prim.Native.Nat.{ℕ, ◌/◌, ◌%◌, ◌≤◌, ◌<◌}
use mathlib.Core.Path.{◌≡◌, refl, sym, ap, subst}
use mathlib.Core.Logic.{by_cases}
use native.Mathlib.Decide.{ℕ_discrete, dec_lt}
use native.Mathlib.Omega.{arith}
use Rattle.protocol.specs.Events.{Precedence}
use Rattle.table.specs.declared.Table.{Table}
use Rattle.table.specs.declared.Slot.{Slot}
use Rattle.table.specs.Table.{at, stored}
use Rattle.table.specs.Sound.{Bare}
use Rattle.table.specs.Code.Places.{entry}
use Rattle.table.specs.Code.Shape.{Shape}
use Rattle.table.proofs.Arrays.Bounds.{beyond}
use Rattle.table.proofs.Sound.Queues.{live_low, in_queue}
use Rattle.table.proofs.Sound.Order.{time_fits}
use Rattle.table.proofs.Sound.Read.{sound_good, current_stored}
use Rattle.table.proofs.Values.Values.{current_low}
use Rattle.events.proofs.Kept.Stays.{Right}
use Rattle.demands.specs.Memory.{AnyTable}

module _ (t : Table) (r : Right t) where
  -- what a live thread stores is some live thread's own precedence, and the others store zeros
  stored_fits : (th : ℕ) → (at t.current_priority th ≤ 255) × (at t.current_time th ≤ 65535)
  stored_fits th = by_cases (ℕ_discrete (at t.live th) 1)
      (λ l. let low = current_low t (sound_good t r.0 r.1) th l in fits (sym (current_stored t r.0 r.1 th l)) low.0 (omega (arith, low.1)))
      (λ n. fits (r.1.dead_stored th n) (omega arith) (omega arith))
    where
      fits : {p : Precedence} → stored t th ≡ p → p.0 ≤ 255 → p.1 ≤ 65535 → (at t.current_priority th ≤ 255) × (at t.current_time th ≤ 65535)
      fits e h k = (omega (arith, ap (λ (q : Precedence). q.0) e), omega (arith, ap (λ (q : Precedence). q.1) e))

  -- a place of a queue names a live thread or is zero
  place_fits : (cs i : ℕ) → cs < 16 → i < 32 → entry t.rows.queue cs i ≤ 255
  place_fits cs i low small = by_cases (dec_lt i (at t.rows.length cs))
      (λ h. let l = live_low t r.0 (entry t.rows.queue cs i) (b.queues_right.live_entries cs (entry t.rows.queue cs i) ((in_queue t r.0 b.queues_right.lengths cs (entry t.rows.queue cs i)).1 (i, h, refl))) in omega arith)
      (λ n. omega (arith, b.spare_places cs i low (omega arith) small))
    where
      b : Bare t
      b = r.1.bare

  queue_fits : (i : ℕ) → at t.rows.queue i ≤ 255
  queue_fits i = by_cases (dec_lt i 512)
      (λ h. subst (λ (k : ℕ). at t.rows.queue k ≤ 255) (omega arith) (place_fits (i / 32) (i % 32) (omega arith) (omega arith)))
      (λ n. omega (arith, beyond t.rows.queue i (omega (arith, r.0.queue_size))))

  pub right_any : AnyTable t
  right_any = record {
    clock = r.1.bare.clock;
    live = record { size = r.0.live_size; in_range = λ i. by_cases (ℕ_discrete (at t.live i) 1) (λ l. omega arith) (λ n. omega (arith, ap (λ (s : Slot). s.live) (r.1.bare.dead_slots i n))) };
    priority = record { size = r.0.priority_size; in_range = r.1.bare.priorities };
    time = record { size = r.0.time_size; in_range = time_fits r.1.bare };
    current_priority = record { size = r.0.current_priority_size; in_range = λ i. (stored_fits i).0 };
    current_time = record { size = r.0.current_time_size; in_range = λ i. (stored_fits i).1 };
    queue = record { size = r.0.queue_size; in_range = queue_fits };
    length = record { size = r.0.length_size; in_range = λ cs. omega (arith, r.1.bare.queues_right.lengths cs) };
    requests = record { size = r.0.requests_size; in_range = λ i. omega (arith, (r.1.totals.low i).0, r.1.bare.clock) };
    releases = record { size = r.0.releases_size; in_range = λ i. omega (arith, (r.1.totals.low i).1, r.1.bare.clock) };
  }

-- the arrays of any table have their sizes
pub any_shape : {t : Table} → AnyTable t → Shape t
any_shape a = record {
  live_size = a.live.size;
  priority_size = a.priority.size;
  time_size = a.time.size;
  current_priority_size = a.current_priority.size;
  current_time_size = a.current_time.size;
  queue_size = a.queue.size;
  length_size = a.length.size;
  requests_size = a.requests.size;
  releases_size = a.releases.size;
}
