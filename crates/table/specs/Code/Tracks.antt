-- The arrays that go with a table while a call works on it. Assumes nothing.
use Rattle.std.specs.Prelude.{ℕ, ◌<◌, ◌≡◌, cond, List, length}
use Rattle.protocol.specs.Events.{Thread, Resource}
use Rattle.protocol.specs.Rank.{rank}
use Rattle.table.specs.declared.Table.{Table}
use Rattle.table.specs.Table.{at}
use Rattle.table.specs.Sound.{Sound}
use Rattle.table.specs.Compute.{is_live, holder, waits_for, current}
use Rattle.table.specs.Code.Places.{slot_number}
use Rattle.table.specs.Code.Shape.{Shape}

-- the number of a thread's own precedence, 0 if it isn't live
abbrev pub own_number : Table → Thread → ℕ
own_number t th = slot_number (at t.live th) (at t.priority th) (at t.time th)

-- the number of a thread's current precedence, 0 if it isn't live
abbrev pub current_number : Table → Thread → ℕ
current_number t th = cond (is_live t th) (rank 65535 (current t th)) 0

-- what each thread waits for (16: nothing), who holds each resource (32: nobody), and the numbers of the current precedences
pub record Tracks (t : Table) (waits holders currents : List ℕ) : Type 0 where
  pub waits_right : (th : Thread) → th < 32 → at waits th ≡ waits_for t th
  pub holders_right : (cs : Resource) → cs < 16 → at holders cs ≡ holder t cs
  pub currents_right : (th : Thread) → th < 32 → at currents th ≡ current_number t th

-- the arrays have a place for each of the 32 threads and the 16 resources
pub record Sized (waits holders currents : List ℕ) : Type 0 where
  pub waits_size : length waits ≡ 32
  pub holders_size : length holders ≡ 16
  pub currents_size : length currents ≡ 32

-- what is known of a table that was found sound
pub record Known (t : Table) (waits holders owns currents : List ℕ) : Type 0 where
  pub shape : Shape t
  pub sound : Sound t
  pub tracks : Tracks t waits holders currents
  pub owns_right : (th : Thread) → th < 32 → at owns th ≡ own_number t th
