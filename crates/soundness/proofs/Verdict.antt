-- The last part of the test, and what is known of a table that passes all. Assumes nothing.
use Prim.Native.Nat.{ℕ, ◌≤◌, ◌<◌}
use mathlib.Core.Path.{◌≡◌, sym, ap, ◌∙◌}
use mathlib.Core.List.{List}
use native.Mathlib.Decide.{ℕ_discrete}
use native.Mathlib.Omega.{arith}
use Rattle.protocol.specs.Sets.{◌∈◌, Max}
use Rattle.protocol.specs.Rank.{rank}
use Rattle.protocol.proofs.Highest.{max_unique}
use Rattle.table.specs.declared.Table.{Table}
use Rattle.table.specs.Table.{at, live}
use Rattle.table.specs.Sound.{Bare, Sound}
use Rattle.table.specs.Compute.{current, holder}
use Rattle.table.specs.Code.Places.{slot_number, NumbersOf}
use Rattle.table.specs.Code.Shape.{Shape}
use Rattle.table.specs.Code.Tracks.{current_number, Known}
use Rattle.table.proofs.Sound.Read.{if_live, if_dead, current_stored}
use Rattle.table.proofs.Values.Numbers.{≤_total, slot_live, slot_dead}
use Rattle.chains.specs.Law.{Compared}
use Rattle.chains.proofs.ways.Climbs.{Graphed, graphed_waits, graphed_holders}
use Rattle.queues.specs.Queues.{Surveyed}
use Rattle.soundness.proofs.Rules.{surveyed_graphed}
use Rattle.soundness.proofs.Bounded.{bounded}
use Rattle.soundness.proofs.Law.{Numbered}
use Rattle.soundness.proofs.Passed.{Passed, passed_bare, passed_sound, sound_lawful}

module _ (t : Table) (shape : Shape t) (own now_stored : List ℕ)
    (owns : NumbersOf t.live t.priority t.time own)
    (currents : NumbersOf t.live t.current_priority t.current_time now_stored) where
  numbered : Numbered t own now_stored
  numbered = record { owns_are = owns.0; currents_are = currents.0; current_times_fit = bounded t.current_time 32 65535 shape.current_time_size (λ th h. omega (arith, (currents.1 th h).1)) }

  priorities : (th : ℕ) → at t.priority th ≤ 255
  priorities = bounded t.priority 32 255 shape.priority_size (λ th h. omega (arith, (owns.1 th h).0))

  -- in a sound table what is stored is what is defined
  defined : Sound t → (th : ℕ) → th < 32 → at now_stored th ≡ current_number t th
  defined s th h = currents.0 th h ∙ go (ℕ_discrete (at t.live th) 1)
    where
      go : Dec (th ∈ live t) → slot_number (at t.live th) (at t.current_priority th) (at t.current_time th) ≡ current_number t th
      go (yes l) = slot_live (at t.live th) (at t.current_priority th) (at t.current_time th) l ∙ sym (if_live t th (rank 65535 (current t th)) l ∙ ap (rank 65535) (current_stored t shape s th l))
      go (no n) = slot_dead (at t.live th) (at t.current_priority th) (at t.current_time th) n ∙ sym (if_dead t th (rank 65535 (current t th)) n)

  -- where the queues are right, they say who waits and who holds; and by the law the threads are worth v
  module _ (clock : t.clock < 65536) (p : Passed t) {waits holders standing : List ℕ} (surveyed : Surveyed t.rows.queue t.rows.length 16 waits holders standing) (v : List ℕ)
      (worth : (th : ℕ) → th < 32 → Max ◌≤◌ (Compared t.rows.queue t.rows.length holders now_stored 16 (at own th) th) (at v th)) where
    bare : Bare t
    bare = passed_bare t shape (omega arith) priorities p

    graphed : Graphed t waits holders
    graphed = surveyed_graphed t shape p.rows surveyed

    holders_right : (cs : ℕ) → cs < 16 → at holders cs ≡ holder t cs
    holders_right = graphed_holders t shape bare.queues_right graphed

    -- the last part passes: then this is known
    pub known : ((th : ℕ) → th < 32 → at v th ≡ at now_stored th) → Known t waits holders own now_stored
    known same = let s = passed_sound t shape holders holders_right numbered bare p (λ th h. rw (same th h) at (worth th h)) in record {
      shape = shape;
      sound = s;
      tracks = record { waits_right = graphed_waits t shape bare.queues_right graphed; holders_right = holders_right; currents_right = defined s };
      owns_right = owns.0;
    }

    -- and in a sound table it does
    pub lawful : Sound t → (th : ℕ) → th < 32 → at v th ≡ at now_stored th
    lawful s th h = max_unique ◌≤◌ ≤_total (worth th h) (sound_lawful t shape holders holders_right numbered s th h)
