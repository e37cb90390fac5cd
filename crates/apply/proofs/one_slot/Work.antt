-- Create, Exit and Set: what the code leaves goes with the table after the event. Assumes nothing.
use Prim.Native.Nat.{ℕ, ◌≤◌, ◌<◌}
use mathlib.Core.Path.{◌≡◌, refl, sym, ◌∙◌}
use mathlib.Core.List.{List}
use mathlib.Core.Logic.{inl, ⊎_elim}
use native.Mathlib.Omega.{arith}
use lib.ListN.{length, set as put}
use Rattle.protocol.specs.Sets.{◌∈◌, set as members, Max}
use Rattle.protocol.specs.Events.{Event, Create, Exit, Set}
use Rattle.protocol.specs.Rank.{rank}
use Rattle.table.specs.declared.Table.{Table}
use Rattle.table.specs.Table.{slot, dead_slot, queues}
use Rattle.table.specs.Slots.{fresh_slot, set_slot}
use Rattle.table.proofs.Sound.Read.{holder_holds}
use Rattle.table.proofs.Values.Values.{thread_low}
use Rattle.table.proofs.Values.Known.{known_good}
use Rattle.chains.specs.Law.{Compared}
use Rattle.events.specs.Events.{with_slot, changed}
use Rattle.events.specs.Count.{count}
use Rattle.events.specs.Code.Permits.{Permits, create, exit, set}
use Rattle.events.specs.Code.Work.{Begun, DoneWith}
use Rattle.events.proofs.Kept.Slots.{create_fits, set_fits, exit_fits}
use Rattle.events.proofs.Kept.Stays.{exits_out}
use Rattle.events.proofs.Frame.Slot.{set_tracked, dead_tracked}

module _ (t : Table) {queue lengths holders waits owns currents : List ℕ} (size : length currents ≡ 32) where
  -- where th stands in no queue nobody is compared
  alone : {ev : Event} → Begun t ev queue lengths holders waits owns currents → (th : ℕ) → th < 32 → ((cs : ℕ) → ¬ (th ∈ members (queues t cs))) → (own : ℕ) →
      Max ◌≤◌ (Compared t.rows.queue t.rows.length holders currents 16 own th) own
  alone b th low out own = record {
    among = inl refl;
    bound = λ a. ⊎_elim {C = a ≤ own} (λ e. omega (arith, e)) (λ (r, i, h, from, to, holds, v). absurd (out r (holder_holds t (known_good t b.known) th r low (sym (b.known.tracks.holders_right r h) ∙ holds)).0));
  }

  pub create_done : {th prio time : ℕ} → Begun t (Create th prio) queue lengths holders waits owns currents → time ≡ t.clock → DoneWith t (Create th prio) queue lengths holders waits (put currents th (rank 65535 (prio, time))) 1
  unfolding changed count with_slot
  create_done {th} {prio} {time} b e = go b.permitted
    where
      go : Permits t (Create th prio) → DoneWith t (Create th prio) queue lengths holders waits (put currents th (rank 65535 (prio, time))) 1
      go (create low small new) = record {
        queue_is = b.queue_is;
        lengths_are = b.lengths_are;
        tracks = rw e (set_tracked t b.known b.early th low (fresh_slot prio t.clock) (create_fits t th prio small) (rank 65535 (prio, t.clock)) size refl (λ r w. out r w.0) (alone b th low out (rank 65535 (prio, t.clock))));
        counted = refl;
      }
        where
          out : (cs : ℕ) → ¬ (th ∈ members (queues t cs))
          out cs i = new (b.known.sound.bare.queues_right.live_entries cs th i)

  pub exit_done : {th : ℕ} → Begun t (Exit th) queue lengths holders waits owns currents → DoneWith t (Exit th) queue lengths holders waits (put currents th 0) 0
  unfolding changed count with_slot
  exit_done {th} b = go b.permitted
    where
      go : Permits t (Exit th) → DoneWith t (Exit th) queue lengths holders waits (put currents th 0) 0
      go (exit runs empty_handed) =
          let out = exits_out t (exit {th = th} runs empty_handed) in record {
            queue_is = b.queue_is;
            lengths_are = b.lengths_are;
            tracks = dead_tracked t b.known b.early th (thread_low t (known_good t b.known) th runs.among.0) dead_slot (exit_fits t th out) size (omega arith) out;
            counted = refl;
          }

  pub set_done : {th prio time v : ℕ} → Begun t (Set th prio) queue lengths holders waits owns currents → time ≡ t.clock → Max ◌≤◌ (Compared queue lengths holders currents 16 (rank 65535 (prio, time)) th) v →
      DoneWith t (Set th prio) queue lengths holders waits (put currents th v) 1
  unfolding changed count with_slot
  set_done {th} {prio} {time} {v} b e max = go b.permitted
    where
      go : Permits t (Set th prio) → DoneWith t (Set th prio) queue lengths holders waits (put currents th v) 1
      go (set runs small) = record {
        queue_is = b.queue_is;
        lengths_are = b.lengths_are;
        tracks = set_tracked t b.known b.early th (thread_low t (known_good t b.known) th runs.among.0) (set_slot (slot t th) prio t.clock) (set_fits t th prio small runs.among.0) v size runs.among.0 runs.among.1
            (rw (b.queue_is, b.lengths_are, e) at max);
        counted = refl;
      }
