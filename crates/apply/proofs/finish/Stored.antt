-- The end of an accepted event: from the numbers of a table, the settled table and its running thread. Assumes nothing.
use Prim.Native.Nat.{ℕ, ◌/◌, ◌<◌}
use mathlib.Core.Path.{◌≡◌, sym, ap, ◌∙◌, Σ_path}
use mathlib.Core.List.{List}
use native.Mathlib.Decide.{ℕ_discrete}
use native.Mathlib.Omega.{arith}
use borrow.Author.Tests.{ne_eqb}
use Rattle.protocol.specs.Sets.{◌∈◌}
use Rattle.protocol.specs.Events.{Precedence}
use Rattle.protocol.specs.Rank.{rank}
use Rattle.table.specs.declared.Table.{Table}
use Rattle.table.specs.Table.{at, live}
use Rattle.table.specs.Compute.{current, runner}
use Rattle.table.specs.Code.Ready.{highest_ready}
use Rattle.table.specs.Code.Tracks.{Tracks}
use Rattle.table.proofs.Values.Values.{Good, current_low}
use Rattle.table.proofs.Values.Runs.{live_number, dead_number, tracked_runner}
use Rattle.events.specs.Events.{settled}
use Rattle.events.specs.Code.Work.{with_current}
use Rattle.events.proofs.Kept.Settled.{settles, settled_runner}
use Rattle.apply.specs.Stored.{time_in, StoredOf}

-- a number gives its precedence back
number_back : (p : Precedence) → p.1 < 65535 → (rank 65535 p / 65536 ≡ p.0) × (time_in (rank 65535 p) ≡ p.1)
number_back p h = (omega arith, rw (ne_eqb (rank 65535 p) 0 (omega arith)) (omega arith))

module _ (t : Table) (g : Good t) {waits holders currents : List ℕ} (k : Tracks t waits holders currents) where
  -- a priority is a byte
  pub numbers_low : (th : ℕ) → th < 32 → at currents th / 65536 < 256
  numbers_low th h = go (ℕ_discrete (at t.live th) 1)
    where
      go : Dec (th ∈ live t) → at currents th / 65536 < 256
      go (yes l) = let c = current_low t g th l in rw (live_number t g k th l, (number_back (current t th) c.1).0) (omega (arith, c.0))
      go (no n) = rw (dead_number t g k th h n) (omega arith)

  -- what is stored from the numbers makes the settled table
  pub stored_settled : (cp ct : List ℕ) → StoredOf currents cp ct → with_current t cp ct ≡ settled t
  stored_settled cp ct m = settles t g.shape cp ct m.priorities_size m.times_size alive dead
    where
      alive : (th : ℕ) → th < 32 → th ∈ live t → (at cp th, at ct th) ≡ current t th
      alive th h l = let b = number_back (current t th) (current_low t g th l).1 in let e = live_number t g k th l in
          Σ_path (m.priorities_right th h ∙ ap (λ (n : ℕ). n / 65536) e ∙ b.0) (m.times_right th h ∙ ap time_in e ∙ b.1)

      dead : (th : ℕ) → th < 32 → ¬ (th ∈ live t) → (at cp th ≡ 0) × (at ct th ≡ 0)
      dead th h n = let e = dead_number t g k th h n in (m.priorities_right th h ∙ ap (λ (x : ℕ). x / 65536) e, m.times_right th h ∙ ap time_in e)

  -- and the highest ready thread by numbers is its running thread
  pub runner_settled : highest_ready waits currents 32 ≡ runner (settled t)
  runner_settled = tracked_runner t g k ∙ sym (settled_runner t)
