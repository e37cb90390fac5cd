-- In a table that keeps the rules the highest thread by numbers that waits for nothing is the running thread. Assumes nothing.
use Prim.Native.Nat.{ℕ, ◌≤◌, ◌<◌}
use mathlib.Core.Path.{◌≡◌, ◌∙◌}
use mathlib.Core.Bool.{true}
use mathlib.Core.Logic.{inl, inr, ⊎_elim}
use mathlib.Core.List.{List}
use native.Mathlib.Decide.{ℕ_discrete}
use native.Mathlib.Omega.{arith}
use borrow.Author.Tests.{eq-eqb, eqb-true}
use Rattle.protocol.specs.Sets.{SetOf, ◌∈◌, Highest}
use Rattle.protocol.specs.Events.{◌≼◌}
use Rattle.protocol.specs.Rank.{rank}
use Rattle.protocol.proofs.Order.{≼_rank}
use Rattle.table.specs.declared.Table.{Table}
use Rattle.table.specs.Table.{at, live, Cprec, ready, running}
use Rattle.table.specs.Compute.{current, waits_for, runner}
use Rattle.table.specs.Code.Ready.{is_free, highest_ready}
use Rattle.table.specs.Code.Tracks.{Tracks}
use Rattle.table.proofs.Sound.Read.{if_live, if_dead, waited, runs, one_runner}
use Rattle.table.proofs.Values.Values.{Good, thread_low, highest_defined, current_fits, current_low}
use Rattle.table.proofs.Values.Lead.{Leads, found_leads}

module _ (t : Table) (g : Good t) {waits holders currents : List ℕ} (k : Tracks t waits holders currents) where
  -- the numbers of the live, and of the others
  pub live_number : (th : ℕ) → th ∈ live t → at currents th ≡ rank 65535 (current t th)
  live_number th l = k.currents_right th (thread_low t g th l) ∙ if_live t th (rank 65535 (current t th)) l

  pub dead_number : (th : ℕ) → th < 32 → ¬ (th ∈ live t) → at currents th ≡ 0
  dead_number th h n = k.currents_right th h ∙ if_dead t th (rank 65535 (current t th)) n

  at_least_one : (th : ℕ) → th ∈ live t → 1 ≤ at currents th
  at_least_one th l = omega (arith, live_number th l, (current_low t g th l).1)

  ready_free : (th : ℕ) → th ∈ ready t → is_free waits th ≡ true
  ready_free th (l, free) = eq-eqb (at waits th) 16 (k.waits_right th (thread_low t g th l) ∙ ⊎_elim {C = waits_for t th ≡ 16} (λ v. absurd (free (waits_for t th) v.1)) (λ v. v.0) (waited t g th))

  -- a number above 0 is a live thread's
  free_ready : (th : ℕ) → th < 32 → is_free waits th ≡ true → 1 ≤ at currents th → th ∈ ready t
  free_ready th h e some = (alive (ℕ_discrete (at t.live th) 1), ⊎_elim (λ v. absurd (omega (arith, v.0, k.waits_right th h, eqb-true (at waits th) 16 e))) (λ v. v.1) (waited t g th))
    where
      alive : Dec (th ∈ live t) → th ∈ live t
      alive (yes l) = l
      alive (no n) = absurd (omega (arith, dead_number th h n))

  -- of some live threads, the one of the highest number has the highest current precedence
  pub highest_number : (M : SetOf ℕ) → ((u : ℕ) → u ∈ M → u ∈ live t) → (b : ℕ) → b ∈ M → ((u : ℕ) → u ∈ M → at currents u ≤ at currents b) → b ∈ Highest ◌≼◌ (Cprec t) M
  highest_number M alive b i over = highest_defined t g M b i (λ u j.
      (≼_rank 65535 (current t u) (current t b) (current_fits t g u) (current_fits t g b)).1 (omega (arith, over u j, live_number u (alive u j), live_number b (alive b i))))

  -- so the leader by numbers runs
  leads_runs : (b : ℕ) → Leads waits currents 32 b → b ∈ running t
  leads_runs b m = highest_number (ready t) (λ u i. i.0) b (free_ready b m.below m.free m.some) (λ u i. m.highest u (thread_low t g u i.0) (ready_free u i))

  pub tracked_runner : highest_ready waits currents 32 ≡ runner t
  tracked_runner = one_runner t g (highest_ready waits currents 32) (runner t) (⊎_elim
      (λ n. inr (n.0, λ th r. absurd (omega (arith, n.1 th (thread_low t g th r.among.0) (ready_free th r.among), at_least_one th r.among.0))))
      (λ m. inl (m.below, leads_runs (highest_ready waits currents 32) m))
      (found_leads waits currents 32)) (runs t g)
