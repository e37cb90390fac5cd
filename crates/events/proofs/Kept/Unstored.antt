-- What is worked out over a table does not look at the stored current precedences. Assumes nothing.
use Prim.Native.Nat.{ℕ, zero, suc}
use mathlib.Core.Path.{◌≡◌, refl}
use mathlib.Core.List.{List}
use Rattle.protocol.specs.Events.{Precedence}
use Rattle.table.specs.declared.Table.{Table}
use Rattle.table.specs.Table.{at}
use Rattle.table.specs.Compute.{is_live, holder, is_waiting, waits_for, blocker, depends, highest_behind, current, is_ready, leader, runner}
use Rattle.events.specs.Code.Work.{with_current}

module _ (t : Table) (cp ct : List ℕ) where
  -- what a thread waits for, and whom
  pub waits_for_unstored : (th : ℕ) → waits_for (with_current t cp ct) th ≡ waits_for t th
  unfolding waits_for is_waiting holder
  waits_for_unstored th = refl

  pub blocker_unstored : (th : ℕ) → blocker (with_current t cp ct) th ≡ blocker t th
  unfolding blocker holder
  blocker_unstored th = rw (waits_for_unstored th)

  -- who depends on whom
  depends_unstored : (n u th : ℕ) → depends n (with_current t cp ct) u th ≡ depends n t u th
  unfolding depends
  depends_unstored zero u th = refl
  depends_unstored (suc n) u th = rw (blocker_unstored u, depends_unstored n (blocker t u) th)

  -- the highest own precedence behind a thread
  highest_unstored : (th : ℕ) (p : Precedence) (n : ℕ) → highest_behind (with_current t cp ct) th p n ≡ highest_behind t th p n
  unfolding highest_behind
  highest_unstored th p zero = refl
  highest_unstored th p (suc n) = rw (depends_unstored 32 n th, highest_unstored th p n)

  -- the current precedences that are defined
  pub current_unstored : (th : ℕ) → current (with_current t cp ct) th ≡ current t th
  unfolding current
  current_unstored th = highest_unstored th (at t.priority th, at t.time th) 32

  -- and who runs
  leader_unstored : (n : ℕ) → leader (with_current t cp ct) n ≡ leader t n
  unfolding leader is_ready is_live
  leader_unstored zero = refl
  leader_unstored (suc n) = rw (leader_unstored n, current_unstored n, current_unstored (leader t n), waits_for_unstored n)

  pub runner_unstored : runner (with_current t cp ct) ≡ runner t
  unfolding runner
  runner_unstored = leader_unstored 32
