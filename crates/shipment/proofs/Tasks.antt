-- The state that a start leads to: who is live, their precedences, and their order. Assumes nothing.
use Prim.Native.Nat.{ℕ, zero, suc, ◌≤◌, ◌<◌}
use mathlib.Core.Path.{◌≡◌, refl, sym, ap}
use mathlib.Core.Logic.{◌≢◌, inl, inr, ⊎_elim, by_cases}
use mathlib.Core.List.{[], ◌∷◌}
use native.Mathlib.Decide.{ℕ_discrete, dec_lt}
use native.Mathlib.Omega.{arith}
use borrow.Author.Tests.{eq-eqb, ne_eqb}
use lib.ListN.{length}
use Rattle.protocol.specs.Sets.{◌∈◌}
use Rattle.protocol.specs.Events.{Thread, Create, State, threads, priority, Precedence, prec, Higher}
use Rattle.protocol.specs.Schedule.{wq}
use Rattle.protocol.specs.Demand3.{HoldsOrWaits}
use Rattle.table.specs.Table.{at}
use Rattle.terminal.specs.Tasks.{priorities}
use Rattle.terminal.proofs.Falling.{priorities_fall}
use Rattle.terminal.proofs.Order.{above_as, own_alone, above}
use Rattle.shipment.specs.Shipped.{fixed_tasks}
use Rattle.shipment.specs.Order.{InOrder}

-- the tasks 0 to n are created
abbrev pub tasks_to : ℕ → State
tasks_to zero = Create 0 (at priorities 0) ∷ []
tasks_to (suc n) = Create (suc n) (at priorities (suc n)) ∷ tasks_to n

size : (n : ℕ) → length (tasks_to n) ≡ suc n
size zero = refl
size (suc n) = ap suc (size n)

-- they are live
live_to : (n i : ℕ) → i ≤ n → i ∈ threads (tasks_to n)
live_to zero i h = inl (omega arith)
live_to (suc n) i h = by_cases (ℕ_discrete i (suc n)) inl (λ d. inr (live_to n i (omega arith)))

-- each has its priority, set at the time that is its id
prec_to : (n i : ℕ) → i ≤ n → prec i (tasks_to n) ≡ (at priorities i, i)
prec_to zero i h = let e : i ≡ 0 = omega arith in rw e
prec_to (suc n) i h = by_cases (ℕ_discrete i (suc n))
    (λ e. rw (e, eq-eqb (suc n) (suc n) refl) (ap (λ (x : ℕ). (at priorities (suc n), x)) (size n)))
    (λ d. rw (ne_eqb (suc n) i (λ e. d (sym e))) (prec_to n i (omega arith)))

-- and no other was ever given a priority
unset_to : (n i : ℕ) → n < i → priority i (tasks_to n) ≡ 0
unset_to zero i h = rw (ne_eqb 0 i (λ e. omega arith))
unset_to (suc n) i h = rw (ne_eqb (suc n) i (λ e. omega arith)) (unset_to n i (omega arith))

pub fixed_live : (i : Thread) → i < 16 → i ∈ threads fixed_tasks
fixed_live i h = live_to 15 i (omega arith)

pub fixed_prec : (i : Thread) → i < 16 → prec i fixed_tasks ≡ (at priorities i, i)
fixed_prec i h = prec_to 15 i (omega arith)

-- nobody holds or waits for anything
pub all_free : (i : Thread) → ¬ HoldsOrWaits fixed_tasks i
all_free i = ⊎_elim (λ w. w.1.0) (λ w. w.1.0)

-- every other task's priority is below the draw's
pub others_below : (u : Thread) → u ≢ 0 → priority u fixed_tasks < 250
others_below u n = by_cases (dec_lt u 16)
    (λ low. let fall = priorities_fall 0 u (omega arith) low in let is = ap (λ (p : Precedence). p.0) (fixed_prec u low) in omega arith)
    (λ high. omega (arith, unset_to 15 u (omega arith)))

-- each fixed task's precedence is above that of all after it, and so is its current one, since nobody waits
pub in_order : InOrder fixed_tasks
in_order = record {
  own = own_falls;
  current = λ i j h l m n a b. above_as (own_alone (wq fixed_tasks) (λ cs. refl) (λ u. prec u fixed_tasks) i m a) (own_alone (wq fixed_tasks) (λ cs. refl) (λ u. prec u fixed_tasks) j n b) (own_falls i j h l);
}
  where
    own_falls : (i j : Thread) → i < j → j < 16 → Higher (prec i fixed_tasks) (prec j fixed_tasks)
    own_falls i j h l = above_as (fixed_prec i (omega arith)) (fixed_prec j l) (above i j h l)
