-- `slots::times::time_taken` meets its contract. The loop's invariant: `Counted`, what the count tells of the threads passed.
-- Assumes nothing.
use Prim.Native.Nat.{ℕ, ◌≤◌, ◌<◌}
use mathlib.Core.Logic.{◌↔◌}
use mathlib.Core.List.{List}
use Rattle.slots.specs.Slots.{TimeTaken}
use Rattle.slots.proofs.times.time_taken.Given as goal

-- n above 0, or above 1 once i is passed, says that another of the first j threads has the time of i
abbrev pub Counted : List ℕ → List ℕ → ℕ → ℕ → ℕ → Type 0
Counted live time i n j =
    (n ≤ j) × (j ≤ i → (0 < n) ↔ TimeTaken live time j i) × (i < j → (1 ≤ n) × ((1 < n) ↔ TimeTaken live time j i))

abbrev pub invariant-loop-j : goal.invariant-loop-j
invariant-loop-j l = Counted l.t.live l.t.time l.i l.n l.j
