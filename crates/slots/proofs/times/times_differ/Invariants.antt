-- `slots::times::times_differ` meets its contract. The loop's invariant: the live threads passed have different set times, and the mark of each is set.
-- The measure is the number of threads left. Assumes nothing.
use Prim.Native.Nat.{ℕ, ◌%◌, ◌<◌}
use mathlib.Core.Path.{◌≡◌}
use mathlib.Core.Bool.{Bool, true, false}
use mathlib.Core.List.{List}
use mathlib.Core.Logic.{◌≢◌}
use lib.ListN.{length, get_or}
use Rattle.table.specs.Table.{at}
use Rattle.slots.proofs.times.times_differ.Given as goal

-- no live thread before x has its time
abbrev pub New : List ℕ → List ℕ → ℕ → Type 0
New live time x = (y : ℕ) → y < x → at live y ≡ 1 → at time y ≢ at time x

-- the mark of a time is set
abbrev pub IsSet : List Bool → ℕ → Type 0
IsSet marks t = get_or marks (t % 64) false ≡ true

abbrev pub invariant-loop-i : goal.invariant-loop-i
invariant-loop-i l =
    (length l.marks ≡ 64)
    × ((x : ℕ) → x < l.i → at l.t.live x ≡ 1 → New l.t.live l.t.time x)
    × ((x : ℕ) → x < l.i → at l.t.live x ≡ 1 → IsSet l.marks (at l.t.time x))
