-- `table::numbers::numbers` meets its contract. The loop's invariant: each place passed has its slot's number. Assumes nothing.
use Prim.Native.Nat.{ℕ, ◌<◌}
use Rattle.table.specs.Table.{at}
use Rattle.table.specs.Code.Places.{slot_number}
use Rattle.table.proofs.Arrays.Filled.{Filled}
use Rattle.table.proofs.numbers.numbers.Given as goal

abbrev pub invariant-loop-i : goal.invariant-loop-i
invariant-loop-i l =
    Filled (λ k. slot_number (at l.live k) (at l.priority k) (at l.time k)) l.i l.all
    × ((k : ℕ) → k < l.i → (at l.priority k < 256) × (at l.time k < 65536))
