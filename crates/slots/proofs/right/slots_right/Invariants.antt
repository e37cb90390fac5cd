-- `slots::right::slots_right` meets its contract. The loop's invariant: whether the slots passed are right. Assumes nothing.
use Prim.Native.Nat.{ℕ, ◌<◌}
use mathlib.Core.Path.{◌≡◌}
use mathlib.Core.Bool.{true}
use mathlib.Core.Logic.{◌↔◌}
use Rattle.table.specs.Table.{at}
use Rattle.slots.specs.Slots.{SlotRight}
use Rattle.slots.proofs.right.slots_right.Given as goal

abbrev pub invariant-loop-i : goal.invariant-loop-i
invariant-loop-i l = let t = l.t in
    (l.right ≡ true) ↔ ((th : ℕ) → th < l.i → SlotRight t.clock (at t.live th) (at t.priority th) (at t.time th) (at t.current_priority th) (at t.current_time th) (at t.requests th))
