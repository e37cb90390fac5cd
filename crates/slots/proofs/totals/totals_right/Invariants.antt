-- `slots::totals::totals_right` meets its contract. The loop's invariant: whether the totals of the threads passed are right. Assumes nothing.
use Prim.Native.Nat.{ℕ, ◌<◌}
use mathlib.Core.Path.{◌≡◌}
use mathlib.Core.Bool.{true}
use mathlib.Core.Logic.{◌↔◌}
use Rattle.table.specs.Table.{at}
use Rattle.slots.specs.Slots.{AddsUp}
use Rattle.slots.proofs.totals.totals_right.Given as goal

abbrev pub invariant-loop-i : goal.invariant-loop-i
invariant-loop-i l = (l.right ≡ true) ↔ ((th : ℕ) → th < l.i → AddsUp l.t.clock (at l.t.requests th) (at l.t.releases th) (at l.standing th))
