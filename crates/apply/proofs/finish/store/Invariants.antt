-- `apply::finish::store` meets its contract. The loop's invariant: the priorities and times of the places passed are there, and the rest
-- of the table is as it was. Assumes nothing.
use Prim.Native.Nat.{◌/◌}
use mathlib.Core.Path.{◌≡◌}
use Rattle.table.specs.Table.{at}
use Rattle.table.proofs.Arrays.Filled.{Filled}
use Rattle.events.specs.Code.Work.{with_current}
use Rattle.apply.specs.Stored.{time_in}
use Rattle.apply.proofs.finish.store.Given as goal

abbrev pub invariant-loop-i : goal.invariant-loop-i
invariant-loop-i l =
    Filled (λ th. at l.current th / 65536) l.i l.t.current_priority × Filled (λ th. time_in (at l.current th)) l.i l.t.current_time
    × (l.t ≡ with_current l.initial.t l.t.current_priority l.t.current_time)
