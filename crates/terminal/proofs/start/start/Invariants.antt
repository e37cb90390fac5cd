-- `terminal::start::start` meets its contract. The loop's invariant: the tasks before `id` are created. Assumes nothing.
use Prim.Native.Nat.{◌-◌}
use mathlib.Core.Path.{◌≡◌}
use Rattle.terminal.specs.Start.{created_to}
use Rattle.terminal.proofs.start.start.Given as goal

abbrev pub invariant-loop-id : goal.invariant-loop-id
invariant-loop-id l = l.done ≡ created_to (l.id - 1)
