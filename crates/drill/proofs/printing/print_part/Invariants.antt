-- `drill::printing::print_part` meets its contract. The loop's invariant: the bench is the one after what is used. Assumes nothing.
use Prim.Native.Nat.{◌-◌, ◌≤◌}
use mathlib.Core.Path.{◌≡◌}
use lib.ListN.{length, take}
use Rattle.drill.specs.Bytes.{after}
use Rattle.drill.proofs.printing.print_part.Given as goal

abbrev pub invariant-loop-used : goal.invariant-loop-used
invariant-loop-used g l = (l.used ≤ length l.input) × (l.bench ≡ after l.initial.bench (take l.used l.input))

abbrev pub decreases-loop-used : goal.decreases-loop-used
decreases-loop-used g l = length l.input - l.used
