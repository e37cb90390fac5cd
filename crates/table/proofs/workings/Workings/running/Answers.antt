-- `table::workings::Workings::running` meets its contract: all 32 were compared. Assumes nothing.
use mathlib.Core.Path.{◌≡◌}
use native.Mathlib.Omega.{arith}
use Rattle.table.proofs.workings.Workings.running.Goals as goal

pub returns : goal.returns
returns c = let e : c.loop-i.i ≡ 32 = omega arith in rw e at c.loop-i.invariant.1
