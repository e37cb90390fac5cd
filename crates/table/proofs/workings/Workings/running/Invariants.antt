-- `table::workings::Workings::running` meets its contract. The loop's invariant: `best` and `high` are the highest ready thread among the
-- first `i` threads and its number. Assumes nothing.
use mathlib.Core.Path.{◌≡◌}
use Rattle.table.specs.Code.Ready.{ready_number, highest_ready}
use Rattle.table.proofs.workings.Workings.running.Given as goal

abbrev pub invariant-loop-i : goal.invariant-loop-i
invariant-loop-i l =
    (l.high ≡ ready_number l.self.graph.waits l.self.current l.i) × (l.best ≡ highest_ready l.self.graph.waits l.self.current l.i)
