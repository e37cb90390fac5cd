-- `queues::survey::Survey::of` meets its contract. The loop's invariant: the queues of the first r resources are right, and what they say is
-- noted. Assumes nothing.
use Prim.Native.Nat.{ℕ, ◌≤◌}
use mathlib.Core.Path.{◌≡◌}
use lib.ListN.{length}
use Rattle.table.specs.Table.{at}
use Rattle.queues.specs.Queues.{RowsRight, Surveyed}
use Rattle.queues.proofs.survey.Survey.of.Given as goal

abbrev pub invariant-loop-r : goal.invariant-loop-r
invariant-loop-r l = let found = l.found in record {
  holders_size : length found.graph.holders ≡ 16;
  few : (x : ℕ) → at found.standing x ≤ l.r;
  right : RowsRight l.rows.queue l.rows.length l.live l.r;
  known : Surveyed l.rows.queue l.rows.length l.r found.graph.waits found.graph.holders found.standing;
}
