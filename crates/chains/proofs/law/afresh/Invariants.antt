-- `chains::law::afresh` meets its contract. The loop's invariant: `best` is the highest of what the resources passed compare.
-- Assumes nothing.
use Prim.Native.Nat.{◌≤◌}
use Rattle.protocol.specs.Sets.{Max}
use Rattle.chains.specs.Law.{Compared}
use Rattle.chains.proofs.law.afresh.Given as goal

abbrev pub invariant-loop-r : goal.invariant-loop-r
invariant-loop-r l = Max ◌≤◌ (Compared l.rows.queue l.rows.length l.w.graph.holders l.w.current l.r l.own l.t) l.best
