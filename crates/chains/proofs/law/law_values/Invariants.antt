-- `chains::law::law_values` meets its contract. The loop's invariant: `best` has for each thread the highest of what the resources passed
-- compare. Assumes nothing.
use Prim.Native.Nat.{ℕ, ◌≤◌, ◌<◌}
use mathlib.Core.Path.{◌≡◌}
use mathlib.Core.List.{List}
use lib.ListN.{length}
use Rattle.protocol.specs.Sets.{Max}
use Rattle.table.specs.Table.{at}
use Rattle.chains.specs.Law.{Compared}
use Rattle.chains.proofs.law.law_values.Given as goal

module _ (queue lengths holders current own : List ℕ) where
  -- `best` is right for the first r resources
  abbrev pub Right : ℕ → List ℕ → Type 0
  Right r best = (t : ℕ) → t < 32 → Max ◌≤◌ (Compared queue lengths holders current r (at own t) t) (at best t)

abbrev pub invariant-loop-r : goal.invariant-loop-r
invariant-loop-r l = (length l.best ≡ 32) × Right l.rows.queue l.rows.length l.w.graph.holders l.w.current l.w.own l.r l.best
