-- `chains::ways::no_circle` meets its contract. The loop's invariant: the way ends from every thread before `i`, and from every
-- thread that is seen. The measure is the number of threads left. Assumes nothing.
use Prim.Native.Nat.{ℕ, ◌<◌}
use mathlib.Core.Path.{◌≡◌}
use mathlib.Core.Bool.{true}
use Rattle.chains.specs.Marks.{marked}
use Rattle.chains.specs.Ways.{EndsFrom}
use Rattle.chains.proofs.ways.no_circle.Given as goal

abbrev pub invariant-loop-i : goal.invariant-loop-i
invariant-loop-i l = ((u : ℕ) → u < l.i → EndsFrom l.graph.waits l.graph.holders u) × ((u : ℕ) → marked l.seen u ≡ true → EndsFrom l.graph.waits l.graph.holders u)
