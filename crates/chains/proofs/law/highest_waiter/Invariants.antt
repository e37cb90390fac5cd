-- `chains::law::highest_waiter` meets its contract. The loop's invariant: `best` is the highest of `start` and the waiters passed. Assumes nothing.
use Prim.Native.Nat.{◌+◌, ◌≤◌}
use Rattle.protocol.specs.Sets.{only, ◌∪◌, Max}
use Rattle.chains.specs.Law.{WaitersNumbers}
use Rattle.chains.proofs.law.highest_waiter.Given as goal

abbrev pub invariant-loop-x : goal.invariant-loop-x
invariant-loop-x l = Max ◌≤◌ (only l.start ∪ WaitersNumbers l.rows.queue l.w.current l.r (l.x-index + 1)) l.best
