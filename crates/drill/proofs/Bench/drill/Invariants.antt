-- `drill::Bench::drill` meets its contract. The loop's invariant: so far, the lines of the bytes that went in. Assumes nothing.
use Prim.Native.Nat.{◌≤◌}
use lib.ListN.{length}
use Rattle.drill.proofs.Parts.{SoFar}
use Rattle.drill.proofs.Bench.drill.Given as goal

abbrev pub invariant-loop-used : goal.invariant-loop-used
invariant-loop-used l = (l.len ≤ length l.out) × SoFar l.initial.self l.input l.out l.self l.used l.len
