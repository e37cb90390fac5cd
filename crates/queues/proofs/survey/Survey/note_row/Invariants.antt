-- `queues::survey::Survey::note_row` meets its contract. The loop's invariant: the first entries are right, and noted and counted they are.
-- Assumes nothing.
use Prim.Native.Nat.{◌+◌}
use mathlib.Core.Path.{◌≡◌}
use lib.ListN.{length}
use Rattle.queues.specs.Queues.{RowRight, Noted, Counted}
use Rattle.queues.proofs.survey.Survey.note_row.Given as goal

abbrev pub invariant-loop-x : goal.invariant-loop-x
invariant-loop-x l = let before = l.fn.self in let i = l.x-index + 1 in record {
  waits_size : length l.self.graph.waits ≡ 32;
  standing_size : length l.self.standing ≡ 32;
  row : RowRight l.queue l.live before.graph.waits l.r i;
  noted : Noted l.queue before.graph.waits l.self.graph.waits l.r i;
  held : l.self.graph.holders ≡ l.initial.self.graph.holders;
  counted : Counted l.queue before.standing l.self.standing l.r i;
}
