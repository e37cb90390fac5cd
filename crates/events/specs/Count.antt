-- The count of re-evaluations: how many threads an accepted event has worked out afresh. Assumes nothing.
use Rattle.std.specs.Prelude.{ℕ, zero, suc, ◌+◌, cond, ◌||◌, List, [], ◌∷◌, eqb}
use Rattle.std.proofs.Math.Option.{Option, none, some}
use Rattle.protocol.specs.Events.{Thread, Event, Create, Exit, Set, P, «V»}
use Rattle.table.specs.declared.Table.{Table}
use Rattle.table.specs.Table.{queues}
use Rattle.table.specs.Compute.{waits_for, blocker, current, same}
use Rattle.events.specs.Events.{changed}

-- The walk, from th up from holder to holder, with n threads left: it stops at the first thread whose current precedence
-- stays the same, that thread included, or after a thread that waits for nothing.
unfoldable pub walk : ℕ → Table → Table → Thread → ℕ
walk zero before after th = 0
walk (suc n) before after th =
    let on = 1 + walk n before after (blocker after th) in
    cond (same (current before th) (current after th) || eqb (waits_for after th) 16) 1 on

-- P of a free resource: 0; of a taken one: the walk from its holder
unfoldable pub request_count : Table → Table → List Thread → ℕ
request_count before after [] = 0
request_count before after (h ∷ hs) = walk 32 before after h

-- V with nobody waiting: 0; with a successor: 2, the releaser and the successor
unfoldable pub release_count : Option Thread → ℕ
release_count none = 0
release_count (some next) = 2

-- how many threads an accepted event has worked out afresh
unfoldable pub count : Table → Event → ℕ
count t (Create th prio) = 1
count t (Exit th) = 0
count t (Set th prio) = 1
count t (P th cs) = request_count t (changed t (P th cs)) (queues t cs)
count t («V» th cs next) = release_count next
