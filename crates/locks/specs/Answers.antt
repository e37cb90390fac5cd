-- The answer to a record. Assumes nothing.
use Rattle.std.specs.Prelude.{ℕ, cond, eqb}
use Rattle.std.proofs.Math.Option.{Option, none, some}
use Rattle.protocol.specs.Events.{Event}
use Rattle.table.specs.declared.Table.{Table}
use Rattle.table.specs.Compute.{runner}
use Rattle.refusals.specs.declared.Record.{Record}
use Rattle.refusals.specs.Refusals.{lowest, refusals}
use Rattle.events.specs.Events.{settled, changed, event_of}
use Rattle.events.specs.Count.{count}
use Rattle.locks.specs.declared.Done.{Done}

-- an accepted event: number 0, the running thread of the table afterwards, the count, and that table
unfoldable pub accepted : Table → ℕ → Done
accepted after count = record { answer = record { number = 0; running = runner after; count = count }; table = after }

-- A refusal's count is 0 and its table is the one given; its running thread is that table's, except that refusal 1 reports 32.
unfoldable pub refused : Table → ℕ → Done
refused t n = let r = runner t in record { answer = record { number = n; running = cond (eqb n 1) 32 r; count = 0 }; table = t }

-- the event that an accepted record names is carried out, and every live slot's current precedence is then the defined one; where it
-- names none, nothing is: such a record is refused
unfoldable pub carried_out : Table → Option Event → Done
carried_out t none = accepted t 0
carried_out t (some ev) = accepted (settled (changed t ev)) (count t ev)

-- the answer, and the table afterwards: the lowest refusal that applies, or the event
unfoldable pub answer_of : Table → Record → Done
answer_of t e =
    let n = lowest (refusals t e) in
    let yes = carried_out t (event_of t e) in
    let no = refused t n in
    cond (eqb n 0) yes no
