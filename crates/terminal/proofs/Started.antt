-- What a shipment starts with, worked out from the definitions. Assumes nothing.
use Prim.Native.Nat.{◌<◌}
use mathlib.Core.Path.{◌≡◌, refl, ap}
use mathlib.Core.Bool.{Bool, true}
use lib.Dec.{eqb}
use Rattle.protocol.specs.Events.{Thread}
use Rattle.table.specs.Compute.{all_below, each, member, first_or_32, differ, find_below, is_live, holder, is_waiting, waits_for, blocker, depends, is_higher, highest_behind, current, is_ready, leader, runner, ends, same, dead_zero, spare_zero, time_right, queue_right, waits_once, held_below, unreleased, balance_right, totals_low, current_right, is_sound}
use Rattle.table.proofs.Tests.Reflect.{tells_eq, tells_below}
use Rattle.refusals.specs.Refusals.{malformed, leads, holds_any, unsound, by_record, by_thread, by_queues, refusals, lowest}
use Rattle.events.specs.Events.{tabulate, settled, with_slot, with_queue, changed, highest_current, heir, named, event_of}
use Rattle.events.specs.Count.{walk, request_count, release_count, count}
use Rattle.locks.specs.declared.Done.{Done}
use Rattle.locks.specs.Answers.{accepted, refused, carried_out, answer_of}
use Rattle.terminal.specs.Start.{created_to, started, first_table}

-- All of it at once: the table and the answer that a start leaves, in numbers, and whether each of the sixteen is accepted.
worked_out : ◌≡◌ {A = Done × Bool} (started, all_below 16 (λ id. eqb (created_to id).answer.number 0)) (record { table = first_table; answer = record { number = 0; running = 0; count = 1 } }, true)
unfolding all_below each member first_or_32 differ find_below is_live holder is_waiting waits_for blocker depends is_higher highest_behind current is_ready leader runner ends same dead_zero spare_zero time_right queue_right waits_once held_below unreleased balance_right totals_low current_right is_sound malformed leads holds_any unsound by_record by_thread by_queues refusals lowest tabulate settled with_slot with_queue changed highest_current heir named event_of walk request_count release_count count accepted refused carried_out answer_of created_to
worked_out = refl

-- accepted, the draw runs, and one thread was worked out afresh
pub started_is : started ≡ record { table = first_table; answer = record { number = 0; running = 0; count = 1 } }
started_is = ap (λ (x : Done × Bool). x.0) worked_out

pub accepted_to : (id : Thread) → id < 16 → (created_to id).answer.number ≡ 0
accepted_to = (tells_below 16 (λ id. eqb (created_to id).answer.number 0) _ (λ id h. tells_eq (created_to id).answer.number 0)).0 (ap (λ (x : Done × Bool). x.1) worked_out)
