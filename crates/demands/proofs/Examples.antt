-- The edges that document 01 marks *, computed from the definitions: records in, answers out; and totals on the first of them. Assumes nothing.
use Prim.Native.Nat.{ℕ}
use mathlib.Core.Path.{◌≡◌, refl}
use mathlib.Core.List.{List, [], ◌∷◌, map}
use Rattle.table.specs.declared.Table.{Table}
use Rattle.table.specs.Table.{at, empty}
use Rattle.table.specs.Compute.{all_below, each, member, first_or_32, differ, find_below, is_live, holder, is_waiting, waits_for, blocker, depends, is_higher, highest_behind, current, is_ready, leader, runner, ends, same, dead_zero, spare_zero, time_right, queue_right, waits_once, held_below, unreleased, balance_right, totals_low, current_right, is_sound}
use Rattle.refusals.specs.Refusals.{malformed, leads, holds_any, unsound, by_record, by_thread, by_queues, refusals, lowest}
use Rattle.events.specs.Events.{tabulate, settled, with_slot, with_queue, changed, highest_current, heir, named, event_of}
use Rattle.events.specs.Count.{walk, request_count, release_count, count}
use Rattle.queries.specs.Queries.{thread_refusals, thread_told, thread_answer}
use Rattle.locks.specs.Answers.{accepted, refused, carried_out, answer_of}

-- kind, thread, argument, fourth byte
pub data Bytes : Type 0 where
  bytes : ℕ → ℕ → ℕ → ℕ → Bytes

-- number, running thread, count, and the current priority at which that thread runs, 0 if there is none
pub data Result : Type 0 where
  result : ℕ → ℕ → ℕ → ℕ → Result

-- what a list of records leads to: the answers, and who holds resource 0 at the end
pub record Outcome : Type 0 where
  pub answers : List Result
  pub holder_of_0 : ℕ

-- records from the empty table on, and the outcome that is wanted
pub record Case : Type 0 where
  pub input : List Bytes
  pub wanted : Outcome

-- the outcome of the records, one after another
abbrev pub outcome : Table → List Bytes → Outcome
outcome t [] = record { answers = []; holder_of_0 = holder t 0 }
outcome t (bytes k x a z ∷ bs) =
    let d = answer_of t (record { kind = k; thread = x; argument = a; zero = z }) in
    let r = d.answer.running in
    let rest = outcome d.table bs in
    record {
      answers = result d.answer.number r d.answer.count (at d.table.current_priority r) ∷ rest.answers;
      holder_of_0 = rest.holder_of_0;
    }

-- the marked edges, in the order of document 01
abbrev pub marked : List Case
marked =
    -- The twelve records.
    record {
      input = bytes 1 1 10 0 ∷ bytes 4 1 0 0 ∷ bytes 1 3 30 0 ∷ bytes 4 3 0 0 ∷ bytes 1 2 20 0 ∷ bytes 5 2 0 0 ∷ bytes 4 1 0 0 ∷ bytes 5 1 0 0 ∷ bytes 2 3 0 0 ∷ bytes 5 3 0 0 ∷ bytes 2 3 0 0 ∷ bytes 5 2 0 0 ∷ [];
      wanted = record {
        answers = result 0 1 1 10 ∷ result 0 1 0 10 ∷ result 0 3 1 30 ∷ result 0 1 1 30 ∷ result 0 1 1 30 ∷ result 8 1 0 30 ∷ result 9 1 0 30 ∷ result 0 3 2 30 ∷ result 11 3 0 30 ∷ result 0 3 0 30 ∷ result 0 2 0 20 ∷ result 10 2 0 20 ∷ [];
        holder_of_0 = 32;
      };
    } ∷ (
    -- Create 4 and 5 at priority 7: 4 runs. Set 4 to 7 again: 5 runs.
    record {
      input = bytes 1 4 7 0 ∷ bytes 1 5 7 0 ∷ bytes 3 4 7 0 ∷ [];
      wanted = record {
        answers = result 0 4 1 7 ∷ result 0 4 1 7 ∷ result 0 5 1 7 ∷ [];
        holder_of_0 = 32;
      };
    } ∷ (
    -- Four threads: the last P has count 2 and 0 runs; then, by document 02 (K5), V makes 1 the next holder, which runs at priority 50.
    record {
      input = bytes 1 0 1 0 ∷ bytes 4 0 0 0 ∷ bytes 1 1 5 0 ∷ bytes 4 1 1 0 ∷ bytes 4 1 0 0 ∷ bytes 1 2 9 0 ∷ bytes 4 2 0 0 ∷ bytes 1 3 50 0 ∷ bytes 4 3 1 0 ∷ bytes 5 0 0 0 ∷ [];
      wanted = record {
        answers = result 0 0 1 1 ∷ result 0 0 0 1 ∷ result 0 1 1 5 ∷ result 0 1 0 5 ∷ result 0 0 1 5 ∷ result 0 2 1 9 ∷ result 0 0 1 9 ∷ result 0 3 1 50 ∷ result 0 0 2 50 ∷ result 0 1 2 50 ∷ [];
        holder_of_0 = 1;
      };
    } ∷ (
    -- Resource 15 is taken, 16 gives 4. Thread 31 is created, 32 gives 3.
    record {
      input = bytes 1 0 1 0 ∷ bytes 4 0 15 0 ∷ bytes 4 0 16 0 ∷ bytes 1 31 2 0 ∷ bytes 1 32 2 0 ∷ [];
      wanted = record {
        answers = result 0 0 1 1 ∷ result 0 0 0 1 ∷ result 4 0 0 1 ∷ result 0 31 1 2 ∷ result 3 31 0 2 ∷ [];
        holder_of_0 = 32;
      };
    } ∷ (
    -- Create at priority 0 and at 255.
    record {
      input = bytes 1 0 0 0 ∷ bytes 1 1 255 0 ∷ [];
      wanted = record {
        answers = result 0 0 1 0 ∷ result 0 1 1 255 ∷ [];
        holder_of_0 = 32;
      };
    } ∷ (
    -- Kinds 0 and 6.
    record {
      input = bytes 0 0 0 0 ∷ bytes 6 0 0 0 ∷ [];
      wanted = record {
        answers = result 2 32 0 0 ∷ result 2 32 0 0 ∷ [];
        holder_of_0 = 32;
      };
    } ∷ (
    -- An empty table has no running thread; V there.
    record {
      input = bytes 5 0 0 0 ∷ [];
      wanted = record {
        answers = result 7 32 0 0 ∷ [];
        holder_of_0 = 32;
      };
    } ∷ (
    [])))))))

-- each list of records gives its outcome
pub as_marked : map (λ c. outcome empty c.input) marked ≡ map (λ c. c.wanted) marked
unfolding all_below each member first_or_32 differ find_below is_live holder is_waiting waits_for blocker depends is_higher highest_behind current is_ready leader runner ends same dead_zero spare_zero time_right queue_right waits_once held_below unreleased balance_right totals_low current_right is_sound malformed leads holds_any unsound by_record by_thread by_queues refusals lowest tabulate settled with_slot with_queue changed highest_current heir named event_of walk request_count release_count count accepted refused carried_out answer_of
as_marked = refl

-- the table after the records
abbrev pub left : Table → List Bytes → Table
left t [] = t
left t (bytes k x a z ∷ bs) = left (answer_of t (record { kind = k; thread = x; argument = a; zero = z })).table bs

-- requests and releases, as the thread query tells them
abbrev pub totals : Table → ℕ → ℕ × ℕ
totals t th = let a = thread_answer t th in (a.requests, a.releases)

-- Document 02, K2, on the first eight of the twelve records: thread 1 took the lock and gave it back, its second request is refused and doesn't count; thread 3 waited and holds it now; thread 2 has
-- done neither.
pub as_counted : map (totals (left empty (bytes 1 1 10 0 ∷ bytes 4 1 0 0 ∷ bytes 1 3 30 0 ∷ bytes 4 3 0 0 ∷ bytes 1 2 20 0 ∷ bytes 5 2 0 0 ∷ bytes 4 1 0 0 ∷ bytes 5 1 0 0 ∷ []))) (1 ∷ (2 ∷ (3 ∷ []))) ≡ (1, 1) ∷ ((0, 0) ∷ ((1, 0) ∷ []))
unfolding all_below each member first_or_32 differ find_below is_live holder is_waiting waits_for blocker depends is_higher highest_behind current is_ready leader runner ends same dead_zero spare_zero time_right queue_right waits_once held_below unreleased balance_right totals_low current_right is_sound malformed leads holds_any unsound by_record by_thread by_queues refusals lowest tabulate settled with_slot with_queue changed highest_current heir named event_of walk request_count release_count count accepted refused carried_out answer_of thread_refusals thread_told thread_answer
as_counted = refl
