-- How the lowest number goes through the refusals on a sound table: first those by the record, then those by the clock and the thread,
-- then those by the queues. Assumes nothing.
use mathlib.Core.Path.{◌≡◌, refl, ◌∙◌}
use mathlib.Core.Bool.{true}
use mathlib.Core.List.{◌++◌}
use mathlib.Core.Logic.{◌≢◌}
use native.Mathlib.Omega.{arith}
use Rattle.table.specs.declared.Table.{Table}
use Rattle.table.specs.Compute.{is_sound}
use Rattle.refusals.specs.declared.Record.{Record}
use Rattle.refusals.specs.declared.reasons.Reason.{Reason}
use Rattle.refusals.specs.Numbers.{reason_number}
use Rattle.refusals.specs.Refusals.{lowest, unsound, by_record, by_thread, by_queues, refusals}
use Rattle.refusals.proofs.Given.Lowest.{Numbered, passes, of_first, of_second}

-- no reason has the number 0
pub above_0 : (reason : Reason) → reason_number reason ≢ 0
above_0 reason = grind arith

-- the parts follow each other: 2 to 4, then 5 to 8
pub record_numbered : (e : Record) → Numbered 1 (by_record e)
unfolding by_record
record_numbered e = (refl, (refl, (refl, tt)))

module _ (t : Table) (e : Record) where
  thread_numbered : Numbered 4 (by_thread t e)
  unfolding by_thread
  thread_numbered = (refl, (refl, (refl, (refl, tt))))

  -- the number that is given on a sound table
  module _ (sound : is_sound t ≡ true) where
    past_1 : lowest (refusals t e) ≡ lowest (by_record e ++ (by_thread t e ++ by_queues t e))
    unfolding lowest unsound refusals
    past_1 = rw sound refl

    pub given_record : lowest (by_record e) ≢ 0 → lowest (refusals t e) ≡ lowest (by_record e)
    given_record n = past_1 ∙ of_first (by_record e) (by_thread t e ++ by_queues t e) n

    module _ (formed : lowest (by_record e) ≡ 0) where
      pub past_4 : lowest (refusals t e) ≡ lowest (by_thread t e ++ by_queues t e)
      past_4 = past_1 ∙ of_second (by_record e) (by_thread t e ++ by_queues t e) (passes 1 (by_record e) (record_numbered e) formed)

      pub given_thread : lowest (by_thread t e) ≢ 0 → lowest (refusals t e) ≡ lowest (by_thread t e)
      given_thread n = past_4 ∙ of_first (by_thread t e) (by_queues t e) n

      pub given_queues : lowest (by_thread t e) ≡ 0 → lowest (refusals t e) ≡ lowest (by_queues t e)
      given_queues z = past_4 ∙ of_second (by_thread t e) (by_queues t e) (passes 4 (by_thread t e) thread_numbered z)
