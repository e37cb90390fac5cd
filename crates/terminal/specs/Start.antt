-- "Starting a shipment creates them in order on the empty table". Assumes nothing.
use Rattle.std.specs.Prelude.{ℕ, zero, suc, List, [], ◌∷◌, ◌++◌, replicate}
use Rattle.protocol.specs.Events.{Thread}
use Rattle.table.specs.declared.Table.{Table}
use Rattle.table.specs.Table.{at, empty}
use Rattle.locks.specs.declared.Done.{Done}
use Rattle.locks.specs.Answers.{answer_of}
use Rattle.terminal.specs.Tasks.{priorities, creation}

-- the tasks 0 to n are created in order, the first one on the empty table: the last answer, and the table afterwards
unfoldable pub created_to : Thread → Done
created_to zero = answer_of empty (creation 0 (at priorities 0))
created_to (suc n) = answer_of (created_to n).table (creation (suc n) (at priorities (suc n)))

-- a shipment is started: all sixteen are created
abbrev pub started : Done
started = created_to 15

-- The same table in numbers (proofs/Started): "clock 16, thread 0 running". The tasks were set in order, each at the time that is its id;
abbrev pub times : List ℕ
times = 0 ∷ (1 ∷ (2 ∷ (3 ∷ (4 ∷ (5 ∷ (6 ∷ (7 ∷ (8 ∷ (9 ∷ (10 ∷ (11 ∷ (12 ∷ (13 ∷ (14 ∷ (15 ∷ [])))))))))))))))

-- sixteen threads are live, their current precedences are their own, and there is nothing else
abbrev pub first_table : Table
first_table = record {
  clock = 16;
  live = replicate 16 1 ++ replicate 16 0;
  priority = priorities ++ replicate 16 0;
  time = times ++ replicate 16 0;
  current_priority = priorities ++ replicate 16 0;
  current_time = times ++ replicate 16 0;
  rows = record { queue = replicate 512 0; length = replicate 16 0 };
  requests = replicate 32 0;
  releases = replicate 32 0;
}
