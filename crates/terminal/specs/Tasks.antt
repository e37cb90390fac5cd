-- The terminal's tasks. Assumes nothing.
use Rattle.std.specs.Prelude.{Bool, ◌&&◌, List, [], ◌∷◌, leb}
use Rattle.protocol.specs.Events.{Thread, Priority}
use Rattle.refusals.specs.declared.Record.{Record}

-- "sixteen fixed tasks, ids 0 to 15, with priorities 250, 200, ..": each stands at its task's id
abbrev pub priorities : List Priority
priorities = 250 ∷ (200 ∷ (190 ∷ (180 ∷ (170 ∷ (160 ∷ (150 ∷ (140 ∷ (120 ∷ (110 ∷ (100 ∷ (90 ∷ (60 ∷ (30 ∷ (20 ∷ (10 ∷ [])))))))))))))))

-- "Spare tasks, ids 16 to 31"
abbrev pub is_spare : Thread → Bool
is_spare id = leb 16 id && leb id 31

-- the record of the event that creates a task: kind 1, the id, the priority, and 0
abbrev pub creation : Thread → Priority → Record
creation id priority = record { kind = 1; thread = id; argument = priority; zero = 0 }
