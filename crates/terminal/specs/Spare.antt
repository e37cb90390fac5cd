-- "Spare tasks, ids 16 to 31, may be added with a priority or without one; without one they get 0." Assumes nothing.
use Rattle.std.specs.Prelude.{cond, not, List, ◌∷◌, ◌++◌, eqb, Option, unwrap_or}
use Rattle.protocol.specs.Events.{Thread, Priority}
use Rattle.table.specs.declared.Table.{Table}
use Rattle.refusals.specs.declared.Record.{Record}
use Rattle.refusals.specs.Refusals.{Refusal, unsound, by_record, by_thread, by_queues, lowest}
use Rattle.locks.specs.declared.Done.{Done}
use Rattle.locks.specs.Answers.{refused, answer_of}
use Rattle.terminal.specs.Tasks.{is_spare, creation}

-- what a spare task gets that is added without a priority
abbrev pub default : Priority
default = 0

-- the priority that it is added with: the one that is wanted, if one is
abbrev pub priority_of : Option Priority → Priority
priority_of wanted = unwrap_or wanted default

-- the record of the event that adds it: a Create
abbrev pub addition : Thread → Option Priority → Record
addition id w = creation id (priority_of w)

-- "Refusals: 1 first, then 17 for a spare task with an id outside 16 to 31, then the rest of Create's", which are 2 and on. The first of them that applies is given.
unfoldable pub spare_refusals : Table → Thread → Option Priority → List Refusal
spare_refusals t id w =
    let e = addition id w in
    unsound t ∷ (record { number = 17; applies = not (is_spare id) } ∷ (by_record e ++ (by_thread t e ++ by_queues t e)))

-- the answer, and the table afterwards: what the step makes of the Create or, where a refusal applies, that refusal
unfoldable pub spare_answer : Table → Thread → Option Priority → Done
spare_answer t id w =
    let n = lowest (spare_refusals t id w) in
    let yes = answer_of t (addition id w) in
    let no = refused t n in
    cond (eqb n 0) yes no
