-- The drill a byte at a time: what a bench becomes, and the line that the byte completes. Assumes nothing.
use Rattle.std.specs.Prelude.{ℕ, List, [], ◌∷◌, ◌++◌, Option, None, Some}
use Rattle.std.specs.Option.{option_map}
use Rattle.table.specs.declared.Table.{Table}
use Rattle.table.specs.Table.{empty}
use Rattle.refusals.specs.declared.Record.{Record}
use Rattle.locks.specs.Answers.{answer_of}
use Rattle.listing.specs.Text.{tail_line}
use Rattle.drill.specs.declared.Bench.{Bench}
use Rattle.drill.specs.declared.Pending.{Pending}
use Rattle.drill.specs.declared.Pending.TheVariants.{Nothing, Kind, Thread, Argument}
use Rattle.drill.specs.Drill.{next, answer_line, record_of}

-- a bench with this much of the next record
abbrev pub bench : Table → ℕ → Pending → Bench
bench t n pending = record { table = t; number = n; pending = pending }

-- nothing read yet
abbrev pub start : Bench
start = bench empty 0 Nothing

-- what is there of a record after the byte b: it is held, or it completes the record, and nothing is there of the next one
unfoldable pub held : Pending → ℕ → Pending
held Nothing b = Kind b
held (Kind kind) b = Thread kind b
held (Thread kind thread) b = Argument kind thread b
held (Argument kind thread argument) b = Nothing

-- the record that the byte b completes, if it completes one
unfoldable pub completed : Pending → ℕ → Option Record
completed Nothing b = None
completed (Kind kind) b = None
completed (Thread kind thread) b = None
completed (Argument kind thread argument) b = Some (record_of kind thread argument b)

-- the bench after a record, which is carried out
abbrev pub answered : Bench → Record → Bench
answered s e = bench (answer_of s.table e).table (next s.number) s.pending

-- the line of that record
abbrev pub line_of : Bench → Record → List ℕ
line_of s e = answer_line (next s.number) (answer_of s.table e)

-- the bench after a record, if there is one
abbrev pub after_any : Bench → Option Record → Bench
after_any s None = s
after_any s (Some e) = answered s e

-- the bench after the byte b: it is held, or it completes a record
unfoldable pub fed : Bench → ℕ → Bench
fed s b = after_any (bench s.table s.number (held s.pending b)) (completed s.pending b)

-- the line that the byte b completes, if it completes a record
unfoldable pub said : Bench → ℕ → Option (List ℕ)
said s b = option_map (line_of s) (completed s.pending b)

-- the bytes of a line, and none where there is no line
abbrev pub bytes_of : Option (List ℕ) → List ℕ
bytes_of None = []
bytes_of (Some line) = line

-- the bench after a list of bytes, and their lines in order
unfoldable pub after : Bench → List ℕ → Bench
after s [] = s
after s (b ∷ bs) = after (fed s b) bs

unfoldable pub out : Bench → List ℕ → List ℕ
out s [] = []
out s (b ∷ bs) = bytes_of (said s b) ++ out (fed s b) bs

-- the last line of an input that leaves so much of a record over: none if that is nothing
abbrev pub tail_of : Pending → Option (List ℕ)
tail_of Nothing = None
tail_of (Kind kind) = Some (tail_line 1)
tail_of (Thread kind thread) = Some (tail_line 2)
tail_of (Argument kind thread argument) = Some (tail_line 3)

-- the last line
unfoldable pub ending : Bench → Option (List ℕ)
ending s = tail_of s.pending
