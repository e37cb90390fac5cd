-- The bench program: the lines that the records of an input give. Assumes nothing.
use Rattle.std.specs.Prelude.{ℕ, ◌+◌, cond, List, [], ◌∷◌, ◌++◌, ltb}
use Rattle.table.specs.declared.Table.{Table}
use Rattle.table.specs.Table.{empty}
use Rattle.refusals.specs.declared.Record.{Record}
use Rattle.locks.specs.declared.Done.{Done}
use Rattle.locks.specs.Answers.{answer_of}
use Rattle.listing.specs.Text.{line, tail_line, header}

-- the number of the record after the one of number n; the numbers are u64 and stop at the greatest
unfoldable pub next : ℕ → ℕ
next n = cond (ltb n 18446744073709551615) (n + 1) n

-- a record's line: its number, and the three numbers of its answer
unfoldable pub answer_line : ℕ → Done → List ℕ
answer_line n d = line n d.answer.number d.answer.running d.answer.count

-- a record is four bytes
abbrev pub record_of : ℕ → ℕ → ℕ → ℕ → Record
record_of kind thread argument last = record { kind = kind; thread = thread; argument = argument; zero = last }

-- The lines of an input: from the table t, after record n, a line for each four bytes, with the table of its answer for what
-- follows, refused or not. One to three bytes left over give a last line `tail` and how many.
unfoldable pub lines : Table → ℕ → List ℕ → List ℕ
lines t n [] = []
lines t n (a ∷ []) = tail_line 1
lines t n (a ∷ (b ∷ [])) = tail_line 2
lines t n (a ∷ (b ∷ (c ∷ []))) = tail_line 3
lines t n (a ∷ (b ∷ (c ∷ (d ∷ rest)))) = let done = answer_of t (record_of a b c d) in answer_line (next n) done ++ lines done.table (next n) rest

-- what the bench program prints for an input: the header, then the lines from the empty table
unfoldable pub listing : List ℕ → List ℕ
listing input = header ++ lines empty 0 input
