-- What drilling a part of the input gives. Assumes nothing.
use Rattle.std.specs.Prelude.{ℕ, ◌+◌, ◌≤◌, ◌<◌, ◌≡◌, cond, List, [], ◌∷◌, eqb, length, take}
use Rattle.drill.specs.declared.Bench.{Bench}
use Rattle.drill.specs.declared.Part.{Part}
use Rattle.drill.specs.Drill.{next}
use Rattle.drill.specs.Bytes.{after, out}

-- From the bench s, the first `used` bytes of the input went in, `len` bytes of room have their lines, and the bench is the one
-- after them. Where there is room for one more line, of 48 bytes at most, all of the input went in.
pub record Drills (s : Bench) (input room : List ℕ) (now : Bench) (r : Part) : Type 0 where
  pub within : r.used ≤ length input
  pub fits : r.len ≤ length room
  pub lines : take r.len room ≡ out s (take r.used input)
  pub carried : now ≡ after s (take r.used input)
  pub all : r.len + 48 ≤ length room → r.used ≡ length input

-- From the bench s, the lines of the first `used` bytes of the input are written, which are some if there are any, and the bench is the one after them.
pub record Prints (s : Bench) (input : List ℕ) (used : ℕ) (now : Bench) : Type 0 where
  pub within : used ≤ length input
  pub some : 0 < length input → 0 < used
  pub carried : now ≡ after s (take used input)

-- the number of the last record whose line is whole, one byte later: a line ends in a newline, the byte 10
unfoldable pub counted : ℕ → ℕ → ℕ
counted n b = cond (eqb b 10) (next n) n

-- the number of the last record whose line is whole in these bytes, which follow the line of record n
unfoldable pub last_whole : ℕ → List ℕ → ℕ
last_whole n [] = n
last_whole n (b ∷ bs) = last_whole (counted n b) bs
