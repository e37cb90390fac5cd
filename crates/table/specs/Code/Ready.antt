-- The highest thread that waits for nothing, as the code finds it. Assumes nothing.
use Rattle.std.specs.Prelude.{ℕ, zero, suc, Bool, cond, ◌&&◌, List, eqb, ltb}
use Rattle.table.specs.Table.{at}

-- th waits for nothing
abbrev pub is_free : List ℕ → ℕ → Bool
is_free waits th = eqb (at waits th) 16

-- the highest number of the threads among the first n that wait for nothing; 0 if there is none
unfoldable pub ready_number : List ℕ → List ℕ → ℕ → ℕ
ready_number waits current zero = 0
ready_number waits current (suc n) =
    let b = ready_number waits current n in cond (is_free waits n && ltb b (at current n)) (at current n) b

-- of the threads among the first n that wait for nothing, the first of highest number; 32 if none of them has a number above 0 (in a sound
-- table just the live threads have)
unfoldable pub highest_ready : List ℕ → List ℕ → ℕ → ℕ
highest_ready waits current zero = 32
highest_ready waits current (suc n) =
    cond (is_free waits n && ltb (ready_number waits current n) (at current n)) n (highest_ready waits current n)
