-- Sets of threads as words: thread t is marked where bit t is 1. Assumes nothing.
use Rattle.std.specs.Prelude.{ℕ, ◌/◌, ◌%◌, ◌^◌, Bool, false, cond, eqb, leb}
use Rattle.std.specs.Int.Bits.{bit_or}

-- whether thread t is marked; false if there is no such thread
unfoldable pub marked : ℕ → ℕ → Bool
marked word t = cond (leb 32 t) false (eqb (word / 2 ^ t % 2) 1)

-- the word with thread t marked too, if there is such a thread
unfoldable pub mark : ℕ → ℕ → ℕ
mark word t = cond (leb 32 t) word (bit_or word (2 ^ t))
