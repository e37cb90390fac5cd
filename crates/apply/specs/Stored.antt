-- What is stored of a current precedence. Assumes nothing.
use Rattle.std.specs.Prelude.{ℕ, ◌-◌, ◌/◌, ◌%◌, ◌<◌, ◌≡◌, cond, List, eqb, length}
use Rattle.protocol.specs.Events.{Thread}
use Rattle.table.specs.Table.{at}

-- the time in the number of a precedence; 0 in the number 0, which is nobody's
abbrev pub time_in : ℕ → ℕ
time_in n = cond (eqb n 0) 0 (65535 - n % 65536)

-- what the table stores of the numbers of 32 threads: the priority and the time in each
pub record StoredOf (currents priorities times : List ℕ) : Type 0 where
  pub priorities_size : length priorities ≡ 32
  pub times_size : length times ≡ 32
  pub priorities_right : (th : Thread) → th < 32 → at priorities th ≡ at currents th / 65536
  pub times_right : (th : Thread) → th < 32 → at times th ≡ time_in (at currents th)
