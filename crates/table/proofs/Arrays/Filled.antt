-- Filling an array of 32 numbers, place by place. Assumes nothing.
use Prim.Native.Nat.{ℕ, ◌<◌}
use mathlib.Core.Path.{◌≡◌}
use mathlib.Core.List.{List}
use lib.ListN.{length}
use Rattle.table.specs.Table.{at}

-- 32 places, of which the first n are those of f
pub record Filled (f : ℕ → ℕ) (n : ℕ) (l : List ℕ) : Type 0 where
  pub size : length l ≡ 32
  pub right : (k : ℕ) → k < n → at l k ≡ f k
