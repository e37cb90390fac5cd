-- Past the end of an array there is nothing but zero. Assumes nothing.
use Prim.Native.Nat.{ℕ, ◌≤◌, ◌<◌}
use mathlib.Core.Path.{◌≡◌}
use mathlib.Core.List.{List}
use native.Mathlib.Decide.{dec_lt}
use native.Mathlib.Omega.{arith}
use lib.ListN.{length, get_or-eq_default}
use Rattle.table.specs.Table.{at}

pub beyond : (xs : List ℕ) (x : ℕ) → length xs ≤ x → at xs x ≡ 0
beyond xs x l = get_or-eq_default xs 0 l

-- so what is above zero is within
pub within : (xs : List ℕ) (x : ℕ) → 0 < at xs x → x < length xs
within xs x h = go (dec_lt x (length xs))
  where
    go : Dec (x < length xs) → x < length xs
    go (yes l) = l
    go (no g) = absurd (omega (arith, beyond xs x (omega (arith, g))))
