-- The number of the next record is a sum that stops at the greatest. Assumes nothing.
use Rattle.std.proofs.Common.{◌≡◌, ℕ, ◌+◌, ◌-◌, ◌^◌, ◌<◌, min, arith}
use native.Mathlib.Decide.{dec_lt}
use borrow.Author.Tests.{lt-ltb, le-ltb}
use Rattle.drill.specs.Drill.{next}

pub saturated : (n : ℕ) → n < 2 ^ 64 → min (n + 1) (2 ^ 64 - 1) ≡ next n
unfolding next
saturated n h = go (dec_lt n 18446744073709551615)
  where
    go : Dec (n < 18446744073709551615) → min (n + 1) (2 ^ 64 - 1) ≡ next n
    go (yes l) = rw (lt-ltb n 18446744073709551615 l) (omega arith)
    go (no l) = rw (le-ltb n 18446744073709551615 (omega (arith, l))) (omega (arith, l))
