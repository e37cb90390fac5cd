-- What bounds the places of an array bounds all that is read of it, since past its end there is nothing but zero. Assumes nothing.
use Prim.Native.Nat.{ℕ, ◌≤◌, ◌<◌}
use mathlib.Core.Path.{◌≡◌}
use mathlib.Core.List.{List}
use native.Mathlib.Decide.{dec_lt}
use native.Mathlib.Omega.{arith}
use lib.ListN.{length}
use Rattle.table.specs.Table.{at}
use Rattle.table.proofs.Arrays.Bounds.{beyond}

pub bounded : (xs : List ℕ) (n b : ℕ) → length xs ≡ n → ((i : ℕ) → i < n → at xs i ≤ b) → (i : ℕ) → at xs i ≤ b
bounded xs n b size low i = go (dec_lt i n)
  where
    go : Dec (i < n) → at xs i ≤ b
    go (yes h) = low i h
    go (no g) = omega (arith, beyond xs i (omega arith))
