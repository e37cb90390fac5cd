-- The fixed priorities fall: one test over the whole table, and the rule that it gives at any two entries. Assumes nothing.
use Prim.Native.Nat.{ℕ, zero, suc, ◌<◌}
use mathlib.Core.Path.{◌≡◌, refl}
use mathlib.Core.Bool.{Bool, true, ◌&&◌}
use mathlib.Core.List.{List, [], ◌∷◌}
use mathlib.Core.Logic.{inl, inr}
use native.Mathlib.Omega.{arith}
use lib.Dec.{ltb}
use lib.ListN.{length}
use Rattle.protocol.specs.Sets.{◌∈◌, set}
use Rattle.table.specs.Table.{at}
use Rattle.table.specs.Compute.{each}
use Rattle.table.proofs.Tests.Reflect.{tells_itself, tells_lt, tells_both, tells_each}
use Rattle.terminal.specs.Tasks.{priorities}

-- every entry is above all that stand after it
unfoldable falls : List ℕ → Bool
falls [] = true
falls (x ∷ xs) = each (λ y. ltb y x) xs && falls xs

-- what stands at a place of a list is in it
there : (xs : List ℕ) (i : ℕ) → i < length xs → at xs i ∈ set xs
there [] i h = absurd (omega arith)
there (x ∷ xs) zero h = inl refl
there (x ∷ xs) (suc i) h = inr (there xs i (omega arith))

-- so of any two entries the earlier one is above the later one
falling : (xs : List ℕ) → falls xs ≡ true → (i j : ℕ) → i < j → j < length xs → at xs j < at xs i
unfolding falls
falling [] e i j h k = absurd (omega arith)
falling (x ∷ xs) e i zero h k = absurd (omega arith)
falling (x ∷ xs) e zero (suc j) h k = let w = (tells_both (tells_itself (each (λ y. ltb y x) xs)) (tells_itself (falls xs))).0 e in (tells_each (λ y. ltb y x) (λ y. y < x) (λ y. tells_lt y x) xs).0 w.0 (at xs j) (there xs j (omega arith))
falling (x ∷ xs) e (suc i) (suc j) h k = let w = (tells_both (tells_itself (each (λ y. ltb y x) xs)) (tells_itself (falls xs))).0 e in falling xs w.1 i j (omega arith) (omega arith)

pub priorities_fall : (i j : ℕ) → i < j → j < 16 → at priorities j < at priorities i
unfolding falls each
priorities_fall i j h k = falling priorities refl i j h k
