-- Sums over a list of threads, and how many threads a set has. Assumes nothing.
use Prim.Native.Nat.{ℕ, zero, suc, ◌+◌, ◌*◌, ◌≤◌, ◌<◌}
use mathlib.Core.Path.{refl}
use mathlib.Core.List.{List, [], ◌∷◌}
use mathlib.Core.Logic.{inl, inr}
use native.Mathlib.Nat.{suc-mul}
use native.Mathlib.Omega.{arith}
use lib.ListN.{length}
use Rattle.protocol.specs.Sets.{SetOf, ◌∈◌, set, Number}
use Rattle.protocol.proofs.Counting.{number_none, number_with, number_without}

abbrev pub sum : List ℕ → (ℕ → ℕ) → ℕ
sum [] f = 0
sum (x ∷ xs) f = f x + sum xs f

pub sum_grows : (l : List ℕ) (f g : ℕ → ℕ) → ((u : ℕ) → f u ≤ g u) → sum l f ≤ sum l g
sum_grows [] f g le = omega arith
sum_grows (x ∷ xs) f g le = omega (arith, le x, sum_grows xs f g le)

-- where f is less than g at one of the list, so is its sum
pub sum_less : (l : List ℕ) (f g : ℕ → ℕ) → ((u : ℕ) → f u ≤ g u) → (x : ℕ) → x ∈ set l → f x < g x → sum l f < sum l g
sum_less [] f g le x i h = absurd i
sum_less (y ∷ ys) f g le x (inl e) h = let k : f y < g y = rw e at h in omega (arith, sum_grows ys f g le)
sum_less (y ∷ ys) f g le x (inr i) h = omega (arith, le y, sum_less ys f g le x i h)

pub sum_bound : (l : List ℕ) (f : ℕ → ℕ) (K : ℕ) → ((u : ℕ) → u ∈ set l → f u ≤ K) → sum l f ≤ length l * K
sum_bound [] f K le = omega arith
sum_bound (x ∷ xs) f K le = omega (arith, le x (inl refl), sum_bound xs f K (λ u i. le u (inr i)), suc-mul (length xs) K)

-- a set whose members lie below n and are decided has a number
pub number_below : (M : SetOf ℕ) → ((u : ℕ) → Dec (u ∈ M)) → (n : ℕ) → (k : ℕ) × Number (λ u. (u < n) × (u ∈ M)) k
number_below M dec zero = (0, number_none (λ u w. omega (arith, w.0)))
number_below M dec (suc n) = go (number_below M dec n) (dec n)
  where
    go : (k : ℕ) × Number (λ u. (u < n) × (u ∈ M)) k → Dec (n ∈ M) → (k : ℕ) × Number (λ u. (u < suc n) × (u ∈ M)) k
    go (k, c) (yes i) = (suc k, number_with c i)
    go (k, c) (no ni) = (k, number_without c ni)
