-- The highest number of a set that grows by the numbers that are compared next. Assumes nothing.
use Prim.Native.Nat.{ℕ, ◌≤◌, max}
use mathlib.Core.Path.{refl}
use mathlib.Core.Logic.{inl, inr, ⊎_elim, by_cases}
use native.Mathlib.Decide.{dec_le}
use native.Mathlib.Nat.{le_trans}
use native.Mathlib.Omega.{arith}
use Rattle.protocol.specs.Sets.{SetOf, ◌∈◌, only, ◌∪◌, Max}

-- the same set
pub alike : {M N : SetOf ℕ} {m : ℕ} → ((a : ℕ) → a ∈ M → a ∈ N) → ((a : ℕ) → a ∈ N → a ∈ M) → Max ◌≤◌ M m → Max ◌≤◌ N m
alike there back p = record { among = there _ p.among; bound = λ a i. p.bound a (back a i) }

-- M with N, where the numbers of N are compared with the highest of M
pub joined : {M N : SetOf ℕ} {m h : ℕ} → Max ◌≤◌ M m → Max ◌≤◌ (only m ∪ N) h → Max ◌≤◌ (M ∪ N) h
joined {m} p q = record {
  among = ⊎_elim (λ e. inl (rw e p.among)) inr q.among;
  bound = λ a. ⊎_elim (λ i. le_trans (p.bound a i) (q.bound m (inl refl))) (λ i. q.bound a (inr i));
}

-- one number more
pub of_max : (m v : ℕ) → Max ◌≤◌ (only m ∪ only v) (max m v)
of_max m v = record { among = by_cases (dec_le v m) (λ l. inl (omega arith)) (λ l. inr (omega arith)); bound = λ a. ⊎_elim (λ i. omega arith) (λ i. omega arith) }
