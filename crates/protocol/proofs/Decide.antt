-- Decisions. Assumes nothing.
use Prim.Native.Nat.{ℕ, zero, suc, ◌<◌}
use mathlib.Core.Path.{◌≡◌}
use mathlib.Core.Logic.{◌⊎◌, inl, inr, ⊎_elim}
use native.Mathlib.Decide.{ℕ_discrete, map_dec}
use native.Mathlib.Omega.{arith}

pub dec_either : {A B : Type 0} → Dec A → Dec B → Dec (A ⊎ B)
dec_either (yes a) d = yes (inl a)
dec_either (no n) (yes b) = yes (inr b)
dec_either (no n) (no m) = no (⊎_elim n m)

-- what holds below n and at n holds below n + 1
pub below_suc : (n : ℕ) (Q : ℕ → Type 0) → ((u : ℕ) → u < n → Q u) → Q n → (u : ℕ) → u < suc n → Q u
below_suc n Q f e u l = go (ℕ_discrete u n)
  where
    go : Dec (u ≡ n) → Q u
    go (yes q) = rw q e
    go (no ne) = f u (omega arith)

-- whether some number satisfies Q, where only those below n can
pub dec_some : (Q : ℕ → Type 0) → ((r : ℕ) → Dec (Q r)) → (n : ℕ) → ((r : ℕ) → Q r → r < n) → Dec ((r : ℕ) × Q r)
dec_some Q dec n low = map_dec (λ w. (w.0, w.2)) (λ w. (w.0, low w.0 w.1, w.1)) (below n)
  where
    below : (n : ℕ) → Dec ((r : ℕ) × (r < n) × Q r)
    below zero = no (λ w. absurd (omega (arith, w.1)))
    below (suc n) = at (dec n) (below n)
      where
        at : Dec (Q n) → Dec ((r : ℕ) × (r < n) × Q r) → Dec ((r : ℕ) × (r < suc n) × Q r)
        at (yes p) d = yes (n, omega arith, p)
        at (no np) (yes w) = yes (w.0, omega (arith, w.1), w.2)
        at (no np) (no nw) = no (λ w. below_suc n (λ r. ¬ Q r) (λ r l p. nw (r, l, p)) np w.0 w.1 w.2)
