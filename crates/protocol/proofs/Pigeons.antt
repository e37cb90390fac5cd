-- Where no two share a hole, there are no more pigeons than holes. Assumes nothing.
use Prim.Native.Nat.{ℕ, zero, suc, ◌≤◌, ◌<◌}
use mathlib.Core.Path.{◌≡◌, refl, ap, subst}
use mathlib.Core.Logic.{◌≢◌, ◌⊎◌, inl, inr, ⊎_elim}
use native.Mathlib.Omega.{arith}
use native.Mathlib.Decide.{ℕ_discrete, dec_lt}

-- m pigeons in n holes, none shared
pub pigeons : (n m : ℕ) (f : ℕ → ℕ) → ((i : ℕ) → i < m → f i < n) → ((i j : ℕ) → i < j → j < m → f i ≢ f j) → m ≤ n
pigeons n zero f low apart = omega arith
pigeons zero (suc m) f low apart = absurd (omega (arith, low m (omega arith)))
pigeons (suc n) (suc m) f low apart = let h = pigeons n m g g_low g_apart in omega arith
  where
    -- the last pigeon goes, and whoever sat in the last hole takes the hole it leaves
    moved : (i : ℕ) → Dec (f i ≡ n) → ℕ
    moved i (yes e) = f m
    moved i (no e) = f i

    g : ℕ → ℕ
    g i = moved i (ℕ_discrete (f i) n)

    Is : ℕ → Type 0
    Is i = ((f i ≡ n) × (g i ≡ f m)) ⊎ ((f i ≢ n) × (g i ≡ f i))

    g_is : (i : ℕ) → Is i
    g_is i = go (ℕ_discrete (f i) n) refl
      where
        go : (d : Dec (f i ≡ n)) → ℕ_discrete (f i) n ≡ d → Is i
        go (yes e) p = inl (e, ap (moved i) p)
        go (no e) p = inr (e, ap (moved i) p)

    g_low : (i : ℕ) → i < m → g i < n
    g_low i h = ⊎_elim {C = g i < n} (λ p. omega (arith, apart i m h (omega arith), low m (omega arith))) (λ p. omega (arith, low i (omega arith))) (g_is i)

    g_apart : (i j : ℕ) → i < j → j < m → g i ≢ g j
    g_apart i j h k = both (g_is i) (g_is j)
      where
        both : Is i → Is j → g i ≢ g j
        both (inl p) (inl q) = omega (arith, apart i j h (omega arith))
        both (inl p) (inr q) = omega (arith, apart j m k (omega arith))
        both (inr p) (inl q) = omega (arith, apart i m (omega arith) (omega arith))
        both (inr p) (inr q) = omega (arith, apart i j h (omega arith))

-- the same with a relation for the function
pub pigeons_by : (n m : ℕ) (In : ℕ → ℕ → Type 0) → ((i : ℕ) → i < m → (a : ℕ) × In i a × (a < n)) →
    ((i j a : ℕ) → In i a → In j a → i ≡ j) → m ≤ n
pigeons_by n m In hole alone = pigeons n m f (λ i h. (f_is i h).1) (λ i j h k e. omega (arith, alone i j (f j) (subst (In i) e (f_is i (omega arith)).0) (f_is j k).0))
  where
    pick : (i : ℕ) → Dec (i < m) → ℕ
    pick i (yes h) = (hole i h).0
    pick i (no h) = 0

    f : ℕ → ℕ
    f i = pick i (dec_lt i m)

    f_is : (i : ℕ) → i < m → In i (f i) × (f i < n)
    f_is i h = go (dec_lt i m)
      where
        go : (d : Dec (i < m)) → In i (pick i d) × (pick i d < n)
        go (yes k) = ((hole i k).1, (hole i k).2)
        go (no k) = absurd (k h)
