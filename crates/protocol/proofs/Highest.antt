-- Max: there is one at most, and of finitely many there is one. Assumes nothing.
use Prim.Native.Nat.{ℕ, zero, suc, ◌<◌}
use mathlib.Core.Path.{◌≡◌, refl}
use mathlib.Core.Logic.{◌⊎◌, inl, inr, ⊎_elim}
use native.Mathlib.Omega.{arith}
use Rattle.protocol.specs.Sets.{SetOf, ◌∈◌, image, Max}
use Rattle.protocol.proofs.Decide.{below_suc}
use Rattle.protocol.proofs.Order.{Total}

module _ {A : Type 0} (at_most : A → A → Type 0) (total : Total at_most) where
  pub max_unique : {M : SetOf A} {x y : A} → Max at_most M x → Max at_most M y → x ≡ y
  max_unique {x = x} {y = y} p q = total.antisymmetric x y (q.bound x p.among) (p.bound y q.among)

  -- only what is in the set counts
  pub max_map : {M N : SetOf A} {m : A} → ((a : A) → a ∈ M → a ∈ N) → ((a : A) → a ∈ N → a ∈ M) → Max at_most M m → Max at_most N m
  max_map {m = m} to from k = record { among = to m k.among; bound = λ a i. k.bound a (from a i) }

  -- the highest that f gives to the numbers below n that satisfy P, unless none does
  pub max_below : (P : SetOf ℕ) → ((u : ℕ) → Dec (P u)) → (f : ℕ → A) (n : ℕ) →
      ((u : ℕ) → u < n → ¬ P u) ⊎ ((m : A) × Max at_most (image f (λ u. (u < n) × P u)) m)
  max_below P dec f zero = inl (λ u l. absurd (omega arith))
  max_below P dec f (suc n) = go (max_below P dec f n) (dec n)
    where
      Below : ℕ → A → Type 0
      Below k m = Max at_most (image f (λ u. (u < k) × P u)) m

      over : {m x : A} → Below n m → at_most m x → (P n → at_most (f n) x) → (a : A) → a ∈ image f (λ u. (u < suc n) × P u) → at_most a x
      over {m} {x} k h top a (u, (l, p), e) = rw e (below_suc n (λ u. P u → at_most (f u) x) (λ u l p. total.transitive (f u) m x (k.bound (f u) (u, (l, p), refl)) h) top u l p)

      widen : {m : A} → m ∈ image f (λ u. (u < n) × P u) → m ∈ image f (λ u. (u < suc n) × P u)
      widen (u, (l, p), e) = (u, (omega arith, p), e)

      go : ((u : ℕ) → u < n → ¬ P u) ⊎ ((m : A) × Below n m) → Dec (P n) → ((u : ℕ) → u < suc n → ¬ P u) ⊎ ((m : A) × Below (suc n) m)
      go (inl none) (no ne) = inl (below_suc n (λ u. ¬ P u) none ne)
      go (inl none) (yes p) = inr (f n, record { among = (n, (omega arith, p), refl); bound = λ a w. let q = w.2 in rw q (below_suc n (λ u. P u → at_most (f u) (f n)) (λ u l i. absurd (none u l i)) (λ i. total.reflexive (f n)) w.0 w.1.0 w.1.1) })
      go (inr (m, k)) (no ne) = inr (m, record { among = widen k.among; bound = over k (total.reflexive m) (λ p. absurd (ne p)) })
      go (inr (m, k)) (yes p) = inr (⊎_elim
          (λ (h : at_most m (f n)). (f n, record { among = (n, (omega arith, p), refl); bound = over k h (λ _. total.reflexive (f n)) }))
          (λ (h : at_most (f n) m). (m, record { among = widen k.among; bound = over k (total.reflexive m) (λ _. h) }))
          (total.either m (f n)))
