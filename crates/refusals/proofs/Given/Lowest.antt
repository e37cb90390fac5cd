-- The lowest number that applies: of lists in a row, and of tests that tell what applies. Assumes nothing.
use Prim.Native.Nat.{ℕ, suc, ◌+◌, ◌≤◌, ◌<◌}
use mathlib.Core.Path.{◌≡◌, refl, sym, subst, ◌∙◌}
use mathlib.Core.Bool.{Bool, true, false, cond}
use mathlib.Core.List.{List, [], ◌∷◌, ◌++◌}
use mathlib.Core.Logic.{◌≢◌, ◌⊎◌, inl, inr, ⊎_elim}
use native.Mathlib.Decide.{ℕ_discrete}
use native.Mathlib.Omega.{arith}
use lib.ListN.{length}
use Rattle.table.proofs.Tests.Reflect.{Tells}
use Rattle.refusals.specs.Refusals.{Refusal, lowest}
use Rattle.refusals.proofs.Tests.Tells.{tells_false}

-- none applies
abbrev pub Passes : List Refusal → Type 0
Passes [] = Unit {0}
Passes (r ∷ rs) = (r.applies ≡ false) × Passes rs

-- the numbers are one above k, two above k, and so on
abbrev pub Numbered : ℕ → List Refusal → Type 0
Numbered k [] = Unit {0}
Numbered k (r ∷ rs) = (r.number ≡ suc k) × Numbered (suc k) rs

-- where the lowest is 0, none applies
pub passes : (k : ℕ) (rs : List Refusal) → Numbered k rs → lowest rs ≡ 0 → Passes rs
unfolding lowest
passes k [] n z = tt
passes k (r ∷ rs) n z = go r.applies z (passes (suc k) rs n.1)
  where
    go : (b : Bool) → cond b r.number (lowest rs) ≡ 0 → (lowest rs ≡ 0 → Passes rs) → (b ≡ false) × Passes rs
    go true z rest = absurd (omega (arith, n.0))
    go false z rest = (refl, rest z)

-- of two lists in a row the lowest is that of the first,
pub of_first : (rs qs : List Refusal) → lowest rs ≢ 0 → lowest (rs ++ qs) ≡ lowest rs
unfolding lowest
of_first [] qs n = absurd (n refl)
of_first (r ∷ rs) qs n = go r.applies n (of_first rs qs)
  where
    go : (b : Bool) → cond b r.number (lowest rs) ≢ 0 → (lowest rs ≢ 0 → lowest (rs ++ qs) ≡ lowest rs) → cond b r.number (lowest (rs ++ qs)) ≡ cond b r.number (lowest rs)
    go true n rest = refl
    go false n rest = rest n

-- or that of the second, where none of the first applies
pub of_second : (rs qs : List Refusal) → Passes rs → lowest (rs ++ qs) ≡ lowest qs
unfolding lowest
of_second [] qs p = refl
of_second (r ∷ rs) qs p = rw p.0 (of_second rs qs p.1)

-- each test tells whether its number applies
abbrev pub Tested : (ℕ → Type 0) → List Refusal → Type 0
Tested Q [] = Unit {0}
Tested Q (r ∷ rs) = Tells r.applies (Q r.number) × Tested Q rs

pub tested_both : (Q : ℕ → Type 0) (rs qs : List Refusal) → Tested Q rs → Tested Q qs → Tested Q (rs ++ qs)
tested_both Q [] qs p q = q
tested_both Q (r ∷ rs) qs p q = (p.0, tested_both Q rs qs p.1 q)

-- x is 0 and none of the l numbers above k applies, or x is the lowest of them that does
abbrev pub LowestOf : (ℕ → Type 0) → ℕ → ℕ → ℕ → Type 0
LowestOf Q k l x = ((x ≡ 0) × ((m : ℕ) → k < m → m ≤ k + l → ¬ Q m)) ⊎ ((k < x) × (x ≤ k + l) × Q x × ((m : ℕ) → k < m → m < x → ¬ Q m))

pub lowest_cases : (Q : ℕ → Type 0) (rs : List Refusal) (k : ℕ) → Numbered k rs → Tested Q rs → LowestOf Q k (length rs) (lowest rs)
unfolding lowest
lowest_cases Q [] k n told = inl (refl, λ m g l. absurd (omega arith))
lowest_cases Q (r ∷ rs) k n told = go r.applies refl (lowest_cases Q rs (suc k) n.1 told.1)
  where
    -- where k + 1 does not apply, what applies from k on applies from k + 1 on
    beyond : ¬ Q r.number → (m : ℕ) → k < m → (suc k < m → ¬ Q m) → ¬ Q m
    beyond none m g else q = at (ℕ_discrete m (suc k))
      where
        at : Dec (m ≡ suc k) → ⊥
        at (yes e) = none (subst Q (e ∙ sym n.0) q)
        at (no d) = else (omega arith) q

    go : (b : Bool) → r.applies ≡ b → LowestOf Q (suc k) (length rs) (lowest rs) → LowestOf Q k (suc (length rs)) (cond b r.number (lowest rs))
    go true e rest = inr (omega (arith, n.0), omega (arith, n.0), told.0.0 e, λ m g l. absurd (omega (arith, n.0)))
    go false e rest = let none = tells_false told.0 e in ⊎_elim
        (λ w. inl (w.0, λ m g l. beyond none m g (λ h. w.1 m h (omega arith))))
        (λ w. inr (omega (arith, w.0), omega (arith, w.1), w.2, λ m g l. beyond none m g (λ h. w.3 m h l)))
        rest
