-- A queue after a release, place by place. Assumes nothing.
use Prim.Native.Nat.{ℕ, zero, suc, ◌+◌, ◌≤◌, ◌<◌}
use mathlib.Core.Path.{◌≡◌, refl}
use mathlib.Core.Option.{some}
use mathlib.Core.List.{List, [], ◌∷◌}
use native.Mathlib.Omega.{arith}
use borrow.Author.Tests.{eq-eqb, ne_eqb}
use lib.ListN.{length}
use Rattle.protocol.specs.Sets.{Distinct}
use Rattle.protocol.specs.Schedule.{without, release}
use Rattle.table.specs.Table.{at}
use Rattle.table.proofs.Arrays.Places.{index_in}

-- q' is q with the entry at p at the head, in place of the one that stood there, and those behind p moved up
pub record MovedUp (q : List ℕ) (p : ℕ) (q' : List ℕ) : Type 0 where
  pub size : length q' + 1 ≡ length q
  pub head : at q' 0 ≡ at q p
  pub before : (i : ℕ) → 1 ≤ i → i < p → at q' i ≡ at q i
  pub after : (i : ℕ) → p ≤ i → i + 1 < length q → at q' i ≡ at q (i + 1)

-- the list without its entry at k, place by place
pub record ClosedUp (q : List ℕ) (k : ℕ) (q' : List ℕ) : Type 0 where
  pub size : length q' + 1 ≡ length q
  pub before : (i : ℕ) → i < k → at q' i ≡ at q i
  pub after : (i : ℕ) → k ≤ i → at q' i ≡ at q (suc i)

pub closed_up : (q : List ℕ) (k : ℕ) → Distinct q → k < length q → ClosedUp q k (without (at q k) q)
closed_up [] k d h = absurd (omega arith)
closed_up (x ∷ xs) zero d h = rw (eq-eqb x x refl) (record { size = omega arith; before = λ i l. absurd (omega arith); after = λ i l. refl })
closed_up (x ∷ xs) (suc k) d h = rw (ne_eqb x (at xs k) (λ e. d.0 (rw (← e) at (index_in xs k (omega arith))))) (go (closed_up xs k d.1 (omega arith)))
  where
    go : ClosedUp xs k (without (at xs k) xs) → ClosedUp (x ∷ xs) (suc k) (x ∷ without (at xs k) xs)
    go c = record { size = omega (arith, c.size); before = earlier; after = later }
      where
        earlier : (i : ℕ) → i < suc k → at (x ∷ without (at xs k) xs) i ≡ at (x ∷ xs) i
        earlier zero l = refl
        earlier (suc i) l = c.before i (omega arith)

        later : (i : ℕ) → suc k ≤ i → at (x ∷ without (at xs k) xs) i ≡ at xs i
        later zero l = absurd (omega arith)
        later (suc i) l = c.after i (omega arith)

-- a release to the entry at p moves it up
pub moved_up : (q : List ℕ) (p : ℕ) → Distinct q → 1 ≤ p → p < length q → MovedUp q p (release q (some (at q p)))
moved_up [] p d l h = absurd (omega arith)
moved_up (x ∷ xs) zero d l h = absurd (omega arith)
moved_up (x ∷ xs) (suc k) d l h = go (closed_up xs k d.1 (omega arith))
  where
    go : ClosedUp xs k (without (at xs k) xs) → MovedUp (x ∷ xs) (suc k) (at xs k ∷ without (at xs k) xs)
    go c = record { size = omega (arith, c.size); head = refl; before = earlier; after = later }
      where
        earlier : (i : ℕ) → 1 ≤ i → i < suc k → at (at xs k ∷ without (at xs k) xs) i ≡ at (x ∷ xs) i
        earlier zero a b = absurd (omega arith)
        earlier (suc i) a b = c.before i (omega arith)

        later : (i : ℕ) → suc k ≤ i → i + 1 < length (x ∷ xs) → at (at xs k ∷ without (at xs k) xs) i ≡ at (x ∷ xs) (i + 1)
        later zero a b = absurd (omega arith)
        later (suc i) a b = let e : suc i + 1 ≡ suc (suc i) = omega arith in rw e (c.after i (omega arith))
